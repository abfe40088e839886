use Rattle.std.proofs.Common.{refl, sym, ap, ◌∙◌, arith, take, drop, length, List, ℕ}
use Rattle.sf_first_meeting.proofs.PairLaws.{read-is}
use Rattle.sf_first_meeting.proofs.PassingLaws.{tested-moved}
use Rattle.sf_first_meeting.proofs.passing.found_at.Goals as goal

pub returns : goal.returns
returns c =
    record {
      within = omega (arith, c.if-rest-ending_len.false, c.ending_len.ensures, c.split_at.ensures.back_len);
      is_spot = c.in-Some.ensures;
      tested =
          tested-moved c.args.points.now _ _ _ _ _ _ _ _ c.in-Some.spot
          (sym (read-is c.args.points.now c.args.vertex c.index-points-vertex-2.result c.requires.in_range c.index-points-vertex-2.is))
          c.split_at.ensures.front
          (c.split_at-2.ensures.front ∙ ap (λ n. take n c.split_at.result.1.now) c.ending_len-2.ensures ∙ ap (take _) c.split_at.ensures.back)
          (c.split_at-2.ensures.back ∙ ap (λ n. drop n c.split_at.result.1.now) c.ending_len-2.ensures ∙ ap (drop _) c.split_at.ensures.back)
          (c.if-not-is_tested.ensures refl);
    }
