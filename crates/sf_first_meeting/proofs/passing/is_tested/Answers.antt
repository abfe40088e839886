use Rattle.std.proofs.Common.{◌∙◌}
use Rattle.sf_first_meeting.specs.Sweeps.{ArePlain}
use Rattle.sf_first_meeting.proofs.PassingLaws.{along-moved}
use Rattle.sf_first_meeting.proofs.passing.is_tested.Goals as goal

pub returns : goal.returns
returns c =
    λ h.
    record {
      same = c.are_ending.ensures c.if-not-are_ending.false;
      under = c.is_last_under.ensures c.if-not-is_last_under.false;
      over = c.is_first_over.ensures c.if-not-is_first_over.false;
      plain =
          along-moved (ArePlain c.args.points.now) _ _ _ _ _ (c.copied.ensures ∙ c.last.ensures.value) (c.copied-2.ensures ∙ c.first.ensures.value) (c.are_plain_along.ensures h);
    }
