use Rattle.std.proofs.Common.{◌≡◌, refl, ap, rules, ◌∙◌, ◌<◌, Bool, true, false, length}
use Rattle.std.specs.Prelude.{slice_index_or, slice_set}
use Rattle.std.proofs.lemmas.List.{get_or_default}
use Rattle.sf_sweep.specs.Parities.{as_count}
use Rattle.sf_sweep.proofs.ParityLaws.{written-more}
use Rattle.sf_sweep.proofs.parities.put_counts.Goals as goal

pub loop-place-preserved : goal.loop-place-preserved
loop-place-preserved c =
    let b : Bool = slice_index_or c.args.odd.now c.loop-place.place false in
    let within : c.loop-place.place < length c.args.odd.now = search rules in
    ap (λ ns. slice_set ns c.loop-place.place c.from.result) c.loop-place.invariant
    ∙ written-more c.loop-place.place c.args.odd.now c.args.counts.now b c.from.result c.loop-place-test.true within
    (get_or_default c.args.odd.now c.loop-place.place false b within) (c.from.ensures ∙ by_bool b)
  where
    by_bool : (b : Bool) → mir.Val.bool_byte b ≡ as_count b
    by_bool true = refl
    by_bool false = refl
