use Rattle.std.proofs.Common.{ap, ◌∙◌, drop, take}
use Rattle.std.proofs.lemmas.List.{drop-drop}
use Rattle.sf_dates.specs.Texts.{date_spelled, second_spelled, millisecond_spelled, datetime_by}
use Rattle.sf_dates.proofs.reading.datetime_in.Goals as goal

pub returns : goal.returns
returns c =
    let time = c.split_at.ensures.back in
    let date = c.date_in.ensures ∙ ap date_spelled c.split_at.ensures.front in
    let second = c.second_in.ensures.value ∙ ap second_spelled (c.split_at-2.ensures.front ∙ ap (take 9) time) in
    let millisecond = c.millisecond_in.ensures.value ∙ ap millisecond_spelled (c.split_at-2.ensures.back ∙ ap (drop 9) time ∙ drop-drop 9 10 c.args.bytes.now) in
    c.datetime_by.ensures ∙ (λ i. datetime_by (date i) (second i) (millisecond i))
