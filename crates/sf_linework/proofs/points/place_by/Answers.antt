use Rattle.std.proofs.Common.{◌∙◌, sym}
use Rattle.sf_linework.proofs.PointsLaws.{off-near, on-near}
use Rattle.sf_linework.proofs.points.place_by.Goals as goal

pub returns-then-not-is_on_one : goal.returns-then-not-is_on_one
returns-then-not-is_on_one c =
    off-near c.args.lines.now c.args.tree.now c.as_slice.result.now c.args.point c.at.result c.requires.lines c.requires.tree c.at.ensures
    (c.as_slice.ensures.value ∙ c.in_ok-near.ensures) (sym c.is_on_one.ensures ∙ c.if-not-is_on_one.true)

pub returns : goal.returns
returns c =
    on-near c.args.lines.now c.args.tree.now c.as_slice.result.now c.args.point c.at.result c.requires.lines c.requires.tree c.at.ensures
    (c.as_slice.ensures.value ∙ c.in_ok-near.ensures) (sym c.is_on_one.ensures ∙ c.if-not-is_on_one.false) (sym c.is_end_of.ensures ∙ c.if-is_end_of.false)
