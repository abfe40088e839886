use Rattle.std.proofs.Common.{◌∙◌, ap, not, sym}
use Rattle.sf_prepared.specs.Boxes.{is_box_met}
use Rattle.sf_prepared.proofs.EdgeLaws.{none-met, none-said}
use Rattle.sf_prepared.proofs.prepared.Prepared.has_no_box.Goals as goal

pub returns-clause-clear : goal.returns-clause-clear
returns-clause-clear c clear =
    none-met c.args.extent.now c.args.self.now
    (sym (c.has_near.ensures ∙ ap (is_box_met c.args.extent.now) c.self.view_is) ∙ none-said c.has_near.result clear)

pub returns-clause-boxes : goal.returns-clause-boxes
returns-clause-boxes c = ap not (c.has_near.ensures ∙ ap (is_box_met c.args.extent.now) c.self.view_is)
