use Rattle.std.proofs.Common.{◌∙◌, ap}
use Rattle.std.proofs.lemmas.Bool.{both_ways}
use Rattle.sf_geometry.specs.Envelope.{envelope_of}
use Rattle.sf_prepared.specs.Boxes.{is_box_met}
use Rattle.sf_prepared.proofs.prepared.Prepared.matrix_clear.Goals as goal

pub returns-then-not-is_clear-clause-answers : goal.returns-then-not-is_clear-clause-answers
returns-then-not-is_clear-clause-answers c off some =
    absurd (both_ways c.is_clear.result c.if-not-is_clear.true
    (c.is_clear.ensures.boxes (ap (λ e. is_box_met e c.args.self.now) (c.envelope-extent.ensures ∙ ap envelope_of c.geometry.ensures.same) ∙ off)))
