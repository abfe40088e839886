use Rattle.std.proofs.Common.{◌∙◌, ap}
use Rattle.sf_geometry.specs.declared.geometry.Geometry.{Geometry}
use Rattle.sf_known.specs.Goals.{is_met}
use Rattle.sf_relate.specs.Matrices.{matrix_of}
use Rattle.sf_query.specs.Answers.{is_asked}
use Rattle.sf_query.proofs.given.Given.is_asked_beside.Goals as goal

pub returns-in-Some : goal.returns-in-Some
returns-in-Some c =
    let a = c.args.geometry.now in
    c.is_met.ensures ∙ ap (is_met c.goal.result) c.in-Some.ensures.holds ∙ c.goal.ensures (matrix_of a c.self.inside.valid.now) ∙ ap (λ (g : Geometry). is_asked c.args.ask.now a g) c.self.view_is
