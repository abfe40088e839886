use Rattle.std.proofs.Common.{◌≡◌, ◌∙◌}
use Rattle.std.proofs.lemmas.Result.{IfOk-weaker}
use Rattle.sf_known.specs.Goals.{is_met}
use Rattle.sf_known.specs.Patterns.{has_contact}
use Rattle.sf_plane.specs.declared.dim.Dim.TheVariants.{Two}
use Rattle.sf_relate.specs.Matrices.{matrix_of}
use Rattle.sf_relate.proofs.SharedLaws.{contact_is_shared}
use Rattle.sf_nearness.proofs.contact.contact_by_walk.Goals as goal

pub returns : goal.returns
returns c =
    let m = matrix_of c.args.a.now c.args.b.now in
    IfOk-weaker c.meets.result (λ answer. answer ≡ is_met c.goal-goal.result m) (λ answer. answer ≡ has_contact m)
    (λ answer is. is ∙ c.goal-goal.ensures m ∙ (contact_is_shared c.args.a.now c.args.b.now).intersects Two Two) c.meets.ensures
