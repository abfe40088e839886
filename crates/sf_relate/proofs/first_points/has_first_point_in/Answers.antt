use Rattle.std.proofs.Common.{◌∙◌, ap, sym}
use Rattle.sf_geometry.specs.Vertices.{vertex_of}
use Rattle.sf_relate.proofs.FirstLaws.{shared-first}
use Rattle.sf_relate.proofs.first_points.has_first_point_in.Goals as goal

pub returns-in-Some-clause-shared : goal.returns-in-Some-clause-shared
returns-in-Some-clause-shared c h =
    shared-first c.args.a.now c.args.b.now c.in-Some.point c.geometry.ensures.valid.valid
    (ap (λ g. vertex_of g 0 0 0) (sym c.geometry.ensures.same) ∙ sym c.in-Some.ensures) (sym c.is_in.ensures ∙ h)
