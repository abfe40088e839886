use Rattle.std.proofs.Common.{◌≡◌, ap, ◌∙◌, rules}
use Rattle.sf_grid.specs.Plane.{Coordinates}
use Rattle.sf_strips.specs.declared.vertex.Role.TheVariants.{Begin, End}
use Rattle.sf_strips.specs.Vertices.{vertex}
use Rattle.sf_strips.proofs.VertexLaws.{slanted-ends}
use Rattle.sf_strips.proofs.vertex.ends.Goals as goal

pub returns-in-Some : goal.returns-in-Some
returns-in-Some c =
    let i = c.args.piece in
    let edge = c.in-Some.edge in
    let first : c.vertex.result ≡ vertex c.left.result (Begin edge) i = search rules in
    let second : c.vertex-in-Some.result ≡ vertex c.right.result End i = search rules in
    slanted-ends i c.args.a c.args.b edge c.vertex.result c.vertex-in-Some.result c.in-Some.ensures.some.0 c.in-Some.ensures.some.1
    (first ∙ ap (λ (p : Coordinates). vertex p (Begin edge) i) c.left.ensures)
    (second ∙ ap (λ (p : Coordinates). vertex p End i) c.right.ensures)
