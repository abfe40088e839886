use Rattle.std.proofs.Common.{◌≡◌, ap, ap₂, int_eq, ◌&&◌, true}
use Rattle.std.proofs.lemmas.Bool.{and_from, and_parts}
use Rattle.std.proofs.lemmas.Bool.Decides.{Decides-int_eq}
use Rattle.std.proofs.lemmas.Slice.Eq.{slice_eq-Decides}
use Rattle.sf_grid.specs.Plane.{Coordinates}
use Rattle.sf_relate.proofs.alike.are_same_points.Goals as goal

same : (p q : Coordinates) → ((int_eq p.x q.x && int_eq p.y q.y) ≡ true → p ≡ q) × (p ≡ q → (int_eq p.x q.x && int_eq p.y q.y) ≡ true)
same p q = (
  λ h. let parts = and_parts (int_eq p.x q.x) (int_eq p.y q.y) h in ap₂ (λ x y. record { x = x; y = y }) ((Decides-int_eq p.x q.x).0 parts.0) ((Decides-int_eq p.y q.y).0 parts.1),
  λ e. and_from (int_eq p.x q.x) (int_eq p.y q.y) ((Decides-int_eq p.x q.x).1 (ap (λ (c : Coordinates). c.x) e)) ((Decides-int_eq p.y q.y).1 (ap (λ (c : Coordinates). c.y) e)),
)

pub returns : goal.returns
returns c = slice_eq-Decides same c.args.a.now c.args.b.now c.eq.result c.eq.ensures
