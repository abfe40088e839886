-- What two edges share, as their meeting says it, and whether they have two points in common.
use Rattle.std.proofs.Common.{◌≡◌, ◌∙◌, subst, ℤ, pos, ◌*ℤ◌, lit<, arith, ◌⊎◌, inl, inr}
use Rattle.std.specs.Prelude.{IsFalse}
use Rattle.std.proofs.lemmas.Bool.{and_parts, both_ways, cases_Bool}
use Rattle.std.proofs.lemmas.Int.{ints}
use Rattle.std.specs.Ordering.{int_eq}
use Rattle.sf_grid.specs.Plane.{Coordinates, IsPoint, Point, grid_point, same_point}
use Rattle.sf_grid.specs.Edge.{Edge as Line}
use Rattle.sf_grid.specs.Sharing.{IsSharing}
use Rattle.sf_grid.specs.declared.meet.Meet.{Meet}
use Rattle.sf_grid.specs.declared.meet.Meet.TheVariants.{Along, Apart, At}
use Rattle.sf_grid.proofs.CallerLemmas.{differs_from_before, eq_from_test, on_edge-swap, same_coordinates, same_point_is_equivalence}
use Rattle.sf_plane.proofs.CombineLaws.{start_on_edge}
use Rattle.sf_plane.specs.Laws.{ShareTwoPoints}

is_grid : (v : Coordinates) → IsPoint (grid_point v)
is_grid v = record { positive = lit< tt }

none-apart : (e f : Line) → IsSharing e f Apart → ShareTwoPoints e f → ⊥
none-apart e f h k = h k.first k.is_first k.first_on_both

none-at : (e f : Line) (q : Point) → IsSharing e f (At q) → ShareTwoPoints e f → ⊥
none-at e f q h k =
    both_ways (same_point k.first k.second) k.differ
    (same_point_is_equivalence.transitive k.first q k.second h.0
    ((h.1 k.first k.is_first).0 k.first_on_both)
    (same_point_is_equivalence.symmetric k.second q ((h.1 k.second k.is_second).0 k.second_on_both)))

-- edges that share no more than a point
pub none-else : (e f : Line) (m : Meet) → (m ≡ Apart) ⊎ ((q : Point) × (m ≡ At q)) → IsSharing e f m → ShareTwoPoints e f → ⊥
none-else e f m (inl i) h k = none-apart e f (subst (IsSharing e f) i h) k
none-else e f m (inr i) h k = none-at e f i.0 (subst (IsSharing e f) i.1 h) k

-- different points of the grid are different points of the plane
grid-differ : (u v : Coordinates) → (u ≡ v → ⊥) → IsFalse (same_point (grid_point u) (grid_point v))
grid-differ u v n =
    elim (cases_Bool (same_point (grid_point u) (grid_point v))) [
      | inr no' ↦ no'
      | inl yes' ↦
          let parts = and_parts (int_eq (u.x *ℤ pos 1) (v.x *ℤ pos 1)) (int_eq (u.y *ℤ pos 1) (v.y *ℤ pos 1)) yes' in
          absurd (n (same_coordinates u v (once u.x v.x (eq_from_test (u.x *ℤ pos 1) (v.x *ℤ pos 1) parts.0)) (once u.y v.y (eq_from_test (u.y *ℤ pos 1) (v.y *ℤ pos 1) parts.1))))
    ]
  where
    once : (s t : ℤ) → s *ℤ pos 1 ≡ t *ℤ pos 1 → s ≡ t
    once s t l = omega (arith, ints)

pub two-along : (e f : Line) (low high : Coordinates) → IsSharing e f (Along low high) → ShareTwoPoints e f
two-along e f low high h = record {
  first = grid_point low;
  second = grid_point high;
  is_first = is_grid low;
  is_second = is_grid high;
  differ = grid-differ low high (differs_from_before low high h.0);
  first_on_both = (h.1 (grid_point low) (is_grid low)).1 (start_on_edge low high);
  second_on_both = (h.1 (grid_point high) (is_grid high)).1 (on_edge-swap low high (grid_point high) ∙ start_on_edge high low);
}
