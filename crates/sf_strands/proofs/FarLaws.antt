-- Edges that are apart don't meet.
use Rattle.std.proofs.Common.{◌≡◌, ℕ, zero, suc, ◌+◌, ◌<◌, ◌≤◌, ◌↔◌, ◌-◌, refl, ap, sym, ◌∙◌, arith, subst, Bool, true, false, ◌&&◌, ◌||◌, not, List, length, nat_eq, IsTrue}
use Rattle.std.proofs.Common.{◌⊎◌, inl, inr}
use Rattle.std.proofs.lemmas.Bool.{and_from, and_parts, false≢true, or_left, or_right}
use Rattle.sf_grid.specs.Plane.{Coordinates, IsPoint, IsSamePoint, Point, grid_point, same_point}
use Rattle.sf_first_meeting.specs.Numbered.{AllAreApart, HasLengths, IsClosedBy, IsJoint}
use Rattle.sf_geometry.specs.Lists.{edges_of, is_closed, is_same}
use Rattle.sf_valid_rules.specs.Conditions.{Applies, AtPoint}
use Rattle.sf_valid_rules.specs.Shapes.{is_joint, meets_itself}
use Rattle.sf_strands.specs.Pairs.{edge_at, pair_meets, point_of}
use Rattle.sf_strands.specs.Tight.{IsTight}
use Rattle.sf_strands.proofs.EndLaws.{same-self}
use Rattle.sf_strands.proofs.PairLaws.{NoneMeets, none-found, pair-found}
use Rattle.sf_strands.proofs.PlaceLaws.{closed-at, differ, edges-counted, others}

pub lengths-from_tight : (ps : List Coordinates) → IsTight ps → HasLengths ps
lengths-from_tight ps t i h = differ (point_of ps i) (point_of ps (i + 1)) (others ps i t h)

eq-test : (m n : ℕ) → m ≡ n → nat_eq m n ≡ true
eq-test m n e = grind (arith, e)

joint-test : (ps : List Coordinates) (i j : ℕ) (p : Point) → IsTight ps → j + 1 < length ps → IsJoint ps i j p → is_joint (is_closed ps) (length (edges_of ps)) (i, edge_at ps i) (j, edge_at ps j) p ≡ true
joint-test ps i j p t r (inl (e, s)) =
    or_left _ _ (and_from _ _ (eq-test j (i + 1) e) (let P : ℕ → Type 0 = λ k. same_point (grid_point (point_of ps k)) p ≡ true in subst P e s))
joint-test ps i j p t r (inr (e, closed, s)) =
    or_right (nat_eq j (i + 1) && same_point (grid_point (point_of ps (i + 1))) p) _
    (and_from _ _
    (and_from _ _
    (and_from _ _
    (closed-at ps j closed.0 ∙ ap (is_same (point_of ps 0)) (sym closed.1) ∙ same-self (point_of ps 0))
    (eq-test i 0 e))
    (eq-test (j + 1) (length (edges_of ps)) (omega (arith, closed.0, edges-counted ps j t r))))
    (let P : ℕ → Type 0 = λ k. same_point (grid_point (point_of ps k)) p ≡ true in subst P (sym e) s))

not_true : (b : Bool) → b ≡ true → not b ≡ true → ⊥
not_true b e h = false≢true (ap not (sym e) ∙ h)

none-meets : (ps : List Coordinates) (n : ℕ) → IsTight ps → n + 1 ≤ length ps → AllAreApart ps → NoneMeets ps n
none-meets ps n t l apart j h i o (p, is, m) =
    let parts = and_parts _ _ m in
    let on = and_parts _ _ parts.0 in
    let r : j + 1 < length ps = omega (arith, h, l) in
    not_true _ (joint-test ps i j p t r (apart i j o r p is (on.0, on.1))) parts.1

one-less : (n : ℕ) → (n ≡ 0) ⊎ (n - 1 + 1 ≡ n)
one-less zero = inl refl
one-less (suc n) = inr (omega arith)

pub apart-none : (ps : List Coordinates) → IsTight ps → AllAreApart ps → IsTrue false ↔ Applies (AtPoint (meets_itself ps))
apart-none ps t apart = by (one-less (length ps))
  where
    by : (length ps ≡ 0) ⊎ (length ps - 1 + 1 ≡ length ps) → IsTrue false ↔ Applies (AtPoint (meets_itself ps))
    by (inl e) = none-found ps 0 t (omega (arith, e)) (λ j h i o a. omega (arith, h))
    by (inr e) = none-found ps (length ps - 1) t (omega (arith, e)) (none-meets ps (length ps - 1) t (omega (arith, e)) apart)

pub pair-applies : (ps : List Coordinates) (i j : ℕ) → IsTight ps → i < j → j + 1 < length ps → Applies (AtPoint (pair_meets ps i j)) → Applies (AtPoint (meets_itself ps))
pair-applies ps i j t o r a = (pair-found ps i j t o r a).0 refl

pub holds-found : (ps : List Coordinates) → Applies (AtPoint (meets_itself ps)) → IsTrue true ↔ Applies (AtPoint (meets_itself ps))
holds-found ps a = (λ h. a, λ b. refl)
