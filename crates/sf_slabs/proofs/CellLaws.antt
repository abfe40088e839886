-- A sample's cell depends on the sample's numbers, and not on how their fractions are written.
use Rattle.std.proofs.Common.{◌≡◌, refl, ap, ◌∙◌, ℕ, ◌+◌, pos, ◌*ℤ◌, Bool, true, false, List, [], ◌∷◌, map}
use Rattle.std.specs.Prelude.{if◌then◌else◌}
use Rattle.sf_grid.specs.Fraction.{Fraction, IsFraction}
use Rattle.sf_grid.specs.Plane.{IsPoint, IsSamePoint, Point, grid_point, point_at, same_point}
use Rattle.sf_grid.specs.Edge.{edge_between}
use Rattle.sf_grid.proofs.CallerLemmas.{Same, mul, ring, same_point_is_equivalence, same_points_are_alike, same_tests, test_from_eq, var}
use Rattle.std.proofs.lemmas.Bool.{and_from}
use Rattle.sf_strips.specs.declared.piece.Piece.{Piece}
use Rattle.sf_strips.specs.declared.piece.Piece.TheVariants.{Dot, Edge}
use Rattle.sf_cells.specs.declared.cell.Cell.{Cell}
use Rattle.sf_cells.specs.Pieces.{is_above, is_on}
use Rattle.sf_cells.specs.Samples.{Mark, sample_at}
use Rattle.sf_cells.specs.Cells.{cell_of, numbers_from}
use Rattle.sf_slabs.proofs.NumberLaws.{Pairs}
use Rattle.sf_slabs.proofs.OnLaws.{IsPoint-point_at}

-- ---- numbers of the members that pass a test
-- two tests have one answer for each member
abbrev pub AgreeOn : {A : Type 0} → (A → Bool) → (A → Bool) → List A → Type 0
AgreeOn s t [] = Unit {0}
AgreeOn s t (x ∷ xs) = (s x ≡ t x) × AgreeOn s t xs

pub AgreeOn-all : {A : Type 0} (s t : A → Bool) (xs : List A) → ((x : A) → s x ≡ t x) → AgreeOn s t xs
AgreeOn-all s t [] h = tt
AgreeOn-all s t (x ∷ xs) h = (h x, AgreeOn-all s t xs h)

chosen : {A : Type 0} (b c : Bool) (x x' y y' : A) → b ≡ c → x ≡ x' → y ≡ y' → (if b then x else y) ≡ (if c then x' else y')
chosen true true x x' y y' e f g = f
chosen false false x x' y y' e f g = g
chosen true false x x' y y' e f g = cc
chosen false true x x' y y' e f g = cc

-- tests that agree pass the same members
pub numbers_from-agree : {A : Type 0} (k : ℕ) (s t : A → Bool) (xs : List A) → AgreeOn s t xs → numbers_from k s xs ≡ numbers_from k t xs
numbers_from-agree k s t [] h = refl
numbers_from-agree k s t (x ∷ xs) h =
    let rest = numbers_from-agree (k + 1) s t xs h.1 in
    chosen (s x) (t x) _ _ _ _ h.0 (ap (λ ns. k ∷ ns) rest) rest

-- ---- the same point is on the same pieces and below the same edges
pub is_on-same : (p q : Point) → IsPoint p → IsPoint q → IsSamePoint p q → (x : Piece) → is_on p x ≡ is_on q x
is_on-same p q i j h (Edge a b) = (same_points_are_alike (edge_between a b) p q i j h).on
is_on-same p q i j h (Dot a) =
    same_tests (same_point (grid_point a) p) (same_point (grid_point a) q)
    (λ k. same_point_is_equivalence.transitive (grid_point a) p q i k h)
    (λ k. same_point_is_equivalence.transitive (grid_point a) q p j k (same_point_is_equivalence.symmetric p q h))

pub is_above-same : (p q : Point) → IsPoint p → IsPoint q → IsSamePoint p q → (x : Piece) → is_above p x ≡ is_above q x
is_above-same p q i j h (Edge a b) = (same_points_are_alike (edge_between a b) p q i j h).above
is_above-same p q i j h (Dot a) = refl

pub cell_of-same : (pieces : List Piece) (dim : ℕ) (p q : Point) → IsPoint p → IsPoint q → IsSamePoint p q →
    cell_of pieces (record { point = p; dim = dim }) ≡ cell_of pieces (record { point = q; dim = dim })
cell_of-same pieces dim p q i j h =
    let on = numbers_from-agree 0 (is_on p) (is_on q) pieces (AgreeOn-all _ _ pieces (is_on-same p q i j h)) in
    let above = numbers_from-agree 0 (is_above p) (is_above q) pieces (AgreeOn-all _ _ pieces (is_above-same p q i j h)) in
    let with_on : List ℕ → Cell = λ ns. record { dim = dim; on = ns; above = numbers_from 0 (is_above p) pieces } in
    let with_above : List ℕ → Cell = λ ns. record { dim = dim; on = numbers_from 0 (is_on q) pieces; above = ns } in
    ap with_on on ∙ ap with_above above

-- ---- points with the same coordinates
pub point_at-same : (x x' y y' : Fraction) → Same x x' → Same y y' → IsSamePoint (point_at x y) (point_at x' y')
point_at-same x x' y y' e f =
    and_from _ _
    (test_from_eq _ _
    (ring (x.num ∷ pos y.den ∷ pos x'.den ∷ pos y'.den ∷ []) (mul (mul (var 0) (var 1)) (mul (var 2) (var 3))) (mul (mul (mul (var 0) (var 2)) (var 1)) (var 3)) refl
    ∙ ap (λ z. z *ℤ pos y.den *ℤ pos y'.den) e
    ∙ ring (x'.num ∷ pos x.den ∷ pos y.den ∷ pos y'.den ∷ []) (mul (mul (mul (var 0) (var 1)) (var 2)) (var 3)) (mul (mul (var 0) (var 3)) (mul (var 1) (var 2))) refl))
    (test_from_eq _ _
    (ring (y.num ∷ pos x.den ∷ pos x'.den ∷ pos y'.den ∷ []) (mul (mul (var 0) (var 1)) (mul (var 2) (var 3))) (mul (mul (mul (var 0) (var 3)) (var 1)) (var 2)) refl
    ∙ ap (λ z. z *ℤ pos x.den *ℤ pos x'.den) f
    ∙ ring (y'.num ∷ pos y.den ∷ pos x.den ∷ pos x'.den ∷ []) (mul (mul (mul (var 0) (var 1)) (var 2)) (var 3)) (mul (mul (var 0) (var 3)) (mul (var 2) (var 1))) refl))

-- ---- marks at the same numbers
pub record SameMark (m n : Mark) : Type 0 where
  pub place : Same m.place n.place
  pub listed : m.listed ≡ n.listed
  pub first : IsFraction m.place
  pub second : IsFraction n.place

pub sample_at-same : (pieces : List Piece) (m n k l : Mark) → SameMark m n → SameMark k l →
    cell_of pieces (sample_at m k) ≡ cell_of pieces (sample_at n l)
sample_at-same pieces m n k l g h =
    ap (λ b. cell_of pieces (record { point = point_at m.place k.place; dim = (sample_at (record { place = m.place; listed = b }) k).dim })) g.listed
    ∙ ap (λ b. cell_of pieces (record { point = point_at m.place k.place; dim = (sample_at n (record { place = k.place; listed = b })).dim })) h.listed
    ∙ cell_of-same pieces (sample_at n l).dim (point_at m.place k.place) (point_at n.place l.place)
    (IsPoint-point_at m.place k.place g.first h.first) (IsPoint-point_at n.place l.place g.second h.second)
    (point_at-same m.place n.place k.place l.place g.place h.place)

-- ---- maps of lists that are related place by place
pub map-Pairs : {A B : Type 0} (R : A → A → Type 0) (f g : A → B) (xs ys : List A) → ((x y : A) → R x y → f x ≡ g y) → Pairs R xs ys → map f xs ≡ map g ys
map-Pairs R f g [] [] h k = refl
map-Pairs R f g [] (y ∷ ys) h k = absurd k
map-Pairs R f g (x ∷ xs) [] h k = absurd k
map-Pairs R f g (x ∷ xs) (y ∷ ys) h k = ap (λ z. z ∷ map f xs) (h x y k.0) ∙ ap (λ zs. g y ∷ zs) (map-Pairs R f g xs ys h k.1)
