-- The entries gathered from items are the greatest dimensions of the items with these places; so of items that represent the
-- cells of two valid geometries they are the entries of the matrix.
use Rattle.std.proofs.Common.{◌≡◌, ℕ, refl, ap, sym, ◌∙◌, subst, Bool, true, false, ◌&&◌, not, List, [], ◌∷◌, map, fold, slice_index}
use Rattle.std.specs.Prelude.{if◌then◌else◌, nat_lt}
use Rattle.std.specs.List.{AllByRecursion}
use Rattle.std.proofs.lemmas.List.Elements.{recursion_from_All}
use Rattle.sf_grid.specs.EvenOdd.{is_odd}
use Rattle.sf_grid.specs.Plane.{IsPoint, Point as PlanePoint}
use Rattle.sf_cells.specs.Cells.{cell_of}
use Rattle.sf_cells.specs.Groups.{Item, item_of}
use Rattle.sf_cells.specs.Samples.{Sample, samples}
use Rattle.sf_classes.specs.Classes.{AreOfOneClass, IsOfClasses, Represent, greatest_of_items}
use Rattle.sf_classes.proofs.ClassLaws.{odd-at, represent-answers}
use Rattle.sf_geometry.specs.declared.geometry.Geometry.{Geometry}
use Rattle.sf_geometry.specs.PointSets.{in_boundary, in_exterior, in_interior}
use Rattle.sf_slabs.proofs.CallerLemmas.{each-map}
use Rattle.sf_plane.proofs.SampleCellLaws.{every_sample}
use Rattle.sf_plane.specs.Cover.{IsInCell}
use Rattle.sf_plane.specs.declared.dim.Dim.{Dim}
use Rattle.sf_plane.specs.declared.dim.Dim.TheVariants.{Nothing, Zero, One, Two}
use Rattle.sf_plane.specs.Dimension.{PointSet}
use Rattle.sf_plane.specs.Unions.{dim_of, dimension_by_samples, greater_dim, greatest_dim}
use Rattle.sf_valid_rules.specs.Validity.{IsValid}
use Rattle.sf_pieces.specs.Marked.{Marked, groups_of, items_of, pieces_of}
use Rattle.sf_relate.specs.declared.place.Place.{Place}
use Rattle.sf_relate.specs.declared.place.Place.TheVariants.{Interior, Boundary, Exterior}
use Rattle.sf_relate.specs.declared.shape.Shape.{Shape}
use Rattle.sf_relate.specs.declared.shape.Shape.TheVariants.{Points, Lines, Areas}
use Rattle.sf_relate.specs.AllPieces.{all_grouped}
use Rattle.sf_relate.specs.Matrices.{both, matrix_of}
use Rattle.sf_known.specs.Known.{raised}
use Rattle.sf_relate.specs.Places.{IsPlaceOf, entry_place, first_place, is_areal, is_place, place_by, second_place, shape_of, with_item}
use Rattle.sf_known.proofs.OrderLaws.{greater-greater}
use Rattle.sf_relate.proofs.GroupLaws.{first-place, pieces-are, second-place}
use Rattle.sf_relate.proofs.PlaceLaws.{counts_tell_places}

-- ---- entries as a table over pairs of places
abbrev pub Table : Type 0
Table = Place → Place → Dim

abbrev pub listed : Table → List Dim
listed t =
    t Interior Interior ∷ t Interior Boundary ∷ t Interior Exterior
    ∷ t Boundary Interior ∷ t Boundary Boundary ∷ t Boundary Exterior
    ∷ t Exterior Interior ∷ t Exterior Boundary ∷ t Exterior Exterior ∷ []

-- the table with a dimension at one pair
abbrev pub with_dim : Table → Place → Place → Dim → Table
with_dim t p q d r s = if is_place r p && is_place s q then greater_dim (t r s) d else t r s

pub raised-listed : (t : Table) (p q : Place) (d : Dim) → raised (listed t) (entry_place p q) d ≡ listed (with_dim t p q d)
raised-listed t Interior Interior d = refl
raised-listed t Interior Boundary d = refl
raised-listed t Interior Exterior d = refl
raised-listed t Boundary Interior d = refl
raised-listed t Boundary Boundary d = refl
raised-listed t Boundary Exterior d = refl
raised-listed t Exterior Interior d = refl
raised-listed t Exterior Boundary d = refl
raised-listed t Exterior Exterior d = refl

pub cons : {A : Type 0} (x y : A) (xs ys : List A) → x ≡ y → xs ≡ ys → x ∷ xs ≡ y ∷ ys
cons x y xs ys e f = ap (λ v. v ∷ xs) e ∙ ap (λ vs. y ∷ vs) f

pub listed-same : (t u : Table) → ((p q : Place) → t p q ≡ u p q) → listed t ≡ listed u
listed-same t u h =
    cons _ _ _ _ (h Interior Interior) (cons _ _ _ _ (h Interior Boundary) (cons _ _ _ _ (h Interior Exterior)
    (cons _ _ _ _ (h Boundary Interior) (cons _ _ _ _ (h Boundary Boundary) (cons _ _ _ _ (h Boundary Exterior)
    (cons _ _ _ _ (h Exterior Interior) (cons _ _ _ _ (h Exterior Boundary) (cons _ _ _ _ (h Exterior Exterior) refl))))))))

-- ---- the greatest dimension of the items with these places
-- the item has these places
abbrev pub is_at : Shape → Shape → Place → Place → Item → Bool
is_at a b p q i = is_place p (first_place a i) && is_place q (second_place b i)

abbrev pub greatest_at : Shape → Shape → List Item → Table
greatest_at a b is p q = greatest_of_items (is_at a b p q) is

greater-nothing : (d : Dim) → greater_dim d Nothing ≡ d
greater-nothing Nothing = refl
greater-nothing Zero = refl
greater-nothing One = refl
greater-nothing Two = refl

pub fold-listed : (a b : Shape) (t : Table) (is : List Item) → fold (with_item a b) (listed t) is ≡ listed (λ p q. greater_dim (t p q) (greatest_at a b is p q))
fold-listed a b t [] = listed-same t (λ p q. greater_dim (t p q) Nothing) (λ p q. sym (greater-nothing (t p q)))
fold-listed a b t (i ∷ is) =
    ap (λ es. fold (with_item a b) es is) (raised-listed t (first_place a i) (second_place b i) (dim_of i.dim))
    ∙ fold-listed a b (with_dim t (first_place a i) (second_place b i) (dim_of i.dim)) is
    ∙ listed-same (λ p q. greater_dim (with_dim t (first_place a i) (second_place b i) (dim_of i.dim) p q) (greatest_at a b is p q))
    (λ p q. greater_dim (t p q) (greatest_at a b (i ∷ is) p q))
    (λ p q. by_test (is_place p (first_place a i) && is_place q (second_place b i)) (t p q) (dim_of i.dim) (greatest_at a b is p q))
  where
    by_test : (c : Bool) (x d y : Dim) → greater_dim (if c then greater_dim x d else x) y ≡ greater_dim x (if c then greater_dim d y else y)
    by_test true x d y = greater-greater x d y
    by_test false x d y = refl

-- ---- places that are what the tests of a geometry say
abbrev pub set_of : Geometry → Place → PointSet
set_of a Interior = in_interior a
set_of a Boundary = in_boundary a
set_of a Exterior = in_exterior a

pub of_place : (a : Geometry) (q : PlanePoint) (p place : Place) → IsPlaceOf a q place → set_of a p q ≡ is_place p place
of_place a q Interior place h = h.interior
of_place a q Boundary place h = h.boundary
of_place a q Exterior place h = ap (λ v. not v && not (in_boundary a q)) h.interior ∙ ap (λ v. not (is_place Interior place) && not v) h.boundary ∙ neither place
  where
    neither : (r : Place) → (not (is_place Interior r) && not (is_place Boundary r)) ≡ is_place Exterior r
    neither Interior = refl
    neither Boundary = refl
    neither Exterior = refl

-- ---- items of one class have the same places
same-place : (shape : Shape) (on ends m n : ℕ) → (is_areal shape ≡ true → is_odd m ≡ is_odd n) → place_by shape on ends m ≡ place_by shape on ends n
same-place Points on ends m n h = refl
same-place Lines on ends m n h = refl
same-place Areas on ends m n h = ap (λ b. if nat_lt 0 on then Boundary else (if b then Interior else Exterior)) (h refl)

abbrev pub areal_of : Shape → Shape → List Bool
areal_of a b = is_areal a ∷ is_areal b ∷ []

same-first : (a b : Shape) (i j : Item) → AreOfOneClass (areal_of a b) i j → first_place a i ≡ first_place a j
same-first a b i j h =
    ap (λ on. place_by a (slice_index on 0) (slice_index on 2) (slice_index i.above 0)) h.on
    ∙ same-place a (slice_index j.on 0) (slice_index j.on 2) (slice_index i.above 0) (slice_index j.above 0) (odd-at (areal_of a b) i.above j.above 0 h.odd)

same-second : (a b : Shape) (i j : Item) → AreOfOneClass (areal_of a b) i j → second_place b i ≡ second_place b j
same-second a b i j h =
    ap (λ on. place_by b (slice_index on 1) (slice_index on 3) (slice_index i.above 1)) h.on
    ∙ same-place b (slice_index j.on 1) (slice_index j.on 3) (slice_index i.above 1) (slice_index j.above 1) (odd-at (areal_of a b) i.above j.above 1 h.odd)

pub places-of-classes : (a b : Shape) (p q : Place) → IsOfClasses (areal_of a b) (is_at a b p q)
places-of-classes a b p q i j h =
    ap (λ r. is_place p r && is_place q (second_place b i)) (same-first a b i j h)
    ∙ ap (λ r. is_place p (first_place a j) && is_place q r) (same-second a b i j h)

-- ---- the item of a sample has the places of its point
record IsPlaced (a b : Geometry) (ms : List Marked) (s : Sample) : Type 0 where
  in_first : IsPlaceOf a s.point (first_place (shape_of a) (item_of (groups_of ms) (cell_of (pieces_of ms) s)))
  in_second : IsPlaceOf b s.point (second_place (shape_of b) (item_of (groups_of ms) (cell_of (pieces_of ms) s)))

greatest-samples : (a b : Geometry) (ms : List Marked) (ss : List Sample) (p q : Place) → AllByRecursion (IsPlaced a b ms) ss →
    greatest_at (shape_of a) (shape_of b) (map (item_of (groups_of ms)) (map (cell_of (pieces_of ms)) ss)) p q
    ≡ greatest_dim (λ (s : Sample). s.dim) (λ (s : Sample). both (set_of a p) (set_of b q) s.point) ss
greatest-samples a b ms [] p q h = refl
greatest-samples a b ms (s ∷ ss) p q h =
    let i = item_of (groups_of ms) (cell_of (pieces_of ms) s) in
    let rest = greatest_at (shape_of a) (shape_of b) (map (item_of (groups_of ms)) (map (cell_of (pieces_of ms)) ss)) p q in
    ap (λ v. if v && is_place q (second_place (shape_of b) i) then greater_dim (dim_of s.dim) rest else rest) (sym (of_place a s.point p (first_place (shape_of a) i) h.0.in_first))
    ∙ ap (λ v. if set_of a p s.point && v then greater_dim (dim_of s.dim) rest else rest) (sym (of_place b s.point q (second_place (shape_of b) i) h.0.in_second))
    ∙ ap (λ r. if set_of a p s.point && set_of b q s.point then greater_dim (dim_of s.dim) r else r) (greatest-samples a b ms ss p q h.1)

all-placed : (a b : Geometry) → IsValid a → IsValid b → AllByRecursion (IsPlaced a b (all_grouped a b)) (samples (pieces_of (all_grouped a b)))
all-placed a b v w =
    let ms = all_grouped a b in
    let P = λ (s : Sample). IsPoint s.point × IsInCell (pieces_of ms) s.point s in
    each-map P (IsPlaced a b ms) (samples (pieces_of ms))
    (λ s i. record {
      in_first = subst (IsPlaceOf a s.point) (sym (first-place a b s.point)) (counts_tell_places a s.point v i.0);
      in_second = subst (IsPlaceOf b s.point) (sym (second-place a b s.point)) (counts_tell_places b s.point w i.0);
    })
    (recursion_from_All P (samples (pieces_of ms)) (every_sample (pieces_of ms)))

-- ---- the matrix
-- what items that represent the cells of two valid geometries have found is their matrix
pub table-of-items : (a b : Geometry) (items : List Item) → IsValid a → IsValid b → Represent (areal_of (shape_of a) (shape_of b)) items (items_of (all_grouped a b)) →
    listed (greatest_at (shape_of a) (shape_of b) items) ≡ matrix_of a b
table-of-items a b items v w h =
    let f = shape_of a in
    let g = shape_of b in
    let ms = all_grouped a b in
    listed-same (λ p q. greatest_at f g items p q) (λ p q. dimension_by_samples (pieces_of ms) (both (set_of a p) (set_of b q)))
    (λ p q.
    (represent-answers (areal_of f g) items (items_of ms) h).greatest (is_at f g p q) (places-of-classes f g p q)
    ∙ greatest-samples a b ms (samples (pieces_of ms)) p q (all-placed a b v w))
    ∙ ap (λ ps. listed (λ p q. dimension_by_samples ps (both (set_of a p) (set_of b q)))) (pieces-are a b)
