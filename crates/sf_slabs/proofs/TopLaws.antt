-- The cells of a whole column: the gap above its highest place, and then height by height.
use Rattle.std.proofs.Common.{◌≡◌, refl, ap, ◌∙◌, ℕ, ℤ, pos, ◌+ℤ◌, ◌*ℤ◌, ◌≤ℤ◌, ◌<ℤ◌, ◌<◌, arith, Bool, true, false, ◌&&◌, List, [], ◌∷◌, map, inl, inr}
use Rattle.std.specs.Prelude.{if◌then◌else◌, int_le, int_lt}
use Rattle.std.specs.List.{AllByRecursion, flat_map}
use Rattle.std.proofs.lemmas.Bool.{and_parts, both_ways, cases_Bool, false≢true}
use Rattle.std.proofs.lemmas.Int.{ints}
use Rattle.sf_grid.specs.Fraction.{Fraction, IsFraction, fraction_lt, one_less, one_more, whole}
use Rattle.sf_grid.specs.Plane.{point_at}
use Rattle.sf_grid.specs.Edge.{Edge as Line, edge_between, height_at, is_vertical, left_end, reaches, right_end}
use Rattle.sf_grid.proofs.CallerLemmas.{height-IsFraction, le_from_test, lt_from_test, mul_lt, test_from_lt}
use Rattle.sf_strips.specs.declared.piece.Piece.{Piece}
use Rattle.sf_strips.specs.declared.piece.Piece.TheVariants.{Dot, Edge}
use Rattle.sf_cells.specs.Pieces.{heights_of, if_in_column, is_above, is_on}
use Rattle.sf_cells.specs.Samples.{Mark, dimension, marks_from, sample_at}
use Rattle.sf_cells.specs.Cells.{cell_of}
use Rattle.sf_slabs.proofs.AboveLaws.{goes_on-vertical, height_of, is_above-height, passes}
use Rattle.sf_slabs.proofs.CellLaws.{AgreeOn}
use Rattle.sf_slabs.proofs.ColumnLaws.{IsHeights, column_cells}
use Rattle.sf_slabs.proofs.LevelLaws.{Placed, cell-agree, cell_by, cells-levels, level_cells, levels_from, not_above, not_above_higher}
use Rattle.sf_slabs.proofs.NumberLaws.{Among, Numbers}
use Rattle.sf_slabs.proofs.SampleLaws.{FollowFrom}
use Rattle.sf_strips.proofs.CallerLemmas.{goes_on}
use Rattle.sf_slabs.proofs.SlabLaws.{reached_from}
use Rattle.sf_slabs.proofs.EachLaws.{each-parts}

-- ---- the height of a piece that goes on is listed
pub if_false : {A : Type 0} (P : A → Type 0) (b : Bool) (s t : A) → b ≡ false → P (if b then s else t) → P t
if_false P true s t e h = cc
if_false P false s t e h = h

pub if_true : {A : Type 0} (P : A → Type 0) (b : Bool) (s t : A) → b ≡ true → P (if b then s else t) → P s
if_true P true s t e h = h
if_true P false s t e h = cc

-- an edge that goes on isn't vertical, and reaches the column
pub goes_on-slants : (e : Line) (x : Fraction) → goes_on e x ≡ true → is_vertical e ≡ false
goes_on-slants e x h =
    elim (cases_Bool (is_vertical e)) [ inl v ↦ absurd (both_ways _ (goes_on-vertical e x v) h) | inr s ↦ s ]

pub goes_on-reaches : (e : Line) (x : Fraction) → goes_on e x ≡ true → reaches e x ≡ true
goes_on-reaches e x h =
    let parts = and_parts (int_le ((left_end e).x *ℤ pos x.den) x.num) (int_lt x.num ((right_end e).x *ℤ pos x.den)) h in
    reached_from e x (record { low = le_from_test _ _ parts.0; high = weaker x.num ((right_end e).x *ℤ pos x.den) (lt_from_test _ _ parts.1) })
  where
    weaker : (s t : ℤ) → s <ℤ t → s ≤ℤ t
    weaker s t l = omega (arith, ints)

pub passes-number : (x : Fraction) (p : Piece) → IsFraction x → passes x p ≡ true → IsFraction (height_of x p)
passes-number x (Edge a b) i h =
    let e = edge_between a b in
    height-IsFraction e x (record { slants = goes_on-slants e x h; reached = goes_on-reaches e x h }) i
passes-number x (Dot a) i h = absurd (false≢true h)

pub passes-listed : (P : Fraction → Type 0) (x : Fraction) (p : Piece) → passes x p ≡ true → AllByRecursion P (heights_of x p) → P (height_of x p)
passes-listed P x (Edge a b) h k =
    let e = edge_between a b in
    (if_true (AllByRecursion P) (reaches e x) (height_at e x ∷ []) [] (goes_on-reaches e x h)
    (if_false (AllByRecursion P) (is_vertical e) (if_in_column x a (whole a.y ∷ whole b.y ∷ [])) (if reaches e x then height_at e x ∷ [] else []) (goes_on-slants e x h) k)).0
passes-listed P x (Dot a) h k = absurd (false≢true h)

-- ---- the pieces of a list against a listing of the column's heights
placed_at : (x q : Fraction) (qs : List Fraction) (p : Piece) → IsFraction x → AllByRecursion (Among (q ∷ qs)) (heights_of x p) → Placed x q qs p
placed_at x q qs p i h t = (passes-number x p i t, inr (passes-listed (Among (q ∷ qs)) x p t h))

all_placed : (x q : Fraction) (qs : List Fraction) (ps : List Piece) → IsFraction x → AllByRecursion (Among (q ∷ qs)) (flat_map (heights_of x) ps) → AllByRecursion (Placed x q qs) ps
all_placed x q qs [] i h = tt
all_placed x q qs (p ∷ ps) i h =
    let k = each-parts (Among (q ∷ qs)) (heights_of x p) (flat_map (heights_of x) ps) h in
    (placed_at x q qs p i k.0, all_placed x q qs ps i k.1)

-- no edge is above the highest place, or above a place higher up
none_above : (x q m : Fraction) (qs : List Fraction) (ps : List Piece) → IsFraction x → IsFraction q → IsFraction m → Numbers qs →
    FollowFrom (λ a b. fraction_lt b a) q qs → ((h : Fraction) → IsFraction h → fraction_lt q h ≡ false → fraction_lt m h ≡ false) →
    AllByRecursion (Among (q ∷ qs)) (flat_map (heights_of x) ps) → AgreeOn (is_above (point_at x m)) (λ _. false) ps
none_above x q m qs [] i j k n f c h = tt
none_above x q m qs (p ∷ ps) i j k n f c h =
    let parts = each-parts (Among (q ∷ qs)) (heights_of x p) (flat_map (heights_of x) ps) h in (
      is_above-height x m p k ∙ never (passes x p) (fraction_lt m (height_of x p))
          (λ t. c (height_of x p) (passes-number x p i t) (not_above q (height_of x p) qs j (passes-number x p i t) n f (passes-listed (Among (q ∷ qs)) x p t parts.0))),
      none_above x q m qs ps i j k n f c parts.1,
    )
  where
    never : (t l : Bool) → (t ≡ true → l ≡ false) → (t && l) ≡ false
    never true l g = g refl
    never false l g = refl

pub one_more-above : (q : Fraction) → IsFraction q → fraction_lt q (one_more q) ≡ true
one_more-above q i = test_from_lt _ _ (mul_lt _ _ q.den i.positive (larger q.num q.den i.positive))
  where
    larger : (n : ℤ) (d : ℕ) → 0 < d → n <ℤ (n +ℤ pos d)
    larger n d h = omega (arith, ints)

-- ---- the cells of a column with heights
pub column-levels : (x : Mark) (q : Fraction) (qs : List Fraction) (pieces : List Piece) → IsFraction x.place → IsHeights pieces x.place (q ∷ qs) →
    column_cells pieces (q ∷ qs) x
    ≡ cell_by (dimension x.listed false) (is_on (point_at x.place (one_more q))) (λ _. false) pieces
    ∷ level_cells x.listed pieces (λ _. false) (levels_from x.place q qs)
column-levels x q qs pieces i l =
    ap (λ c. c ∷ map (λ y. cell_of pieces (sample_at x y)) (marks_from one_less q qs)) (cell-agree (dimension x.listed false) (is_on (point_at x.place (one_more q))) (is_above (point_at x.place (one_more q))) (λ _. false) pieces
    (none_above x.place q (one_more q) qs pieces i l.numbers.0 (record { positive = l.numbers.0.positive }) l.numbers.1 l.in_order
    (λ h k e. not_above_higher (one_more q) q h (record { positive = l.numbers.0.positive }) l.numbers.0 k (one_more-above q l.numbers.0) e) l.has_all))
    ∙ ap (λ cs. cell_by (dimension x.listed false) (is_on (point_at x.place (one_more q))) (λ _. false) pieces ∷ cs)
    (cells-levels x q qs (λ _. false) pieces l.numbers.0 l.numbers.1 l.in_order (all_placed x.place q qs pieces i l.has_all)
    (none_above x.place q q qs pieces i l.numbers.0 l.numbers.0 l.numbers.1 l.in_order (λ h k e. e) l.has_all))
