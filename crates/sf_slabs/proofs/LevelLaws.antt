-- The cells of a column, from the top: at each height the point and the gap below it, where what is above grows by what goes on.
use Rattle.std.proofs.Common.{◌≡◌, refl, ap, sym, ◌∙◌, ℕ, ℤ, pos, ◌+ℤ◌, ◌-ℤ◌, ◌*ℤ◌, ◌<ℤ◌, ◌<◌, arith, Bool, true, false, ◌||◌, List, [], ◌∷◌, map, ◌⊎◌, inl, inr}
use Rattle.std.specs.List.{AllByRecursion}
use Rattle.std.proofs.lemmas.Bool.{both_ways, cases_Bool}
use Rattle.std.proofs.lemmas.Int.{ints}
use Rattle.sf_grid.specs.Fraction.{Fraction, IsFraction, fraction_lt, middle, one_less}
use Rattle.sf_grid.specs.Plane.{point_at}
use Rattle.sf_grid.proofs.CallerLemmas.{Same, lt_from_test, mul, mul_lt, num, ring, sum, test_from_lt, var}
use Rattle.sf_strips.specs.declared.piece.Piece.{Piece}
use Rattle.sf_cells.specs.declared.cell.Cell.{Cell}
use Rattle.sf_cells.specs.Pieces.{is_above, is_on}
use Rattle.sf_cells.specs.Samples.{Mark, dimension, marks_from, sample_at}
use Rattle.sf_cells.specs.Cells.{cell_of, numbers_from}
use Rattle.sf_slabs.proofs.AboveLaws.{Stands, goes_on_from, height_of, is_above-lower, passes}
use Rattle.sf_slabs.proofs.CellLaws.{AgreeOn, numbers_from-agree}
use Rattle.sf_slabs.proofs.MarkLaws.{middle-number}
use Rattle.sf_slabs.proofs.NumberLaws.{Among, Each-before, Numbers, before_among, falling_order, rising_order}
use Rattle.sf_slabs.proofs.SampleLaws.{FollowFrom}
use Rattle.sf_slabs.proofs.EachLaws.{each-map}

-- ---- a height in a column: what is on it, what goes on from it, and what is on the gap below it
pub record Level : Type 0 where
  pub on : Piece → Bool
  pub from : Piece → Bool
  pub gap : Piece → Bool

-- a cell by the tests of its pieces
abbrev pub cell_by : ℕ → (Piece → Bool) → (Piece → Bool) → List Piece → Cell
cell_by dim on above pieces = record { dim = dim; on = numbers_from 0 on pieces; above = numbers_from 0 above pieces }

-- the cells from a height down, where the edges above it are given
abbrev pub level_cells : Bool → List Piece → (Piece → Bool) → List Level → List Cell
level_cells event pieces above [] = []
level_cells event pieces above (l ∷ ls) =
    cell_by (dimension event true) l.on above pieces
    ∷ cell_by (dimension event false) l.gap (λ p. above p || l.from p) pieces
    ∷ level_cells event pieces (λ p. above p || l.from p) ls

-- the levels of a column
abbrev pub levels_from : Fraction → Fraction → List Fraction → List Level
levels_from x q [] = (record { on = is_on (point_at x q); from = goes_on_from x q; gap = is_on (point_at x (one_less q)) }) ∷ []
levels_from x q (r ∷ rs) =
    (record { on = is_on (point_at x q); from = goes_on_from x q; gap = is_on (point_at x (middle q r)) }) ∷ levels_from x r rs

-- ---- the places between two heights
product_positive : (q : Fraction) → IsFraction q → pos 0 <ℤ (pos q.den)
product_positive q i = size_of q.den i.positive
  where
    size_of : (d : ℕ) → 0 < d → pos 0 <ℤ (pos d)
    size_of d h = omega (arith, ints)

halfway_above : (a b : ℤ) → a <ℤ b → (a +ℤ a) <ℤ (b +ℤ a)
halfway_above a b h = omega (arith, ints)

halfway_below : (a b : ℤ) → a <ℤ b → (b +ℤ a) <ℤ (b +ℤ b)
halfway_below a b h = omega (arith, ints)

lt_same : (a b c d : ℤ) → a ≡ c → b ≡ d → c <ℤ d → a <ℤ b
lt_same a b c d e f h = omega (arith, ints)

pub middle-above : (q r : Fraction) → IsFraction q → IsFraction r → fraction_lt r q ≡ true → fraction_lt r (middle q r) ≡ true
middle-above q r i j h =
    test_from_lt _ _
    (lt_same _ _ _ _
    (ring (r.num ∷ pos q.den ∷ pos r.den ∷ []) (mul (var 0) (mul (num (pos 2)) (mul (var 1) (var 2)))) (mul (sum (mul (var 0) (var 1)) (mul (var 0) (var 1))) (var 2)) refl)
    refl
    (mul_lt _ _ r.den j.positive (halfway_above (r.num *ℤ pos q.den) (q.num *ℤ pos r.den) (lt_from_test _ _ h))))

pub middle-below : (q r : Fraction) → IsFraction q → IsFraction r → fraction_lt r q ≡ true → fraction_lt (middle q r) q ≡ true
middle-below q r i j h =
    test_from_lt _ _
    (lt_same _ _ _ _
    refl
    (ring (q.num ∷ pos q.den ∷ pos r.den ∷ []) (mul (var 0) (mul (num (pos 2)) (mul (var 1) (var 2)))) (mul (sum (mul (var 0) (var 2)) (mul (var 0) (var 2))) (var 1)) refl)
    (mul_lt _ _ q.den i.positive (halfway_below (r.num *ℤ pos q.den) (q.num *ℤ pos r.den) (lt_from_test _ _ h))))

pub one_less-below : (q : Fraction) → IsFraction q → fraction_lt (one_less q) q ≡ true
one_less-below q i = test_from_lt _ _ (mul_lt _ _ q.den i.positive (smaller q.num (pos q.den) (product_positive q i)))
  where
    smaller : (n d : ℤ) → pos 0 <ℤ d → (n -ℤ d) <ℤ n
    smaller n d h = omega (arith, ints)

-- ---- where pieces stand against the heights from q on
-- a piece that goes on does so above q, or at q or a later height
abbrev pub Placed : Fraction → Fraction → List Fraction → Piece → Type 0
Placed x q qs p = passes x p ≡ true → IsFraction (height_of x p) × ((fraction_lt q (height_of x p) ≡ true) ⊎ Among (q ∷ qs) (height_of x p))

-- a number at r or later isn't above r
pub not_above : (r h : Fraction) (rs : List Fraction) → IsFraction r → IsFraction h → Numbers rs → FollowFrom (λ a b. fraction_lt b a) r rs →
    Among (r ∷ rs) h → fraction_lt r h ≡ false
not_above r h rs i j n f a =
    elim (cases_Bool (fraction_lt r h)) [
      | inr no' ↦ no'
      | inl yes' ↦ elim a [
        | inl here ↦ absurd (rising_order.apart r h (sym here) yes')
        | inr later ↦
            absurd (rising_order.apart r r refl
            (rising_order.trans r h r i j i yes'
            (before_among (λ a b. fraction_lt b a) falling_order r h rs i j n (Each-before (λ a b. fraction_lt b a) falling_order r rs i n f) later)))
      ]
    ]

-- what isn't above a place isn't above a higher one
pub not_above_higher : (m r h : Fraction) → IsFraction m → IsFraction r → IsFraction h → fraction_lt r m ≡ true → fraction_lt r h ≡ false → fraction_lt m h ≡ false
not_above_higher m r h i j k l e =
    elim (cases_Bool (fraction_lt m h)) [ inl t ↦ absurd (both_ways _ e (rising_order.trans r m h j i k l t)) | inr f ↦ f ]

stands_from : (x q r m : Fraction) (rs : List Fraction) (p : Piece) → IsFraction q → IsFraction r → IsFraction m → Numbers rs →
    FollowFrom (λ a b. fraction_lt b a) r rs → (Same m r) ⊎ (fraction_lt r m ≡ true) → Placed x q (r ∷ rs) p → Stands x q m p
stands_from x q r m rs p i j k n f c h t =
    let g = h t in (
      g.0,
      elim g.1 [
        | inl above ↦ inl above
        | inr among ↦ elim among [
          | inl here ↦ inr (inl here)
          | inr later ↦
              let low = not_above r (height_of x p) rs j g.0 n f later in
              inr (inr (elim c [
                | inl same ↦ elim (cases_Bool (fraction_lt m (height_of x p))) [
                  | inl up ↦ absurd (both_ways _ low (rising_order.same_first r m (height_of x p) j k g.0 (sym same) up))
                  | inr no' ↦ no'
                ]
                | inr less ↦ not_above_higher m r (height_of x p) k j g.0 less low
              ]))
        ]
      ],
    )

placed_next : (x q r : Fraction) (rs : List Fraction) (p : Piece) → IsFraction q → IsFraction r → fraction_lt r q ≡ true →
    Placed x q (r ∷ rs) p → Placed x r rs p
placed_next x q r rs p i j l h t =
    let g = h t in (
      g.0,
      elim g.1 [
        | inl above ↦ inl (rising_order.trans r q (height_of x p) j i g.0 l above)
        | inr among ↦ elim among [
          | inl here ↦ inl (rising_order.same_second r q (height_of x p) j i g.0 l (sym here))
          | inr later ↦ inr later
        ]
      ],
    )

stands_last : (x q m : Fraction) (p : Piece) → Placed x q [] p → Stands x q m p
stands_last x q m p h t =
    let g = h t in
    (g.0, elim g.1 [ inl above ↦ inl above | inr among ↦ elim among [ inl here ↦ inr (inl here) | inr later ↦ absurd later ] ])

-- ---- tests that agree on a list of pieces, step by step
grown : (x q m : Fraction) (above : Piece → Bool) (ps : List Piece) → IsFraction q → IsFraction m → fraction_lt m q ≡ true →
    AllByRecursion (Stands x q m) ps → AgreeOn (is_above (point_at x q)) above ps →
    AgreeOn (is_above (point_at x m)) (λ p. above p || goes_on_from x q p) ps
grown x q m above [] i j l h a = tt
grown x q m above (p ∷ ps) i j l h a =
    (is_above-lower x q m p i j l h.0 ∙ ap (λ b. b || goes_on_from x q p) a.0, grown x q m above ps i j l h.1 a.1)

pub cell-agree : (dim : ℕ) (on above above' : Piece → Bool) (ps : List Piece) → AgreeOn above above' ps → cell_by dim on above ps ≡ cell_by dim on above' ps
cell-agree dim on above above' ps a =
    let with_above : List ℕ → Cell = λ ns. record { dim = dim; on = numbers_from 0 on ps; above = ns } in
    ap with_above (numbers_from-agree 0 above above' ps a)

two_cells : (c c' d d' : Cell) (cs cs' : List Cell) → c ≡ c' → d ≡ d' → cs ≡ cs' → (c ∷ d ∷ cs) ≡ (c' ∷ d' ∷ cs')
two_cells c c' d d' cs cs' e f g = ap (λ z. z ∷ d ∷ cs) e ∙ ap (λ z. c' ∷ z ∷ cs) f ∙ ap (λ zs. c' ∷ d' ∷ zs) g

-- the cells of a column from the height q down
pub cells-levels : (x : Mark) (q : Fraction) (qs : List Fraction) (above : Piece → Bool) (pieces : List Piece) → IsFraction q → Numbers qs →
    FollowFrom (λ a b. fraction_lt b a) q qs → AllByRecursion (Placed x.place q qs) pieces → AgreeOn (is_above (point_at x.place q)) above pieces →
    map (λ y. cell_of pieces (sample_at x y)) (marks_from one_less q qs) ≡ level_cells x.listed pieces above (levels_from x.place q qs)
cells-levels x q [] above pieces i n f h a =
    two_cells _ _ _ _ _ _
    (cell-agree (dimension x.listed true) (is_on (point_at x.place q)) (is_above (point_at x.place q)) above pieces a)
    (cell-agree (dimension x.listed false) (is_on (point_at x.place (one_less q))) (is_above (point_at x.place (one_less q))) (λ p. above p || goes_on_from x.place q p) pieces
    (grown x.place q (one_less q) above pieces i (record { positive = i.positive }) (one_less-below q i)
    (each-map (Placed x.place q []) (Stands x.place q (one_less q)) pieces (λ p k. stands_last x.place q (one_less q) p k) h) a))
    refl
cells-levels x q (r ∷ rs) above pieces i n f h a =
    let m = middle q r in
    let im = middle-number q r i n.0 in
    two_cells _ _ _ _ _ _
    (cell-agree (dimension x.listed true) (is_on (point_at x.place q)) (is_above (point_at x.place q)) above pieces a)
    (cell-agree (dimension x.listed false) (is_on (point_at x.place m)) (is_above (point_at x.place m)) (λ p. above p || goes_on_from x.place q p) pieces
    (grown x.place q m above pieces i im (middle-below q r i n.0 f.0)
    (each-map (Placed x.place q (r ∷ rs)) (Stands x.place q m) pieces
    (λ p k. stands_from x.place q r m rs p i n.0 im n.1 f.1 (inr (middle-above q r i n.0 f.0)) k) h) a))
    (cells-levels x r rs (λ p. above p || goes_on_from x.place q p) pieces n.0 n.1 f.1
    (each-map (Placed x.place q (r ∷ rs)) (Placed x.place r rs) pieces (λ p k. placed_next x.place q r rs p i n.0 f.0 k) h)
    (grown x.place q r above pieces i n.0 f.0
    (each-map (Placed x.place q (r ∷ rs)) (Stands x.place q r) pieces
    (λ p k. stands_from x.place q r r rs p i n.0 n.0 n.1 f.1 (inl refl) k) h) a))
