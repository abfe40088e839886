-- The cells column by column, from any lists of the events and of each column's heights.
use Rattle.std.proofs.Common.{◌≡◌, refl, ap, sym, ◌∙◌, Bool, List, [], ◌∷◌, ◌++◌, map, inl, inr}
use Rattle.std.specs.List.{AllByRecursion, flat_map}
use Rattle.std.proofs.lemmas.List.{map-append}
use Rattle.sf_grid.specs.Fraction.{Fraction, IsFraction, fraction_lt, one_less, one_more}
use Rattle.sf_grid.proofs.CallerLemmas.{Same}
use Rattle.sf_strips.specs.declared.piece.Piece.{Piece}
use Rattle.sf_cells.specs.declared.cell.Cell.{Cell}
use Rattle.sf_cells.specs.Samples.{Mark, columns, crossings_of, levels, marks, sample_at, sorted_by}
use Rattle.sf_cells.specs.Pieces.{ends_of}
use Rattle.sf_cells.specs.Cells.{cell_of, cells}
use Rattle.sf_slabs.proofs.CellLaws.{SameMark, map-Pairs, sample_at-same}
use Rattle.sf_slabs.proofs.HeightsLaws.{heights_in, heights_in-numbers, heights_in-same}
use Rattle.sf_slabs.proofs.MarkLaws.{marks-same, one_less-step, one_more-step}
use Rattle.sf_slabs.proofs.NumberLaws.{Among, IsListing, Numbers, Pairs, Same-trans, falling_order, sorted_by-listing}
use Rattle.sf_slabs.proofs.SampleLaws.{Each-sorted_by}
use Rattle.sf_slabs.proofs.EachLaws.{each-map}

-- ---- maps of maps
pub map-map : {A B C : Type 0} (f : B → C) (g : A → B) (xs : List A) → map f (map g xs) ≡ map (λ x. f (g x)) xs
map-map f g [] = refl
map-map f g (x ∷ xs) = ap (λ zs. f (g x) ∷ zs) (map-map f g xs)

pub map-flat_map : {A B C : Type 0} (f : B → C) (g : A → List B) (xs : List A) → map f (flat_map g xs) ≡ flat_map (λ x. map f (g x)) xs
map-flat_map f g [] = refl
map-flat_map f g (x ∷ xs) = map-append f (g x) (flat_map g xs) ∙ ap (λ zs. map f (g x) ++ zs) (map-flat_map f g xs)

pub flat_map-Pairs : {A B : Type 0} (R : A → A → Type 0) (f g : A → List B) (xs ys : List A) → ((x y : A) → R x y → f x ≡ g y) →
    Pairs R xs ys → flat_map f xs ≡ flat_map g ys
flat_map-Pairs R f g [] [] h k = refl
flat_map-Pairs R f g [] (y ∷ ys) h k = absurd k
flat_map-Pairs R f g (x ∷ xs) [] h k = absurd k
flat_map-Pairs R f g (x ∷ xs) (y ∷ ys) h k =
    ap (λ zs. zs ++ flat_map f xs) (h x y k.0) ∙ ap (λ zs. g y ++ zs) (flat_map-Pairs R f g xs ys h k.1)

-- ---- the cells of a column, from the heights in it
abbrev pub column_cells : List Piece → List Fraction → Mark → List Cell
column_cells pieces heights x = map (λ y. cell_of pieces (sample_at x y)) (marks one_more one_less heights)

pub column_cells-same : (pieces : List Piece) (x y : Mark) (qs rs : List Fraction) → SameMark x y → Numbers qs → Numbers rs → Pairs Same qs rs →
    column_cells pieces qs x ≡ column_cells pieces rs y
column_cells-same pieces x y qs rs e n m h =
    map-Pairs SameMark (λ k. cell_of pieces (sample_at x k)) (λ l. cell_of pieces (sample_at y l)) (marks one_more one_less qs) (marks one_more one_less rs)
    (λ k l g. sample_at-same pieces x y k l e g)
    (marks-same one_more one_less one_more-step one_less-step qs rs n m h)

-- the heights of a column, from the top
abbrev pub falling_heights : List Piece → Fraction → List Fraction
falling_heights pieces x = sorted_by (λ q r. fraction_lt r q) (heights_in pieces x)

falling_heights-numbers : (pieces : List Piece) (x : Fraction) → IsFraction x → Numbers (falling_heights pieces x)
falling_heights-numbers pieces x i = Each-sorted_by IsFraction (λ q r. fraction_lt r q) (heights_in pieces x) (heights_in-numbers pieces x i)

-- all cells are those of the columns
pub cells-columns : (pieces : List Piece) →
    cells pieces ≡ flat_map (λ x. column_cells pieces (falling_heights pieces x.place) x) (columns pieces)
cells-columns pieces =
    map-flat_map (cell_of pieces) (λ x. map (sample_at x) (levels pieces x.place)) (columns pieces)
    ∙ flat_map-agree _ _ (columns pieces) (λ x. map-map (cell_of pieces) (sample_at x) (levels pieces x.place))
  where
    flat_map-agree : {A B : Type 0} (f g : A → List B) (xs : List A) → ((x : A) → f x ≡ g x) → flat_map f xs ≡ flat_map g xs
    flat_map-agree f g [] h = refl
    flat_map-agree f g (x ∷ xs) h = ap (λ zs. zs ++ flat_map f xs) (h x) ∙ ap (λ zs. g x ++ zs) (flat_map-agree f g xs h)

-- ---- place by place the same, so with the same numbers
Among-pairs : (p : Fraction) (qs rs : List Fraction) → Numbers qs → Pairs Same qs rs → Among qs p → Among rs p
Among-pairs p [] [] n h a = absurd a
Among-pairs p [] (r ∷ rs) n h a = absurd a
Among-pairs p (q ∷ qs) [] n h a = absurd h
Among-pairs p (q ∷ qs) (r ∷ rs) n h a =
    elim a [ inl here ↦ inl (Same-trans p q r n.0 here h.0) | inr later ↦ inr (Among-pairs p qs rs n.1 h.1 later) ]

-- a listing of numbers is one of the same numbers written otherwise
pub IsListing-same : (before : Fraction → Fraction → Bool) (qs rs ts : List Fraction) → Numbers qs → Numbers rs → Pairs Same qs rs →
    IsListing before qs ts → IsListing before rs ts
IsListing-same before qs rs ts n m h l =
    record {
      numbers = l.numbers;
      in_order = l.in_order;
      has_all = all_of qs rs h n l.has_all;
      has_no_other = each-map (Among qs) (Among rs) ts (λ p a. Among-pairs p qs rs n h a) l.has_no_other;
    }
  where
    all_of : (qs rs : List Fraction) → Pairs Same qs rs → Numbers qs → AllByRecursion (Among ts) qs → AllByRecursion (Among ts) rs
    all_of [] [] h n k = tt
    all_of [] (r ∷ rs) h n k = absurd h
    all_of (q ∷ qs) [] h n k = absurd h
    all_of (q ∷ qs) (r ∷ rs) h n k = (moved ts k.0, all_of qs rs h.1 n.1 k.1)
      where
        moved : (us : List Fraction) → Among us q → Among us r
        moved [] a = absurd a
        moved (u ∷ us) a = elim a [ inl here ↦ inl (Same-trans r q u n.0 (sym h.0) here) | inr later ↦ inr (moved us later) ]

-- ---- the reference: any listing of the events, and of the heights in each column
-- all places of ends, dots and crossings
abbrev pub event_places : List Piece → List Fraction
event_places pieces = flat_map ends_of pieces ++ flat_map (λ p. flat_map (crossings_of p) pieces) pieces

abbrev pub IsHeights : List Piece → Fraction → List Fraction → Type 0
IsHeights pieces x hs = IsListing (λ q r. fraction_lt r q) (heights_in pieces x) hs

-- a column's cells, from any listing of its heights
pub column_cells-heights : (pieces : List Piece) (x y : Mark) (hs : List Fraction) → SameMark x y → IsHeights pieces y.place hs →
    column_cells pieces (falling_heights pieces x.place) x ≡ column_cells pieces hs y
column_cells-heights pieces x y hs e h =
    column_cells-same pieces x y (falling_heights pieces x.place) hs e
    (falling_heights-numbers pieces x.place e.first) h.numbers
    (sorted_by-listing (λ q r. fraction_lt r q) falling_order (heights_in pieces x.place) hs (heights_in-numbers pieces x.place e.first)
    (IsListing-same (λ q r. fraction_lt r q) (heights_in pieces y.place) (heights_in pieces x.place) hs
    (heights_in-numbers pieces y.place e.second) (heights_in-numbers pieces x.place e.first)
    (heights_in-same pieces y.place x.place e.second e.first (sym e.place)) h))
