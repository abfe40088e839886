-- The counts of a point's cell are those of each group's pieces.
use Rattle.std.proofs.Common.{◌≡◌, ℕ, zero, suc, ◌+◌, ◌≤◌, ◌==◌, arith, max, refl, ap, sym, ◌∙◌, Bool, true, false, cond, ◌&&◌, List, [], ◌∷◌, ◌++◌, map, length, slice_index, append_assoc, nat_lt}
use Rattle.std.specs.Prelude.{if◌then◌else◌}
use Rattle.std.specs.List.{count_by}
use Rattle.std.proofs.lemmas.Bool.{eqb-true}
use Rattle.std.proofs.lemmas.List.{length-map}
use Rattle.std.proofs.lemmas.List.Sums.{sum_by-cons}
use Rattle.sf_strips.specs.declared.piece.Piece.{Piece}
use Rattle.sf_cells.specs.Cells.{numbers_from}
use Rattle.sf_cells.specs.Groups.{counts, group_count, numbers}
use Rattle.sf_cells.specs.Pieces.{is_above, is_on}
use Rattle.sf_plane.proofs.CountLaws.{counts_are_of_members}
use Rattle.sf_plane.specs.Counts.{members_from}
use Rattle.sf_pieces.specs.Marked.{ItemsCount, Marked, groups_of, pieces_of}

-- the pieces of a group, each piece beside its group
abbrev picked : ℕ → List ℕ → List Piece → List Piece
picked g [] ps = []
picked g (h ∷ hs) [] = []
picked g (h ∷ hs) (p ∷ ps) = if h == g then p ∷ picked g hs ps else picked g hs ps

after : (before : List ℕ) (h : ℕ) (hs : List ℕ) → slice_index (before ++ h ∷ hs) (length before) ≡ h
after [] h hs = refl
after (b ∷ before) h hs = after before h hs

one-more : (before : List ℕ) (h : ℕ) → length before + 1 ≡ length (before ++ h ∷ [])
one-more [] h = refl
one-more (b ∷ before) h = moved (length before) ∙ ap (λ n. suc n) (one-more before h)
  where
    moved : (n : ℕ) → suc n + 1 ≡ suc (n + 1)
    moved n = omega arith

members-picked : (before hs : List ℕ) (g : ℕ) (ps : List Piece) → length hs ≡ length ps → members_from (length before) (before ++ hs) g ps ≡ picked g hs ps
members-picked before [] g [] e = refl
members-picked before [] g (p ∷ ps) e = absurd (omega (arith, e))
members-picked before (h ∷ hs) g [] e = refl
members-picked before (h ∷ hs) g (p ∷ ps) e =
    ap (λ n. if n == g then p ∷ members_from (length before + 1) (before ++ h ∷ hs) g ps else members_from (length before + 1) (before ++ h ∷ hs) g ps) (after before h hs)
    ∙ ap (λ ms. if h == g then p ∷ ms else ms)
    (ap (λ n. members_from n (before ++ h ∷ hs) g ps) (one-more before h)
    ∙ ap (λ gs. members_from (length (before ++ h ∷ [])) gs g ps) (sym (append_assoc before (h ∷ []) hs))
    ∙ members-picked (before ++ h ∷ []) hs g ps (omega (arith, e)))

-- a number that is no group has no pieces, and no count
picked-none : (g : ℕ) (hs : List ℕ) (ps : List Piece) → group_count hs ≤ g → picked g hs ps ≡ []
picked-none g [] ps e = refl
picked-none g (h ∷ hs) [] e = refl
picked-none g (h ∷ hs) (p ∷ ps) e = by_test (h == g) refl (picked-none g hs ps (rest (h + 1) (group_count hs) e))
  where
    rest : (m n : ℕ) → max m n ≤ g → n ≤ g
    rest m n k = grind (arith, k)

    first : (m n : ℕ) → max m n ≤ g → m ≤ g
    first m n k = grind (arith, k)

    by_test : (c : Bool) → (h == g) ≡ c → picked g hs ps ≡ [] → (if c then p ∷ picked g hs ps else picked g hs ps) ≡ []
    by_test true t f = absurd (omega (arith, first (h + 1) (group_count hs) e, eqb-true h g t))
    by_test false t f = f

none-at : (f : ℕ → ℕ) (k n g : ℕ) → n ≤ g → slice_index (map f (numbers k n)) g ≡ 0
none-at f k zero g h = refl
none-at f k (suc n) zero h = absurd (omega (arith, h))
none-at f k (suc n) (suc g) h = none-at f (k + 1) n g (omega (arith, h))

count-picked : (groups : List ℕ) (all : List Piece) (test : Piece → Bool) (g : ℕ) → length groups ≡ length all
    → slice_index (counts groups (numbers_from 0 test all)) g ≡ count_by test (picked g groups all)
count-picked groups all test g e = by_test (nat_lt g (group_count groups)) refl
  where
    by_test : (c : Bool) → nat_lt g (group_count groups) ≡ c → slice_index (counts groups (numbers_from 0 test all)) g ≡ count_by test (picked g groups all)
    by_test true t = counts_are_of_members groups all test g (grind (arith, t)) ∙ ap (count_by test) (members-picked [] groups g all e)
    by_test false t =
        let past : group_count groups ≤ g = grind (arith, t) in
        none-at (λ c. count_by (λ i. slice_index groups i == c) (numbers_from 0 test all)) 0 (group_count groups) g past
        ∙ sym (ap (count_by test) (picked-none g groups all past))

-- the pieces of a group that pass, counted among all
step : (test : Piece → Bool) (c d : Bool) (q : Piece) (ps : List Piece) (n : ℕ) → test q ≡ d → count_by test ps ≡ n
    → count_by test (if c then q ∷ ps else ps) ≡ cond (c && d) 1 0 + n
step test true d q ps n t e = sum_by-cons (λ p. cond (test p) 1 0) q ps ∙ ap (λ b. cond b 1 0 + count_by test ps) t ∙ ap (λ k. cond d 1 0 + k) e
step test false d q ps n t e = e ∙ sym (zero-more n)
  where
    zero-more : (n : ℕ) → 0 + n ≡ n
    zero-more n = omega arith

picked-passing : (test : Piece → Bool) (g : ℕ) (ms : List Marked)
    → count_by test (picked g (groups_of ms) (pieces_of ms)) ≡ count_by (λ (m : Marked). (m.1 == g) && test m.0) ms
picked-passing test g [] = refl
picked-passing test g (m ∷ ms) =
    step test (m.1 == g) (test m.0) m.0 (picked g (groups_of ms) (pieces_of ms)) (count_by (λ (m : Marked). (m.1 == g) && test m.0) ms) refl (picked-passing test g ms)
    ∙ sym (sum_by-cons (λ (m : Marked). cond ((m.1 == g) && test m.0) 1 0) m ms)

pub count-marked : (test : Piece → Bool) (g : ℕ) (ms : List Marked)
    → slice_index (counts (groups_of ms) (numbers_from 0 test (pieces_of ms))) g ≡ count_by (λ (m : Marked). (m.1 == g) && test m.0) ms
count-marked test g ms =
    count-picked (groups_of ms) (pieces_of ms) test g (length-map ms (λ m. m.1) ∙ sym (length-map ms (λ m. m.0)))
    ∙ picked-passing test g ms

pub items-count : ItemsCount
items-count ms p = record { on = λ g. count-marked (is_on p) g ms; above = λ g. count-marked (is_above p) g ms }
