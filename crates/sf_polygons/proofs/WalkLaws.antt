-- What a sink that or's tests has found after a walk over rings in groups.
use Rattle.std.proofs.Common.{◌≡◌, refl, ap, sym, ◌∙◌, ℕ, zero, suc, ◌+◌, ◌≤◌, ◌==◌, arith, Bool, true, false, ◌&&◌, ◌||◌, not, List, [], ◌∷◌, map, drop, length, nat_le, nat_lt, replicate, inl, inr}
use Rattle.std.specs.Prelude.{◌↔◌, IsTrue, sum}
use Rattle.std.specs.List.{AllByRecursion, count_by, fold, list_any, zip}
use Rattle.std.proofs.lemmas.Bool.{and_from, and_parts, both_ways}
use Rattle.std.proofs.lemmas.List.{length-map}
use Rattle.sf_grid.specs.EvenOdd.{is_odd}
use Rattle.sf_grid.specs.Plane.{IsPoint, Point}
use Rattle.sf_cells.specs.Cells.{cell_of, cells}
use Rattle.sf_cells.specs.Groups.{Item, counts, group_count, item_of, numbers}
use Rattle.sf_cells.specs.Pieces.{is_on}
use Rattle.sf_cells.specs.Samples.{samples}
use Rattle.sf_plane.specs.Cover.{cell_at}
use Rattle.sf_classes.specs.Classes.{HasItemFor, HaveItemsFor, IsUpward, Represent, odds}
use Rattle.sf_classes.proofs.ClassLaws.{represent-answers}
use Rattle.sf_pieces.specs.Marked.{Marked, groups_of, item_at, items_of, pieces_of}
use Rattle.sf_pieces.proofs.CountLaws.{items-count}
use Rattle.sf_pieces.proofs.PassLaws.{items-pass}
use Rattle.sf_polygons.specs.Rings.{GroupedRing, pieces_in}
use Rattle.sf_polygons.specs.Tests.{is_inside, is_nested, is_outside, is_overlap, is_shared, is_within}
use Rattle.sf_polygons.proofs.GroupLaws.{sum-of-groups}
use Rattle.sf_polygons.proofs.MeetLaws.{is_shared_at}
use Rattle.sf_polygons.proofs.PieceLaws.{on-all, rings_of}
use Rattle.sf_polygons.proofs.TestLaws.{any-map, any-same, count-map, or-more, or-none}

-- ---- what was gathered: a flag that or's a test of each item
pub gathered : {S : Type 0} (flag : S → Bool) (after : S → Item → S) (test : Item → Bool) → ((s : S) (i : Item) → flag (after s i) ≡ (flag s || test i))
    → (s : S) (items : List Item) → flag (fold after s items) ≡ (flag s || list_any test items)
gathered flag after test h s [] = sym (or-none (flag s))
gathered flag after test h s (i ∷ is) =
    gathered flag after test h (after s i) is ∙ ap (λ b. b || list_any test is) (h s i) ∙ or-more (flag s) (test i) (list_any test is)

-- ---- what was gathered until something is over, from when on nothing changes
over-stays : {S : Type 0} (over : S → Bool) (after : S → Item → S) → ((s : S) (i : Item) → over s ≡ true → over (after s i) ≡ true) → (s : S) (items : List Item) → over s ≡ true → over (fold after s items) ≡ true
over-stays over after stays s [] e = e
over-stays over after stays s (i ∷ is) e = over-stays over after stays (after s i) is (stays s i e)

pub gathered-unless : {S : Type 0} (over flag : S → Bool) (after : S → Item → S) (test : Item → Bool) → ((s : S) (i : Item) → over s ≡ true → over (after s i) ≡ true)
    → ((s : S) (i : Item) → over s ≡ false → flag (after s i) ≡ (flag s || test i))
    → (s : S) (items : List Item) → over (fold after s items) ≡ false → flag (fold after s items) ≡ (flag s || list_any test items)
gathered-unless over flag after test stays step s [] e = sym (or-none (flag s))
gathered-unless over flag after test stays step s (i ∷ is) e = by (over s) refl (gathered-unless over flag after test stays step (after s i) is e)
  where
    by : (b : Bool) → over s ≡ b → flag (fold after (after s i) is) ≡ (flag (after s i) || list_any test is) → flag (fold after (after s i) is) ≡ (flag s || (test i || list_any test is))
    by true now later = absurd (both_ways (over (fold after (after s i) is)) e (over-stays over after stays (after s i) is (stays s i now)))
    by false now later = later ∙ ap (λ b. b || list_any test is) (step s i now) ∙ or-more (flag s) (test i) (list_any test is)

-- ---- two edges on a cell
shared-upward : (areal : List Bool) → IsUpward areal is_shared
shared-upward areal i j s h =
    let parts = and_parts (nat_le 1 i.dim) (nat_le 2 (sum i.on)) h in
    and_from (nat_le 1 j.dim) (nat_le 2 (sum j.on)) (more i.dim j.dim s.dim parts.0) (ap (λ ns. nat_le 2 (sum ns)) (sym s.class.on) ∙ parts.1)
  where
    more : (m n : ℕ) → m ≤ n → nat_le 1 m ≡ true → nat_le 1 n ≡ true
    more m n l k = grind (arith, l, k)

pub shared-cells : (areal : List Bool) (rings : List GroupedRing) (items : List Item) → Represent areal items (items_of (pieces_in rings))
    → list_any is_shared items ≡ list_any (is_shared_at (rings_of rings)) (samples (pieces_of (pieces_in rings)))
shared-cells areal rings items h =
    let ms = pieces_in rings in
    (represent-answers areal items (items_of ms) h).some is_shared (shared-upward areal)
    ∙ any-map is_shared (item_of (groups_of ms)) (cells (pieces_of ms))
    ∙ any-map (λ c. is_shared (item_of (groups_of ms) c)) (cell_of (pieces_of ms)) (samples (pieces_of ms))
    ∙ any-same (λ s. is_shared (item_of (groups_of ms) (cell_of (pieces_of ms) s))) (is_shared_at (rings_of rings)) (samples (pieces_of ms))
    (λ s. ap (λ n. nat_le 1 s.dim && nat_le 2 n)
    (sum-of-groups (λ (m : Marked). m.1) (λ (m : Marked). is_on s.point m.0) ms ((item_at ms s.point).on) ((items-count ms s.point).on) ∙ on-all rings s.point))

-- ---- tests that look at counts on and parities above of the first groups
-- the counts of each group, of those above the parity
abbrev pub sides : List ℕ → List ℕ → List (ℕ × Bool)
sides ms ns = map (λ (m : ℕ × ℕ). (m.0, is_odd m.1)) (zip ms ns)

sides-same : (k : ℕ) (ms ns os : List ℕ) → length ms ≤ k → odds (replicate k true) ns ≡ odds (replicate k true) os → sides ms ns ≡ sides ms os
sides-same k [] ns os l h = refl
sides-same zero (m ∷ ms) ns os l h = absurd (omega (arith, l))
sides-same (suc k) (m ∷ ms) [] [] l h = refl
sides-same (suc k) (m ∷ ms) [] (o ∷ os) l h = cc
sides-same (suc k) (m ∷ ms) (n ∷ ns) [] l h = cc
sides-same (suc k) (m ∷ ms) (n ∷ ns) (o ∷ os) l h =
    let parts = split (is_odd n) (is_odd o) (odds (replicate k true) ns) (odds (replicate k true) os) h in
    ap (λ c. (m, c) ∷ sides ms ns) parts.0 ∙ ap (λ cs. (m, is_odd o) ∷ cs) (sides-same k ms ns os (omega (arith, l)) parts.1)
  where
    split : (c d : Bool) (cs ds : List Bool) → c ∷ cs ≡ d ∷ ds → (c ≡ d) × (cs ≡ ds)
    split c d cs ds e = (cc, cc)

-- a test by the sides alone
pub record IsBySides (test : Item → Bool) : Type 0 where
  pub by_sides : List (ℕ × Bool) → Bool
  pub is : (i : Item) → test i ≡ by_sides (sides i.on i.above)

drop-map : {A B : Type 0} (f : A → B) (n : ℕ) (xs : List A) → drop n (map f xs) ≡ map f (drop n xs)
drop-map f zero xs = refl
drop-map f (suc n) [] = refl
drop-map f (suc n) (x ∷ xs) = drop-map f n xs

counted-by : (n : ℕ) (i : Item) → nat_le 2 (count_by is_inside (drop n (zip i.on i.above)))
    ≡ nat_le 2 (count_by (λ (m : ℕ × Bool). (m.0 == 0) && m.1) (drop n (sides i.on i.above)))
counted-by n i =
    let f : ℕ × ℕ → ℕ × Bool = λ m. (m.0, is_odd m.1) in
    ap (nat_le 2) (sym (count-map (λ (m : ℕ × Bool). (m.0 == 0) && m.1) f (drop n (zip i.on i.above))))
    ∙ ap (λ ms. nat_le 2 (count_by (λ (m : ℕ × Bool). (m.0 == 0) && m.1) ms)) (sym (drop-map f n (zip i.on i.above)))

pub nested-by : IsBySides is_nested
nested-by = record { by_sides = λ ms. nat_le 2 (count_by (λ (m : ℕ × Bool). (m.0 == 0) && m.1) (drop 1 ms)); is = counted-by 1 }

pub overlap-by : IsBySides is_overlap
overlap-by = record { by_sides = λ ms. nat_le 2 (count_by (λ (m : ℕ × Bool). (m.0 == 0) && m.1) ms); is = counted-by 0 }

abbrev within-side : ℕ × Bool → Bool
within-side m = nat_lt 0 m.0 || m.1

abbrev outside-sides : List (ℕ × Bool) → Bool
outside-sides [] = false
outside-sides (m ∷ ms) = list_any within-side ms && not (within-side m)

pub outside-by : IsBySides is_outside
outside-by = record { by_sides = outside-sides; is = λ i. by_lists i.dim i.on i.above }
  where
    by_lists : (d : ℕ) (ms ns : List ℕ) → is_outside (record { dim = d; on = ms; above = ns }) ≡ outside-sides (sides ms ns)
    by_lists d [] ns = refl
    by_lists d (m ∷ ms) [] = refl
    by_lists d (m ∷ ms) (n ∷ ns) =
        ap (λ b. b && not (is_within (m, n))) (sym (any-map within-side (λ (k : ℕ × ℕ). (k.0, is_odd k.1)) (zip ms ns)))

-- ---- a test by sides at points
sides-upward : (k : ℕ) (test : Item → Bool) → IsBySides test → IsUpward (replicate k true) (λ i. nat_le (length i.on) k && test i)
sides-upward k test by i j s h =
    let parts = and_parts (nat_le (length i.on) k) (test i) h in
    and_from (nat_le (length j.on) k) (test j) (ap (λ ns. nat_le (length ns) k) (sym s.class.on) ∙ parts.0)
    (by.is j
    ∙ ap by.by_sides (ap (λ ns. sides ns j.above) (sym s.class.on) ∙ sym (sides-same k i.on i.above j.above (at_most (length i.on) parts.0) s.class.odd))
    ∙ sym (by.is i)
    ∙ parts.1)
  where
    at_most : (n : ℕ) → nat_le n k ≡ true → n ≤ k
    at_most n e = grind (arith, e)

length-numbers : (k n : ℕ) → length (numbers k n) ≡ n
length-numbers k zero = refl
length-numbers k (suc n) = ap (λ m. suc m) (length-numbers (k + 1) n)

pub length-counts : (groups ps : List ℕ) → length (counts groups ps) ≡ group_count groups
length-counts groups ps = length-map (numbers 0 (group_count groups)) _ ∙ length-numbers 0 (group_count groups)

short-one : (areal : List Bool) (k : ℕ) (js : List Item) (i : Item) → AllByRecursion (λ j. nat_le (length j.on) k ≡ true) js → HasItemFor areal js i → nat_le (length i.on) k ≡ true
short-one areal k [] i h s = absurd s
short-one areal k (j ∷ js) i h s = elim s [ inl here ↦ ap (λ ns. nat_le (length ns) k) here.class.on ∙ h.0 | inr later ↦ short-one areal k js i h.1 later ]

short-all : (areal : List Bool) (k : ℕ) (js is : List Item) → AllByRecursion (λ j. nat_le (length j.on) k ≡ true) js → HaveItemsFor areal js is
    → AllByRecursion (λ i. nat_le (length i.on) k ≡ true) is
short-all areal k js [] h s = tt
short-all areal k js (i ∷ is) h s = (short-one areal k js i h s.0, short-all areal k js is h s.1)

short-cells : (groups : List ℕ) (k : ℕ) → group_count groups ≤ k → (cs : List _) → AllByRecursion (λ (j : Item). nat_le (length j.on) k ≡ true) (map (item_of groups) cs)
short-cells groups k l [] = tt
short-cells groups k l (c ∷ cs) = (ap (λ n. nat_le n k) (length-counts groups c.on) ∙ test (group_count groups) l, short-cells groups k l cs)
  where
    test : (n : ℕ) → n ≤ k → nat_le n k ≡ true
    test n e = grind (arith, e)

any-short : (k : ℕ) (test : Item → Bool) (is : List Item) → AllByRecursion (λ i. nat_le (length i.on) k ≡ true) is → list_any (λ i. nat_le (length i.on) k && test i) is ≡ list_any test is
any-short k test [] h = refl
any-short k test (i ∷ is) h = ap (λ b. (b && test i) || list_any (λ j. nat_le (length j.on) k && test j) is) h.0 ∙ ap (λ b. test i || b) (any-short k test is h.1)

-- some item that was handed passes just where some point does
pub passes-somewhere : (k : ℕ) (ms : List Marked) (items : List Item) (test : Item → Bool) → IsBySides test → group_count (groups_of ms) ≤ k
    → Represent (replicate k true) items (items_of ms) → IsTrue (list_any test items) ↔ ((p : Point) × (IsPoint p × IsTrue (test (item_at ms p))))
passes-somewhere k ms items test by l h =
    let areal = replicate k true in
    let groups = groups_of ms in
    let same = any-short k test items (short-all areal k (items_of ms) items (short-cells groups k l (cells (pieces_of ms))) h.of_cells) in
    let pass = items-pass areal ms items (λ i. nat_le (length i.on) k && test i) h (sides-upward k test by) in (
      λ t. let found = pass.0 (same ∙ t) in (found.0, (found.1.0, (and_parts (nat_le (length ((item_at ms found.0).on)) k) (test (item_at ms found.0)) found.1.1).1)),
      λ found. sym same ∙ pass.1 (
        found.0,
        (
          found.1.0,
          and_from (nat_le (length ((item_at ms found.0).on)) k) (test (item_at ms found.0)) (ap (λ n. nat_le n k) (length-counts groups ((cell_at (pieces_of ms) found.0).on)) ∙ fits (group_count groups) l) found.1.1,
        ),
      ),
    )
  where
    fits : (n : ℕ) → n ≤ k → nat_le n k ≡ true
    fits n e = grind (arith, e)
