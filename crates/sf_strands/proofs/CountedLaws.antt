-- The pieces of lines in a walk: how many there are, their groups, and how many of each group are on a point.
use Rattle.std.proofs.Common.{◌≡◌, ℕ, zero, suc, ◌+◌, ◌*◌, ◌≤◌, ◌<◌, ◌==◌, Bool, true, false, ◌&&◌, List, [], ◌∷◌, ◌++◌, drop, length, map, slice_index_or, refl, ap, sym, ◌∙◌, subst, arith}
use Rattle.std.proofs.Common.{◌⊎◌, inl, inr}
use Rattle.std.specs.Prelude.{if◌then◌else◌, sum_by}
use Rattle.std.specs.List.{All, count_by}
use Rattle.std.proofs.lemmas.Bool.{false≢true}
use Rattle.std.proofs.lemmas.List.{length-append, length-map, map-append}
use Rattle.std.proofs.lemmas.List.Elements.{All-append}
use Rattle.std.proofs.lemmas.List.Sums.{sum_by-append, sum_by-cons}
use Rattle.sf_grid.specs.Plane.{Coordinates, Point}
use Rattle.sf_grid.specs.Edge.{Edge}
use Rattle.sf_strips.specs.declared.piece.Piece.{Piece}
use Rattle.sf_strips.specs.declared.piece.Piece.TheVariants.{Dot}
use Rattle.sf_cells.specs.Pieces.{is_on}
use Rattle.sf_geometry.specs.Lists.{before_tight, edges_between, edges_from, edges_of, ends_of, is_closed, is_same, last_from, tight}
use Rattle.sf_geometry.specs.Parts.{joined}
use Rattle.sf_geometry.proofs.ListLaws.{same-is}
use Rattle.sf_pieces.specs.Marked.{HasGroups, Marked, groups_of, marked, on_in, piece_of}
use Rattle.sf_strands.specs.Strands.{all_edges_at, all_ends_at, all_joints_at, edges_at, ends_at, joints_at, joints_of}
use Rattle.sf_strands.specs.Tight.{IsTight, IsTightFrom}
use Rattle.sf_strands.specs.Walks.{strands_of, strands_of_lines}
use Rattle.sf_strands.proofs.ChainLaws.{bit}
use Rattle.sf_strands.proofs.EndLaws.{same-self}
use Rattle.sf_strands.proofs.LinkLaws.{count_by-cons, starts}
use Rattle.sf_strands.proofs.StrandLaws.{joints_by}
use Rattle.sf_strands.proofs.TightLaws.{tight-IsTight, tight-closed, tight-ends}

-- ---- how many pieces there are
-- none or three at least, and at most two for each point
record IsFew (pieces points : ℕ) : Type 0 where
  enough : (pieces ≡ 0) ⊎ (3 ≤ pieces)
  few : pieces ≤ 2 * points

pub length-edges : (a : Coordinates) (qs : List Coordinates) → length (edges_from a qs) ≡ length qs
length-edges a [] = refl
length-edges a (q ∷ qs) = ap (λ n. suc n) (length-edges q qs)

length-before : (a : Coordinates) (qs : List Coordinates) → length (before_tight a qs) ≤ suc (length qs)
length-before a [] = omega arith
length-before a (q ∷ qs) = by_same (is_same a q)
  where
    by_same : (t : Bool) → length (if t then q ∷ qs else a ∷ q ∷ qs) ≤ suc (suc (length qs))
    by_same true = omega arith
    by_same false = omega arith

pub length-tight : (ps : List Coordinates) → length (tight ps) ≤ length ps
length-tight [] = omega arith
length-tight (p ∷ ps) = omega (arith, length-before p (tight ps), length-tight ps)

-- the edges, joints and ends of a list, in this order
abbrev pub pieces_by : List Edge → List Coordinates → List Coordinates → List Marked
pieces_by es joints ends = marked 0 (map piece_of es) ++ marked 1 (map Dot joints) ++ marked 2 (map Dot ends)

length-marked : (g : ℕ) (ps : List Piece) → length (marked g ps) ≡ length ps
length-marked g ps = length-map ps (λ piece. (piece, g))

length-pieces : (es : List Edge) (joints ends : List Coordinates) → length (pieces_by es joints ends) ≡ length es + length joints + length ends
length-pieces es joints ends =
    length-append (marked 0 (map piece_of es) ++ marked 1 (map Dot joints)) (marked 2 (map Dot ends))
    ∙ ap (λ n. n + length (marked 2 (map Dot ends))) (length-append (marked 0 (map piece_of es)) (marked 1 (map Dot joints)))
    ∙ ap (λ n. n + length (marked 1 (map Dot joints)) + length (marked 2 (map Dot ends))) (length-marked 0 (map piece_of es) ∙ length-map es piece_of)
    ∙ ap (λ n. length es + n + length (marked 2 (map Dot ends))) (length-marked 1 (map Dot joints) ∙ length-map joints Dot)
    ∙ ap (λ n. length es + length joints + n) (length-marked 2 (map Dot ends) ∙ length-map ends Dot)

few-by : (n points : ℕ) (ms : List Marked) → length ms ≡ n → IsFew n points → IsFew (length ms) points
few-by n points ms e h = let P : ℕ → Type 0 = λ m. IsFew m points in subst P (sym e) h

closed-few : (a : Coordinates) (qs : List Coordinates) → IsTightFrom a qs → a ≡ last_from a qs →
    IsFew (length (edges_from a qs) + length (starts (edges_from a qs)) + 0) (suc (length qs))
closed-few a [] h e = record { enough = inl refl; few = omega arith }
closed-few a (q ∷ []) h e = absurd (false≢true (sym h.0 ∙ ap (is_same a) (sym e) ∙ same-self a))
closed-few a (q ∷ r ∷ rs) h e =
    let m : length (edges_from a (q ∷ r ∷ rs)) ≡ length (q ∷ r ∷ rs) = length-edges a (q ∷ r ∷ rs) in
    let n : length (starts (edges_from a (q ∷ r ∷ rs))) ≡ length (edges_from a (q ∷ r ∷ rs)) = length-map (edges_from a (q ∷ r ∷ rs)) (λ d. d.a) in
    by (length rs) _ _ m (n ∙ m)
  where
    by : (k m n : ℕ) → m ≡ suc (suc k) → n ≡ suc (suc k) → IsFew (m + n + 0) (suc (suc (suc k)))
    by k m n e f = record { enough = inr (omega arith); few = omega arith }

open-few : (a : Coordinates) (qs : List Coordinates) → IsTightFrom a qs → is_same a (last_from a qs) ≡ false →
    IsFew (length (edges_from a qs) + length (drop 1 (starts (edges_from a qs))) + 2) (suc (length qs))
open-few a [] h e = absurd (false≢true (sym e ∙ same-self a))
open-few a (q ∷ qs) h e =
    let m : length (edges_from a (q ∷ qs)) ≡ length (q ∷ qs) = length-edges a (q ∷ qs) in
    let n : length (starts (edges_from q qs)) ≡ length (edges_from q qs) = length-map (edges_from q qs) (λ d. d.a) in
    by (length qs) _ _ m (n ∙ length-edges q qs)
  where
    by : (k m n : ℕ) → m ≡ suc k → n ≡ k → IsFew (m + n + 2) (suc (suc k))
    by k m n e f = record { enough = inr (omega arith); few = omega arith }

tight-few : (ts : List Coordinates) → IsTight ts → IsFew (length (edges_between ts) + length (joints_by (is_closed ts) (edges_between ts)) + length (ends_of ts)) (length ts)
tight-few [] h = record { enough = inl refl; few = omega arith }
tight-few (a ∷ qs) h = by_closed (is_same a (last_from a qs)) refl
  where
    by_closed : (c : Bool) → is_same a (last_from a qs) ≡ c →
        IsFew (length (edges_from a qs) + length (joints_by c (edges_from a qs)) + length (if c then [] else a ∷ last_from a qs ∷ [])) (suc (length qs))
    by_closed true k = closed-few a qs h (same-is a (last_from a qs) k)
    by_closed false k = open-few a qs h k

line-few : (ps : List Coordinates) → IsFew (length (strands_of ps)) (length ps)
line-few ps =
    let P : Bool → Type 0 = λ c. IsFew (length (edges_of ps) + length (joints_by c (edges_of ps)) + length (ends_of (tight ps))) (length (tight ps)) in
    let Q : List Coordinates → Type 0 = λ ends. IsFew (length (edges_of ps) + length (joints_of ps) + length ends) (length (tight ps)) in
    more (few-by _ (length (tight ps)) (strands_of ps) (length-pieces (edges_of ps) (joints_of ps) (ends_of ps))
    (subst Q (tight-ends ps) (subst P (tight-closed ps) (tight-few (tight ps) (tight-IsTight ps)))))
  where
    more : IsFew (length (strands_of ps)) (length (tight ps)) → IsFew (length (strands_of ps)) (length ps)
    more h = record { enough = h.enough; few = omega (arith, h.few, length-tight ps) }

both-few : (a b m n : ℕ) → IsFew a m → IsFew b n → IsFew (a + b) (m + n)
both-few a b m n h k = record { enough = enough h.enough k.enough; few = omega (arith, h.few, k.few) }
  where
    enough : (a ≡ 0) ⊎ (3 ≤ a) → (b ≡ 0) ⊎ (3 ≤ b) → (a + b ≡ 0) ⊎ (3 ≤ a + b)
    enough (inl x) (inl y) = inl (omega arith)
    enough (inl x) (inr y) = inr (omega arith)
    enough (inr x) y = inr (omega arith)

lines-few : (lines : List (List Coordinates)) → IsFew (length (strands_of_lines lines)) (length (joined lines))
lines-few [] = record { enough = inl refl; few = omega arith }
lines-few (ps ∷ lines) =
    let P : ℕ → Type 0 = λ m. IsFew m (length (joined (ps ∷ lines))) in
    let Q : ℕ → Type 0 = λ n. IsFew (length (strands_of ps) + length (strands_of_lines lines)) n in
    subst P (sym (length-append (strands_of ps) (strands_of_lines lines)))
    (subst Q (sym (length-append ps (joined lines))) (both-few _ _ _ _ (line-few ps) (lines-few lines)))

-- ---- their groups
abbrev AreBelowThree : List Marked → Type 0
AreBelowThree ms = All (λ (g : ℕ). g < 3) (groups_of ms)

none-below : (ms : List Marked) → length ms ≡ 0 → (n : ℕ) → All (λ (g : ℕ). g < n) (groups_of ms)
none-below ms e n k d h = absurd (omega (arith, h, e, length-map ms (λ m. m.1)))

below-marked : (g : ℕ) → g < 3 → (ps : List Piece) → AreBelowThree (marked g ps)
below-marked g h [] k d l = absurd (omega (arith, l))
below-marked g h (p ∷ ps) zero d l = h
below-marked g h (p ∷ ps) (suc k) d l = below-marked g h ps k d (omega (arith, l))

below-append : (ms ns : List Marked) → AreBelowThree ms → AreBelowThree ns → AreBelowThree (ms ++ ns)
below-append ms ns h k =
    let P : List ℕ → Type 0 = λ gs. All (λ (g : ℕ). g < 3) gs in
    subst P (sym (map-append (λ m. m.1) ms ns)) (All-append (λ (g : ℕ). g < 3) (groups_of ms) (groups_of ns) h k)

line-below : (ps : List Coordinates) → AreBelowThree (strands_of ps)
line-below ps =
    below-append (marked 0 (map piece_of (edges_of ps)) ++ marked 1 (map Dot (joints_of ps))) (marked 2 (map Dot (ends_of ps)))
    (below-append (marked 0 (map piece_of (edges_of ps))) (marked 1 (map Dot (joints_of ps)))
    (below-marked 0 (omega arith) (map piece_of (edges_of ps)))
    (below-marked 1 (omega arith) (map Dot (joints_of ps))))
    (below-marked 2 (omega arith) (map Dot (ends_of ps)))

lines-below : (lines : List (List Coordinates)) → AreBelowThree (strands_of_lines lines)
lines-below [] = λ k d h. absurd (omega (arith, h))
lines-below (ps ∷ lines) = below-append (strands_of ps) (strands_of_lines lines) (line-below ps) (lines-below lines)

groups-by : (ms : List Marked) → (length ms ≡ 0) ⊎ (3 ≤ length ms) → AreBelowThree ms → HasGroups ms
groups-by ms (inl e) h = none-below ms e (length ms)
groups-by ms (inr e) h = λ k d l. let below : slice_index_or (groups_of ms) k d < 3 = h k d l in omega (arith, e, below)

-- ---- what a walk over the pieces of lines needs
pub record CanWalk (ms : List Marked) (points : ℕ) : Type 0 where
  pub few : length ms ≤ 2 * points
  pub groups_in_range : HasGroups ms

lines-can-walk : (lines : List (List Coordinates)) → CanWalk (strands_of_lines lines) (length (joined lines))
lines-can-walk lines =
    let h = lines-few lines in
    record { few = h.few; groups_in_range = groups-by (strands_of_lines lines) h.enough (lines-below lines) }

line-can-walk : (ps : List Coordinates) → CanWalk (strands_of ps) (length ps)
line-can-walk ps =
    let h = line-few ps in
    record { few = h.few; groups_in_range = groups-by (strands_of ps) h.enough (line-below ps) }

pub lines-walk : (lines : List (List Coordinates)) (ms : List Marked) → ms ≡ strands_of_lines lines → CanWalk ms (length (joined lines))
lines-walk lines ms e = let P : List Marked → Type 0 = λ ns. CanWalk ns (length (joined lines)) in subst P (sym e) (lines-can-walk lines)

pub line-walks : (ps : List Coordinates) (ms : List Marked) → ms ≡ strands_of ps → CanWalk ms (length ps)
line-walks ps ms e = let P : List Marked → Type 0 = λ ns. CanWalk ns (length ps) in subst P (sym e) (line-can-walk ps)

-- ---- how many of each group are on a point
count_by-append : {X : Type 0} (test : X → Bool) (xs ys : List X) → count_by test (xs ++ ys) ≡ count_by test xs + count_by test ys
count_by-append test xs ys = sum_by-append (λ x. bit (test x)) xs ys

count_by-map : {X Y : Type 0} (f : X → Y) (test : Y → Bool) (xs : List X) → count_by test (map f xs) ≡ count_by (λ x. test (f x)) xs
count_by-map f test [] = refl
count_by-map f test (x ∷ xs) =
    count_by-cons test (f x) (map f xs) ∙ ap (λ n. bit (test (f x)) + n) (count_by-map f test xs) ∙ sym (count_by-cons (λ y. test (f y)) x xs)

on-marked : (g h : ℕ) (ps : List Piece) (p : Point) (c : Bool) → (h == g) ≡ c → on_in g (marked h ps) p ≡ (if c then count_by (is_on p) ps else 0)
on-marked g h [] p true e = refl
on-marked g h [] p false e = refl
on-marked g h (q ∷ qs) p true e =
    count_by-cons (λ (m : Marked). (m.1 == g) && is_on p m.0) (q, h) (marked h qs)
    ∙ ap (λ t. bit (t && is_on p q) + on_in g (marked h qs) p) e
    ∙ ap (λ n. bit (is_on p q) + n) (on-marked g h qs p true e)
    ∙ sym (count_by-cons (is_on p) q qs)
on-marked g h (q ∷ qs) p false e =
    count_by-cons (λ (m : Marked). (m.1 == g) && is_on p m.0) (q, h) (marked h qs)
    ∙ ap (λ t. bit (t && is_on p q) + on_in g (marked h qs) p) e
    ∙ ap (λ n. 0 + n) (on-marked g h qs p false e)

on-pieces : (g : ℕ) (ps : List Coordinates) (p : Point) → on_in g (strands_of ps) p
    ≡ (if 0 == g then edges_at ps p else 0) + (if 1 == g then joints_at ps p else 0) + (if 2 == g then ends_at ps p else 0)
on-pieces g ps p =
    let edges = map piece_of (edges_of ps) in
    let joints = map Dot (joints_of ps) in
    let ends = map Dot (ends_of ps) in
    count_by-append (λ (m : Marked). (m.1 == g) && is_on p m.0) (marked 0 edges ++ marked 1 joints) (marked 2 ends)
    ∙ ap (λ n. n + on_in g (marked 2 ends) p) (count_by-append (λ (m : Marked). (m.1 == g) && is_on p m.0) (marked 0 edges) (marked 1 joints))
    ∙ ap (λ n. n + on_in g (marked 1 joints) p + on_in g (marked 2 ends) p) (on-marked g 0 edges p (0 == g) refl ∙ ap (λ n. if 0 == g then n else 0) (count_by-map piece_of (is_on p) (edges_of ps)))
    ∙ ap (λ n. (if 0 == g then edges_at ps p else 0) + n + on_in g (marked 2 ends) p) (on-marked g 1 joints p (1 == g) refl ∙ ap (λ n. if 1 == g then n else 0) (count_by-map Dot (is_on p) (joints_of ps)))
    ∙ ap (λ n. (if 0 == g then edges_at ps p else 0) + (if 1 == g then joints_at ps p else 0) + n) (on-marked g 2 ends p (2 == g) refl ∙ ap (λ n. if 2 == g then n else 0) (count_by-map Dot (is_on p) (ends_of ps)))

-- of one line
first-of : (a : ℕ) → a + 0 + 0 ≡ a
first-of a = omega arith

second-of : (a : ℕ) → 0 + a + 0 ≡ a
second-of a = omega arith

third-of : (a : ℕ) → 0 + 0 + a ≡ a
third-of a = omega arith

pub record HasCounts (ms : List Marked) (p : Point) (edges joints ends : ℕ) : Type 0 where
  pub edges_are : on_in 0 ms p ≡ edges
  pub joints_are : on_in 1 ms p ≡ joints
  pub ends_are : on_in 2 ms p ≡ ends

line-counts : (ps : List Coordinates) (p : Point) → HasCounts (strands_of ps) p (edges_at ps p) (joints_at ps p) (ends_at ps p)
line-counts ps p =
    record {
      edges_are = on-pieces 0 ps p ∙ first-of (edges_at ps p);
      joints_are = on-pieces 1 ps p ∙ second-of (joints_at ps p);
      ends_are = on-pieces 2 ps p ∙ third-of (ends_at ps p);
    }

more-counts : (g : ℕ) (f : List Coordinates → ℕ) (ps : List Coordinates) (lines : List (List Coordinates)) (p : Point) → on_in g (strands_of ps) p ≡ f ps → on_in g (strands_of_lines lines) p ≡ sum_by f lines →
    on_in g (strands_of_lines (ps ∷ lines)) p ≡ sum_by f (ps ∷ lines)
more-counts g f ps lines p h k =
    count_by-append (λ (m : Marked). (m.1 == g) && is_on p m.0) (strands_of ps) (strands_of_lines lines)
    ∙ ap (λ n. n + on_in g (strands_of_lines lines) p) h
    ∙ ap (λ n. f ps + n) k
    ∙ sym (sum_by-cons f ps lines)

pub lines-counts : (lines : List (List Coordinates)) (p : Point) → HasCounts (strands_of_lines lines) p (all_edges_at lines p) (all_joints_at lines p) (all_ends_at lines p)
lines-counts [] p = record { edges_are = refl; joints_are = refl; ends_are = refl }
lines-counts (ps ∷ lines) p =
    let one = line-counts ps p in
    let others = lines-counts lines p in
    record {
      edges_are = more-counts 0 (λ qs. edges_at qs p) ps lines p one.edges_are others.edges_are;
      joints_are = more-counts 1 (λ qs. joints_at qs p) ps lines p one.joints_are others.joints_are;
      ends_are = more-counts 2 (λ qs. ends_at qs p) ps lines p one.ends_are others.ends_are;
    }

pub length-made : (ps ts us : List Coordinates) → ts ≡ tight ps → us ≡ ts → length us ≤ length ps
length-made ps ts us e f = let P : List Coordinates → Type 0 = λ qs. length qs ≤ length ps in subst P (sym (f ∙ e)) (length-tight ps)
