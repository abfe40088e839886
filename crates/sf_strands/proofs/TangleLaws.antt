-- Lines are tangled at a point just where two strands are there, not all of them ends.
use Rattle.std.proofs.Common.{◌≡◌, ℕ, ◌+◌, ◌-◌, ◌*◌, ◌≤◌, Bool, true, false, ◌&&◌, ◌||◌, not, List, [], ◌∷◌, map, refl, ap, sym, ◌∙◌, subst, arith, nat_le, nat_lt}
use Rattle.std.specs.Prelude.{if◌then◌else◌}
use Rattle.std.specs.List.{count_by, list_any}
use Rattle.std.proofs.lemmas.Bool.{false≢true}
use Rattle.std.proofs.lemmas.List.Sums.{sum_by-cons}
use Rattle.sf_grid.specs.Plane.{Coordinates, IsPoint, Point}
use Rattle.sf_grid.specs.Edge.{Edge, edge_between, on_edge}
use Rattle.sf_grid.proofs.CallerLemmas.{same_tests}
use Rattle.sf_geometry.specs.Lists.{edges_between, edges_from, edges_of, ends_of, is_closed, is_same, last_from, tight}
use Rattle.sf_geometry.specs.PointSets.{is_among, on_line}
use Rattle.sf_geometry.proofs.ListLaws.{same-is}
use Rattle.sf_valid_rules.specs.Conditions.{any_two}
use Rattle.sf_valid_rules.specs.Shapes.{meets_itself, on_two_lines}
use Rattle.sf_strands.specs.Strands.{TanglesDecide, all_edges_at, all_ends_at, all_joints_at, edges_at, ends_at, is_tangled_by, joints_at}
use Rattle.sf_strands.proofs.ChainLaws.{any-count, bit, joints-and-end, last_ends, le-test, test-le}
use Rattle.sf_strands.proofs.EndLaws.{both-same, same-self}
use Rattle.sf_strands.proofs.LinkLaws.{count_by-cons, edges-IsChain, is_at, joint_count-starts, last_ends-last, link_of, links, on_count-edges}
use Rattle.sf_strands.proofs.PassLaws.{ArePasses, Pass, all_ends, all_strands, is_there, lt-test, meet_loose, passes_twice, tangles-counted, test-lt}
use Rattle.sf_strands.proofs.StrandLaws.{closed-joints, joints_by, strands_decide}
use Rattle.sf_strands.specs.Tight.{IsTight, IsTightFrom}
use Rattle.sf_strands.proofs.TightLaws.{tight-IsTight, tight-closed, tight-ends}

-- ---- a line at a point: each joint has two edges, and an end one
abbrev Twice : Bool → List Coordinates → List Coordinates → Point → Type 0
Twice closed ends ts p =
    2 * count_by (is_at p) (joints_by closed (edges_between ts)) + bit (is_among ends p) ≤ count_by (λ e. on_edge e p) (edges_between ts)

or-bits : (a b : Bool) → bit (a || (b || false)) ≤ bit a + bit b
or-bits true b = omega arith
or-bits false true = omega arith
or-bits false false = omega arith

open-twice : (p : Point) → IsPoint p → (a : Coordinates) (qs : List Coordinates) → IsTightFrom a qs → is_same a (last_from a qs) ≡ false → Twice false (a ∷ last_from a qs ∷ []) (a ∷ qs) p
open-twice p o a [] h k = absurd (false≢true (sym k ∙ same-self a))
open-twice p o a (q ∷ qs) h k =
    let counted = joints-and-end (is_at p a) (link_of p (edge_between a q)) (links p (edges_from q qs)) (edges-IsChain p o a (q ∷ qs) h) in
    let ends : bit (last_ends (link_of p (edge_between a q)) (links p (edges_from q qs))) ≡ bit (is_at p (last_from q qs)) = ap bit (last_ends-last p a q qs) in
    omega (arith, counted, ends, joint_count-starts p a (q ∷ qs), on_count-edges p (edges_from a (q ∷ qs)), or-bits (is_at p a) (is_at p (last_from q qs)))

closed-twice : (p : Point) → IsPoint p → (a : Coordinates) (qs : List Coordinates) → IsTightFrom a qs → a ≡ last_from a qs → Twice true [] (a ∷ qs) p
closed-twice p o a [] h k = omega arith
closed-twice p o a (q ∷ qs) h k =
    let counted = joints-and-end (is_at p a) (link_of p (edge_between a q)) (links p (edges_from q qs)) (edges-IsChain p o a (q ∷ qs) h) in
    let ends : bit (last_ends (link_of p (edge_between a q)) (links p (edges_from q qs))) ≡ bit (is_at p a) = ap bit (last_ends-last p a q qs ∙ ap (is_at p) (sym k)) in
    omega (arith, counted, ends, closed-joints p a q qs, on_count-edges p (edges_from a (q ∷ qs)))

tight-twice_there : (p : Point) → IsPoint p → (ts : List Coordinates) → IsTight ts → Twice (is_closed ts) (ends_of ts) ts p
tight-twice_there p o [] h = omega arith
tight-twice_there p o (a ∷ qs) h = by_closed (is_same a (last_from a qs)) refl
  where
    by_closed : (c : Bool) → is_same a (last_from a qs) ≡ c → Twice c (if c then [] else a ∷ last_from a qs ∷ []) (a ∷ qs) p
    by_closed true k = closed-twice p o a qs h (same-is a (last_from a qs) k)
    by_closed false k = open-twice p o a qs h k

joints-twice_there : (ps : List Coordinates) (p : Point) → IsPoint p → 2 * joints_at ps p + bit (is_among (ends_of ps) p) ≤ edges_at ps p
joints-twice_there ps p o =
    let P : Bool → Type 0 = λ c. Twice c (ends_of ps) (tight ps) p in
    let Q : List Coordinates → Type 0 = λ ends. Twice (is_closed (tight ps)) ends (tight ps) p in
    subst P (tight-closed ps) (subst Q (tight-ends ps) (tight-twice_there p o (tight ps) (tight-IsTight ps)))

-- the two ends differ
ends-once : (ps : List Coordinates) (p : Point) → IsPoint p → ends_at ps p ≡ bit (is_among (ends_of ps) p)
ends-once [] p o = refl
ends-once (a ∷ qs) p o = by_closed (is_same a (last_from a qs)) refl
  where
    of_two : (b : Coordinates) → is_same a b ≡ false → count_by (is_at p) (a ∷ b ∷ []) ≡ bit (is_at p a || (is_at p b || false))
    of_two b k =
        count_by-cons (is_at p) a (b ∷ []) ∙ ap (λ n. bit (is_at p a) + n) (count_by-cons (is_at p) b [])
        ∙ once (is_at p a) (is_at p b) (λ s t. false≢true (sym k ∙ both-same a b p o s t))
      where
        once : (s t : Bool) → (s ≡ true → t ≡ true → ⊥) → bit s + (bit t + 0) ≡ bit (s || (t || false))
        once true true n = absurd (n refl refl)
        once true false n = omega arith
        once false true n = omega arith
        once false false n = omega arith

    by_closed : (c : Bool) → is_same a (last_from a qs) ≡ c →
        count_by (is_at p) (if c then [] else a ∷ last_from a qs ∷ []) ≡ bit (is_among (if c then [] else a ∷ last_from a qs ∷ []) p)
    by_closed true k = refl
    by_closed false k = of_two (last_from a qs) k

-- ---- a line as a pass
abbrev pass_of : Point → List Coordinates → Pass
pass_of p ps = record { strands = edges_at ps p - joints_at ps p; ends = is_among (ends_of ps) p }

abbrev passes : Point → List (List Coordinates) → List Pass
passes p lines = map (pass_of p) lines

are-passes : (p : Point) → IsPoint p → (lines : List (List Coordinates)) → ArePasses (passes p lines)
are-passes p o [] = tt
are-passes p o (ps ∷ lines) = (by (edges_at ps p) (joints_at ps p) (bit (is_among (ends_of ps) p)) (joints-twice_there ps p o), are-passes p o lines)
  where
    by : (e j b : ℕ) → 2 * j + b ≤ e → b ≤ e - j
    by e j b h = omega arith

-- ---- the tests of lines are those of passes
two-strands : (e j b : ℕ) → 2 * j + b ≤ e → nat_le (j + 2) e ≡ nat_le 2 (e - j)
two-strands e j b h =
    same_tests _ _
    (λ t. le-test 2 (e - j) (omega (arith, h, test-le (j + 2) e t)))
    (λ t. le-test (j + 2) e (omega (arith, h, test-le 2 (e - j) t)))

one-strand : (e j b : ℕ) → 2 * j + b ≤ e → nat_le 1 e ≡ nat_le 1 (e - j)
one-strand e j b h =
    same_tests _ _
    (λ t. le-test 1 (e - j) (omega (arith, h, test-le 1 e t)))
    (λ t. le-test 1 e (omega (arith, h, test-le 1 (e - j) t)))

meets-twice : (p : Point) → IsPoint p → (lines : List (List Coordinates)) → list_any (λ ps. meets_itself ps p) lines ≡ list_any passes_twice (passes p lines)
meets-twice p o [] = refl
meets-twice p o (ps ∷ lines) =
    ap (λ t. t || list_any (λ qs. meets_itself qs p) lines) (strands_decide ps p o ∙ two-strands (edges_at ps p) (joints_at ps p) (bit (is_among (ends_of ps) p)) (joints-twice_there ps p o))
    ∙ ap (λ t. passes_twice (pass_of p ps) || t) (meets-twice p o lines)

list_any-links : (p : Point) (es : List Edge) → list_any (λ e. on_edge e p) es ≡ list_any (λ l. l.on) (links p es)
list_any-links p [] = refl
list_any-links p (e ∷ es) = ap (λ t. on_edge e p || t) (list_any-links p es)

on_line-there : (p : Point) → IsPoint p → (ps : List Coordinates) → on_line ps p ≡ is_there (pass_of p ps)
on_line-there p o ps =
    list_any-links p (edges_of ps)
    ∙ any-count (links p (edges_of ps))
    ∙ ap (nat_le 1) (on_count-edges p (edges_of ps))
    ∙ one-strand (edges_at ps p) (joints_at ps p) (bit (is_among (ends_of ps) p)) (joints-twice_there ps p o)

-- two lines are there, and don't both end there
abbrev two_there : Point → List Coordinates → List Coordinates → Bool
two_there p r s = on_line r p && on_line s p && not (is_among (ends_of r) p && is_among (ends_of s) p)

two-loose : (p : Point) → IsPoint p → (r s : List Coordinates) → two_there p r s ≡ meet_loose (pass_of p r) (pass_of p s)
two-loose p o r s =
    ap (λ t. t && on_line s p && not (is_among (ends_of r) p && is_among (ends_of s) p)) (on_line-there p o r)
    ∙ ap (λ t. is_there (pass_of p r) && t && not (is_among (ends_of r) p && is_among (ends_of s) p)) (on_line-there p o s)

any-map : {X Y : Type 0} (s : X → Bool) (t : Y → Bool) (f : X → Y) → ((x : X) → s x ≡ t (f x)) → (xs : List X) → list_any s xs ≡ list_any t (map f xs)
any-map s t f h [] = refl
any-map s t f h (x ∷ xs) = ap (λ b. b || list_any s xs) (h x) ∙ ap (λ b. t (f x) || b) (any-map s t f h xs)

two-met : (p : Point) → IsPoint p → (lines : List (List Coordinates)) → on_two_lines lines p ≡ any_two meet_loose (passes p lines)
two-met p o [] = refl
two-met p o (ps ∷ lines) =
    ap (λ t. t || on_two_lines lines p) (any-map (two_there p ps) (meet_loose (pass_of p ps)) (pass_of p) (two-loose p o ps) lines)
    ∙ ap (λ t. list_any (meet_loose (pass_of p ps)) (passes p lines) || t) (two-met p o lines)

-- ---- the counts of all lines are those of their passes
record Counted (lines : List (List Coordinates)) (p : Point) : Type 0 where
  strands : all_strands (passes p lines) + all_joints_at lines p ≡ all_edges_at lines p
  ends : all_ends (passes p lines) ≡ all_ends_at lines p

counted : (p : Point) → IsPoint p → (lines : List (List Coordinates)) → Counted lines p
counted p o [] = record { strands = refl; ends = refl }
counted p o (ps ∷ lines) = with_line (counted p o lines)
  where
    by : (s j e j' e' : ℕ) → s + j ≡ e → 2 * j' ≤ e' → (e' - j' + s) + (j' + j) ≡ e' + e
    by s j e j' e' h k = omega arith

    with_line : Counted lines p → Counted (ps ∷ lines) p
    with_line h =
        record {
          strands =
              ap (λ n. edges_at ps p - joints_at ps p + all_strands (passes p lines) + n) (sum_by-cons (λ qs. joints_at qs p) ps lines)
              ∙ by (all_strands (passes p lines)) (all_joints_at lines p) (all_edges_at lines p) (joints_at ps p) (edges_at ps p) h.strands
              (omega (arith, joints-twice_there ps p o))
              ∙ sym (sum_by-cons (λ qs. edges_at qs p) ps lines);
          ends =
              ap (λ n. n + all_ends (passes p lines)) (sym (ends-once ps p o))
              ∙ ap (λ n. ends_at ps p + n) h.ends
              ∙ sym (sum_by-cons (λ qs. ends_at qs p) ps lines);
        }

by_counts : (s b e j n : ℕ) → s + j ≡ e → b ≡ n → (nat_le 2 s && nat_lt b s) ≡ is_tangled_by e j n
by_counts s b e j n h k =
    ap (λ t. t && nat_lt b s) (same_tests (nat_le 2 s) (nat_le (j + 2) e) (λ t. le-test (j + 2) e (omega (arith, h, test-le 2 s t))) (λ t. le-test 2 s (omega (arith, h, test-le (j + 2) e t))))
    ∙ ap (λ t. nat_le (j + 2) e && t)
    (same_tests (nat_lt b s) (nat_lt (j + n) e) (λ t. lt-test (j + n) e (omega (arith, h, k, test-lt b s t))) (λ t. lt-test b s (omega (arith, h, k, test-lt (j + n) e t))))

pub tangles_decide : TanglesDecide
tangles_decide lines p o =
    let c = counted p o lines in
    ap (λ t. t || on_two_lines lines p) (meets-twice p o lines)
    ∙ ap (λ t. list_any passes_twice (passes p lines) || t) (two-met p o lines)
    ∙ tangles-counted (passes p lines) (are-passes p o lines)
    ∙ by_counts (all_strands (passes p lines)) (all_ends (passes p lines)) (all_edges_at lines p) (all_joints_at lines p) (all_ends_at lines p) c.strands c.ends
