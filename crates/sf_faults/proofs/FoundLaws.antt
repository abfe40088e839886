-- A geometry has its first fault somewhere: where no candidate is at fault, no rule with the fault applies.
use Rattle.std.proofs.Common.{◌≡◌, refl, ap, sym, ◌∙◌, subst, ℕ, ◌+◌, suc, arith, Bool, true, false, ◌&&◌, ◌||◌, not, List, [], ◌∷◌, ◌++◌, length, map, inl, inr}
use Rattle.std.specs.Prelude.{IsTrue, None, nat_lt}
use Rattle.std.specs.List.{AllByRecursion, enumerate_from, flat_map, list_any, zip}
use Rattle.std.proofs.lemmas.Bool.{and_from, and_parts, false≢true, or_cases}
use Rattle.sf_slabs.proofs.CallerLemmas.{each-append, each-map, each-parts}
use Rattle.sf_grid.specs.Plane.{Coordinates, IsPoint, Point, same_point}
use Rattle.sf_grid.specs.Edge.{Edge as Line}
use Rattle.std.proofs.lemmas.List.{map-append}
use Rattle.sf_plane.proofs.CoverLaws.{in_append_left, in_append_right}
use Rattle.sf_plane.proofs.PlaceLaws.{IsIn}
use Rattle.sf_geometry.specs.declared.geometry.Geometry.{Geometry}
use Rattle.sf_geometry.specs.Lists.{edges_of, is_closed, tight}
use Rattle.sf_geometry.specs.Parts.{joined, lines_of, polygons_of, rings_of}
use Rattle.sf_geometry.specs.PointSets.{in_polygon, in_ring, within_ring}
use Rattle.sf_valid_rules.specs.declared.fault.Fault.{Fault}
use Rattle.sf_valid_rules.specs.declared.fault.Fault.TheVariants.{ShortLine, OpenRing, ShortRing, RingNotSimple, RingsMeet, HoleOutside, HolesNested, PolygonsOverlap}
use Rattle.sf_valid_rules.specs.Conditions.{Applies, AtPoint, AtTwoPoints, Plain, any_two}
use Rattle.sf_valid_rules.specs.Rules.{Rule, line_rules, polygon_rules, ring_rules, rules_of}
use Rattle.sf_valid_rules.specs.Shapes.{in_hole_outside, in_two_holes, in_two_polygons, is_joint, meets_itself, on_both, share_piece}
use Rattle.sf_valid_rules.specs.Validity.{IsFirstOf, IsFirstFault}
use Rattle.sf_valid_rules.proofs.MemberLaws.{any-one, each-from_in, each-in, each-of_flat, each-of_map, each-to_flat}
use Rattle.sf_faults.specs.declared.place.Spot.{Spot}
use Rattle.sf_faults.specs.Candidates.{Candidate, candidates, candidates_among, crossings_of, do_edges_meet, edge_outside, edges_between, edges_meeting, edges_shared, hole_outside, holes_nested, nested_in, open_ring, outside_at, outside_in, parts_overlap, share_two, shared_by, short_line, short_ring}
use Rattle.sf_faults.specs.Orders.{edge_numbers, numbered, pairs, pairs_after, placed_from, placed_in, placed_rings, spot, with_last, written_edges}
use Rattle.sf_faults.specs.Places.{IsPlaceOf, NoneIsAtFault}
use Rattle.sf_faults.proofs.PlaceLaws.{none-parts}
use Rattle.sf_faults.proofs.WrittenLaws.{numbers-counted}

-- ---- members of lists that others are made of
each-unnumbered : {A : Type 0} (P : A → Type 0) (k : ℕ) (xs : List A) → AllByRecursion (λ (e : ℕ × A). P e.1) (enumerate_from k xs) → AllByRecursion P xs
each-unnumbered P k [] h = tt
each-unnumbered P k (x ∷ xs) h = (h.0, each-unnumbered P (k + 1) xs h.1)

each-unzip : {A : Type 0} (P : A → Type 0) (ns : List ℕ) (xs : List A) → length ns ≡ length xs → AllByRecursion (λ (e : ℕ × A). P e.1) (zip ns xs) → AllByRecursion P xs
each-unzip P [] [] e h = tt
each-unzip P [] (x ∷ xs) e h = absurd (omega (arith, e))
each-unzip P (n ∷ ns) [] e h = tt
each-unzip P (n ∷ ns) (x ∷ xs) e h = (h.0, each-unzip P ns xs (omega (arith, e)) h.1)

each-written : (P : Line → Type 0) (ps : List Coordinates) → AllByRecursion (λ (e : ℕ × Line). P e.1) (written_edges ps) → AllByRecursion P (edges_of ps)
each-written P ps h = each-unzip P (edge_numbers ps) (edges_of ps) (numbers-counted ps) h

each-unplaced : (P : List Coordinates → Type 0) (n : ℕ) (polygons : List (List (List Coordinates))) → AllByRecursion (λ (r : Spot × List Coordinates). P r.1) (placed_from n polygons) →
    AllByRecursion P (joined polygons)
each-unplaced P n [] h = tt
each-unplaced P n (rings ∷ polygons) h =
    let parts = each-parts (λ (r : Spot × List Coordinates). P r.1) (placed_in n rings) (placed_from (n + 1) polygons) h in
    each-append P rings (joined polygons)
    (each-unnumbered P 0 rings (each-of_map (λ (r : Spot × List Coordinates). P r.1) (λ (ring : ℕ × List Coordinates). (spot n ring.0, ring.1)) (numbered rings) parts.0))
    (each-unplaced P (n + 1) polygons parts.1)

-- ---- tests of two members
-- none of the pairs passes a test
abbrev NoPairPasses : {X : Type 0} → (X → X → Bool) → List (X × X) → Type 0
NoPairPasses test ps = AllByRecursion (λ e. ¬ (IsTrue (test e.0 e.1))) ps

none-one : {X : Type 0} (test : X → X → Bool) (before xs : List X) (b : X) → NoPairPasses test (pairs_after before xs) → IsIn before b → list_any (test b) xs ≡ true → ⊥
none-one test before [] b h i t = false≢true t
none-one {X} test before (x ∷ xs) b h i t =
    let parts = each-parts (λ (e : X × X). ¬ (IsTrue (test e.0 e.1))) (with_last before x) (pairs_after (before ++ x ∷ []) xs) h in
    elim (or_cases (test b x) (list_any (test b) xs) t) [
      | inl y ↦ each-in (λ e. ¬ (IsTrue (test e x))) before (each-of_map (λ (e : X × X). ¬ (IsTrue (test e.0 e.1))) (λ e. (e, x)) before parts.0) b i y
      | inr y ↦ none-one test (before ++ x ∷ []) xs b parts.1 (in_append_left before (x ∷ []) b i) y
    ]

none-two : {X : Type 0} (test : X → X → Bool) (before xs : List X) → NoPairPasses test (pairs_after before xs) → any_two test xs ≡ true → ⊥
none-two test before [] h t = false≢true t
none-two {X} test before (x ∷ xs) h t =
    let parts = each-parts (λ (e : X × X). ¬ (IsTrue (test e.0 e.1))) (with_last before x) (pairs_after (before ++ x ∷ []) xs) h in
    elim (or_cases (list_any (test x) xs) (any_two test xs) t) [
      | inl y ↦ none-one test (before ++ x ∷ []) xs x parts.1 (in_append_right before (x ∷ []) x (inl refl)) y
      | inr y ↦ none-two test (before ++ x ∷ []) xs parts.1 y
    ]

any-mapped : {X Y : Type 0} (g : X → Y) (test : Y → Bool) (xs : List X) → list_any test (map g xs) ≡ list_any (λ x. test (g x)) xs
any-mapped g test [] = refl
any-mapped g test (x ∷ xs) = ap (λ t. test (g x) || t) (any-mapped g test xs)

two-mapped : {X Y : Type 0} (g : X → Y) (test : Y → Y → Bool) (xs : List X) → any_two test (map g xs) ≡ any_two (λ x y. test (g x) (g y)) xs
two-mapped g test [] = refl
two-mapped g test (x ∷ xs) =
    ap (λ t. t || any_two test (map g xs)) (any-mapped g (test (g x)) xs) ∙ ap (λ t. list_any (λ y. test (g x) (g y)) xs || t) (two-mapped g test xs)

-- the members without their numbers
unnumbered : {X : Type 0} (k : ℕ) (xs : List X) → map (λ (e : ℕ × X). e.1) (enumerate_from k xs) ≡ xs
unnumbered k [] = refl
unnumbered k (x ∷ xs) = ap (λ ys. x ∷ ys) (unnumbered (k + 1) xs)

two-unnumbered : {X : Type 0} (test : X → X → Bool) (k : ℕ) (xs : List X) → NoPairPasses (λ (e f : ℕ × X). test e.1 f.1) (pairs (enumerate_from k xs)) → any_two test xs ≡ true → ⊥
two-unnumbered {X} test k xs h t =
    none-two (λ (e f : ℕ × X). test e.1 f.1) [] (enumerate_from k xs) h
    (sym (two-mapped (λ (e : ℕ × X). e.1) test (enumerate_from k xs)) ∙ ap (any_two test) (unnumbered k xs) ∙ t)

-- the edges with their places alone
without_numbers : (k : ℕ) (ns : List ℕ) (es : List Line) → length ns ≡ length es →
    map (λ (e : ℕ × (ℕ × Line)). (e.0, e.1.1)) (enumerate_from k (zip ns es)) ≡ enumerate_from k es
without_numbers k [] [] h = refl
without_numbers k [] (e ∷ es) h = absurd (omega (arith, h))
without_numbers k (n ∷ ns) [] h = absurd (omega (arith, h))
without_numbers k (n ∷ ns) (e ∷ es) h = ap (λ ys. (k, e) ∷ ys) (without_numbers (k + 1) ns es (omega (arith, h)))

-- ---- what no candidate says of each fault
lines-fine : (lines : List (List Coordinates)) → NoneIsAtFault (map short_line (numbered lines)) → AllByRecursion (λ ps. ¬ (Applies (Plain (nat_lt (length (tight ps)) 2)))) lines
lines-fine lines n =
    each-unnumbered (λ ps. ¬ (Applies (Plain (nat_lt (length (tight ps)) 2)))) 0 lines (each-of_map (λ (c : Candidate). ¬ (Applies c.condition)) short_line (numbered lines) n)

open-fine : (polygons : List (List (List Coordinates))) → NoneIsAtFault (map open_ring (placed_rings polygons)) → AllByRecursion (λ ring. ¬ (Applies (Plain (not (is_closed ring))))) (joined polygons)
open-fine polygons n =
    each-unplaced (λ ring. ¬ (Applies (Plain (not (is_closed ring))))) 0 polygons (each-of_map (λ (c : Candidate). ¬ (Applies c.condition)) open_ring (placed_rings polygons) n)

short-fine : (polygons : List (List (List Coordinates))) → NoneIsAtFault (map short_ring (placed_rings polygons)) → AllByRecursion (λ ring. ¬ (Applies (Plain (nat_lt (length (tight ring)) 4)))) (joined polygons)
short-fine polygons n =
    each-unplaced (λ ring. ¬ (Applies (Plain (nat_lt (length (tight ring)) 4)))) 0 polygons (each-of_map (λ (c : Candidate). ¬ (Applies c.condition)) short_ring (placed_rings polygons) n)

crossing-fine : (ring : Spot × List Coordinates) → NoneIsAtFault (crossings_of ring) → ¬ (Applies (AtPoint (meets_itself ring.1)))
crossing-fine ring n = λ a.
    let ps = ring.1 in
    let place : ℕ × (ℕ × Line) → ℕ × Line = λ e. (e.0, e.1.1) in
    let test : ℕ × Line → ℕ × Line → Bool = λ e f. on_both e.1 f.1 a.0 && not (is_joint (is_closed ps) (length (edges_of ps)) e f a.0) in
    none-two (λ (e f : ℕ × (ℕ × Line)). do_edges_meet ps e f a.0) [] (numbered (written_edges ps))
    (each-map (λ (e : (ℕ × (ℕ × Line)) × (ℕ × (ℕ × Line))). ¬ (Applies (edges_meeting ring e).condition)) (λ e. ¬ (IsTrue (do_edges_meet ps e.0 e.1 a.0))) (pairs (numbered (written_edges ps)))
    (λ e m t. m (a.0, a.1, t)) (each-of_map (λ (c : Candidate). ¬ (Applies c.condition)) (edges_meeting ring) (pairs (numbered (written_edges ps))) n))
    (sym (two-mapped place test (numbered (written_edges ps))) ∙ ap (any_two test) (without_numbers 0 (edge_numbers ps) (edges_of ps) (numbers-counted ps)) ∙ a.2)

simple-fine : (polygons : List (List (List Coordinates))) → NoneIsAtFault (flat_map crossings_of (placed_rings polygons)) → AllByRecursion (λ ring. ¬ (Applies (AtPoint (meets_itself ring)))) (joined polygons)
simple-fine polygons n =
    each-unplaced (λ ring. ¬ (Applies (AtPoint (meets_itself ring)))) 0 polygons
    (each-map (λ (r : Spot × List Coordinates). NoneIsAtFault (crossings_of r)) (λ r. ¬ (Applies (AtPoint (meets_itself r.1)))) (placed_rings polygons) crossing-fine
    (each-of_flat (λ (c : Candidate). ¬ (Applies c.condition)) crossings_of (placed_rings polygons) n))

-- two rings
between-fine : (r s : Spot × List Coordinates) → NoneIsAtFault (edges_between r s) → (p q : Point) → IsPoint p → IsPoint q → share_piece r.1 s.1 p q ≡ true → ⊥
between-fine r s n p q i j t =
    let parts = and_parts (not (same_point p q)) (list_any (λ e. list_any (λ f. on_both e f p && on_both e f q) (edges_of s.1)) (edges_of r.1)) t in
    let e = any-one (λ e. list_any (λ f. on_both e f p && on_both e f q) (edges_of s.1)) (edges_of r.1) parts.1 in
    let f = any-one (λ f. on_both e.one f p && on_both e.one f q) (edges_of s.1) e.passes in
    let rows : AllByRecursion (λ (g : ℕ × Line). NoneIsAtFault (map (λ d. edges_shared r.0 s.0 d g) (written_edges r.1))) (written_edges s.1) =
    each-of_flat (λ (c : Candidate). ¬ (Applies c.condition)) (λ g. map (λ d. edges_shared r.0 s.0 d g) (written_edges r.1)) (written_edges s.1) n in
    let Alone : Line → Line → Type 0 = λ d g. ¬ (Applies (AtTwoPoints (share_two d g))) in
    let cells : AllByRecursion (λ g. AllByRecursion (λ d. Alone d g) (edges_of r.1)) (edges_of s.1) =
    each-written (λ g. AllByRecursion (λ d. Alone d g) (edges_of r.1)) s.1
    (each-map (λ (g : ℕ × Line). NoneIsAtFault (map (λ d. edges_shared r.0 s.0 d g) (written_edges r.1))) (λ g. AllByRecursion (λ d. Alone d g.1) (edges_of r.1)) (written_edges s.1)
    (λ g m. each-written (λ d. Alone d g.1) r.1 (each-of_map (λ (c : Candidate). ¬ (Applies c.condition)) (λ d. edges_shared r.0 s.0 d g) (written_edges r.1) m)) rows) in
    each-in (λ d. Alone d f.one) (edges_of r.1) (each-in (λ g. AllByRecursion (λ d. Alone d g) (edges_of r.1)) (edges_of s.1) cells f.one f.among) e.one e.among
    (p, q, i, j, and_from (not (same_point p q)) (on_both e.one f.one p && on_both e.one f.one q) parts.0 f.passes)

placed-rings : (n : ℕ) (polygons : List (List (List Coordinates))) → map (λ (r : Spot × List Coordinates). r.1) (placed_from n polygons) ≡ joined polygons
placed-rings n [] = refl
placed-rings n (rings ∷ polygons) =
    map-append (λ (r : Spot × List Coordinates). r.1) (placed_in n rings) (placed_from (n + 1) polygons)
    ∙ ap (λ rs. rs ++ map (λ (r : Spot × List Coordinates). r.1) (placed_from (n + 1) polygons)) (of_part n 0 rings)
    ∙ ap (λ rs. rings ++ rs) (placed-rings (n + 1) polygons)
  where
    of_part : (m k : ℕ) (rs : List (List Coordinates)) → map (λ (r : Spot × List Coordinates). r.1) (map (λ (ring : ℕ × List Coordinates). (spot m ring.0, ring.1)) (enumerate_from k rs)) ≡ rs
    of_part m k [] = refl
    of_part m k (r ∷ rs) = ap (λ ys. r ∷ ys) (of_part m (k + 1) rs)

sharing-fine : (polygons : List (List (List Coordinates))) → NoneIsAtFault (flat_map shared_by (pairs (placed_rings polygons))) →
    ¬ (Applies (AtTwoPoints (λ p q. any_two (λ r s. share_piece r s p q) (joined polygons))))
sharing-fine polygons n = λ a.
    let placed = placed_rings polygons in
    let test : List Coordinates → List Coordinates → Bool = λ r s. share_piece r s a.0 a.1 in
    none-two (λ (r s : Spot × List Coordinates). test r.1 s.1) [] placed
    (each-map (λ (e : (Spot × List Coordinates) × (Spot × List Coordinates)). NoneIsAtFault (shared_by e)) (λ e. ¬ (IsTrue (test e.0.1 e.1.1))) (pairs placed)
    (λ e m t. between-fine e.0 e.1 m a.0 a.1 a.2 a.3 t) (each-of_flat (λ (c : Candidate). ¬ (Applies c.condition)) shared_by (pairs placed) n))
    (sym (two-mapped (λ (r : Spot × List Coordinates). r.1) test placed) ∙ ap (any_two test) (placed-rings 0 polygons) ∙ a.4)

-- parts
parts-fine : (f : ℕ × List (List Coordinates) → List Candidate) (P : List (List Coordinates) → Type 0) (polygons : List (List (List Coordinates))) →
    ((n : ℕ) (rings : List (List Coordinates)) → NoneIsAtFault (f (n, rings)) → P rings) → NoneIsAtFault (flat_map f (numbered polygons)) → AllByRecursion P polygons
parts-fine f P polygons fine n =
    each-unnumbered P 0 polygons
    (each-map (λ (e : ℕ × List (List Coordinates)). NoneIsAtFault (f e)) (λ e. P e.1) (numbered polygons) (λ e m. fine e.0 e.1 m)
    (each-of_flat (λ (c : Candidate). ¬ (Applies c.condition)) f (numbered polygons) n))

outside-fine : (n : ℕ) (rings : List (List Coordinates)) → NoneIsAtFault (outside_in (n, rings)) → ¬ (Applies (AtPoint (in_hole_outside rings)))
outside-fine n [] m = λ a. false≢true a.2
outside-fine n (shell ∷ holes) m = λ a.
    let parts = and_parts (list_any (λ hole. within_ring hole a.0) holes) (not (within_ring shell a.0)) a.2 in
    let hole = any-one (λ hole. within_ring hole a.0) holes parts.0 in
    let P : List Coordinates → Type 0 = λ h. ¬ (Applies (AtPoint (λ p. within_ring h p && not (within_ring shell p)))) in
    let all : AllByRecursion P holes =
    each-unnumbered P 1 holes
    (each-map (λ (e : ℕ × List Coordinates). NoneIsAtFault (outside_at n shell e)) (λ e. P e.1) (enumerate_from 1 holes)
    (λ e k. (none-parts (map (edge_outside shell (spot n e.0)) (written_edges e.1)) (hole_outside shell (spot n e.0) e.1 ∷ []) k).1.0)
    (each-of_flat (λ (c : Candidate). ¬ (Applies c.condition)) (outside_at n shell) (enumerate_from 1 holes) m)) in
    each-in P holes all hole.one hole.among (a.0, a.1, and_from (within_ring hole.one a.0) (not (within_ring shell a.0)) hole.passes parts.1)

nested-fine : (n : ℕ) (rings : List (List Coordinates)) → NoneIsAtFault (nested_in (n, rings)) → ¬ (Applies (AtPoint (in_two_holes rings)))
nested-fine n [] m = λ a. false≢true a.2
nested-fine n (shell ∷ holes) m = λ a.
    two-unnumbered (λ hole other. in_ring hole a.0 && in_ring other a.0) 1 holes
    (each-map (λ (e : (ℕ × List Coordinates) × (ℕ × List Coordinates)). ¬ (Applies (holes_nested n e).condition)) (λ e. ¬ (IsTrue (in_ring e.0.1 a.0 && in_ring e.1.1 a.0))) (pairs (enumerate_from 1 holes))
    (λ e k t. k (a.0, a.1, t)) (each-of_map (λ (c : Candidate). ¬ (Applies c.condition)) (holes_nested n) (pairs (enumerate_from 1 holes)) m))
    a.2

overlap-fine : (polygons : List (List (List Coordinates))) → NoneIsAtFault (map parts_overlap (pairs (numbered polygons))) → ¬ (Applies (AtPoint (in_two_polygons polygons)))
overlap-fine polygons m = λ a.
    two-unnumbered (λ rings others. in_polygon rings a.0 && in_polygon others a.0) 0 polygons
    (each-map (λ (e : (ℕ × List (List Coordinates)) × (ℕ × List (List Coordinates))). ¬ (Applies (parts_overlap e).condition)) (λ e. ¬ (IsTrue (in_polygon e.0.1 a.0 && in_polygon e.1.1 a.0)))
    (pairs (numbered polygons))
    (λ e k t. k (a.0, a.1, t)) (each-of_map (λ (c : Candidate). ¬ (Applies c.condition)) parts_overlap (pairs (numbered polygons)) m))
    a.2

-- a test of one of the polygons
one-fine : (test : List (List Coordinates) → Point → Bool) (polygons : List (List (List Coordinates))) → AllByRecursion (λ rings. ¬ (Applies (AtPoint (test rings)))) polygons →
    ¬ (Applies (AtPoint (λ p. list_any (λ rings. test rings p) polygons)))
one-fine test polygons h = λ a.
    let rings = any-one (λ rings. test rings a.0) polygons a.2 in
    each-in (λ rs. ¬ (Applies (AtPoint (test rs)))) polygons h rings.one rings.among (a.0, a.1, rings.passes)

-- ---- the rules with a fault
abbrev Without : Fault → Rule → Type 0
Without fault rule = rule.fault ≡ fault → ¬ (Applies rule.condition)

none-with : (rules : List Rule) (fault : Fault) → AllByRecursion (Without fault) rules → IsFirstOf rules fault → ⊥
none-with [] fault h f = f
none-with (rule ∷ rules) fault h (inl f) = h.0 (sym f.1) f.0
none-with (rule ∷ rules) fault h (inr f) = none-with rules fault h.1 f.1

all-without : (lines : List (List Coordinates)) (polygons : List (List (List Coordinates))) (fault : Fault) → NoneIsAtFault (candidates_among lines polygons fault) →
    AllByRecursion (Without fault) (flat_map line_rules lines ++ flat_map ring_rules (joined polygons) ++ polygon_rules polygons)
all-without lines polygons fault n =
    let rings = joined polygons in
    let at : (other : Fault) → other ≡ fault → NoneIsAtFault (candidates_among lines polygons other) =
    λ other e. subst (λ f. NoneIsAtFault (candidates_among lines polygons f)) (sym e) n in
    each-append (Without fault) (flat_map line_rules lines ++ flat_map ring_rules rings) (polygon_rules polygons)
    (each-append (Without fault) (flat_map line_rules lines) (flat_map ring_rules rings)
    (each-to_flat (Without fault) line_rules lines
    (each-from_in (λ ps. AllByRecursion (Without fault) (line_rules ps)) lines
    (λ ps i. (λ e. each-in (λ ps. ¬ (Applies (Plain (nat_lt (length (tight ps)) 2)))) lines (lines-fine lines (at ShortLine e)) ps i, tt))))
    (each-to_flat (Without fault) ring_rules rings
    (each-from_in (λ ring. AllByRecursion (Without fault) (ring_rules ring)) rings
    (λ ring i. (
      λ e. each-in (λ r. ¬ (Applies (Plain (not (is_closed r))))) rings (open-fine polygons (at OpenRing e)) ring i,
      (
        λ e. each-in (λ r. ¬ (Applies (Plain (nat_lt (length (tight r)) 4)))) rings (short-fine polygons (at ShortRing e)) ring i,
        (λ e. each-in (λ r. ¬ (Applies (AtPoint (meets_itself r)))) rings (simple-fine polygons (at RingNotSimple e)) ring i, tt),
      ),
    ))))) (
      λ e. sharing-fine polygons (at RingsMeet e),
      (
        λ e. one-fine in_hole_outside polygons (parts-fine outside_in (λ rings. ¬ (Applies (AtPoint (in_hole_outside rings)))) polygons outside-fine (at HoleOutside e)),
        (
          λ e. one-fine in_two_holes polygons (parts-fine nested_in (λ rings. ¬ (Applies (AtPoint (in_two_holes rings)))) polygons nested-fine (at HolesNested e)),
          (λ e. overlap-fine polygons (at PolygonsOverlap e), tt),
        ),
      ),
    )

pub first-somewhere : (geometry : Geometry) (fault : Fault) → IsFirstFault geometry fault → ¬ (IsPlaceOf geometry fault None)
first-somewhere geometry fault f = λ n. none-with (rules_of geometry) fault (all-without (lines_of geometry) (polygons_of geometry) fault n) f
