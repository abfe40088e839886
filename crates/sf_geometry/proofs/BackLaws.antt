-- A change of a vertex and the change that takes it back.
use Rattle.std.proofs.Common.{◌≡◌, ℕ, zero, suc, ◌-◌, ◌<◌, ◌≤◌, Bool, true, false, List, [], ◌∷◌, ◌++◌, length, take, slice_set, refl, sym, ap, ◌∙◌, subst, arith}
use Rattle.std.specs.Prelude.{Option, None, Some, Result, Ok, insert, remove, nat_le, nat_lt, option_and_then, option_map, slice_get, if◌then◌else◌}
use Rattle.std.specs.List.{AllByRecursion}
use borrow.Author.Tests.{leb-true, ltb-true}
use Rattle.sf_grid.specs.Plane.{Coordinates}
use Rattle.sf_geometry.specs.declared.geometry.Geometry.{Geometry}
use Rattle.sf_geometry.specs.declared.geometry.Geometry.TheVariants.{Point, LineString, Polygon, MultiPoint, MultiLineString, MultiPolygon}
use Rattle.sf_geometry.specs.declared.refusal.Refusal.{Refusal}
use Rattle.sf_geometry.specs.Parts.{joined, rings_of}
use Rattle.sf_geometry.specs.Size.{IsSized, has_empty_list, point_count, points_max}
use Rattle.std.proofs.lemmas.List.{length-set}
use Rattle.std.proofs.lemmas.List.Edits.{length-insert}
use Rattle.sf_geometry.specs.Vertices.{Change, change_at, change_ring, changed, exchange, insert_vertex, insertion, move_vertex, one_point, outcome, removal, remove_vertex, ring_of, ring_vertices, vertex_of, vertices_of}

some_same : {X : Type 0} {a b : X} → Some a ≡ Some b → a ≡ b
some_same e = cc

-- ---- rings and their vertices
-- the ring is that of its vertices
abbrev pub IsRing : List Coordinates → Type 0
IsRing ring = ring_of (ring_vertices ring) ≡ ring

abbrev pub HasRings : Geometry → Type 0
HasRings geometry = AllByRecursion IsRing (rings_of geometry)

without_last : {X : Type 0} (xs : List X) (y : X) → take (length (xs ++ y ∷ []) - 1) (xs ++ y ∷ []) ≡ xs
without_last [] y = refl
without_last (x ∷ []) y = refl
without_last (x ∷ z ∷ xs) y = ap (λ n. take n (x ∷ z ∷ xs ++ y ∷ [])) (longer (length (xs ++ y ∷ []))) ∙ ap (λ zs. x ∷ zs) (without_last (z ∷ xs) y)
  where
    longer : (n : ℕ) → suc (suc n) - 1 ≡ suc (suc n - 1)
    longer n = omega arith

pub vertices-ring : (ps : List Coordinates) → ring_vertices (ring_of ps) ≡ ps
vertices-ring [] = refl
vertices-ring (p ∷ ps) = without_last (p ∷ ps) p

-- ---- back at one level
-- f leads from x to y, and h from there back
abbrev Backs : {X : Type 0} → (X → Option X) → (X → Option X) → X → Type 0
Backs {X} f h x = (y : X) → f x ≡ Some y → h y ≡ Some x

at-back : {X : Type 0} (f h : X → Option X) (n : ℕ) (xs ys : List X) → ((x : X) → slice_get xs n ≡ Some x → Backs f h x)
    → change_at n f xs ≡ Some ys → change_at n h ys ≡ Some xs
at-back f h n [] ys back e = absurd cc
at-back {X} f h zero (x ∷ xs) ys back e = by (f x) refl e
  where
    by : (found : Option X) → f x ≡ found → option_map (slice_set (x ∷ xs) zero) found ≡ Some ys → change_at zero h ys ≡ Some (x ∷ xs)
    by None did e = absurd cc
    by (Some y) did e =
        subst (λ zs. change_at zero h zs ≡ Some (x ∷ xs)) (some_same e) (ap (option_map (slice_set (y ∷ xs) zero)) (back x refl y did))
at-back {X} f h (suc n) (x ∷ xs) ys back e = by (option_and_then f (slice_get xs n)) refl e (λ zs. at-back f h n xs zs back)
  where
    by : (found : Option X) → option_and_then f (slice_get xs n) ≡ found → option_map (slice_set (x ∷ xs) (suc n)) found ≡ Some ys
        → ((zs : List X) → change_at n f xs ≡ Some zs → change_at n h zs ≡ Some xs) → change_at (suc n) h ys ≡ Some (x ∷ xs)
    by None did e shorter = absurd cc
    by (Some y) did e shorter =
        subst (λ zs. change_at (suc n) h zs ≡ Some (x ∷ xs)) (some_same e)
        (later (option_and_then h (slice_get (slice_set xs n y) n)) (shorter (slice_set xs n y) (ap (option_map (slice_set xs n)) did)))
      where
        later : (given : Option X) → option_map (slice_set (slice_set xs n y) n) given ≡ Some xs → option_map (slice_set (x ∷ slice_set xs n y) (suc n)) given ≡ Some (x ∷ xs)
        later None e = absurd cc
        later (Some z) e = ap (λ zs. Some (x ∷ zs)) (some_same e)

ring-back : (c d : Change) (ring : List Coordinates) → IsRing ring → Backs c d (ring_vertices ring) → Backs (change_ring c) (change_ring d) ring
ring-back c d ring is back other e = by (c (ring_vertices ring)) refl e
  where
    by : (found : Option (List Coordinates)) → c (ring_vertices ring) ≡ found → option_map ring_of found ≡ Some other → change_ring d other ≡ Some ring
    by None did e = absurd cc
    by (Some ws) did e =
        subst (λ r. change_ring d r ≡ Some ring) (some_same e)
        (ap (λ vs. option_map ring_of (d vs)) (vertices-ring ws) ∙ ap (option_map ring_of) (back ws did) ∙ ap Some is)

kind-back : {X : Type 0} (kind : X → Geometry) (f h : X → Option X) (x : X) (g : Geometry) → Backs f h x → option_map kind (f x) ≡ Some g
    → (y : X) × ((kind y ≡ g) × (option_map kind (h y) ≡ Some (kind x)))
kind-back {X} kind f h x g back e = by (f x) refl e
  where
    by : (found : Option X) → f x ≡ found → option_map kind found ≡ Some g → (y : X) × ((kind y ≡ g) × (option_map kind (h y) ≡ Some (kind x)))
    by None did e = absurd cc
    by (Some y) did e = (y, (some_same e, ap (option_map kind) (back y did)))

-- ---- members of lists
each-get : {X : Type 0} (P : X → Type 0) (xs : List X) (n : ℕ) (x : X) → AllByRecursion P xs → slice_get xs n ≡ Some x → P x
each-get P [] n x h e = absurd cc
each-get P (y ∷ xs) zero x h e = subst P (some_same e) h.0
each-get P (y ∷ xs) (suc n) x h e = each-get P xs n x h.1 e

each-left : {X : Type 0} (P : X → Type 0) (xs ys : List X) → AllByRecursion P (xs ++ ys) → AllByRecursion P xs
each-left P [] ys h = tt
each-left P (x ∷ xs) ys h = (h.0, each-left P xs ys h.1)

each-right : {X : Type 0} (P : X → Type 0) (xs ys : List X) → AllByRecursion P (xs ++ ys) → AllByRecursion P ys
each-right P [] ys h = h
each-right P (x ∷ xs) ys h = each-right P xs ys h.1

each-joined : {X : Type 0} (P : X → Type 0) (xss : List (List X)) → AllByRecursion P (joined xss) → AllByRecursion (AllByRecursion P) xss
each-joined P [] h = tt
each-joined P (xs ∷ xss) h = (each-left P xs (joined xss) h, each-joined P xss (each-right P xs (joined xss) h))

-- ---- of a geometry
-- the change leads from the vertices of the part and ring somewhere, and the other one back
abbrev pub TakesBack : Change → Change → Geometry → ℕ → ℕ → Type 0
TakesBack c d g part ring = (vs : List Coordinates) → vertices_of g part ring ≡ Some vs → Backs c d vs

rings-back : (c d : Change) (rings others : List (List Coordinates)) (n : ℕ) → AllByRecursion IsRing rings
    → ((vs : List Coordinates) → option_map ring_vertices (slice_get rings n) ≡ Some vs → Backs c d vs)
    → change_at n (change_ring c) rings ≡ Some others → change_at n (change_ring d) others ≡ Some rings
rings-back c d rings others n are back e =
    at-back (change_ring c) (change_ring d) n rings others
    (λ ring at. ring-back c d ring (each-get IsRing rings n ring are at) (back (ring_vertices ring) (ap (option_map ring_vertices) at))) e

pub changed-back : (c d : Change) (g h : Geometry) (part ring : ℕ) → HasRings g → TakesBack c d g part ring
    → changed c part ring g ≡ Some h → changed d part ring h ≡ Some g
changed-back c d (Point p) h zero zero are back e = by (c (p ∷ [])) refl e
  where
    by : (found : Option (List Coordinates)) → c (p ∷ []) ≡ found → option_and_then one_point found ≡ Some h → changed d zero zero h ≡ Some (Point p)
    by None did e = absurd cc
    by (Some []) did e = absurd cc
    by (Some (q ∷ [])) did e = subst (λ k. changed d zero zero k ≡ Some (Point p)) (some_same e) (ap (option_and_then one_point) (back (p ∷ []) refl (q ∷ []) did))
    by (Some (q ∷ r ∷ qs)) did e = absurd cc
changed-back c d (Point p) h zero (suc ring) are back e = absurd cc
changed-back c d (Point p) h (suc part) ring are back e = absurd cc
changed-back c d (LineString ps) h zero zero are back e =
    let found = kind-back LineString c d ps h (back ps refl) e in
    subst (λ k. changed d zero zero k ≡ Some (LineString ps)) found.1.0 found.1.1
changed-back c d (LineString ps) h zero (suc ring) are back e = absurd cc
changed-back c d (LineString ps) h (suc part) ring are back e = absurd cc
changed-back c d (Polygon rings) h zero ring are back e =
    let one = each-left IsRing rings [] are in
    let found = kind-back Polygon (change_at ring (change_ring c)) (change_at ring (change_ring d)) rings h (λ others did. rings-back c d rings others ring one back did) e in
    subst (λ k. changed d zero ring k ≡ Some (Polygon rings)) found.1.0 found.1.1
changed-back c d (Polygon rings) h (suc part) ring are back e = absurd cc
changed-back c d (MultiPoint ps) h zero zero are back e =
    let found = kind-back MultiPoint c d ps h (back ps refl) e in
    subst (λ k. changed d zero zero k ≡ Some (MultiPoint ps)) found.1.0 found.1.1
changed-back c d (MultiPoint ps) h zero (suc ring) are back e = absurd cc
changed-back c d (MultiPoint ps) h (suc part) ring are back e = absurd cc
changed-back c d (MultiLineString lines) h part zero are back e =
    let found = kind-back MultiLineString (change_at part c) (change_at part d) lines h (λ others did. at-back c d part lines others (λ ps at. back ps at) did) e in
    subst (λ k. changed d part zero k ≡ Some (MultiLineString lines)) found.1.0 found.1.1
changed-back c d (MultiLineString lines) h part (suc ring) are back e = absurd cc
changed-back c d (MultiPolygon polygons) h part ring are back e =
    let each = each-joined IsRing polygons are in
    let found = kind-back MultiPolygon (change_at part (change_at ring (change_ring c))) (change_at part (change_at ring (change_ring d))) polygons h
    (λ others did. at-back (change_at ring (change_ring c)) (change_at ring (change_ring d)) part polygons others
    (λ rings at changed_rings done. rings-back c d rings changed_rings ring (each-get (AllByRecursion IsRing) polygons part rings each at)
    (λ vs there. back vs (ap (option_and_then (λ rs. option_map ring_vertices (slice_get rs ring))) at ∙ there)) done) did) e in
    subst (λ k. changed d part ring k ≡ Some (MultiPolygon polygons)) found.1.0 found.1.1

-- ---- what comes of a change, if it is sized
pub outcome-some : (found : Option Geometry) (g : Geometry) → outcome found ≡ Ok g → (found ≡ Some g) × IsSized g
outcome-some None g e = absurd cc
outcome-some (Some h) g e = by_empty (has_empty_list h) refl
  where
    same : {a b : Geometry} → ◌≡◌ {A = Result Geometry Refusal} (Ok a) (Ok b) → a ≡ b
    same e = cc

    by_few : (t : Bool) → has_empty_list h ≡ false → nat_le (point_count h) points_max ≡ t → (Some h ≡ Some g) × IsSized g
    by_few true filled few =
        let is : h ≡ g = same (grind (arith, filled, few, e)) in
        (ap Some is, subst IsSized is (record { filled = filled; few = leb-true (point_count h) points_max few }))
    by_few false filled few = absurd (grind (arith, filled, few, e))

    by_empty : (t : Bool) → has_empty_list h ≡ t → (Some h ≡ Some g) × IsSized g
    by_empty true empty = absurd (grind (arith, empty, e))
    by_empty false filled = by_few (nat_le (point_count h) points_max) filled refl

sized-outcome : (g : Geometry) → IsSized g → outcome (Some g) ≡ Ok g
sized-outcome g sized = let few : nat_le (point_count g) points_max ≡ true = grind (arith, sized.few) in grind (arith, sized.filled, few)

-- ---- a vertex put in and taken out again
remove-insert : (vs : List Coordinates) (index : ℕ) (p : Coordinates) → index ≤ length vs → remove (insert vs index p) index ≡ vs
remove-insert [] zero p h = refl
remove-insert [] (suc index) p h = absurd (omega (arith, h))
remove-insert (v ∷ vs) zero p h = refl
remove-insert (v ∷ vs) (suc index) p h = ap (λ us. v ∷ us) (remove-insert vs index p (omega (arith, h)))

insertion-back : (index : ℕ) (p : Coordinates) (vs : List Coordinates) → Backs (insertion index p) (removal index) vs
insertion-back index p vs ws e = by (nat_le index (length vs)) refl e
  where
    taken : index ≤ length vs → removal index (insert vs index p) ≡ Some vs
    taken h = grind (arith, h, length-insert vs index p h, remove-insert vs index p h)

    by : (t : Bool) → nat_le index (length vs) ≡ t → (if t then Some (insert vs index p) else None) ≡ Some ws → removal index ws ≡ Some vs
    by false test e = absurd cc
    by true test e = subst (λ us. removal index us ≡ Some vs) (some_same e) (taken (leb-true index (length vs) test))

pub insert-taken_back : (g h : Geometry) (part ring index : ℕ) (p : Coordinates) → IsSized g → HasRings g → insert_vertex g part ring index p ≡ Ok h → remove_vertex h part ring index ≡ Ok g
insert-taken_back g h part ring index p sized rings e =
    ap outcome (changed-back (insertion index p) (removal index) g h part ring rings (λ vs at. insertion-back index p vs) (outcome-some (changed (insertion index p) part ring g) h e).0)
    ∙ sized-outcome g sized

-- ---- a vertex moved, and moved back
restored : (vs : List Coordinates) (index : ℕ) (p old : Coordinates) → slice_get vs index ≡ Some old → slice_set (slice_set vs index p) index old ≡ vs
restored [] index p old at = absurd cc
restored (v ∷ vs) zero p old at = ap (λ u. u ∷ vs) (sym (some_same at))
restored (v ∷ vs) (suc index) p old at = ap (λ us. v ∷ us) (restored vs index p old at)

exchange-back : (index : ℕ) (p old : Coordinates) (vs : List Coordinates) → slice_get vs index ≡ Some old → Backs (exchange index p) (exchange index old) vs
exchange-back index p old vs at ws e = by (nat_lt index (length vs)) refl e
  where
    moved : index < length vs → exchange index old (slice_set vs index p) ≡ Some vs
    moved h = grind (arith, h, length-set vs index p, restored vs index p old at)

    by : (t : Bool) → nat_lt index (length vs) ≡ t → (if t then Some (slice_set vs index p) else None) ≡ Some ws → exchange index old ws ≡ Some vs
    by false test e = absurd cc
    by true test e = subst (λ us. exchange index old us ≡ Some vs) (some_same e) (moved (ltb-true index (length vs) test))

pub move-taken_back : (g h : Geometry) (part ring index : ℕ) (p old : Coordinates) → IsSized g → HasRings g → vertex_of g part ring index ≡ Some old → move_vertex g part ring index p ≡ Ok h → move_vertex h part ring index old ≡ Ok g
move-taken_back g h part ring index p old sized rings there e =
    ap outcome (changed-back (exchange index p) (exchange index old) g h part ring rings
    (λ vs at. exchange-back index p old vs (ap (option_and_then (λ us. slice_get us index)) (sym at) ∙ there)) (outcome-some (changed (exchange index p) part ring g) h e).0)
    ∙ sized-outcome g sized
