-- What comes of a change of a geometry: how many points it has then, and when there is nothing to change.
use Rattle.std.proofs.Common.{◌≡◌, ℕ, zero, suc, ◌+◌, ◌-◌, ◌<◌, ◌≤◌, Bool, true, false, List, [], ◌∷◌, length, slice_set, refl, sym, ap, ◌∙◌, subst, arith, inl, inr}
use Rattle.std.specs.Prelude.{◌⊎◌, Option, None, Some, Result, Ok, Err, IfErr, IsOk, OnOk, insert, remove, nat_le, nat_lt, option_and_then, option_map, slice_get, if◌then◌else◌}
use Rattle.std.specs.List.{list_any}
use Rattle.std.specs.Option.{option_map_or}
use Rattle.std.specs.Prelude.{◌≢◌}
use borrow.Author.Tests.{leb-true, ltb-true}
use Rattle.std.proofs.lemmas.List.{append-nil, length-append, length-set, length-take-le}
use Rattle.std.proofs.lemmas.List.Edits.{length-insert}
use Rattle.sf_grid.specs.Plane.{Coordinates}
use Rattle.sf_geometry.specs.declared.change.Change.TheVariants.{Insert, Remove}
use Rattle.sf_geometry.specs.declared.geometry.Geometry.{Geometry}
use Rattle.sf_geometry.specs.declared.geometry.Geometry.TheVariants.{Point, LineString, Polygon, MultiPoint, MultiLineString, MultiPolygon}
use Rattle.sf_geometry.specs.declared.refusal.Refusal.{Refusal}
use Rattle.sf_geometry.specs.declared.refusal.Refusal.TheVariants.{Empty, Memory, NoVertex, TooManyVertices}
use Rattle.sf_geometry.specs.Changes.{Refuses, filled_or_refused, lacks, place_fault, removable_count}
use Rattle.sf_geometry.specs.Parts.{joined}
use Rattle.sf_geometry.specs.Size.{IsSized, has_empty, has_empty_list, is_empty, point_count, points_max}
use Rattle.sf_geometry.specs.Vertices.{Change, change_at, change_ring, changed, exchange, insert_vertex, insertion, move_vertex, one_point, outcome, removal, remove_vertex, ring_of, ring_vertices, vertex_of, vertices_of}
use Rattle.sf_geometry.proofs.ChangeLaws.{any-set, changed-at, member-filled, placed, put, ring-filled}
use Rattle.sf_geometry.proofs.Filled.{one, or_false, total, total_line, total_lines, total_polygons}

-- ---- the size of what comes of it
pub outcome-ok : (found : Option Geometry) (g : Geometry) → filled_or_refused has_empty_list found ≡ Ok g → point_count g ≤ points_max → outcome found ≡ Ok g
outcome-ok None g e few = absurd cc
outcome-ok (Some h) g e few = by_test (has_empty_list h) refl e
  where
    same : {a b : Geometry} → ◌≡◌ {A = Result Geometry Refusal} (Ok a) (Ok b) → a ≡ b
    same e = cc

    by_few : (t : Bool) → nat_le (point_count h) points_max ≡ t → has_empty_list h ≡ false → h ≡ g → outcome (Some h) ≡ Ok g
    by_few t test filled e = grind (arith, test, filled, e, ap point_count e)

    by_test : (t : Bool) → has_empty_list h ≡ t → (if t then Err Empty else Ok h) ≡ Ok g → outcome (Some h) ≡ Ok g
    by_test true test e = absurd cc
    by_test false test e = by_few (nat_le (point_count h) points_max) refl test (same e)

pub outcome-err : (found : Option Geometry) (refusal : Refusal) → filled_or_refused has_empty_list found ≡ Err refusal → outcome found ≡ Err refusal
outcome-err None refusal e = e
outcome-err (Some h) refusal e = by_test (has_empty_list h) refl e
  where
    by_test : (t : Bool) → has_empty_list h ≡ t → (if t then Err Empty else Ok h) ≡ Err refusal → outcome (Some h) ≡ Err refusal
    by_test true test e = grind (arith, test, e)
    by_test false test e = absurd cc

-- ---- how many points there are then
-- the change was made in a list, and the count of points went from old to new with the length of that list
pub record Counted (change : Change) (old new : ℕ) : Type 0 where
  pub before : List Coordinates
  pub after : List Coordinates
  pub did : change before ≡ Some after
  pub count : new + length before ≡ old + length after

abbrev Counts : {X : Type 0} → (X → Bool) → (X → ℕ) → Change → (X → Option X) → Type 0
Counts {X} empty size change carried = (x y : X) → empty x ≡ false → carried x ≡ Some y → empty y ≡ false → Counted change (size x) (size y)

some_same : {X : Type 0} {a b : X} → Some a ≡ Some b → a ≡ b
some_same e = cc

counts-list : (change : Change) → Counts is_empty (total one) change change
counts-list change x y some e left =
    let old = total_line x in
    let new = total_line y in
    record { before = x; after = y; did = e; count = omega (arith, old, new) }

filled_length : (ps : List Coordinates) → is_empty ps ≡ false → 0 < length ps
filled_length [] h = absurd cc
filled_length (p ∷ ps) h = omega arith

ring_length : (qs : List Coordinates) → is_empty (ring_of qs) ≡ false → length (ring_of qs) ≡ length qs + 1
ring_length [] h = absurd cc
ring_length (p ∷ qs) h = omega (arith, length-append qs (p ∷ []))

counts-ring : (change : Change) → Counts is_empty (total one) change (change_ring change)
counts-ring change x y some e left = by (change (ring_vertices x)) refl e
  where
    by : (found : Option (List Coordinates)) → change (ring_vertices x) ≡ found → option_map ring_of found ≡ Some y → Counted change (total one x) (total one y)
    by None at e = absurd cc
    by (Some qs) at e =
        let is : ring_of qs ≡ y = some_same e in
        let many = filled_length x some in
        let kept = length-take-le (length x - 1) x (omega arith) in
        let closed = ring_length qs (ap is_empty is ∙ left) in
        let long = ap length is in
        let old = total_line x in
        let new = total_line y in
        record { before = ring_vertices x; after = qs; did = at; count = omega (arith, many, kept, closed, long, old, new) }

total-set : {X : Type 0} (size : X → ℕ) (xs : List X) (n : ℕ) (x y : X) → slice_get xs n ≡ Some x → total size (slice_set xs n y) + size x ≡ total size xs + size y
total-set size [] n x y e = absurd cc
total-set size (w ∷ xs) zero x y e = let same = ap size (some_same e) in omega (arith, same)
total-set size (w ∷ xs) (suc n) x y e = let later = total-set size xs n x y e in omega (arith, later)

counts-at : {X : Type 0} (empty : X → Bool) (size : X → ℕ) (change : Change) (carried : X → Option X) (n : ℕ) → Counts empty size change carried → Counts (lacks empty) (total size) change (change_at n carried)
counts-at {X} empty size change carried n counts xs ys some e left = by (slice_get xs n) refl e
  where
    with : (x : X) (found : Option X) → slice_get xs n ≡ Some x → carried x ≡ found → option_map (slice_set xs n) found ≡ Some ys → Counted change (total size xs) (total size ys)
    with x None at did e = absurd cc
    with x (Some y) at did e =
        let is : slice_set xs n y ≡ ys = some_same e in
        let none_empty = or_false (is_empty xs) (list_any empty xs) some in
        let none_left = or_false (is_empty ys) (list_any empty ys) left in
        let kept = sym (any-set empty xs n x y none_empty.1 at) ∙ ap (list_any empty) is ∙ none_left.1 in
        let here = counts x y (member-filled empty xs n x none_empty.1 at) did kept in
        let sum = total-set size xs n x y at in
        let long = ap (total size) is in
        record { before = here.before; after = here.after; did = here.did; count = omega (arith, here.count, sum, long) }

    by : (found : Option X) → slice_get xs n ≡ found → option_map (slice_set xs n) (option_and_then carried found) ≡ Some ys → Counted change (total size xs) (total size ys)
    by None at e = absurd cc
    by (Some x) at e = with x (carried x) at refl e

counts-kind : {X : Type 0} (kind : X → Geometry) (empty : X → Bool) (size : X → ℕ) (change : Change) (carried : X → Option X) →
    ((x : X) → has_empty_list (kind x) ≡ empty x) → ((x : X) → size x ≡ point_count (kind x)) → Counts empty size change carried →
    (x : X) (g : Geometry) → empty x ≡ false → option_map kind (carried x) ≡ Some g → has_empty_list g ≡ false → Counted change (point_count (kind x)) (point_count g)
counts-kind {X} kind empty size change carried empties sizes counts x g some e left = by (carried x) refl e
  where
    by : (found : Option X) → carried x ≡ found → option_map kind found ≡ Some g → Counted change (point_count (kind x)) (point_count g)
    by None did e = absurd cc
    by (Some y) did e =
        let is : kind y ≡ g = some_same e in
        let here = counts x y some did (sym (empties y) ∙ ap has_empty_list is ∙ left) in
        let old = sizes x in
        let new = sizes y ∙ ap point_count is in
        record { before = here.before; after = here.after; did = here.did; count = omega (arith, here.count, old, new) }

one_list : (ps : List Coordinates) → total one ps ≡ length (joined (ps ∷ []))
one_list ps = total_line ps ∙ ap length (sym (append-nil ps))

pub changed-count : (change : Change) (part ring : ℕ) (g h : Geometry) → has_empty_list g ≡ false → changed change part ring g ≡ Some h → has_empty_list h ≡ false → Counted change (point_count g) (point_count h)
changed-count change zero zero (Point p) h some e left = by (change (p ∷ [])) refl e
  where
    by : (found : Option (List Coordinates)) → change (p ∷ []) ≡ found → option_and_then one_point found ≡ Some h → Counted change 1 (point_count h)
    by None did e = absurd cc
    by (Some []) did e = absurd cc
    by (Some (q ∷ [])) did e =
        let count = ap point_count (some_same e) in
        record { before = p ∷ []; after = q ∷ []; did = did; count = omega (arith, count) }
    by (Some (q ∷ r ∷ qs)) did e = absurd cc
changed-count change zero (suc ring) (Point p) h some e left = absurd cc
changed-count change (suc part) ring (Point p) h some e left = absurd cc
changed-count change zero zero (LineString ps) h some e left =
    counts-kind LineString is_empty (total one) change change (λ x. refl) one_list (counts-list change) ps h some e left
changed-count change zero (suc ring) (LineString ps) h some e left = absurd cc
changed-count change (suc part) ring (LineString ps) h some e left = absurd cc
changed-count change zero ring (Polygon rings) h some e left =
    counts-kind Polygon has_empty (total (total one)) change (change_at ring (change_ring change)) (λ x. refl) total_lines
    (counts-at is_empty (total one) change (change_ring change) ring (counts-ring change)) rings h some e left
changed-count change (suc part) ring (Polygon rings) h some e left = absurd cc
changed-count change zero zero (MultiPoint ps) h some e left =
    counts-kind MultiPoint is_empty (total one) change change (λ x. refl) one_list (counts-list change) ps h some e left
changed-count change zero (suc ring) (MultiPoint ps) h some e left = absurd cc
changed-count change (suc part) ring (MultiPoint ps) h some e left = absurd cc
changed-count change part zero (MultiLineString lines) h some e left =
    counts-kind MultiLineString has_empty (total (total one)) change (change_at part change) (λ x. refl) total_lines
    (counts-at is_empty (total one) change change part (counts-list change)) lines h some e left
changed-count change part (suc ring) (MultiLineString lines) h some e left = absurd cc
changed-count change part ring (MultiPolygon polygons) h some e left =
    counts-kind MultiPolygon (lacks has_empty) (total (total (total one))) change (change_at part (change_at ring (change_ring change))) (λ x. refl) total_polygons
    (counts-at has_empty (total (total one)) change (change_at ring (change_ring change)) part
    (counts-at is_empty (total one) change (change_ring change) ring (counts-ring change)))
    polygons h some e left

-- ---- where there is nothing to change
ring-none : (change : Change) (rings : List (List Coordinates)) (ring : ℕ) → option_and_then change (option_map ring_vertices (slice_get rings ring)) ≡ None →
    change_at ring (change_ring change) rings ≡ None
ring-none change rings ring h = by (slice_get rings ring) h
  where
    by : (found : Option (List Coordinates)) → option_and_then change (option_map ring_vertices found) ≡ None → option_map (slice_set rings ring) (option_and_then (change_ring change) found) ≡ None
    by None h = refl
    by (Some x) h = ap (λ found. option_map (slice_set rings ring) (option_map ring_of found)) h

pub changed-none : (change : Change) (g : Geometry) (part ring : ℕ) → option_and_then change (vertices_of g part ring) ≡ None → changed change part ring g ≡ None
changed-none change (Point p) zero zero h = ap (option_and_then one_point) h
changed-none change (Point p) zero (suc ring) h = refl
changed-none change (Point p) (suc part) ring h = refl
changed-none change (LineString ps) zero zero h = ap (option_map LineString) h
changed-none change (LineString ps) zero (suc ring) h = refl
changed-none change (LineString ps) (suc part) ring h = refl
changed-none change (Polygon rings) zero ring h = ap (option_map Polygon) (ring-none change rings ring h)
changed-none change (Polygon rings) (suc part) ring h = refl
changed-none change (MultiPoint ps) zero zero h = ap (option_map MultiPoint) h
changed-none change (MultiPoint ps) zero (suc ring) h = refl
changed-none change (MultiPoint ps) (suc part) ring h = refl
changed-none change (MultiLineString lines) part zero h = ap (λ found. option_map MultiLineString (option_map (slice_set lines part) found)) h
changed-none change (MultiLineString lines) part (suc ring) h = refl
changed-none change (MultiPolygon polygons) part ring h = by (slice_get polygons part) h
  where
    by : (found : Option (List (List Coordinates))) → option_and_then change (option_and_then (λ rings. option_map ring_vertices (slice_get rings ring)) found) ≡ None →
        option_map MultiPolygon (option_map (slice_set polygons part) (option_and_then (change_at ring (change_ring change)) found)) ≡ None
    by None h = refl
    by (Some rings) h = ap (λ found. option_map MultiPolygon (option_map (slice_set polygons part) found)) (ring-none change rings ring h)

-- a change that needs a vertex at the index
vertex-none : (change : Change) (index : ℕ) → ((ps : List Coordinates) → slice_get ps index ≡ None → change ps ≡ None) →
    (g : Geometry) (part ring : ℕ) → vertex_of g part ring index ≡ None → changed change part ring g ≡ None
vertex-none change index none g part ring h = changed-none change g part ring (by (vertices_of g part ring) h)
  where
    by : (found : Option (List Coordinates)) → option_and_then (λ ps. slice_get ps index) found ≡ None → option_and_then change found ≡ None
    by None h = refl
    by (Some ps) h = none ps h

-- ---- a vertex moved, or taken out
past : (index : ℕ) (ps : List Coordinates) → slice_get ps index ≡ None → length ps ≤ index
past index [] h = omega arith
past zero (q ∷ ps) h = absurd cc
past (suc index) (q ∷ ps) h = let later = past index ps h in omega (arith, later)

nowhere : {X : Type 0} (index : ℕ) (ps : List Coordinates) (x : X) → slice_get ps index ≡ None → (if nat_lt index (length ps) then Some x else None) ≡ None
nowhere {X} index ps x h = by (nat_lt index (length ps)) refl
  where
    by : (t : Bool) → nat_lt index (length ps) ≡ t → (if t then Some x else None) ≡ None
    by true test = absurd (omega (arith, ltb-true index (length ps) test, past index ps h))
    by false test = refl

exchange-none : (index : ℕ) (p : Coordinates) (ps : List Coordinates) → slice_get ps index ≡ None → exchange index p ps ≡ None
exchange-none index p ps h = nowhere index ps (slice_set ps index p) h

removal-none : (index : ℕ) (ps : List Coordinates) → slice_get ps index ≡ None → removal index ps ≡ None
removal-none index ps h = nowhere index ps (remove ps index) h

pub move-none : (g : Geometry) (part ring index : ℕ) (p : Coordinates) → vertex_of g part ring index ≡ None → move_vertex g part ring index p ≡ Err NoVertex
move-none g part ring index p h = ap outcome (vertex-none (exchange index p) index (exchange-none index p) g part ring h)

pub remove-none : (g : Geometry) (part ring index : ℕ) → vertex_of g part ring index ≡ None → remove_vertex g part ring index ≡ Err NoVertex
remove-none g part ring index h = ap outcome (vertex-none (removal index) index (removal-none index) g part ring h)

-- what came of a change that leaves every list filled, as a change
filled-is : (found : Option Geometry) (g : Geometry) → filled_or_refused has_empty_list found ≡ Ok g → (found ≡ Some g) × (has_empty_list g ≡ false)
filled-is None g e = absurd cc
filled-is (Some h) g e = by (has_empty_list h) refl e
  where
    same : {a b : Geometry} → ◌≡◌ {A = Result Geometry Refusal} (Ok a) (Ok b) → a ≡ b
    same e = cc

    by : (t : Bool) → has_empty_list h ≡ t → (if t then Err Empty else Ok h) ≡ Ok g → (Some h ≡ Some g) × (has_empty_list g ≡ false)
    by true test e = absurd cc
    by false test e = (ap Some (same e), ap has_empty_list (sym (same e)) ∙ test)

-- a change that makes no list longer leaves a sized geometry sized
pub no-longer : (change : Change) (part ring : ℕ) (g h : Geometry) → IsSized g → ((ps qs : List Coordinates) → change ps ≡ Some qs → length qs ≤ length ps) →
    filled_or_refused has_empty_list (changed change part ring g) ≡ Ok h → outcome (changed change part ring g) ≡ Ok h
no-longer change part ring g h sized shorter e =
    let is = filled-is (changed change part ring g) h e in
    let counted = changed-count change part ring g h sized.filled is.0 is.1 in
    let short = shorter counted.before counted.after counted.did in
    outcome-ok (changed change part ring g) h e (omega (arith, sized.few, counted.count, short))

made_when : {X : Type 0} (t : Bool) (x y : X) → (if t then Some x else None) ≡ Some y → x ≡ y
made_when true x y e = some_same e
made_when false x y e = absurd cc

exchange-length : (index : ℕ) (p : Coordinates) (ps qs : List Coordinates) → exchange index p ps ≡ Some qs → length qs ≤ length ps
exchange-length index p ps qs e =
    let same = ap length (made_when (nat_lt index (length ps)) (slice_set ps index p) qs e) in
    omega (arith, same, length-set ps index p)

shorter_without : (index : ℕ) (ps : List Coordinates) → length (remove ps index) ≤ length ps
shorter_without zero [] = omega arith
shorter_without (suc index) [] = omega arith
shorter_without zero (p ∷ ps) = omega arith
shorter_without (suc index) (p ∷ ps) = let later = shorter_without index ps in omega (arith, later)

removal-length : (index : ℕ) (ps qs : List Coordinates) → removal index ps ≡ Some qs → length qs ≤ length ps
removal-length index ps qs e =
    let same = ap length (made_when (nat_lt index (length ps)) (remove ps index) qs e) in
    omega (arith, same, shorter_without index ps)

pub move-ok : (g h : Geometry) (part ring index : ℕ) (p : Coordinates) → IsSized g → filled_or_refused has_empty_list (changed (exchange index p) part ring g) ≡ Ok h → move_vertex g part ring index p ≡ Ok h
move-ok g h part ring index p sized e = no-longer (exchange index p) part ring g h sized (exchange-length index p) e

pub remove-ok : (g h : Geometry) (part ring index : ℕ) → IsSized g → filled_or_refused has_empty_list (changed (removal index) part ring g) ≡ Ok h → remove_vertex g part ring index ≡ Ok h
remove-ok g h part ring index sized e = no-longer (removal index) part ring g h sized (removal-length index) e

-- ---- a vertex put in
-- whether a change is refused, and why, is seen in the list of the part and ring
abbrev pub verdict : {X : Type 0} → Result X Refusal → Option Refusal
verdict (Ok x) = None
verdict (Err refusal) = Some refusal

abbrev emptied : {X : Type 0} → Bool → X → Result X Refusal
emptied t x = if t then Err Empty else Ok x

either-verdict : {X Y : Type 0} (t : Bool) (x : X) (y : Y) → verdict (emptied t x) ≡ verdict (emptied t y)
either-verdict true x y = refl
either-verdict false x y = refl

put-verdict : {X Y : Type 0} (f : X → Y) (outcome : Result X Refusal) → verdict (put f outcome) ≡ verdict outcome
put-verdict f (Ok x) = refl
put-verdict f (Err refusal) = refl

kind-verdict : {X : Type 0} (kind : X → Geometry) (empty : X → Bool) → ((x : X) → has_empty_list (kind x) ≡ empty x) → (found : Option X) →
    verdict (filled_or_refused has_empty_list (option_map kind found)) ≡ verdict (filled_or_refused empty found)
kind-verdict kind empty empties None = refl
kind-verdict kind empty empties (Some x) = ap (λ t. verdict (emptied t (kind x))) (empties x) ∙ either-verdict (empty x) (kind x) x

at-verdict : {X : Type 0} (empty : X → Bool) (change : X → Option X) (xs : List X) (n : ℕ) (x : X) → lacks empty xs ≡ false → slice_get xs n ≡ Some x →
    verdict (filled_or_refused (lacks empty) (change_at n change xs)) ≡ verdict (filled_or_refused empty (change x))
at-verdict {X} empty change xs n x some at =
    let none_empty = or_false (is_empty xs) (list_any empty xs) some in
    ap verdict (changed-at empty change xs n x none_empty.1 at) ∙ put-verdict (slice_set xs n) (filled_or_refused empty (change x))

ring-verdict : (change : Change) (ps : List Coordinates) → verdict (filled_or_refused is_empty (change_ring change ps)) ≡ verdict (filled_or_refused is_empty (change (ring_vertices ps)))
ring-verdict change ps =
    ap verdict (ring-filled (change (ring_vertices ps))) ∙ put-verdict ring_of (filled_or_refused is_empty (change (ring_vertices ps)))

list-verdict : (change : Change) (ps vs : List Coordinates) → Some ps ≡ Some vs → verdict (filled_or_refused is_empty (change ps)) ≡ verdict (filled_or_refused is_empty (change vs))
list-verdict change ps vs e = ap (λ us. verdict (filled_or_refused is_empty (change us))) (some_same e)

ring_at-verdict : (change : Change) (rings : List (List Coordinates)) (n : ℕ) (vs : List Coordinates) → has_empty rings ≡ false → option_map ring_vertices (slice_get rings n) ≡ Some vs →
    verdict (filled_or_refused has_empty (change_at n (change_ring change) rings)) ≡ verdict (filled_or_refused is_empty (change vs))
ring_at-verdict change rings n vs some at = by (slice_get rings n) refl at
  where
    by : (found : Option (List Coordinates)) → slice_get rings n ≡ found → option_map ring_vertices found ≡ Some vs →
        verdict (filled_or_refused has_empty (change_at n (change_ring change) rings)) ≡ verdict (filled_or_refused is_empty (change vs))
    by None there e = absurd cc
    by (Some x) there e = at-verdict is_empty (change_ring change) rings n x some there ∙ ring-verdict change x ∙ list-verdict change (ring_vertices x) vs e

-- it is no Point
abbrev pub IsNoPoint : Geometry → Type 0
IsNoPoint g = (p : Coordinates) → g ≡ Point p → ⊥

pub changed-verdict : (change : Change) (g : Geometry) (part ring : ℕ) (vs : List Coordinates) → has_empty_list g ≡ false → IsNoPoint g → vertices_of g part ring ≡ Some vs →
    verdict (filled_or_refused has_empty_list (changed change part ring g)) ≡ verdict (filled_or_refused is_empty (change vs))
changed-verdict change (Point p) part ring vs some other at = absurd (other p refl)
changed-verdict change (LineString ps) zero zero vs some other at = kind-verdict LineString is_empty (λ x. refl) (change ps) ∙ list-verdict change ps vs at
changed-verdict change (LineString ps) zero (suc ring) vs some other at = absurd cc
changed-verdict change (LineString ps) (suc part) ring vs some other at = absurd cc
changed-verdict change (Polygon rings) zero ring vs some other at =
    kind-verdict Polygon has_empty (λ x. refl) (change_at ring (change_ring change) rings) ∙ ring_at-verdict change rings ring vs some at
changed-verdict change (Polygon rings) (suc part) ring vs some other at = absurd cc
changed-verdict change (MultiPoint ps) zero zero vs some other at = kind-verdict MultiPoint is_empty (λ x. refl) (change ps) ∙ list-verdict change ps vs at
changed-verdict change (MultiPoint ps) zero (suc ring) vs some other at = absurd cc
changed-verdict change (MultiPoint ps) (suc part) ring vs some other at = absurd cc
changed-verdict change (MultiLineString lines) part zero vs some other at =
    kind-verdict MultiLineString has_empty (λ x. refl) (change_at part change lines) ∙ at-verdict is_empty change lines part vs some at
changed-verdict change (MultiLineString lines) part (suc ring) vs some other at = absurd cc
changed-verdict change (MultiPolygon polygons) part ring vs some other at = by (slice_get polygons part) refl at
  where
    by : (found : Option (List (List Coordinates))) → slice_get polygons part ≡ found → option_and_then (λ rings. option_map ring_vertices (slice_get rings ring)) found ≡ Some vs →
        verdict (filled_or_refused has_empty_list (changed change part ring (MultiPolygon polygons))) ≡ verdict (filled_or_refused is_empty (change vs))
    by None there e = absurd cc
    by (Some rings) there e =
        let none_empty = or_false (is_empty polygons) (list_any has_empty polygons) some in
        kind-verdict MultiPolygon (lacks has_empty) (λ x. refl) (change_at part (change_at ring (change_ring change)) polygons)
        ∙ at-verdict has_empty (change_at ring (change_ring change)) polygons part rings some there
        ∙ ring_at-verdict change rings ring vs (member-filled has_empty polygons part rings none_empty.1 there) e

ok-from : {X : Type 0} (outcome : Result X Refusal) → verdict outcome ≡ None → IsOk outcome
ok-from (Ok x) e = refl
ok-from (Err refusal) e = absurd cc

err-from : {X : Type 0} (outcome : Result X Refusal) (refusal : Refusal) → verdict outcome ≡ Some refusal → outcome ≡ Err refusal
err-from (Ok x) refusal e = absurd cc
err-from (Err other) refusal e = ap (λ r. Err r) (some_same e)

-- a point more
insertion-length : (index : ℕ) (p : Coordinates) (ps qs : List Coordinates) → insertion index p ps ≡ Some qs → length qs ≡ length ps + 1
insertion-length index p ps qs e = by (nat_le index (length ps)) refl e
  where
    by : (t : Bool) → nat_le index (length ps) ≡ t → (if t then Some (insert ps index p) else None) ≡ Some qs → length qs ≡ length ps + 1
    by false test e = absurd cc
    by true test e = ap length (sym (some_same e)) ∙ length-insert ps index p (leb-true index (length ps) test)

inserted-count : (g h : Geometry) (part ring index : ℕ) (p : Coordinates) → IsSized g → filled_or_refused has_empty_list (changed (insertion index p) part ring g) ≡ Ok h → point_count h ≡ point_count g + 1
inserted-count g h part ring index p sized e =
    let is = filled-is (changed (insertion index p) part ring g) h e in
    let counted = changed-count (insertion index p) part ring g h sized.filled is.0 is.1 in
    let more = insertion-length index p counted.before counted.after counted.did in
    omega (arith, counted.count, more)

pub insert-ok : (g h : Geometry) (part ring index : ℕ) (p : Coordinates) → IsSized g → point_count g < points_max →
    filled_or_refused has_empty_list (changed (insertion index p) part ring g) ≡ Ok h → insert_vertex g part ring index p ≡ Ok h
insert-ok g h part ring index p sized few e =
    let more = inserted-count g h part ring index p sized e in
    outcome-ok (changed (insertion index p) part ring g) h e (omega (arith, more, few))

pub insert-refused : (g : Geometry) (part ring index : ℕ) (p : Coordinates) (refusal : Refusal) → IsSized g → point_count g < points_max →
    Refuses (Insert p) (filled_or_refused has_empty_list (changed (insertion index p) part ring g)) refusal →
    (insert_vertex g part ring index p ≡ Err refusal) ⊎ ((refusal ≡ Memory) × IsOk (insert_vertex g part ring index p))
insert-refused g part ring index p refusal sized few (inl e) = inl (outcome-err (changed (insertion index p) part ring g) refusal e)
insert-refused g part ring index p refusal sized few (inr want) = inr (want.0, by (filled_or_refused has_empty_list (changed (insertion index p) part ring g)) refl want.2)
  where
    by : (o : Result Geometry Refusal) → filled_or_refused has_empty_list (changed (insertion index p) part ring g) ≡ o → IsOk o → IsOk (insert_vertex g part ring index p)
    by (Ok h) e ok = subst (λ (o : Result Geometry Refusal). IsOk o) (sym (insert-ok g h part ring index p sized few e)) ok
    by (Err why) e ok = absurd cc

outcome-many : (found : Option Geometry) (h : Geometry) → found ≡ Some h → has_empty_list h ≡ false → points_max < point_count h → outcome found ≡ Err TooManyVertices
outcome-many found h e filled many = ap outcome e ∙ by (nat_le (point_count h) points_max) refl
  where
    by : (t : Bool) → nat_le (point_count h) points_max ≡ t → outcome (Some h) ≡ Err TooManyVertices
    by true test = absurd (omega (arith, leb-true (point_count h) points_max test))
    by false test = grind (arith, test, filled)

pub insert-full : (g : Geometry) (part ring index : ℕ) (p : Coordinates) (vs : List Coordinates) → IsSized g → points_max ≤ point_count g → vertices_of g part ring ≡ Some vs →
    index ≤ length vs → insert_vertex g part ring index p ≡ Err TooManyVertices
insert-full g part ring index p vs sized full at within =
    by (filled_or_refused has_empty_list (changed (insertion index p) part ring g)) refl
    (ok-from (filled_or_refused has_empty_list (changed (insertion index p) part ring g))
    (changed-verdict (insertion index p) g part ring vs sized.filled (λ q e. absurd (omega (arith, full, ap point_count e))) at
    ∙ ap verdict (placed (Insert p) index vs (place within))))
  where
    place : index ≤ length vs → place_fault (Insert p) index (length vs) ≡ None
    place h = grind arith

    by : (o : Result Geometry Refusal) → filled_or_refused has_empty_list (changed (insertion index p) part ring g) ≡ o → IsOk o → insert_vertex g part ring index p ≡ Err TooManyVertices
    by (Ok h) e ok =
        let is = filled-is (changed (insertion index p) part ring g) h e in
        let more = inserted-count g h part ring index p sized e in
        outcome-many (changed (insertion index p) part ring g) h is.0 is.1 (omega (arith, more, full))
    by (Err why) e ok = absurd cc

-- by the counts that the code has
pub full-by_count : (g : Geometry) (part ring index : ℕ) (p : Coordinates) (count : ℕ) → IsSized g → points_max ≤ point_count g → option_map (λ ps. length ps) (vertices_of g part ring) ≡ Some count →
    index ≤ count → insert_vertex g part ring index p ≡ Err TooManyVertices
full-by_count g part ring index p count sized full e within = by (vertices_of g part ring) refl e
  where
    by : (found : Option (List Coordinates)) → vertices_of g part ring ≡ found → option_map (λ ps. length ps) found ≡ Some count → insert_vertex g part ring index p ≡ Err TooManyVertices
    by None at e = absurd cc
    by (Some vs) at e = let long : length vs ≡ count = some_same e in insert-full g part ring index p vs sized full at (omega (arith, long, within))

pub inserted-by : (g h : Geometry) (part ring index : ℕ) (p : Coordinates) (result : Result (Unit {0}) Refusal) → IsSized g → point_count g < points_max →
    OnOk result (filled_or_refused has_empty_list (changed (insertion index p) part ring g) ≡ Ok h) → OnOk result (insert_vertex g part ring index p ≡ Ok h)
inserted-by g h part ring index p (Ok u) sized few done = insert-ok g h part ring index p sized few done
inserted-by g h part ring index p (Err refusal) sized few done = done

pub refused-by : (g : Geometry) (part ring index : ℕ) (p : Coordinates) (result : Result (Unit {0}) Refusal) → IsSized g → point_count g < points_max →
    IfErr result (Refuses (Insert p) (filled_or_refused has_empty_list (changed (insertion index p) part ring g))) →
    IfErr result (λ refusal. (insert_vertex g part ring index p ≡ Err refusal) ⊎ ((refusal ≡ Memory) × IsOk (insert_vertex g part ring index p)))
refused-by g part ring index p (Ok u) sized few why = why
refused-by g part ring index p (Err refusal) sized few why = insert-refused g part ring index p refusal sized few why

-- ---- a vertex taken out
-- the only one of a list
taken-only : (index : ℕ) (vs : List Coordinates) → index < length vs → length vs ≡ 1 → filled_or_refused is_empty (removal index vs) ≡ Err Empty
taken-only index [] h e = absurd (omega (arith, e))
taken-only zero (v ∷ []) h e = refl
taken-only (suc index) (v ∷ []) h e = absurd (omega (arith, h))
taken-only index (v ∷ w ∷ vs) h e = absurd (omega (arith, e))

among : (found : Option (List Coordinates)) (count : ℕ) → option_map_or (λ ps. length ps) found 0 ≡ suc count → (vs : List Coordinates) × ((found ≡ Some vs) × (length vs ≡ suc count))
among None count e = absurd (omega (arith, e))
among (Some vs) count e = (vs, (refl, e))

some-vertices : (g : Geometry) (part ring count : ℕ) → removable_count g part ring ≡ suc count
    → IsNoPoint g × ((vs : List Coordinates) × ((vertices_of g part ring ≡ Some vs) × (length vs ≡ suc count)))
some-vertices (Point p) part ring count e = absurd (omega (arith, e))
some-vertices (LineString ps) part ring count e = ((λ p e. cc), among (vertices_of (LineString ps) part ring) count e)
some-vertices (Polygon rings) part ring count e = ((λ p e. cc), among (vertices_of (Polygon rings) part ring) count e)
some-vertices (MultiPoint ps) part ring count e = ((λ p e. cc), among (vertices_of (MultiPoint ps) part ring) count e)
some-vertices (MultiLineString lines) part ring count e = ((λ p e. cc), among (vertices_of (MultiLineString lines) part ring) count e)
some-vertices (MultiPolygon polygons) part ring count e = ((λ p e. cc), among (vertices_of (MultiPolygon polygons) part ring) count e)

pub remove-only : (g : Geometry) (part ring index : ℕ) → IsSized g → index < removable_count g part ring → removable_count g part ring ≡ 1 → remove_vertex g part ring index ≡ Err Empty
remove-only g part ring index sized h e =
    let there = some-vertices g part ring 0 e in
    outcome-err (changed (removal index) part ring g) Empty
    (err-from (filled_or_refused has_empty_list (changed (removal index) part ring g)) Empty
    (changed-verdict (removal index) g part ring there.1.0 sized.filled there.0 there.1.1.0
    ∙ ap verdict (taken-only index there.1.0 (omega (arith, h, e, there.1.1.1)) there.1.1.1)))

pub remove-some : (g : Geometry) (part ring index count : ℕ) → IsSized g → removable_count g part ring ≡ suc (suc count) → index < suc (suc count) → IsOk (remove_vertex g part ring index)
remove-some g part ring index count sized e h =
    let there = some-vertices g part ring (suc count) e in
    by (filled_or_refused has_empty_list (changed (removal index) part ring g)) refl
    (ok-from (filled_or_refused has_empty_list (changed (removal index) part ring g))
    (changed-verdict (removal index) g part ring there.1.0 sized.filled there.0 there.1.1.0
    ∙ ap verdict (placed Remove index there.1.0 (place there.1.0 there.1.1.1))))
  where
    place : (vs : List Coordinates) → length vs ≡ suc (suc count) → place_fault Remove index (length vs) ≡ None
    place vs e = grind (arith, e, h)

    by : (o : Result Geometry Refusal) → filled_or_refused has_empty_list (changed (removal index) part ring g) ≡ o → IsOk o → IsOk (remove_vertex g part ring index)
    by (Ok k) e ok = subst (λ (o : Result Geometry Refusal). IsOk o) (sym (remove-ok g k part ring index sized e)) refl
    by (Err why) e ok = absurd cc

-- there are several, one of them at the index
pub remove-several : (g : Geometry) (part ring index count : ℕ) → IsSized g → removable_count g part ring ≡ count → index < count → count ≢ 1 → IsOk (remove_vertex g part ring index)
remove-several g part ring index zero sized e h many = absurd (omega (arith, h))
remove-several g part ring index (suc zero) sized e h many = absurd (many refl)
remove-several g part ring index (suc (suc count)) sized e h many = remove-some g part ring index count sized e h
