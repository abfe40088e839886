-- A vertex that was inserted, moved or removed, and back.
use Rattle.std.proofs.Common.{◌≡◌, ℕ, zero, suc, ◌-◌, ◌<◌, ◌≤◌, Bool, true, false, if◌then◌else◌, List, [], ◌∷◌, ◌++◌, length, take, insert, remove, slice_get, slice_set, Option, Some, None, option_map, option_and_then, Ok, nat_lt, nat_le, refl, ap, sym, subst, ◌∙◌, arith, length-append}
use Rattle.std.proofs.lemmas.Bool.{lt-ltb, le-leb, ltb-true}
use Rattle.std.proofs.lemmas.Bool.Decides.{nat_tests}
use Rattle.std.specs.List.{AllByRecursion}
use Rattle.sf_grid.specs.Plane.{Coordinates}
use Rattle.sf_geometry.specs.declared.geometry.Geometry.{Geometry}
use Rattle.sf_geometry.specs.declared.geometry.Geometry.TheVariants.{Point, LineString, Polygon, MultiPoint, MultiLineString, MultiPolygon}
use Rattle.sf_geometry.specs.declared.refusal.Refusal.{Refusal}
use Rattle.sf_geometry.specs.Size.{size_fault}
use Rattle.sf_geometry.specs.Vertices.{ring_vertices, ring_of, vertices_of, vertex_of, Change, insertion, exchange, removal, change_at, change_ring, one_point, changed, outcome, sized_or_refused, insert_vertex, move_vertex, remove_vertex}
use Rattle.sf_layers.proofs.Places.{insert-remove, remove-insert, slice_get-insert, slice_get-slice_set, slice_set-slice_set, slice_get-below}

-- the ring is its vertices and the first of them again
abbrev pub IsWhole : List Coordinates → Type 0
IsWhole ring = ring_of (ring_vertices ring) ≡ ring

-- each ring of the geometry is
abbrev pub HasWholeRings : Geometry → Type 0
HasWholeRings (Polygon rings) = AllByRecursion IsWhole rings
HasWholeRings (MultiPolygon polygons) = AllByRecursion (AllByRecursion IsWhole) polygons
HasWholeRings geometry = Unit {0}

-- a change of a list that another one takes back, where this list is changed
abbrev pub TakesBack : {X : Type 0} → (X → Option X) → (X → Option X) → X → Type 0
TakesBack {X} change back x = (y : X) → change x ≡ Some y → back y ≡ Some x

-- ---- changes of lists

take-push : {X : Type 0} (xs : List X) (x : X) → take (length (xs ++ x ∷ []) - 1) (xs ++ x ∷ []) ≡ xs
take-push [] x = refl
take-push (y ∷ ys) x =
    let longer : length (y ∷ (ys ++ x ∷ [])) - 1 ≡ suc (length (ys ++ x ∷ []) - 1) = omega (arith, length-append ys (x ∷ [])) in
    ap (λ n. take n (y ∷ (ys ++ x ∷ []))) longer ∙ ap (λ rest. y ∷ rest) (take-push ys x)

pub ring_vertices-ring_of : (ps : List Coordinates) → ring_vertices (ring_of ps) ≡ ps
ring_vertices-ring_of [] = refl
ring_vertices-ring_of (p ∷ ps) = take-push (p ∷ ps) p

insertion-back : (index : ℕ) (p : Coordinates) (ps : List Coordinates) → TakesBack (insertion index p) (removal index) ps
insertion-back index p ps qs h = by (nat_le index (length ps)) refl h
  where
    by : (b : Bool) → nat_le index (length ps) ≡ b → (if b then Some (insert ps index p) else None) ≡ Some qs → removal index qs ≡ Some ps
    by false is h = cc
    by true is h =
        let at : insert ps index p ≡ qs = cc in
        let fits : index ≤ length ps = grind (arith, nat_tests, is) in
        let below : index < length (insert ps index p) = slice_get-below (insert ps index p) index p (slice_get-insert ps index p fits) in
        subst (λ l. removal index l ≡ Some ps) at
        (ap (λ b. if b then Some (remove (insert ps index p) index) else None) (lt-ltb index (length (insert ps index p)) below)
        ∙ ap (λ l. Some l) (remove-insert ps index p fits))

room : {X : Type 0} (xs : List X) (i : ℕ) → i < length xs → i ≤ length (remove xs i)
room [] i h = absurd (omega (arith, h))
room (x ∷ xs) zero h = omega arith
room (x ∷ xs) (suc i) h = let later : i ≤ length (remove xs i) = room xs i (omega (arith, h)) in omega (arith, later)

removal-back : (index : ℕ) (p : Coordinates) (ps : List Coordinates) → slice_get ps index ≡ Some p → TakesBack (removal index) (insertion index p) ps
removal-back index p ps there qs h = by (nat_lt index (length ps)) refl h
  where
    by : (b : Bool) → nat_lt index (length ps) ≡ b → (if b then Some (remove ps index) else None) ≡ Some qs → insertion index p qs ≡ Some ps
    by false is h = cc
    by true is h =
        let at : remove ps index ≡ qs = cc in
        let below : index < length ps = ltb-true index (length ps) is in
        let fits : index ≤ length (remove ps index) = room ps index below in
        subst (λ l. insertion index p l ≡ Some ps) at
        (ap (λ b. if b then Some (insert (remove ps index) index p) else None) (le-leb index (length (remove ps index)) fits)
        ∙ ap (λ l. Some l) (insert-remove ps index p there))

length-slice_set : {X : Type 0} (xs : List X) (i : ℕ) (x : X) → length (slice_set xs i x) ≡ length xs
length-slice_set [] i x = refl
length-slice_set (y ∷ ys) zero x = refl
length-slice_set (y ∷ ys) (suc i) x = ap suc (length-slice_set ys i x)

exchange-back : (index : ℕ) (p old : Coordinates) (ps : List Coordinates) → slice_get ps index ≡ Some old → TakesBack (exchange index p) (exchange index old) ps
exchange-back index p old ps there qs h = by (nat_lt index (length ps)) refl h
  where
    by : (b : Bool) → nat_lt index (length ps) ≡ b → (if b then Some (slice_set ps index p) else None) ≡ Some qs → exchange index old qs ≡ Some ps
    by false is h = cc
    by true is h =
        let at : slice_set ps index p ≡ qs = cc in
        subst (λ l. exchange index old l ≡ Some ps) at
        (ap (λ n. if nat_lt index n then Some (slice_set (slice_set ps index p) index old) else None) (length-slice_set ps index p)
        ∙ ap (λ b. if b then Some (slice_set (slice_set ps index p) index old) else None) is
        ∙ ap (λ l. Some l) (slice_set-slice_set ps index old p there))

-- ---- members of lists, rings and geometries

pub change_at-back : {X : Type 0} (n : ℕ) (change back : X → Option X) (xs : List X) → ((x : X) → slice_get xs n ≡ Some x → TakesBack change back x) → TakesBack (change_at n change) (change_at n back) xs
change_at-back {X} n change back xs each ys h = by (slice_get xs n) refl h
  where
    by : (o : Option X) → slice_get xs n ≡ o → option_map (slice_set xs n) (option_and_then change o) ≡ Some ys → change_at n back ys ≡ Some xs
    by None is h = cc
    by (Some x) is h = by_change (change x) refl h
      where
        by_change : (o : Option X) → change x ≡ o → option_map (slice_set xs n) o ≡ Some ys → change_at n back ys ≡ Some xs
        by_change None made h = cc
        by_change (Some y) made h =
            let at : slice_set xs n y ≡ ys = cc in
            subst (λ l. change_at n back l ≡ Some xs) at
            (ap (λ o. option_map (slice_set (slice_set xs n y) n) (option_and_then back o)) (slice_get-slice_set xs n x y is)
            ∙ ap (option_map (slice_set (slice_set xs n y) n)) (each x is y made)
            ∙ ap (λ l. Some l) (slice_set-slice_set xs n x y is))

change_ring-back : (change back : Change) (ring : List Coordinates) → IsWhole ring → TakesBack change back (ring_vertices ring) → TakesBack (change_ring change) (change_ring back) ring
change_ring-back change back ring whole each new h = by (change (ring_vertices ring)) refl h
  where
    by : (o : Option (List Coordinates)) → change (ring_vertices ring) ≡ o → option_map ring_of o ≡ Some new → change_ring back new ≡ Some ring
    by None is h = cc
    by (Some qs) is h =
        let at : ring_of qs ≡ new = cc in
        subst (λ l. change_ring back l ≡ Some ring) at
        (ap (λ l. option_map ring_of (back l)) (ring_vertices-ring_of qs) ∙ ap (option_map ring_of) (each qs is) ∙ ap (λ l. Some l) whole)

all-slice_get : {X : Type 0} (P : X → Type 0) (xs : List X) (n : ℕ) (x : X) → AllByRecursion P xs → slice_get xs n ≡ Some x → P x
all-slice_get P [] n x all there = cc
all-slice_get P (y ∷ ys) zero x all there = let is : y ≡ x = cc in subst P is all.0
all-slice_get P (y ∷ ys) (suc n) x all there = all-slice_get P ys n x all.1 there

-- a change under a constructor of geometries
pub under : {X : Type 0} (make : X → Geometry) (o : Option X) (g : Geometry) → option_map make o ≡ Some g → (y : X) × (o ≡ Some y) × (make y ≡ g)
under make None g h = cc
under make (Some y) g h = (y, refl, cc)

-- a change of the vertices of a part and ring, and back
pub changed-back : (change back : Change) (part ring : ℕ) (g : Geometry) → HasWholeRings g → ((ps : List Coordinates) → vertices_of g part ring ≡ Some ps → TakesBack change back ps)
    → (new : Geometry) → changed change part ring g ≡ Some new → changed back part ring new ≡ Some g
changed-back change back (suc part) ring (Point p) whole each new h = cc
changed-back change back zero (suc ring) (Point p) whole each new h = cc
changed-back change back zero zero (Point p) whole each new h = by (change (p ∷ [])) refl h
  where
    by : (o : Option (List Coordinates)) → change (p ∷ []) ≡ o → option_and_then one_point o ≡ Some new → changed back zero zero new ≡ Some (Point p)
    by None is h = cc
    by (Some []) is h = cc
    by (Some (q ∷ r ∷ rest)) is h = cc
    by (Some (q ∷ [])) is h =
        let at : Point q ≡ new = cc in
        subst (λ g. changed back zero zero g ≡ Some (Point p)) at (ap (option_and_then one_point) (each (p ∷ []) refl (q ∷ []) is))
changed-back change back (suc part) ring (LineString ps) whole each new h = cc
changed-back change back zero (suc ring) (LineString ps) whole each new h = cc
changed-back change back zero zero (LineString ps) whole each new h =
    let to = under LineString (change ps) new h in
    subst (λ g. changed back zero zero g ≡ Some (LineString ps)) to.2 (ap (option_map LineString) (each ps refl to.0 to.1))
changed-back change back (suc part) ring (Polygon rings) whole each new h = cc
changed-back change back zero ring (Polygon rings) whole each new h =
    let to = under Polygon (change_at ring (change_ring change) rings) new h in
    subst (λ g. changed back zero ring g ≡ Some (Polygon rings)) to.2
    (ap (option_map Polygon) (change_at-back ring (change_ring change) (change_ring back) rings
    (λ r there. change_ring-back change back r (all-slice_get IsWhole rings ring r whole there) (each (ring_vertices r) (ap (option_map ring_vertices) there))) to.0 to.1))
changed-back change back (suc part) ring (MultiPoint ps) whole each new h = cc
changed-back change back zero (suc ring) (MultiPoint ps) whole each new h = cc
changed-back change back zero zero (MultiPoint ps) whole each new h =
    let to = under MultiPoint (change ps) new h in
    subst (λ g. changed back zero zero g ≡ Some (MultiPoint ps)) to.2 (ap (option_map MultiPoint) (each ps refl to.0 to.1))
changed-back change back part (suc ring) (MultiLineString lines) whole each new h = cc
changed-back change back part zero (MultiLineString lines) whole each new h =
    let to = under MultiLineString (change_at part change lines) new h in
    subst (λ g. changed back part zero g ≡ Some (MultiLineString lines)) to.2
    (ap (option_map MultiLineString) (change_at-back part change back lines (λ line there. each line there) to.0 to.1))
changed-back change back part ring (MultiPolygon polygons) whole each new h =
    let to = under MultiPolygon (change_at part (change_at ring (change_ring change)) polygons) new h in
    subst (λ g. changed back part ring g ≡ Some (MultiPolygon polygons)) to.2
    (ap (option_map MultiPolygon) (change_at-back part (change_at ring (change_ring change)) (change_at ring (change_ring back)) polygons
    (λ rings there. change_at-back ring (change_ring change) (change_ring back) rings
    (λ r at. change_ring-back change back r (all-slice_get IsWhole rings ring r (all-slice_get (AllByRecursion IsWhole) polygons part rings whole there) at)
    (each (ring_vertices r) (ap (option_and_then (λ rs. option_map ring_vertices (slice_get rs ring))) there ∙ ap (option_map ring_vertices) at))))
    to.0 to.1))

-- ---- vertices

pub outcome-changed : (o : Option Geometry) (new : Geometry) → outcome o ≡ Ok new → o ≡ Some new
outcome-changed None new h = cc
outcome-changed (Some g) new h = by (size_fault g) h
  where
    by : (o : Option Refusal) → sized_or_refused g o ≡ Ok new → Some g ≡ Some new
    by None h = cc
    by (Some refusal) h = cc

outcome-sized : (o : Option Geometry) (g : Geometry) → o ≡ Some g → size_fault g ≡ None → outcome o ≡ Ok g
outcome-sized o g there sized = ap outcome there ∙ ap (sized_or_refused g) sized

at_vertex : (o : Option (List Coordinates)) (index : ℕ) (p : Coordinates) (ps : List Coordinates) → option_and_then (λ qs. slice_get qs index) o ≡ Some p → o ≡ Some ps → slice_get ps index ≡ Some p
at_vertex o index p ps there is = sym (ap (option_and_then (λ qs. slice_get qs index)) is) ∙ there

-- what was inserted is removed
pub insert_vertex-back : (g new : Geometry) (part ring index : ℕ) (p : Coordinates) → HasWholeRings g → size_fault g ≡ None → insert_vertex g part ring index p ≡ Ok new
    → remove_vertex new part ring index ≡ Ok g
insert_vertex-back g new part ring index p whole sized h =
    outcome-sized (changed (removal index) part ring new) g
    (changed-back (insertion index p) (removal index) part ring g whole (λ ps there. insertion-back index p ps) new (outcome-changed (changed (insertion index p) part ring g) new h)) sized

-- what was moved is moved back
pub move_vertex-back : (g new : Geometry) (part ring index : ℕ) (p old : Coordinates) → HasWholeRings g → size_fault g ≡ None → vertex_of g part ring index ≡ Some old → move_vertex g part ring index p ≡ Ok new
    → move_vertex new part ring index old ≡ Ok g
move_vertex-back g new part ring index p old whole sized was h =
    outcome-sized (changed (exchange index old) part ring new) g
    (changed-back (exchange index p) (exchange index old) part ring g whole (λ ps there. exchange-back index p old ps (at_vertex (vertices_of g part ring) index old ps was there)) new
    (outcome-changed (changed (exchange index p) part ring g) new h)) sized

-- what was removed is inserted
pub remove_vertex-back : (g new : Geometry) (part ring index : ℕ) (old : Coordinates) → HasWholeRings g → size_fault g ≡ None → vertex_of g part ring index ≡ Some old → remove_vertex g part ring index ≡ Ok new
    → insert_vertex new part ring index old ≡ Ok g
remove_vertex-back g new part ring index old whole sized was h =
    outcome-sized (changed (insertion index old) part ring new) g
    (changed-back (removal index) (insertion index old) part ring g whole (λ ps there. removal-back index old ps (at_vertex (vertices_of g part ring) index old ps was there)) new
    (outcome-changed (changed (removal index) part ring g) new h)) sized
