-- A change of vertices that brings points of the grid leaves a geometry on the grid.
use Rattle.std.proofs.Common.{◌≡◌, ℕ, zero, suc, ◌-◌, Bool, true, false, if◌then◌else◌, List, [], ◌∷◌, ◌++◌, length, take, Option, None, Some, option_map, option_and_then, Ok, refl, subst}
use Rattle.std.specs.Prelude.{insert, remove, slice_get, slice_set, nat_le, nat_lt}
use Rattle.std.specs.List.{AllByRecursion}
use Rattle.sf_grid.specs.Plane.{Coordinates, IsOnGrid}
use Rattle.sf_geometry.specs.declared.geometry.Geometry.{Geometry}
use Rattle.sf_geometry.specs.declared.geometry.Geometry.TheVariants.{Point, LineString, Polygon, MultiPoint, MultiLineString, MultiPolygon}
use Rattle.sf_geometry.specs.Parts.{LiesOnGrid, joined}
use Rattle.sf_geometry.specs.Vertices.{Change, change_at, change_ring, changed, exchange, insert_vertex, insertion, move_vertex, one_point, removal, remove_vertex, ring_of, ring_vertices}
use Rattle.sf_features.proofs.VertexLaws.{outcome-Ok}

some_same : {X : Type 0} (x y : X) → Some x ≡ Some y → x ≡ y
some_same x y h = cc

-- ---- lists whose members all pass

all-left : {X : Type 0} (P : X → Type 0) (xs ys : List X) → AllByRecursion P (xs ++ ys) → AllByRecursion P xs
all-left P [] ys all = tt
all-left P (x ∷ xs) ys all = (all.0, all-left P xs ys all.1)

all-right : {X : Type 0} (P : X → Type 0) (xs ys : List X) → AllByRecursion P (xs ++ ys) → AllByRecursion P ys
all-right P [] ys all = all
all-right P (x ∷ xs) ys all = all-right P xs ys all.1

all-both : {X : Type 0} (P : X → Type 0) (xs ys : List X) → AllByRecursion P xs → AllByRecursion P ys → AllByRecursion P (xs ++ ys)
all-both P [] ys left right = right
all-both P (x ∷ xs) ys left right = (left.0, all-both P xs ys left.1 right)

all-parted : {X : Type 0} (P : X → Type 0) (xss : List (List X)) → AllByRecursion P (joined xss) → AllByRecursion (AllByRecursion P) xss
all-parted P [] all = tt
all-parted P (xs ∷ xss) all = (all-left P xs (joined xss) all, all-parted P xss (all-right P xs (joined xss) all))

all-joined : {X : Type 0} (P : X → Type 0) (xss : List (List X)) → AllByRecursion (AllByRecursion P) xss → AllByRecursion P (joined xss)
all-joined P [] all = tt
all-joined P (xs ∷ xss) all = all-both P xs (joined xss) all.0 (all-joined P xss all.1)

all-set : {X : Type 0} (P : X → Type 0) (xs : List X) (i : ℕ) (x : X) → AllByRecursion P xs → P x → AllByRecursion P (slice_set xs i x)
all-set P [] i x all new = tt
all-set P (y ∷ ys) zero x all new = (new, all.1)
all-set P (y ∷ ys) (suc i) x all new = (all.0, all-set P ys i x all.1 new)

all-put : {X : Type 0} (P : X → Type 0) (xs : List X) (i : ℕ) (x : X) → AllByRecursion P xs → P x → AllByRecursion P (insert xs i x)
all-put P [] zero x all new = (new, tt)
all-put P [] (suc i) x all new = (new, tt)
all-put P (y ∷ ys) zero x all new = (new, all)
all-put P (y ∷ ys) (suc i) x all new = (all.0, all-put P ys i x all.1 new)

all-out : {X : Type 0} (P : X → Type 0) (xs : List X) (i : ℕ) → AllByRecursion P xs → AllByRecursion P (remove xs i)
all-out P [] zero all = all
all-out P [] (suc i) all = all
all-out P (x ∷ xs) zero all = all.1
all-out P (x ∷ xs) (suc i) all = (all.0, all-out P xs i all.1)

all-take : {X : Type 0} (P : X → Type 0) (n : ℕ) (xs : List X) → AllByRecursion P xs → AllByRecursion P (take n xs)
all-take P zero xs all = tt
all-take P (suc n) [] all = tt
all-take P (suc n) (x ∷ xs) all = (all.0, all-take P n xs all.1)

all-there : {X : Type 0} (P : X → Type 0) (xs : List X) (i : ℕ) (x : X) → AllByRecursion P xs → slice_get xs i ≡ Some x → P x
all-there P [] i x all at = cc
all-there P (y ∷ ys) zero x all at = subst P (some_same y x at) all.0
all-there P (y ∷ ys) (suc i) x all at = all-there P ys i x all.1 at

-- ---- changes that keep what passes

abbrev Keeps : {X : Type 0} → (X → Type 0) → (X → Option X) → Type 0
Keeps {X} P f = (x y : X) → P x → f x ≡ Some y → P y

keeps-at : {X : Type 0} (P : X → Type 0) (n : ℕ) (f : X → Option X) → Keeps P f → Keeps (AllByRecursion P) (change_at n f)
keeps-at {X} P n f keeps xs ys all made = by (slice_get xs n) refl made
  where
    inner : (x : X) → slice_get xs n ≡ Some x → (o : Option X) → f x ≡ o → option_map (slice_set xs n) o ≡ Some ys → AllByRecursion P ys
    inner x at None is made = cc
    inner x at (Some y) is made =
        subst (AllByRecursion P) (some_same (slice_set xs n y) ys made) (all-set P xs n y all (keeps x y (all-there P xs n x all at) is))

    by : (o : Option X) → slice_get xs n ≡ o → option_map (slice_set xs n) (option_and_then f o) ≡ Some ys → AllByRecursion P ys
    by None at made = cc
    by (Some x) at made = inner x at (f x) refl made

all-ring : (P : Coordinates → Type 0) (ps : List Coordinates) → AllByRecursion P ps → AllByRecursion P (ring_of ps)
all-ring P [] all = tt
all-ring P (p ∷ ps) all = (all.0, all-both P ps (p ∷ []) all.1 (all.0, tt))

keeps-ring : (P : Coordinates → Type 0) (change : Change) → Keeps (AllByRecursion P) change → Keeps (AllByRecursion P) (change_ring change)
keeps-ring P change keeps ring new all made = by (change (ring_vertices ring)) refl made
  where
    by : (o : Option (List Coordinates)) → change (ring_vertices ring) ≡ o → option_map ring_of o ≡ Some new → AllByRecursion P new
    by None is made = cc
    by (Some ps) is made =
        subst (AllByRecursion P) (some_same (ring_of ps) new made) (all-ring P ps (keeps (ring_vertices ring) ps (all-take P (length ring - 1) ring all) is))

abbrev Lies : List Coordinates → Type 0
Lies = AllByRecursion IsOnGrid

-- a geometry made of what a change leads to
made-under : {X : Type 0} (make : X → Geometry) (Q : X → Type 0) → ((x : X) → Q x → LiesOnGrid (make x)) → (f : X → Option X) → Keeps Q f → (x : X) → Q x → (new : Geometry) → option_map make (f x) ≡ Some new → LiesOnGrid new
made-under {X} make Q lies f keeps x is new made = by (f x) refl made
  where
    by : (o : Option X) → f x ≡ o → option_map make o ≡ Some new → LiesOnGrid new
    by None at made = cc
    by (Some y) at made = subst LiesOnGrid (some_same (make y) new made) (lies y (keeps x y is at))

one : (ps : List Coordinates) → Lies ps → Lies (ps ++ [])
one ps all = all-both IsOnGrid ps [] all tt

LiesOnGrid-changed : (change : Change) → Keeps Lies change → (part ring : ℕ) (g new : Geometry) → LiesOnGrid g → changed change part ring g ≡ Some new → LiesOnGrid new
LiesOnGrid-changed change keeps (suc part) ring (Point p) new lies made = cc
LiesOnGrid-changed change keeps zero (suc ring) (Point p) new lies made = cc
LiesOnGrid-changed change keeps zero zero (Point p) new lies made = by (change (p ∷ [])) refl made
  where
    by : (o : Option (List Coordinates)) → change (p ∷ []) ≡ o → option_and_then one_point o ≡ Some new → LiesOnGrid new
    by None is made = cc
    by (Some []) is made = cc
    by (Some (q ∷ r ∷ rest)) is made = cc
    by (Some (q ∷ [])) is made = subst LiesOnGrid (some_same (Point q) new made) (keeps (p ∷ []) (q ∷ []) (lies.0, tt) is)
LiesOnGrid-changed change keeps (suc part) ring (LineString ps) new lies made = cc
LiesOnGrid-changed change keeps zero (suc ring) (LineString ps) new lies made = cc
LiesOnGrid-changed change keeps zero zero (LineString ps) new lies made = made-under LineString Lies one change keeps ps (all-left IsOnGrid ps [] lies) new made
LiesOnGrid-changed change keeps (suc part) ring (Polygon rings) new lies made = cc
LiesOnGrid-changed change keeps zero ring (Polygon rings) new lies made =
    made-under Polygon (AllByRecursion Lies) (all-joined IsOnGrid) (change_at ring (change_ring change)) (keeps-at Lies ring (change_ring change) (keeps-ring IsOnGrid change keeps)) rings (all-parted IsOnGrid rings lies) new made
LiesOnGrid-changed change keeps (suc part) ring (MultiPoint ps) new lies made = cc
LiesOnGrid-changed change keeps zero (suc ring) (MultiPoint ps) new lies made = cc
LiesOnGrid-changed change keeps zero zero (MultiPoint ps) new lies made = made-under MultiPoint Lies one change keeps ps (all-left IsOnGrid ps [] lies) new made
LiesOnGrid-changed change keeps part (suc ring) (MultiLineString lines) new lies made = cc
LiesOnGrid-changed change keeps part zero (MultiLineString lines) new lies made =
    made-under MultiLineString (AllByRecursion Lies) (all-joined IsOnGrid) (change_at part change) (keeps-at Lies part change keeps) lines (all-parted IsOnGrid lines lies) new made
LiesOnGrid-changed change keeps part ring (MultiPolygon polygons) new lies made =
    made-under MultiPolygon (AllByRecursion (AllByRecursion Lies)) (λ xs all. all-joined IsOnGrid (joined xs) (all-joined Lies xs all)) (change_at part (change_at ring (change_ring change)))
    (keeps-at (AllByRecursion Lies) part (change_at ring (change_ring change)) (keeps-at Lies ring (change_ring change) (keeps-ring IsOnGrid change keeps)))
    polygons (all-parted Lies polygons (all-parted IsOnGrid (joined polygons) lies)) new made

-- ---- the three changes

keeps-insertion : (index : ℕ) (p : Coordinates) → IsOnGrid p → Keeps Lies (insertion index p)
keeps-insertion index p on ps ys all made = by (nat_le index (length ps)) made
  where
    by : (b : Bool) → (if b then Some (insert ps index p) else None) ≡ Some ys → Lies ys
    by true made = subst Lies (some_same (insert ps index p) ys made) (all-put IsOnGrid ps index p all on)
    by false made = cc

keeps-exchange : (index : ℕ) (p : Coordinates) → IsOnGrid p → Keeps Lies (exchange index p)
keeps-exchange index p on ps ys all made = by (nat_lt index (length ps)) made
  where
    by : (b : Bool) → (if b then Some (slice_set ps index p) else None) ≡ Some ys → Lies ys
    by true made = subst Lies (some_same (slice_set ps index p) ys made) (all-set IsOnGrid ps index p all on)
    by false made = cc

keeps-removal : (index : ℕ) → Keeps Lies (removal index)
keeps-removal index ps ys all made = by (nat_lt index (length ps)) made
  where
    by : (b : Bool) → (if b then Some (remove ps index) else None) ≡ Some ys → Lies ys
    by true made = subst Lies (some_same (remove ps index) ys made) (all-out IsOnGrid ps index all)
    by false made = cc

pub LiesOnGrid-insert_vertex : (g new : Geometry) (part ring index : ℕ) (p : Coordinates) → IsOnGrid p → LiesOnGrid g → insert_vertex g part ring index p ≡ Ok new → LiesOnGrid new
LiesOnGrid-insert_vertex g new part ring index p on lies made =
    LiesOnGrid-changed (insertion index p) (keeps-insertion index p on) part ring g new lies (outcome-Ok (changed (insertion index p) part ring g) new made)

pub LiesOnGrid-move_vertex : (g new : Geometry) (part ring index : ℕ) (p : Coordinates) → IsOnGrid p → LiesOnGrid g → move_vertex g part ring index p ≡ Ok new → LiesOnGrid new
LiesOnGrid-move_vertex g new part ring index p on lies made =
    LiesOnGrid-changed (exchange index p) (keeps-exchange index p on) part ring g new lies (outcome-Ok (changed (exchange index p) part ring g) new made)

pub LiesOnGrid-remove_vertex : (g new : Geometry) (part ring index : ℕ) → LiesOnGrid g → remove_vertex g part ring index ≡ Ok new → LiesOnGrid new
LiesOnGrid-remove_vertex g new part ring index lies made =
    LiesOnGrid-changed (removal index) (keeps-removal index) part ring g new lies (outcome-Ok (changed (removal index) part ring g) new made)
