-- The vertices of a geometry after a change of them.
use Rattle.std.proofs.Common.{◌≡◌, ℕ, zero, suc, ◌<◌, ◌≤◌, Bool, true, false, if◌then◌else◌, List, [], ◌∷◌, length, insert, remove, slice_get, slice_set, Option, Some, None, option_map, option_and_then, Ok, nat_lt, nat_le, refl, ap, sym, subst, ◌∙◌, arith}
use Rattle.std.proofs.lemmas.Bool.{ltb-true}
use Rattle.std.proofs.lemmas.Bool.Decides.{nat_tests}
use Rattle.sf_grid.specs.Plane.{Coordinates}
use Rattle.sf_geometry.specs.declared.geometry.Geometry.{Geometry}
use Rattle.sf_geometry.specs.declared.geometry.Geometry.TheVariants.{Point, LineString, Polygon, MultiPoint, MultiLineString, MultiPolygon}
use Rattle.sf_geometry.specs.Vertices.{ring_vertices, ring_of, vertices_of, vertex_of, Change, insertion, exchange, removal, change_at, change_ring, one_point, changed, insert_vertex, move_vertex, remove_vertex}
use Rattle.sf_layers.proofs.Places.{slice_get-insert, slice_get-slice_set}
use Rattle.sf_steps.proofs.VerticesBack.{ring_vertices-ring_of, under, outcome-changed}

-- the vertices before a change, and after it
pub record Seen (change : Change) (part ring : ℕ) (g new : Geometry) : Type 0 where
  pub before : List Coordinates
  pub after : List Coordinates
  pub were : vertices_of g part ring ≡ Some before
  pub made : change before ≡ Some after
  pub are : vertices_of new part ring ≡ Some after

record At {X : Type 0} (n : ℕ) (f : X → Option X) (xs ys : List X) : Type 0 where
  pub old : X
  pub new : X
  pub was : slice_get xs n ≡ Some old
  pub made : f old ≡ Some new
  pub is : slice_get ys n ≡ Some new

change_at-found : {X : Type 0} (n : ℕ) (f : X → Option X) (xs ys : List X) → change_at n f xs ≡ Some ys → At n f xs ys
change_at-found {X} n f xs ys h = by (slice_get xs n) refl h
  where
    by : (o : Option X) → slice_get xs n ≡ o → option_map (slice_set xs n) (option_and_then f o) ≡ Some ys → At n f xs ys
    by None is h = cc
    by (Some x) is h = by_change (f x) refl h
      where
        by_change : (o : Option X) → f x ≡ o → option_map (slice_set xs n) o ≡ Some ys → At n f xs ys
        by_change None made h = cc
        by_change (Some y) made h =
            let at : slice_set xs n y ≡ ys = cc in
            record { old = x; new = y; was = is; made = made; is = subst (λ l. slice_get l n ≡ Some y) at (slice_get-slice_set xs n x y is) }

ring-found : (change : Change) (ring new : List Coordinates) → change_ring change ring ≡ Some new → (qs : List Coordinates) × (change (ring_vertices ring) ≡ Some qs) × (ring_vertices new ≡ qs)
ring-found change ring new h = by (change (ring_vertices ring)) refl h
  where
    by : (o : Option (List Coordinates)) → change (ring_vertices ring) ≡ o → option_map ring_of o ≡ Some new → (qs : List Coordinates) × (change (ring_vertices ring) ≡ Some qs) × (ring_vertices new ≡ qs)
    by None is h = cc
    by (Some qs) is h = let at : ring_of qs ≡ new = cc in (qs, is, ap ring_vertices (sym at) ∙ ring_vertices-ring_of qs)

pub Seen-changed : (change : Change) (part ring : ℕ) (g new : Geometry) → changed change part ring g ≡ Some new → Seen change part ring g new
Seen-changed change (suc part) ring (Point p) new h = cc
Seen-changed change zero (suc ring) (Point p) new h = cc
Seen-changed change zero zero (Point p) new h = by (change (p ∷ [])) refl h
  where
    by : (o : Option (List Coordinates)) → change (p ∷ []) ≡ o → option_and_then one_point o ≡ Some new → Seen change zero zero (Point p) new
    by None is h = cc
    by (Some []) is h = cc
    by (Some (q ∷ r ∷ rest)) is h = cc
    by (Some (q ∷ [])) is h =
        let at : Point q ≡ new = cc in
        record { before = p ∷ []; after = q ∷ []; were = refl; made = is; are = ap (λ g. vertices_of g zero zero) (sym at) }
Seen-changed change (suc part) ring (LineString ps) new h = cc
Seen-changed change zero (suc ring) (LineString ps) new h = cc
Seen-changed change zero zero (LineString ps) new h =
    let to = under LineString (change ps) new h in
    record { before = ps; after = to.0; were = refl; made = to.1; are = ap (λ g. vertices_of g zero zero) (sym to.2) }
Seen-changed change (suc part) ring (Polygon rings) new h = cc
Seen-changed change zero ring (Polygon rings) new h =
    let to = under Polygon (change_at ring (change_ring change) rings) new h in
    let at = change_at-found ring (change_ring change) rings to.0 to.1 in
    let r = ring-found change at.old at.new at.made in
    record {
      before = ring_vertices at.old;
      after = r.0;
      were = ap (option_map ring_vertices) at.was;
      made = r.1;
      are = ap (λ g. vertices_of g zero ring) (sym to.2) ∙ ap (option_map ring_vertices) at.is ∙ ap (λ l. Some l) r.2;
    }
Seen-changed change (suc part) ring (MultiPoint ps) new h = cc
Seen-changed change zero (suc ring) (MultiPoint ps) new h = cc
Seen-changed change zero zero (MultiPoint ps) new h =
    let to = under MultiPoint (change ps) new h in
    record { before = ps; after = to.0; were = refl; made = to.1; are = ap (λ g. vertices_of g zero zero) (sym to.2) }
Seen-changed change part (suc ring) (MultiLineString lines) new h = cc
Seen-changed change part zero (MultiLineString lines) new h =
    let to = under MultiLineString (change_at part change lines) new h in
    let at = change_at-found part change lines to.0 to.1 in
    record { before = at.old; after = at.new; were = at.was; made = at.made; are = ap (λ g. vertices_of g part zero) (sym to.2) ∙ at.is }
Seen-changed change part ring (MultiPolygon polygons) new h =
    let to = under MultiPolygon (change_at part (change_at ring (change_ring change)) polygons) new h in
    let at = change_at-found part (change_at ring (change_ring change)) polygons to.0 to.1 in
    let inner = change_at-found ring (change_ring change) at.old at.new at.made in
    let r = ring-found change inner.old inner.new inner.made in
    record {
      before = ring_vertices inner.old;
      after = r.0;
      were = ap (option_and_then (λ rs. option_map ring_vertices (slice_get rs ring))) at.was ∙ ap (option_map ring_vertices) inner.was;
      made = r.1;
      are = ap (λ g. vertices_of g part ring) (sym to.2) ∙ ap (option_and_then (λ rs. option_map ring_vertices (slice_get rs ring))) at.is
          ∙ ap (option_map ring_vertices) inner.is ∙ ap (λ l. Some l) r.2;
    }

inserted-there : (index : ℕ) (p : Coordinates) (ps qs : List Coordinates) → insertion index p ps ≡ Some qs → slice_get qs index ≡ Some p
inserted-there index p ps qs h = by (nat_le index (length ps)) refl h
  where
    by : (b : Bool) → nat_le index (length ps) ≡ b → (if b then Some (insert ps index p) else None) ≡ Some qs → slice_get qs index ≡ Some p
    by false is h = cc
    by true is h =
        let at : insert ps index p ≡ qs = cc in
        let fits : index ≤ length ps = grind (arith, nat_tests, is) in
        subst (λ l. slice_get l index ≡ Some p) at (slice_get-insert ps index p fits)

some-below : {X : Type 0} (xs : List X) (i : ℕ) → i < length xs → (x : X) × (slice_get xs i ≡ Some x)
some-below [] i h = absurd (omega (arith, h))
some-below (x ∷ xs) zero h = (x, refl)
some-below (x ∷ xs) (suc i) h = some-below xs i (omega (arith, h))

exchanged-there : (index : ℕ) (p : Coordinates) (ps qs : List Coordinates) → exchange index p ps ≡ Some qs → slice_get qs index ≡ Some p
exchanged-there index p ps qs h = by (nat_lt index (length ps)) refl h
  where
    by : (b : Bool) → nat_lt index (length ps) ≡ b → (if b then Some (slice_set ps index p) else None) ≡ Some qs → slice_get qs index ≡ Some p
    by false is h = cc
    by true is h =
        let at : slice_set ps index p ≡ qs = cc in
        let was = some-below ps index (ltb-true index (length ps) is) in
        subst (λ l. slice_get l index ≡ Some p) at (slice_get-slice_set ps index was.0 p was.1)

-- the new vertex stands at its index
pub inserted_vertex : (g new : Geometry) (part ring index : ℕ) (p : Coordinates) → insert_vertex g part ring index p ≡ Ok new → vertex_of new part ring index ≡ Some p
inserted_vertex g new part ring index p h =
    let seen = Seen-changed (insertion index p) part ring g new (outcome-changed (changed (insertion index p) part ring g) new h) in
    ap (option_and_then (λ ps. slice_get ps index)) seen.are ∙ inserted-there index p seen.before seen.after seen.made

pub moved_vertex : (g new : Geometry) (part ring index : ℕ) (p : Coordinates) → move_vertex g part ring index p ≡ Ok new → vertex_of new part ring index ≡ Some p
moved_vertex g new part ring index p h =
    let seen = Seen-changed (exchange index p) part ring g new (outcome-changed (changed (exchange index p) part ring g) new h) in
    ap (option_and_then (λ ps. slice_get ps index)) seen.are ∙ exchanged-there index p seen.before seen.after seen.made

exchange-below : (index : ℕ) (p : Coordinates) (ps qs : List Coordinates) → exchange index p ps ≡ Some qs → index < length ps
exchange-below index p ps qs h = by (nat_lt index (length ps)) refl h
  where
    by : (b : Bool) → nat_lt index (length ps) ≡ b → (if b then Some (slice_set ps index p) else None) ≡ Some qs → index < length ps
    by false is h = cc
    by true is h = ltb-true index (length ps) is

removal-below : (index : ℕ) (ps qs : List Coordinates) → removal index ps ≡ Some qs → index < length ps
removal-below index ps qs h = by (nat_lt index (length ps)) refl h
  where
    by : (b : Bool) → nat_lt index (length ps) ≡ b → (if b then Some (remove ps index) else None) ≡ Some qs → index < length ps
    by false is h = cc
    by true is h = ltb-true index (length ps) is

-- a vertex that is moved or removed was there
pub was_vertex : (g new : Geometry) (part ring index : ℕ) (p : Coordinates) → move_vertex g part ring index p ≡ Ok new → (old : Coordinates) × (vertex_of g part ring index ≡ Some old)
was_vertex g new part ring index p h =
    let seen = Seen-changed (exchange index p) part ring g new (outcome-changed (changed (exchange index p) part ring g) new h) in
    let was = some-below seen.before index (exchange-below index p seen.before seen.after seen.made) in
    (was.0, ap (option_and_then (λ ps. slice_get ps index)) seen.were ∙ was.1)

pub removed_vertex : (g new : Geometry) (part ring index : ℕ) → remove_vertex g part ring index ≡ Ok new → (old : Coordinates) × (vertex_of g part ring index ≡ Some old)
removed_vertex g new part ring index h =
    let seen = Seen-changed (removal index) part ring g new (outcome-changed (changed (removal index) part ring g) new h) in
    let was = some-below seen.before index (removal-below index seen.before seen.after seen.made) in
    (was.0, ap (option_and_then (λ ps. slice_get ps index)) seen.were ∙ was.1)
