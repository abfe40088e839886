-- What a change of vertices keeps of a geometry.
use Rattle.std.proofs.Common.{◌≡◌, ℕ, zero, suc, List, [], ◌∷◌, Option, None, Some, option_map, option_and_then, Ok, refl, ap, sym, ◌∙◌}
use Rattle.sf_grid.specs.Plane.{Coordinates}
use Rattle.sf_geometry.specs.declared.geometry.Geometry.{Geometry}
use Rattle.sf_geometry.specs.declared.geometry.Geometry.TheVariants.{Point, LineString, Polygon, MultiPoint, MultiLineString, MultiPolygon}
use Rattle.sf_geometry.specs.declared.kind.Kind.{Kind}
use Rattle.sf_geometry.specs.declared.refusal.Refusal.{Refusal}
use Rattle.sf_geometry.specs.Kinds.{kind_of}
use Rattle.sf_geometry.specs.Size.{size_fault}
use Rattle.sf_geometry.specs.Vertices.{Change, changed, change_at, change_ring, one_point, outcome, sized_or_refused}

same_some : {X : Type 0} (x y : X) → Some x ≡ Some y → x ≡ y
same_some x y h = cc

-- a geometry made under one constructor has its kind
kind_under : {X : Type 0} (make : X → Geometry) (kind : Kind) → ((x : X) → kind_of (make x) ≡ kind) → (o : Option X) (new : Geometry) → option_map make o ≡ Some new → kind_of new ≡ kind
kind_under make kind each None new h = cc
kind_under make kind each (Some x) new h = ap kind_of (sym (same_some (make x) new h)) ∙ each x

-- a change of vertices keeps the kind
kind_of-changed : (change : Change) (part ring : ℕ) (g new : Geometry) → changed change part ring g ≡ Some new → kind_of new ≡ kind_of g
kind_of-changed change (suc part) ring (Point p) new h = cc
kind_of-changed change zero (suc ring) (Point p) new h = cc
kind_of-changed change zero zero (Point p) new h = by (change (p ∷ [])) h
  where
    by : (o : Option (List Coordinates)) → option_and_then one_point o ≡ Some new → kind_of new ≡ kind_of (Point p)
    by None h = cc
    by (Some []) h = cc
    by (Some (q ∷ r ∷ rest)) h = cc
    by (Some (q ∷ [])) h = ap kind_of (sym (same_some (Point q) new h))
kind_of-changed change (suc part) ring (LineString ps) new h = cc
kind_of-changed change zero (suc ring) (LineString ps) new h = cc
kind_of-changed change zero zero (LineString ps) new h = kind_under LineString (kind_of (LineString ps)) (λ qs. refl) (change ps) new h
kind_of-changed change (suc part) ring (Polygon rings) new h = cc
kind_of-changed change zero ring (Polygon rings) new h = kind_under Polygon (kind_of (Polygon rings)) (λ qs. refl) (change_at ring (change_ring change) rings) new h
kind_of-changed change (suc part) ring (MultiPoint ps) new h = cc
kind_of-changed change zero (suc ring) (MultiPoint ps) new h = cc
kind_of-changed change zero zero (MultiPoint ps) new h = kind_under MultiPoint (kind_of (MultiPoint ps)) (λ qs. refl) (change ps) new h
kind_of-changed change part (suc ring) (MultiLineString lines) new h = cc
kind_of-changed change part zero (MultiLineString lines) new h = kind_under MultiLineString (kind_of (MultiLineString lines)) (λ qs. refl) (change_at part change lines) new h
kind_of-changed change part ring (MultiPolygon polygons) new h =
    kind_under MultiPolygon (kind_of (MultiPolygon polygons)) (λ qs. refl) (change_at part (change_at ring (change_ring change)) polygons) new h

-- what an outcome leads to was changed to
pub outcome-Ok : (o : Option Geometry) (new : Geometry) → outcome o ≡ Ok new → o ≡ Some new
outcome-Ok None new h = cc
outcome-Ok (Some g) new h = by (size_fault g) h
  where
    by : (o : Option Refusal) → sized_or_refused g o ≡ Ok new → Some g ≡ Some new
    by None h = let same : g ≡ new = cc in ap (λ x. Some x) same
    by (Some refusal) h = cc

-- so what comes of an insertion, a move or a removal has the kind of before
pub kind_of-outcome : (change : Change) (part ring : ℕ) (g new : Geometry) → outcome (changed change part ring g) ≡ Ok new → kind_of new ≡ kind_of g
kind_of-outcome change part ring g new h = kind_of-changed change part ring g new (outcome-Ok (changed change part ring g) new h)
