-- A valid geometry has a first vertex.
use Rattle.std.proofs.Common.{◌≡◌, ℕ, suc, ◌-◌, refl, ap, sym, ◌∙◌, arith, true, List, [], ◌∷◌, length, nat_lt, take}
use Rattle.std.specs.Prelude.{Option, None, Some, slice_get}
use Rattle.std.specs.List.{list_any}
use Rattle.std.proofs.lemmas.Bool.{both_ways, or_parts}
use Rattle.sf_grid.specs.Plane.{Coordinates}
use Rattle.sf_geometry.specs.declared.geometry.Geometry.{Geometry}
use Rattle.sf_geometry.specs.declared.geometry.Geometry.TheVariants.{LineString, MultiLineString, MultiPoint, MultiPolygon, Point, Polygon}
use Rattle.sf_geometry.specs.Lists.{tight}
use Rattle.sf_geometry.specs.Size.{has_empty, is_empty}
use Rattle.sf_geometry.specs.Vertices.{ring_vertices, vertex_of}
use Rattle.sf_valid_rules.specs.Validity.{IsValid}

-- a ring of four points has a first vertex
ring-begins : (x : Coordinates) (xs : List Coordinates) → ¬ (nat_lt (length (tight (x ∷ xs))) 4 ≡ true) → slice_get (ring_vertices (x ∷ xs)) 0 ≡ None → ⊥
ring-begins x [] long h = long refl
ring-begins x (y ∷ ys) long h = is-some x (sym (ap (λ n. slice_get (take n (x ∷ y ∷ ys)) 0) (less (length ys))) ∙ h)
  where
    less : (n : ℕ) → suc (suc n) - 1 ≡ suc n
    less n = omega arith

    is-some : (p : Coordinates) → Some p ≡ None → ⊥
    is-some p e = cc

has-first : (a : Geometry) → IsValid a → vertex_of a 0 0 0 ≡ None → ⊥
has-first (Point p) v h = cc
has-first (MultiPoint []) v h = both_ways true v.sized.filled refl
has-first (MultiPoint (p ∷ ps)) v h = cc
has-first (LineString []) v h = both_ways true v.sized.filled refl
has-first (LineString (p ∷ ps)) v h = cc
has-first (MultiLineString []) v h = both_ways true v.sized.filled refl
has-first (MultiLineString ([] ∷ lines)) v h = both_ways true (or_parts (is_empty ([] ∷ lines)) (list_any is_empty ([] ∷ lines)) v.sized.filled).1 refl
has-first (MultiLineString ((p ∷ ps) ∷ lines)) v h = cc
has-first (Polygon []) v h = both_ways true v.sized.filled refl
has-first (Polygon ([] ∷ rings)) v h = both_ways true (or_parts (is_empty ([] ∷ rings)) (list_any is_empty ([] ∷ rings)) v.sized.filled).1 refl
has-first (Polygon ((x ∷ xs) ∷ rings)) v h = ring-begins x xs v.faultless.1.0 h
has-first (MultiPolygon []) v h = both_ways true v.sized.filled refl
has-first (MultiPolygon ([] ∷ polygons)) v h = both_ways true (or_parts (is_empty ([] ∷ polygons)) (list_any has_empty ([] ∷ polygons)) v.sized.filled).1 refl
has-first (MultiPolygon (([] ∷ rings) ∷ polygons)) v h =
    let some = (or_parts (is_empty (([] ∷ rings) ∷ polygons)) (list_any has_empty (([] ∷ rings) ∷ polygons)) v.sized.filled).1 in
    let first = (or_parts (has_empty ([] ∷ rings)) (list_any has_empty polygons) some).0 in
    both_ways true (or_parts (is_empty ([] ∷ rings)) (list_any is_empty ([] ∷ rings)) first).1 refl
has-first (MultiPolygon (((x ∷ xs) ∷ rings) ∷ polygons)) v h = ring-begins x xs v.faultless.1.0 h

-- as it is called
pub first-there : (a found : Geometry) (vertex : Option Coordinates) → IsValid a → found ≡ a → vertex ≡ vertex_of found 0 0 0 → vertex ≡ None → ⊥
first-there a found vertex v is first none = has-first a v (sym (first ∙ ap (λ g. vertex_of g 0 0 0) is) ∙ none)
