-- The first point of a valid geometry is in it; what is in two geometries is shared.
use Rattle.std.proofs.Common.{◌≡◌, ℕ, suc, ◌-◌, refl, ap, sym, ◌∙◌, arith, Bool, true, false, ◌&&◌, ◌||◌, not, List, [], ◌∷◌, length, nat_lt, take}
use Rattle.std.specs.Prelude.{Some, IsTrue, slice_get}
use Rattle.std.specs.List.{list_any}
use Rattle.std.proofs.lemmas.Bool.{or_left, or_right}
use Rattle.sf_grid.specs.Plane.{Coordinates, Point as PlanePoint, grid_point, same_point}
use Rattle.sf_grid.specs.Edge.{on_edge}
use Rattle.sf_grid.proofs.CallerLemmas.{same_point_is_equivalence}
use Rattle.sf_geometry.specs.declared.geometry.Geometry.{Geometry}
use Rattle.sf_geometry.specs.declared.geometry.Geometry.TheVariants.{Point, LineString, Polygon, MultiPoint, MultiLineString, MultiPolygon}
use Rattle.sf_geometry.specs.Lists.{edges_between, tight}
use Rattle.sf_geometry.specs.PointSets.{in_boundary, in_interior, in_polygon, is_among, on_line, on_polygon}
use Rattle.sf_geometry.specs.Vertices.{ring_vertices, vertex_of}
use Rattle.sf_valid_rules.specs.Validity.{IsValid}
use Rattle.sf_strands.proofs.EndLaws.{grid-IsPoint, start-on}
use Rattle.sf_relate.specs.Contact.{FirstPointIsIn, SharePoint, is_in}
use Rattle.sf_relate.specs.Matrices.{matrix_of}
use Rattle.sf_known.specs.Patterns.{has_contact}
use Rattle.sf_relate.specs.Places.{IsPlaceOf, is_place}
use Rattle.sf_relate.specs.declared.place.Place.{Place}
use Rattle.sf_relate.specs.declared.place.Place.TheVariants.{Interior, Boundary}
use Rattle.sf_relate.proofs.PlaceLaws.{tight-of}
use Rattle.sf_relate.proofs.SharedLaws.{contact_is_shared}

-- ---- a list with an edge begins on it
short : (p : Coordinates) → nat_lt (length (p ∷ [])) 2 ≡ true
short p = refl

starts_on : (p : Coordinates) (ps : List Coordinates) → ¬ (nat_lt (length (tight (p ∷ ps))) 2 ≡ true) → on_line (p ∷ ps) (grid_point p) ≡ true
starts_on p ps long =
    let t = tight-of p ps in
    ap (λ ts. list_any (λ e. on_edge e (grid_point p)) (edges_between ts)) t.is ∙ by t.rest (λ h. long (ap (λ ts. nat_lt (length ts) 2) t.is ∙ h))
  where
    by : (rest : List Coordinates) → ¬ (nat_lt (length (p ∷ rest)) 2 ≡ true) → list_any (λ e. on_edge e (grid_point p)) (edges_between (p ∷ rest)) ≡ true
    by [] h = absurd (h (short p))
    by (s ∷ rest) h = or_left _ _ (start-on p s)

-- fewer than two are fewer than four
shorter : (n : ℕ) → nat_lt n 2 ≡ true → nat_lt n 4 ≡ true
shorter n h = grind arith

-- ---- first members
some-is : (x p : Coordinates) → Some x ≡ Some p → x ≡ p
some-is x p h = cc

-- the first vertex of a ring is its first point
begins : (x : Coordinates) (xs : List Coordinates) (p : Coordinates) → slice_get (ring_vertices (x ∷ xs)) 0 ≡ Some p → x ≡ p
begins x [] p h = absurd (cc)
begins x (y ∷ ys) p h = some-is x p (sym (ap (λ n. slice_get (take n (x ∷ y ∷ ys)) 0) (less (length ys))) ∙ h)
  where
    less : (n : ℕ) → suc (suc n) - 1 ≡ suc n
    less n = omega arith

-- on lines is in them
pub in-lines : (on end : Bool) → on ≡ true → (on && not end || end) ≡ true
in-lines on true h = or_right (on && not true) true refl
in-lines on false h = or_left (on && not false) false (ap (λ b. b && true) h)

pub first_point_is_in : FirstPointIsIn
first_point_is_in (Point x) p v h =
    or_left _ _ (ap (λ q. same_point (grid_point q) (grid_point p)) (some-is x p h) ∙ same_point_is_equivalence.reflexive (grid_point p))
first_point_is_in (MultiPoint []) p v h = absurd (cc)
first_point_is_in (MultiPoint (x ∷ xs)) p v h =
    or_left (is_among (x ∷ xs) (grid_point p)) false
    (or_left _ _ (ap (λ q. same_point (grid_point q) (grid_point p)) (some-is x p h) ∙ same_point_is_equivalence.reflexive (grid_point p)))
first_point_is_in (LineString []) p v h = absurd (cc)
first_point_is_in (LineString (x ∷ xs)) p v h =
    in-lines (on_line (x ∷ xs) (grid_point p)) (in_boundary (LineString (x ∷ xs)) (grid_point p))
    (ap (λ q. on_line (x ∷ xs) (grid_point q)) (sym (some-is x p h)) ∙ starts_on x xs v.faultless.0)
first_point_is_in (MultiLineString []) p v h = absurd (cc)
first_point_is_in (MultiLineString ([] ∷ lines)) p v h = absurd (cc)
first_point_is_in (MultiLineString ((x ∷ xs) ∷ lines)) p v h =
    let a = MultiLineString ((x ∷ xs) ∷ lines) in
    in-lines (list_any (λ ps. on_line ps (grid_point p)) ((x ∷ xs) ∷ lines)) (in_boundary a (grid_point p))
    (or_left _ _ (ap (λ q. on_line (x ∷ xs) (grid_point q)) (sym (some-is x p h)) ∙ starts_on x xs v.faultless.0))
first_point_is_in (Polygon []) p v h = absurd (cc)
first_point_is_in (Polygon ([] ∷ rings)) p v h = absurd (cc)
first_point_is_in (Polygon ((x ∷ xs) ∷ rings)) p v h =
    or_right (in_polygon ((x ∷ xs) ∷ rings) (grid_point p)) (on_polygon ((x ∷ xs) ∷ rings) (grid_point p))
    (or_left _ _
    (ap (λ q. on_line (x ∷ xs) (grid_point q)) (sym (begins x xs p h)) ∙ starts_on x xs (λ s. v.faultless.1.0 (shorter (length (tight (x ∷ xs))) s))))
first_point_is_in (MultiPolygon []) p v h = absurd (cc)
first_point_is_in (MultiPolygon ([] ∷ polygons)) p v h = absurd (cc)
first_point_is_in (MultiPolygon (([] ∷ rings) ∷ polygons)) p v h = absurd (cc)
first_point_is_in (MultiPolygon (((x ∷ xs) ∷ rings) ∷ polygons)) p v h =
    let a = MultiPolygon (((x ∷ xs) ∷ rings) ∷ polygons) in
    or_right (in_interior a (grid_point p)) (in_boundary a (grid_point p))
    (or_left _ _ (or_left _ _
    (ap (λ q. on_line (x ∷ xs) (grid_point q)) (sym (begins x xs p h)) ∙ starts_on x xs (λ s. v.faultless.1.0 (shorter (length (tight (x ∷ xs))) s)))))

-- ---- a first point that is in the other geometry
pub shared-first : (a b : Geometry) (p : Coordinates) → IsValid a → vertex_of a 0 0 0 ≡ Some p → is_in b (grid_point p) ≡ true → SharePoint a b
shared-first a b p v f h = record { q = grid_point p; is_point = grid-IsPoint p; in_first = first_point_is_in a p v f; in_second = h }

-- contact of a shared point, in either order
pub contact-first : (a b : Geometry) → SharePoint a b → IsTrue (has_contact (matrix_of a b))
contact-first a b s = (contact_is_shared a b).shared.1 s

pub contact-second : (a b : Geometry) → SharePoint b a → IsTrue (has_contact (matrix_of a b))
contact-second a b s = contact-first a b (record { q = s.q; is_point = s.is_point; in_first = s.in_second; in_second = s.in_first })

-- what a place says of being in a geometry
pub in-by-place : (a : Geometry) (q : PlanePoint) (place : Place) (r : Bool) → IsPlaceOf a q place → r ≡ (is_place Interior place || is_place Boundary place) → r ≡ is_in a q
in-by-place a q place r is h = h ∙ ap (λ b. b || is_place Boundary place) (sym is.interior) ∙ ap (λ b. in_interior a q || b) (sym is.boundary)
