-- Segments as a list of pairs, of which a valid geometry has one at least, since it has a point.
use Rattle.std.proofs.Common.{◌≡◌, refl, ap, sym, ◌∙◌, subst, ℕ, ◌<◌, arith, true, List, [], ◌∷◌, map, length}
use Rattle.std.specs.List.{list_any}
use Rattle.sf_grid.specs.Fraction.{Fraction}
use Rattle.sf_grid.specs.Plane.{Coordinates, Point as PlanePoint}
use Rattle.sf_grid.specs.Edge.{Edge, on_edge}
use Rattle.sf_geometry.specs.declared.geometry.Geometry.{Geometry}
use Rattle.sf_geometry.specs.declared.geometry.Geometry.TheVariants.{Point, LineString, Polygon, MultiPoint, MultiLineString, MultiPolygon}
use Rattle.sf_geometry.specs.Parts.{edge_of}
use Rattle.sf_known.specs.Patterns.{has_contact}
use Rattle.sf_polygons.proofs.TestLaws.{any-map}
use Rattle.sf_valid_rules.specs.Validity.{IsValid}
use Rattle.sf_relate.specs.ByKinds.{alike_entries}
use Rattle.sf_relate.specs.Contact.{SharePoint}
use Rattle.sf_relate.proofs.SharedLaws.{contact_is_shared}
use Rattle.sf_relate.proofs.ToldLaws.{alike_is_decided}
use Rattle.sf_distance.specs.Squares.{IsLeastSquare, IsWithin}
use Rattle.sf_distance.proofs.DotLaws.{least_as}
use Rattle.sf_edge_distance.specs.Edges.{IsOnSome, on_some}
use Rattle.sf_nearness.specs.Segments.{IsOnSegments, dot_at, on_segments, segments_of}
use Rattle.sf_nearness.proofs.SegmentLaws.{some-segment}

-- ---- a valid geometry shares a point with itself
interior-filled : (a : Geometry) → has_contact (alike_entries a) ≡ true
interior-filled (Point p) = refl
interior-filled (MultiPoint ps) = refl
interior-filled (LineString ps) = refl
interior-filled (MultiLineString lines) = refl
interior-filled (Polygon rings) = refl
interior-filled (MultiPolygon polygons) = refl

pub has-point : (a : Geometry) → IsValid a → SharePoint a a
has-point a v = (contact_is_shared a a).shared.0 (ap has_contact (sym (alike_is_decided a v).computed) ∙ interior-filled a)

length-mapped : {X Y : Type 0} (f : X → Y) (xs : List X) → length (map f xs) ≡ length xs
length-mapped f [] = refl
length-mapped f (x ∷ xs) = grind (arith, length-mapped f xs)

pub some-listed : (a g : Geometry) (pairs : List (Coordinates × Coordinates)) → IsValid a → g ≡ a → map edge_of pairs ≡ segments_of g → 0 < length pairs
some-listed a g pairs v same are =
    let s = has-point a v in
    subst (λ (n : ℕ). 0 < n) (ap (λ (es : List Edge). length es) (sym (are ∙ ap segments_of same)) ∙ length-mapped edge_of pairs)
    (some-segment a s.q v s.is_point s.in_first)

-- ---- the same points
listed-on : (a : Geometry) (pairs : List (Coordinates × Coordinates)) (q : PlanePoint) → map edge_of pairs ≡ segments_of a → on_some pairs q ≡ on_segments a q
listed-on a pairs q are = sym (any-map (λ e. on_edge e q) edge_of pairs) ∙ ap (λ (es : List Edge). list_any (λ e. on_edge e q) es) are

pub least-listed : (a b : Geometry) (first second : List (Coordinates × Coordinates)) (square : Fraction) → map edge_of first ≡ segments_of a → map edge_of second ≡ segments_of b
    → IsLeastSquare (IsOnSome first) (IsOnSome second) square → IsLeastSquare (IsOnSegments a) (IsOnSegments b) square
least-listed a b first second square f s l =
    least_as (IsOnSome first) (IsOnSome second) (IsOnSegments a) (IsOnSegments b) square
    (λ p h. sym (listed-on a first p f) ∙ h) (λ p h. listed-on a first p f ∙ h) (λ p h. sym (listed-on b second p s) ∙ h) (λ p h. listed-on b second p s ∙ h) l

pub within-listed : (a b : Geometry) (first second : List (Coordinates × Coordinates)) (bound : Fraction) → map edge_of first ≡ segments_of a → map edge_of second ≡ segments_of b
    → IsWithin (IsOnSome first) (IsOnSome second) bound → IsWithin (IsOnSegments a) (IsOnSegments b) bound
within-listed a b first second bound f s w =
    record {
      first = w.first;
      second = w.second;
      first_is_point = w.first_is_point;
      second_is_point = w.second_is_point;
      in_first = sym (listed-on a first w.first f) ∙ w.in_first;
      in_second = sym (listed-on b second w.second s) ∙ w.in_second;
      near = w.near;
    }

pub listed-within : (a b : Geometry) (first second : List (Coordinates × Coordinates)) (bound : Fraction) → map edge_of first ≡ segments_of a → map edge_of second ≡ segments_of b
    → IsWithin (IsOnSegments a) (IsOnSegments b) bound → IsWithin (IsOnSome first) (IsOnSome second) bound
listed-within a b first second bound f s w =
    record {
      first = w.first;
      second = w.second;
      first_is_point = w.first_is_point;
      second_is_point = w.second_is_point;
      in_first = listed-on a first w.first f ∙ w.in_first;
      in_second = listed-on b second w.second s ∙ w.in_second;
      near = w.near;
    }

-- ---- points as pairs
pub dots-listed : (ps : List Coordinates) → map edge_of (map (λ (p : Coordinates). (p, p)) ps) ≡ map dot_at ps
dots-listed [] = refl
dots-listed (p ∷ ps) = ap (λ (es : List Edge). dot_at p ∷ es) (dots-listed ps)
