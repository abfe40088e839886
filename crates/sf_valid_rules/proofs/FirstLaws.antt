-- The first rule that applies at the samples is the first that applies over the plane; and so for simplicity.
use Rattle.std.proofs.Common.{◌≡◌, refl, Bool, true, false, not, List, [], ◌∷◌, ◌++◌, map, Option, Some, None, inl, inr, length}
use Rattle.std.specs.Prelude.{◌↔◌, IsTrue, if◌then◌else◌, nat_lt}
use Rattle.std.specs.List.{AllByRecursion, flat_map, list_any}
use Rattle.std.proofs.lemmas.Bool.{both_ways, false≢true, false_from_ne_true, not-true, not_from_false, or_from, or_parts}
use Rattle.sf_slabs.proofs.CallerLemmas.{each-append, each-map}
use Rattle.sf_grid.specs.Plane.{Coordinates, Point}
use Rattle.sf_plane.proofs.PlaceLaws.{IsIn}
use Rattle.sf_geometry.specs.declared.geometry.Geometry.{Geometry}
use Rattle.sf_geometry.specs.declared.geometry.Geometry.TheVariants.{LineString, MultiLineString, MultiPoint, MultiPolygon, Point as OnePoint, Polygon}
use Rattle.sf_geometry.specs.Lists.{is_closed, is_same, tight}
use Rattle.sf_geometry.specs.Parts.{joined, lines_of, polygons_of, rings_of}
use Rattle.sf_geometry.specs.Size.{IsSized}
use Rattle.sf_valid_rules.specs.declared.fault.Fault.{Fault}
use Rattle.sf_valid_rules.proofs.AgreeLaws.{Agree, hole_outside-same, meets_itself-same, on_two_lines-same, two_holes-same, two_polygons-same}
use Rattle.sf_valid_rules.proofs.MemberLaws.{any-same, each-from_in, each-in, each-of_flat, each-to_flat, each-to_map}
use Rattle.sf_valid_rules.proofs.SampledLaws.{Tells, plain-tells, point-tells, rings_meet-tells}
use Rattle.sf_valid_rules.specs.Conditions.{Applies, AtPoint, Condition, any_two, applies_among}
use Rattle.sf_valid_rules.specs.Rules.{Rule, line_rules, polygon_rules, ring_rules, rules_of}
use Rattle.sf_valid_rules.specs.Shapes.{in_hole_outside, in_two_holes, in_two_polygons, meets_itself, on_two_lines}
use Rattle.sf_valid_rules.specs.Simplicity.{IsSimple, tangles_of}
use Rattle.sf_valid_rules.specs.Validity.{IsFirstIn, IsVerdict}
use Rattle.sf_valid_rules.specs.Verdicts.{first_among, first_fault, is_simple, points_among}

-- ---- each rule of a geometry
abbrev TellsRule : List (List Coordinates) → Rule → Type 0
TellsRule rings rule = Tells rings rule.condition

line_rules-tell : (rings : List (List Coordinates)) (ps : List Coordinates) → AllByRecursion (TellsRule rings) (line_rules ps)
line_rules-tell rings ps = (plain-tells rings (nat_lt (length (tight ps)) 2), tt)

-- a line or ring among others
meets_itself-tells : (lists : List (List Coordinates)) (ps : List Coordinates) → IsIn lists ps → Tells lists (AtPoint (meets_itself ps))
meets_itself-tells lists ps i = point-tells lists (meets_itself ps) (λ p q a. meets_itself-same p q ps (each-in (Agree p q) lists a ps i))

ring_rules-tell : (rings : List (List Coordinates)) (ring : List Coordinates) → IsIn rings ring → AllByRecursion (TellsRule rings) (ring_rules ring)
ring_rules-tell rings ring i = (
  plain-tells rings (not (is_closed ring)),
  (plain-tells rings (nat_lt (length (tight ring)) 4), (meets_itself-tells rings ring i, tt)),
)

-- a test of each polygon
polygon-tells : (polygons : List (List (List Coordinates))) (test : List (List Coordinates) → Point → Bool) →
    ((p q : Point) (rings : List (List Coordinates)) → AllByRecursion (Agree p q) rings → test rings p ≡ test rings q) →
    Tells (joined polygons) (AtPoint (λ p. list_any (λ rings. test rings p) polygons))
polygon-tells polygons test same =
    point-tells (joined polygons) (λ p. list_any (λ rings. test rings p) polygons)
    (λ p q a.
    any-same (λ rings. test rings p) (λ rings. test rings q) polygons
    (each-map (AllByRecursion (Agree p q)) (λ rings. test rings p ≡ test rings q) polygons (same p q) (each-of_flat (Agree p q) (λ rings. rings) polygons a)))

polygon_rules-tell : (polygons : List (List (List Coordinates))) → AllByRecursion (TellsRule (joined polygons)) (polygon_rules polygons)
polygon_rules-tell polygons = (
  rings_meet-tells (joined polygons),
  (
    polygon-tells polygons in_hole_outside hole_outside-same,
    (
      polygon-tells polygons in_two_holes two_holes-same,
      (
        point-tells (joined polygons) (in_two_polygons polygons) (λ p q a. two_polygons-same p q polygons (each-of_flat (Agree p q) (λ rings. rings) polygons a)),
        tt,
      ),
    ),
  ),
)

rules-tell : (geometry : Geometry) → AllByRecursion (TellsRule (rings_of geometry)) (rules_of geometry)
rules-tell geometry =
    let rings = rings_of geometry in
    each-append (TellsRule rings) (flat_map line_rules (lines_of geometry) ++ flat_map ring_rules rings) (polygon_rules (polygons_of geometry))
    (each-append (TellsRule rings) (flat_map line_rules (lines_of geometry)) (flat_map ring_rules rings)
    (each-to_flat (TellsRule rings) line_rules (lines_of geometry)
    (each-from_in (λ ps. AllByRecursion (TellsRule rings) (line_rules ps)) (lines_of geometry) (λ ps i. line_rules-tell rings ps)))
    (each-to_flat (TellsRule rings) ring_rules rings
    (each-from_in (λ ring. AllByRecursion (TellsRule rings) (ring_rules ring)) rings (ring_rules-tell rings))))
    (polygon_rules-tell (polygons_of geometry))

-- ---- the first rule that applies
first-tells : (lists : List (List Coordinates)) (rules : List Rule) → AllByRecursion (TellsRule lists) rules → IsFirstIn rules (first_among (points_among lists) rules)
first-tells lists [] h = tt
first-tells lists (rule ∷ rules) h =
    by_test (applies_among (points_among lists) rule.condition) h.0 (first_among (points_among lists) rules) (first-tells lists rules h.1)
  where
    by_test : (t : Bool) → IsTrue t ↔ Applies rule.condition → (later : Option Fault) → IsFirstIn rules later → IsFirstIn (rule ∷ rules) (if t then Some rule.fault else later)
    by_test true k later l = inl (k.0 refl, refl)
    by_test false k None l = (λ a. false≢true (k.1 a), l)
    by_test false k (Some fault) l = inr (λ a. false≢true (k.1 a), l)

verdict-from : (geometry : Geometry) (found : Option Fault) → IsSized geometry → IsFirstIn (rules_of geometry) found → IsVerdict geometry found
verdict-from geometry None sized h = record { sized = sized; faultless = h }
verdict-from geometry (Some fault) sized h = h

pub first_fault-over_plane : (geometry : Geometry) → IsSized geometry → IsVerdict geometry (first_fault geometry)
first_fault-over_plane geometry sized =
    verdict-from geometry (first_fault geometry) sized (first-tells (rings_of geometry) (rules_of geometry) (rules-tell geometry))

-- ---- simplicity
lines-tell : (lines : List (List Coordinates)) → AllByRecursion (Tells lines) (map (λ ps. AtPoint (meets_itself ps)) lines ++ AtPoint (on_two_lines lines) ∷ [])
lines-tell lines =
    each-append (Tells lines) (map (λ ps. AtPoint (meets_itself ps)) lines) (AtPoint (on_two_lines lines) ∷ [])
    (each-to_map (Tells lines) (λ ps. AtPoint (meets_itself ps)) lines
    (each-from_in (λ ps. Tells lines (AtPoint (meets_itself ps))) lines (meets_itself-tells lines)))
    (point-tells lines (on_two_lines lines) (λ p q a. on_two_lines-same p q lines a), tt)

tangles-tell : (geometry : Geometry) → AllByRecursion (Tells (lines_of geometry)) (tangles_of geometry)
tangles-tell (OnePoint p) = tt
tangles-tell (LineString ps) = (meets_itself-tells (ps ∷ []) ps (inl refl), tt)
tangles-tell (Polygon rings) = tt
tangles-tell (MultiPoint ps) = (plain-tells [] (any_two is_same ps), tt)
tangles-tell (MultiLineString lines) = lines-tell lines
tangles-tell (MultiPolygon polygons) = tt

none-tells : (lists : List (List Coordinates)) (tangles : List Condition) → AllByRecursion (Tells lists) tangles →
    list_any (applies_among (points_among lists)) tangles ≡ false ↔ AllByRecursion (λ tangle. ¬ (Applies tangle)) tangles
none-tells lists [] h = (λ n. tt, λ a. refl)
none-tells lists (tangle ∷ tangles) h =
    let rest = none-tells lists tangles h.1 in
    let here = applies_among (points_among lists) tangle in
    let later = list_any (applies_among (points_among lists)) tangles in (
      λ n. let parts = or_parts here later n in (λ a. both_ways here parts.0 (h.0.1 a), rest.0 parts.1),
      λ a. or_from here later (false_from_ne_true here (λ t. a.0 (h.0.0 t))) (rest.1 a.1),
    )

pub simplicity-over_plane : (geometry : Geometry) → IsTrue (is_simple geometry) ↔ IsSimple geometry
simplicity-over_plane geometry =
    let tells = none-tells (lines_of geometry) (tangles_of geometry) (tangles-tell geometry) in
    let tangled = list_any (applies_among (points_among (lines_of geometry))) (tangles_of geometry) in (
      λ h. tells.0 (not-true tangled h),
      λ h. not_from_false tangled (tells.1 h),
    )
