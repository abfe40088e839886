-- Internal: who wants to trust the program need not read this file.
-- What is said of polygons by the faults that were found.
use Rattle.std.specs.Prelude.{◌↔◌, ◌||◌, List, Option, Some, None, if◌then◌else◌, IsTrue}
use Rattle.std.specs.List.{list_any}
use Rattle.sf_grid.specs.Plane.{Coordinates}
use Rattle.sf_cells.specs.Groups.{Item}
use Rattle.sf_geometry.specs.Parts.{joined}
use Rattle.sf_valid_rules.specs.declared.fault.Fault.{Fault}
use Rattle.sf_valid_rules.specs.declared.fault.Fault.TheVariants.{RingsMeet, HoleOutside, HolesNested, PolygonsOverlap}
use Rattle.sf_valid_rules.specs.Conditions.{Applies, AtPoint, AtTwoPoints, Condition, any_two}
use Rattle.sf_valid_rules.specs.Shapes.{in_hole_outside, in_two_holes, in_two_polygons, share_piece}
use Rattle.sf_polygons.specs.declared.found.RingFaults.{RingFaults}
use Rattle.sf_polygons.specs.declared.found.PolygonFaults.{PolygonFaults}
use Rattle.sf_polygons.specs.Tests.{is_nested, is_outside, is_overlap, is_shared}

-- with what a further cell shows: nothing more once two rings share a piece, which is the first of all faults
abbrev pub with_ring_cell : RingFaults → Item → RingFaults
with_ring_cell found i =
    if found.meet then found else (record { meet = is_shared i; outside = found.outside || is_outside i; nested = found.nested || is_nested i })

abbrev pub with_polygon_cell : PolygonFaults → Item → PolygonFaults
with_polygon_cell found i = if found.meet then found else (record { meet = is_shared i; overlap = found.overlap || is_overlap i })

-- of one polygon's rings two share a piece; of two polygons' rings; of all rings
abbrev pub ring_pieces_shared : List (List (List Coordinates)) → Condition
ring_pieces_shared polygons = AtTwoPoints (λ p q. list_any (λ rings. any_two (λ r s. share_piece r s p q) rings) polygons)

abbrev pub polygon_pieces_shared : List (List (List Coordinates)) → Condition
polygon_pieces_shared polygons =
    AtTwoPoints (λ p q. any_two (λ rings others. list_any (λ r. list_any (λ s. share_piece r s p q) others) rings) polygons)

abbrev pub pieces_shared : List (List (List Coordinates)) → Condition
pieces_shared polygons = AtTwoPoints (λ p q. any_two (λ r s. share_piece r s p q) (joined polygons))

-- of one polygon a hole has a point outside the shell; two holes have a point inside both; two polygons have
abbrev pub holes_outside : List (List (List Coordinates)) → Condition
holes_outside polygons = AtPoint (λ p. list_any (λ rings. in_hole_outside rings p) polygons)

abbrev pub holes_nested : List (List (List Coordinates)) → Condition
holes_nested polygons = AtPoint (λ p. list_any (λ rings. in_two_holes rings p) polygons)

abbrev pub polygons_overlap : List (List (List Coordinates)) → Condition
polygons_overlap polygons = AtPoint (in_two_polygons polygons)

-- the faults of each polygon by itself; where two rings share a piece, nothing is said of the others
pub record AreRingFaults (polygons : List (List (List Coordinates))) (found : RingFaults) : Type 0 where
  pub meet : IsTrue found.meet ↔ Applies (ring_pieces_shared polygons)
  pub outside : ¬ (IsTrue found.meet) → IsTrue found.outside ↔ Applies (holes_outside polygons)
  pub nested : ¬ (IsTrue found.meet) → IsTrue found.nested ↔ Applies (holes_nested polygons)

-- the faults of polygons among one another. Where two rings of one polygon share a piece, it may be found or not; an
-- overlap is told only where no shared piece was found and no hole is outside its shell or in another hole.
pub record ArePolygonFaults (polygons : List (List (List Coordinates))) (found : PolygonFaults) : Type 0 where
  pub meet : IsTrue found.meet → Applies (pieces_shared polygons)
  pub meet_found : Applies (polygon_pieces_shared polygons) → IsTrue found.meet
  pub overlap : ¬ (IsTrue found.meet) → ¬ (Applies (holes_outside polygons)) → ¬ (Applies (holes_nested polygons)) → IsTrue found.overlap ↔ Applies (polygons_overlap polygons)

-- the faults of some polygons and of others
abbrev pub both_faults : RingFaults → RingFaults → RingFaults
both_faults found others =
    record { meet = found.meet || others.meet; outside = found.outside || others.outside; nested = found.nested || others.nested }

-- the first fault, in the order of the rules
abbrev pub first_found : RingFaults → PolygonFaults → Option Fault
first_found within between =
    if within.meet || between.meet then Some RingsMeet
    else (if within.outside then Some HoleOutside else (if within.nested then Some HolesNested else (if between.overlap then Some PolygonsOverlap else None)))
