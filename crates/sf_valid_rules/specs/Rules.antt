-- The rules of validity, in their order: of each line or ring from the first on, then of the whole.
use Rattle.std.specs.Prelude.{not, List, [], ◌∷◌, ◌++◌, length, nat_lt}
use Rattle.std.specs.List.{flat_map, list_any}
use Rattle.sf_grid.specs.Plane.{Coordinates}
use Rattle.sf_geometry.specs.declared.geometry.Geometry.{Geometry}
use Rattle.sf_geometry.specs.Lists.{is_closed, tight}
use Rattle.sf_geometry.specs.Parts.{joined, lines_of, polygons_of, rings_of}
use Rattle.sf_valid_rules.specs.declared.fault.Fault.{Fault}
use Rattle.sf_valid_rules.specs.declared.fault.Fault.TheVariants.{ShortLine, OpenRing, ShortRing, RingNotSimple, RingsMeet, HoleOutside, HolesNested, PolygonsOverlap}
use Rattle.sf_valid_rules.specs.Conditions.{Condition, Plain, AtPoint, AtTwoPoints, any_two}
use Rattle.sf_valid_rules.specs.Shapes.{in_hole_outside, in_two_holes, in_two_polygons, meets_itself, share_piece}

-- a fault, and the condition under which a geometry has it
pub record Rule : Type 0 where
  pub fault : Fault
  pub condition : Condition

abbrev pub rule : Fault → Condition → Rule
rule fault condition = record { fault = fault; condition = condition }

-- of a line
abbrev pub line_rules : List Coordinates → List Rule
line_rules ps = rule ShortLine (Plain (nat_lt (length (tight ps)) 2)) ∷ []

-- of a ring
abbrev pub ring_rules : List Coordinates → List Rule
ring_rules ring =
    rule OpenRing (Plain (not (is_closed ring)))
    ∷ rule ShortRing (Plain (nat_lt (length (tight ring)) 4))
    ∷ rule RingNotSimple (AtPoint (meets_itself ring)) ∷ []

-- of polygons, each as its rings, the shell first
abbrev pub polygon_rules : List (List (List Coordinates)) → List Rule
polygon_rules polygons =
    rule RingsMeet (AtTwoPoints (λ p q. any_two (λ r s. share_piece r s p q) (joined polygons)))
    ∷ rule HoleOutside (AtPoint (λ p. list_any (λ rings. in_hole_outside rings p) polygons))
    ∷ rule HolesNested (AtPoint (λ p. list_any (λ rings. in_two_holes rings p) polygons))
    ∷ rule PolygonsOverlap (AtPoint (in_two_polygons polygons)) ∷ []

-- of a geometry
abbrev pub rules_of : Geometry → List Rule
rules_of geometry =
    flat_map line_rules (lines_of geometry)
    ++ flat_map ring_rules (rings_of geometry)
    ++ polygon_rules (polygons_of geometry)
