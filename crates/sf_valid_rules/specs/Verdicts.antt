-- Computes the first fault (IsVerdict) and whether a geometry is simple (IsSimple): the laws FirstFaultIsOverThePlane and
-- SimplicityIsOverThePlane below say so.
-- Validity and simplicity as functions that compute: the points of the plane that are looked at are the samples of the
-- geometry's edges and vertices. The laws say that these speak for all points.
use Rattle.std.specs.Prelude.{◌≡◌, ◌↔◌, Bool, not, List, [], ◌∷◌, ◌++◌, map, Option, Some, None, if◌then◌else◌, IsTrue}
use Rattle.std.specs.List.{flat_map, list_any}
use Rattle.sf_grid.specs.Plane.{Coordinates, Point}
use Rattle.sf_strips.specs.declared.piece.Piece.{Piece}
use Rattle.sf_strips.specs.declared.piece.Piece.TheVariants.{Dot, Edge}
use Rattle.sf_cells.specs.Samples.{samples}
use Rattle.sf_geometry.specs.declared.geometry.Geometry.{Geometry}
use Rattle.sf_geometry.specs.Lists.{edges_of, tight}
use Rattle.sf_geometry.specs.Parts.{lines_of, rings_of}
use Rattle.sf_geometry.specs.Size.{IsSized}
use Rattle.sf_valid_rules.specs.declared.fault.Fault.{Fault}
use Rattle.sf_valid_rules.specs.Conditions.{applies_among}
use Rattle.sf_valid_rules.specs.Rules.{Rule, rules_of}
use Rattle.sf_valid_rules.specs.Simplicity.{IsSimple, tangles_of}
use Rattle.sf_valid_rules.specs.Validity.{IsVerdict}

-- the edges and vertices of a line or ring
abbrev pub pieces_of : List Coordinates → List Piece
pieces_of ps = map (λ e. Edge e.a e.b) (edges_of ps) ++ map Dot (tight ps)

-- the samples of lines and rings
abbrev pub points_among : List (List Coordinates) → List Point
points_among lists = map (λ s. s.point) (samples (flat_map pieces_of lists))

-- the fault of the first rule that applies where only these points are looked at
abbrev pub first_among : List Point → List Rule → Option Fault
first_among points [] = None
first_among points (rule ∷ rules) =
    let later = first_among points rules in
    if applies_among points rule.condition then Some rule.fault else later

-- the first fault of a geometry, or none where it is valid
abbrev pub first_fault : Geometry → Option Fault
first_fault geometry = first_among (points_among (rings_of geometry)) (rules_of geometry)

-- whether a geometry is simple
abbrev pub is_simple : Geometry → Bool
is_simple geometry = not (list_any (applies_among (points_among (lines_of geometry))) (tangles_of geometry))

-- the first fault that is computed is the first one over the plane, and where there is none the geometry is valid
abbrev pub FirstFaultIsOverThePlane : Type 0
FirstFaultIsOverThePlane = (geometry : Geometry) → IsSized geometry → IsVerdict geometry (first_fault geometry)

-- a geometry has one verdict
abbrev pub VerdictIsOne : Type 0
VerdictIsOne = (geometry : Geometry) (first second : Option Fault) → IsVerdict geometry first → IsVerdict geometry second → first ≡ second

-- a geometry is computed to be simple just where it is so over the plane
abbrev pub SimplicityIsOverThePlane : Type 0
SimplicityIsOverThePlane = (geometry : Geometry) → IsTrue (is_simple geometry) ↔ IsSimple geometry
