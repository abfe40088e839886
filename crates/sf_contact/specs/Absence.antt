-- Internal: who wants to trust the program need not read this file.
-- When two geometries share no point: what edges and first points show of it.
use Rattle.std.specs.Prelude.{Bool, true, false, ◌||◌, List, [], ◌∷◌, IsFalse}
use Rattle.std.specs.List.{list_any}
use Rattle.sf_grid.specs.Plane.{Coordinates, Point as PlanePoint, grid_point}
use Rattle.sf_grid.specs.Edge.{on_edge}
use Rattle.sf_geometry.specs.declared.geometry.Geometry.{Geometry}
use Rattle.sf_geometry.specs.declared.geometry.Geometry.TheVariants.{LineString, MultiLineString, MultiPoint, Point}
use Rattle.sf_geometry.specs.Parts.{edges_of, lists_of}
use Rattle.sf_valid_rules.specs.Validity.{IsValid}
use Rattle.sf_relate.specs.Contact.{is_in}
use Rattle.sf_contact.specs.EdgeContact.{Share}
use Rattle.sf_relate.specs.ByKinds.{ShareNone}

-- q is on an edge of a line or ring of the geometry; points have none
abbrev pub on_edges : Geometry → PlanePoint → Bool
on_edges geometry q = list_any (λ e. on_edge e q) (edges_of geometry)

-- it is one line or several
abbrev pub is_lines : Geometry → Bool
is_lines (LineString points) = true
is_lines (MultiLineString lines) = true
is_lines geometry = false

-- no point of the plane is on an edge of each
abbrev pub EdgesAreApart : Geometry → Geometry → Type 0
EdgesAreApart a b = ¬ (Share (on_edges a) (on_edges b))

-- the first point of a line or ring is in b
abbrev pub begins_in : Geometry → List Coordinates → Bool
begins_in b [] = false
begins_in b (p ∷ ps) = is_in b (grid_point p)

-- a point, or the first point of a line or of a ring, of the first geometry is in b
abbrev pub has_start_in : Geometry → Geometry → Bool
has_start_in (Point p) b = is_in b (grid_point p)
has_start_in (MultiPoint ps) b = list_any (λ p. is_in b (grid_point p)) ps
has_start_in geometry b = list_any (begins_in b) (lists_of geometry)

-- valid geometries share no point where their edges share none and no part of either begins in the other
abbrev pub AbsenceIsDecided : Type 0
AbsenceIsDecided =
    (a b : Geometry) → IsValid a → IsValid b → EdgesAreApart a b → IsFalse (has_start_in a b || has_start_in b a) → ShareNone a b
