-- Which geometries are simple, over all points of the plane.
use Rattle.std.specs.Prelude.{List, [], ◌∷◌, ◌++◌, map}
use Rattle.std.specs.List.{AllByRecursion}
use Rattle.sf_geometry.specs.declared.geometry.Geometry.{Geometry}
use Rattle.sf_geometry.specs.declared.geometry.Geometry.TheVariants.{LineString, MultiLineString, MultiPoint}
use Rattle.sf_geometry.specs.Lists.{is_same}
use Rattle.sf_valid_rules.specs.Conditions.{Applies, AtPoint, Condition, Plain, any_two}
use Rattle.sf_valid_rules.specs.Shapes.{meets_itself, on_two_lines}

-- the conditions under which a geometry isn't simple
abbrev pub tangles_of : Geometry → List Condition
tangles_of (LineString ps) = AtPoint (meets_itself ps) ∷ []
tangles_of (MultiLineString lines) = map (λ ps. AtPoint (meets_itself ps)) lines ++ AtPoint (on_two_lines lines) ∷ []
tangles_of (MultiPoint ps) = Plain (any_two is_same ps) ∷ []
tangles_of _ = []

-- none of them applies
abbrev pub IsSimple : Geometry → Type 0
IsSimple geometry = AllByRecursion (λ tangle. ¬ (Applies tangle)) (tangles_of geometry)
