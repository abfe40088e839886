-- Internal: who wants to trust the program need not read this file.
-- How many bytes canonical bytes are.
use Rattle.std.specs.Prelude.{ℕ, ◌+◌, ◌*◌, length}
use Rattle.sf_geometry.specs.declared.geometry.Geometry.{Geometry}
use Rattle.sf_geometry.specs.declared.geometry.Geometry.TheVariants.{Point, LineString, Polygon, MultiPoint, MultiLineString, MultiPolygon}
use Rattle.sf_geometry.specs.Parts.{joined}

-- by the counts of a geometry's lists: 5 for each byte of order with its code, 4 for each count, 16 for each point
abbrev pub canonical_len : Geometry → ℕ
canonical_len (Point p) = 5 + 16
canonical_len (LineString ps) = 5 + 4 + 16 * length ps
canonical_len (Polygon rings) = 5 + 4 + 4 * length rings + 16 * length (joined rings)
canonical_len (MultiPoint ps) = 5 + 4 + (5 + 16) * length ps
canonical_len (MultiLineString lines) = 5 + 4 + (5 + 4) * length lines + 16 * length (joined lines)
canonical_len (MultiPolygon polygons) = 5 + 4 + (5 + 4) * length polygons + 4 * length (joined polygons) + 16 * length (joined (joined polygons))

-- the most that they are for a sized geometry: 9 and 29 for each of 65,536 points, each of which is a polygon of its own
abbrev pub canonical_len_max : ℕ
canonical_len_max = 1900553
