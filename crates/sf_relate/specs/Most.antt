-- Internal: who wants to trust the program need not read this file.
-- The most that each entry of a matrix can have, by the kinds of the geometries.
use Rattle.std.specs.Prelude.{List, [], ◌∷◌, ◌++◌, false}
use Rattle.sf_geometry.specs.declared.geometry.Geometry.{Geometry}
use Rattle.sf_geometry.specs.declared.geometry.Geometry.TheVariants.{MultiLineString}
use Rattle.sf_interiors.specs.Dimensions.{boundary_dim, interior_dim}
use Rattle.sf_plane.specs.declared.dim.Dim.{Dim}
use Rattle.sf_plane.specs.declared.dim.Dim.TheVariants as dims
use Rattle.sf_known.specs.declared.known.Known.{Known}
use Rattle.sf_known.specs.Entries.{lesser_dim}
use Rattle.sf_known.specs.Known.{at_most, no_entries}
use Rattle.sf_relate.specs.Contact.{own_rows}

-- the most that a boundary can have; the ends of several lines are not counted
abbrev pub boundary_most : Geometry → Dim
boundary_most (MultiLineString lines) = dims.Zero
boundary_most geometry = boundary_dim geometry

-- what two sets have in common has at most the dimension of each
abbrev pub most_entries : Geometry → Geometry → List Dim
most_entries a b =
    let ia = interior_dim a in
    let ba = boundary_most a in
    let ib = interior_dim b in
    let bb = boundary_most b in
    lesser_dim ia ib ∷ lesser_dim ia bb ∷ ia
    ∷ lesser_dim ba ib ∷ lesser_dim ba bb ∷ ba
    ∷ ib ∷ bb ∷ dims.Two ∷ []

-- what is known of two geometries by their kinds
abbrev pub known_of_kinds : Geometry → Geometry → Known
known_of_kinds a b = at_most (most_entries a b)

-- the third row of an area that has parts of its interior and of its boundary outside of the other geometry
abbrev pub beyond_row : List Dim
beyond_row = dims.Two ∷ dims.One ∷ dims.Two ∷ []

-- what is known of such an area
abbrev pub known_beyond : Geometry → Geometry → Known
known_beyond a area =
    record { least = own_rows no_entries ++ beyond_row; most = own_rows (most_entries a area) ++ beyond_row; contact = false }
