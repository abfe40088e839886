-- Internal: who wants to trust the program need not read this file.
-- Areas that lie on the two sides of a line through an edge of one of them. Side by side as parcels are, they share points of their boundaries alone.
use Rattle.std.specs.Prelude.{◌≡◌, ◌⊎◌, ℕ, Bool, true, false, ◌&&◌, [], ◌∷◌, IsTrue, nat_le}
use Rattle.sf_grid.specs.Edge.{Edge}
use Rattle.sf_grid.specs.Sharing.{turn_of}
use Rattle.sf_grid.specs.declared.turn.Turn.{Turn}
use Rattle.sf_grid.specs.declared.turn.Turn.TheVariants.{Left, Right}
use Rattle.sf_geometry.specs.declared.geometry.Geometry.{Geometry}
use Rattle.sf_geometry.specs.declared.geometry.Geometry.TheVariants.{MultiPolygon, Polygon}
use Rattle.sf_geometry.specs.Parts.{edges_of}
use Rattle.sf_geometry.specs.Size.{point_count}
use Rattle.sf_geometry.specs.Walks.{HasEdge}
use Rattle.sf_known.specs.Known.{Holds}
use Rattle.sf_known.specs.declared.known.Known.{Known}
use Rattle.sf_plane.specs.declared.dim.Dim.TheVariants.{Nothing, One, Two}
use Rattle.sf_relate.specs.Matrices.{matrix_of}
use Rattle.sf_valid_rules.specs.Validity.{IsValid}

-- the most points that each of two areas has for such a line to be looked for
abbrev pub sided_points : ℕ
sided_points = 64

-- it has an interior of its own
abbrev pub is_area : Geometry → Bool
is_area (Polygon rings) = true
is_area (MultiPolygon polygons) = true
is_area _ = false

abbrev pub is_small_area : Geometry → Bool
is_small_area geometry = is_area geometry && nat_le (point_count geometry) sided_points

-- the edge begins on this side of the line; each corner of a ring begins an edge
abbrev pub BeginsOn : Turn → Edge → Edge → Type 0
BeginsOn side line e = turn_of line.a line.b e.a ≡ side

-- no edge of the first geometry begins on the line's right, and none of the second on its left
abbrev pub Parts : Edge → Geometry → Geometry → Type 0
Parts line a b = ¬ (HasEdge (BeginsOn Right line) (edges_of a)) × ¬ (HasEdge (BeginsOn Left line) (edges_of b))

-- the line through the edge has the geometries on its two sides
abbrev pub Divides : Geometry → Geometry → Edge → Type 0
Divides a b line = Parts line a b ⊎ Parts line b a

-- so does that through an edge of one of them
abbrev pub AreDivided : Geometry → Geometry → Type 0
AreDivided a b = HasEdge (Divides a b) (edges_of a) ⊎ HasEdge (Divides b a) (edges_of b)

-- two small areas are divided
abbrev pub AreBeside : Geometry → Geometry → Type 0
AreBeside a b = IsTrue (is_small_area a) × (IsTrue (is_small_area b) × AreDivided a b)

-- neither interior has a point of the other geometry, and each has a part of its interior and of its boundary outside of the other
abbrev pub known_divided : Known
known_divided = record {
  least = Nothing ∷ Nothing ∷ Two ∷ Nothing ∷ Nothing ∷ One ∷ Two ∷ One ∷ Two ∷ [];
  most = Nothing ∷ Nothing ∷ Two ∷ Nothing ∷ One ∷ One ∷ Two ∷ One ∷ Two ∷ [];
  contact = false;
}

-- so it is of areas that are divided
abbrev pub DividedAreasAreApart : Type 0
DividedAreasAreApart =
    (a b : Geometry) → IsValid a → IsValid b → IsTrue (is_area a) → IsTrue (is_area b) → AreDivided a b → Holds known_divided (matrix_of a b)
