-- Internal: who wants to trust the program need not read this file.
-- The vertices of a list of points in order, and one step of the sweep over them.
use Rattle.std.specs.Prelude.{◌≡◌, ℕ, ◌+◌, ◌<◌, ◌≤◌, ◌⊎◌, true, ℤ, ◌≤ℤ◌, ◌<ℤ◌, List, [], ◌++◌, length, take, drop, slice_index_or}
use Rattle.std.specs.List.{All, Contains}
use Rattle.sf_grid.specs.Plane.{Coordinates, IsOnGrid}
use Rattle.sf_grid.specs.Sharing.{comes_before}
use Rattle.sf_first_meeting.specs.declared.spot.Spot.{Spot}
use Rattle.sf_first_meeting.specs.declared.vertices.Vertex.{Vertex}
use Rattle.sf_first_meeting.specs.Numbered.{HasLengths, point_of}
use Rattle.sf_first_meeting.specs.Sheared.{place}
use Rattle.sf_first_meeting.specs.Spots.{IsFound, beginning_of, ending_of}
use Rattle.sf_first_meeting.specs.Sweeps.{Stands}

-- the point with the number n, as a vertex
abbrev pub vertex_at : List Coordinates → ℕ → Vertex
vertex_at ps n = record { at = point_of ps n; number = n }

-- there are so many vertices: the points, of a closed list all but the last one
abbrev pub IsCount : List Coordinates → ℕ → Type 0
IsCount ps n = (n ≡ length ps) ⊎ ((n + 1 ≡ length ps) × (point_of ps 0 ≡ point_of ps n))

-- these are the vertices
pub record IsNumbering (ps : List Coordinates) (vs : List Vertex) : Type 0 where
  pub count : ℕ
  pub is_count : IsCount ps count
  pub are : All (λ v. (v.number < count) × (v.at ≡ point_of ps v.number)) vs
  pub all : (n : ℕ) → n < count → Contains vs (vertex_at ps n)

-- each comes before the next one
abbrev pub Ascend : List Vertex → Type 0
Ascend vs = (k : ℕ) (d : Vertex) → k + 1 < length vs → comes_before (slice_index_or vs k d).at (slice_index_or vs (k + 1) d).at ≡ true

-- the points are on the grid
abbrev pub LieOnGrid : List Coordinates → Type 0
LieOnGrid ps = (i : ℕ) → i < length ps → IsOnGrid (point_of ps i)

-- what is known of the points and their vertices
pub record IsTable (ps : List Coordinates) (vs : List Vertex) : Type 0 where
  pub lengths : HasLengths ps
  pub grid : LieOnGrid ps
  pub numbering : IsNumbering ps vs
  pub ascend : Ascend vs

-- the place of the vertex that is the k-th in order
abbrev pub place_at : List Vertex → ℕ → ℤ
place_at vs k = place (slice_index_or vs k (vertex_at [] 0)).at

-- the first k vertices are behind
pub record IsSwept (ps : List Coordinates) (vs : List Vertex) (active : List ℕ) (k : ℕ) : Type 0 where
  pub reached : ℤ
  pub stands : Stands ps active reached
  pub behind : (j : ℕ) → j < k → j < length vs → place_at vs j ≤ℤ reached
  pub ahead : (j : ℕ) → k ≤ j → j < length vs → reached <ℤ place_at vs j

-- at the vertex n the order changes as all that was found there says
pub record Moves (ps : List Coordinates) (old : List ℕ) (n : ℕ) (new : List ℕ) : Type 0 where
  pub from : ℕ
  pub spot : Spot
  pub found : IsFound ps old n from spot
  pub changed : new ≡ take from old ++ (beginning_of spot ++ drop (length (ending_of spot)) (drop from old))
