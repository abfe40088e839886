-- Internal: who wants to trust the program need not read this file.
-- The levels of a column, from the top: the edges of the order and the vertices that are at one height.
use Rattle.std.specs.Prelude.{◌≡◌, ◌≢◌, ℕ, ◌+◌, ◌-◌, ◌≤◌, ◌<◌, Bool, true, false, int_lt, List, [], ◌∷◌, ◌++◌, take, drop, length, Option, if◌then◌else◌}
use Rattle.std.specs.List.{prefix_len}
use Rattle.std.specs.List.Sorted.{IsPermutation}
use Rattle.std.specs.Ordering.{int_eq}
use Rattle.std.specs.declared.cmp.Ordering.{Ordering}
use Rattle.std.specs.declared.cmp.Ordering.TheVariants.{Equal, Greater, Less}
use Rattle.sf_grid.specs.Fraction.{Fraction}
use Rattle.sf_grid.specs.Plane.{grid_point}
use Rattle.sf_strips.specs.declared.active.Active.{Active}
use Rattle.sf_strips.specs.declared.contact.Contact.{Contact}
use Rattle.sf_strips.specs.declared.level.Level.{Level}
use Rattle.sf_strips.specs.declared.vertex.Role.TheVariants.{Begin}
use Rattle.sf_strips.specs.declared.vertex.Vertex.{Vertex}
use Rattle.sf_strips.specs.Fronts.{touches}
use Rattle.sf_strips.specs.Slanted.{side_of, slope_order}
use Rattle.sf_strips.specs.Vertices.{begins, pieces_with}

-- how many edges from the first one on are level with it
abbrev pub run_length : Option Fraction → List Active → List Contact → ℕ
run_length column [] cs = 0
run_length column (a ∷ rest) cs = 1 + prefix_len (touches column) cs

-- how many vertices from the first one on are at its place, where all are in one column
abbrev pub group_length : List Vertex → ℕ
group_length [] = 0
group_length (v ∷ vs) = 1 + prefix_len (λ u. int_eq u.at.y v.at.y) vs

-- a level of so many edges and vertices
abbrev pub level : ℕ → ℕ → Level
level edges vertices = record { edges = edges; vertices = vertices; onward = 0 }

-- by the side of the edge on which the vertex lies
abbrev pub level_by : Ordering → ℕ → ℕ → Level
level_by Less run group = level run 0
level_by Equal run group = level run group
level_by Greater run group = level 0 group

-- the highest level of what is left
abbrev pub top_level : Option Fraction → List Active → List Contact → List Vertex → Level
top_level column [] cs vs = level 0 (group_length vs)
top_level column (a ∷ rest) cs [] = level (run_length column (a ∷ rest) cs) 0
top_level column (a ∷ rest) cs (v ∷ vs) =
    level_by (side_of a.edge.left a.edge.right (grid_point v.at)) (run_length column (a ∷ rest) cs) (group_length (v ∷ vs))

-- the edges go on past the column of the vertices; where there is no vertex, no edge ends
abbrev pub goes_past : List Vertex → Active → Bool
goes_past [] a = true
goes_past (v ∷ vs) a = int_lt v.at.x a.edge.right.x

abbrev pub going_past : List Vertex → List Active → List Active
going_past vs [] = []
going_past vs (a ∷ rest) = if goes_past vs a then a ∷ going_past vs rest else going_past vs rest

-- the first edge is the one that begins at the vertex, and the rest has the property
abbrev pub StartsWith : Vertex → (List Active → Type 0) → List Active → Type 0
StartsWith v Rest [] = ⊥
StartsWith v Rest (a ∷ rest) = (a.piece ≡ v.piece) × ((v.role ≡ Begin a.edge) × Rest rest)

abbrev pub if_begins : Bool → (List Active → Type 0) → (List Active → Type 0) → List Active → Type 0
if_begins true Then Else rest = Then rest
if_begins false Then Else rest = Else rest

-- the edges that begin at vertices, one for each
abbrev pub AreStarts : List Vertex → List Active → Type 0
AreStarts [] rest = rest ≡ []
AreStarts (v ∷ vs) rest = if_begins (begins v.role) (StartsWith v (AreStarts vs)) (AreStarts vs) rest

-- a list with the edges that begin at vertices put behind it
pub record HasStarts (vertices : List Vertex) (old new : List Active) : Type 0 where
  pub starts : List Active
  pub are : AreStarts vertices starts
  pub behind : new ≡ old ++ starts

-- how many edges go on at most: those that come, and those that begin at vertices
abbrev pub most_onward : List Active → List Vertex → ℕ
most_onward es vs = length es + length (pieces_with begins vs)

-- slopes fall
abbrev pub SlopesFallFrom : Active → List Active → Type 0
SlopesFallFrom a [] = Unit {0}
SlopesFallFrom a (b ∷ bs) = (slope_order b.edge.left b.edge.right a.edge.left a.edge.right ≢ Greater) × SlopesFallFrom b bs

abbrev pub SlopesFall : List Active → Type 0
SlopesFall [] = Unit {0}
SlopesFall (a ∷ rest) = SlopesFallFrom a rest

-- what goes on from a level: its edges that go on, and those that begin there, by falling slope
pub record IsOnward (edges : List Active) (vertices : List Vertex) (onward : List Active) : Type 0 where
  pub starts : List Active
  pub are_starts : AreStarts vertices starts
  pub same : IsPermutation (going_past vertices edges ++ starts) onward
  pub fall : SlopesFall onward

-- the level takes up the highest edges and vertices of what is left
pub record IsTop (column : Option Fraction) (es : List Active) (cs : List Contact) (vs : List Vertex) (l : Level) : Type 0 where
  pub some : 0 < l.edges + l.vertices
  pub edges : l.edges ≡ (top_level column es cs vs).edges
  pub vertices : l.vertices ≡ (top_level column es cs vs).vertices

-- the levels take up all edges and vertices, from the top
abbrev pub AreTops : Option Fraction → List Active → List Contact → List Vertex → List Level → Type 0
AreTops column es cs vs [] = (es ≡ []) × (vs ≡ [])
AreTops column es cs vs (l ∷ ls) =
    IsTop column es cs vs l × AreTops column (drop l.edges es) (drop l.edges cs) (drop l.vertices vs) ls

-- the levels take just so many edges, vertices and edges to the right
abbrev pub TakeAll : ℕ → ℕ → ℕ → List Level → Type 0
TakeAll e v o [] = (e ≡ 0) × ((v ≡ 0) × (o ≡ 0))
TakeAll e v o (l ∷ ls) =
    (l.edges ≤ e) × ((l.vertices ≤ v) × ((l.onward ≤ o)
    × TakeAll (e - l.edges) (v - l.vertices) (o - l.onward) ls))

-- the levels take up all edges to the right, each those that go on from it
abbrev pub AreOnward : List Active → List Vertex → List Active → List Level → Type 0
AreOnward es vs os [] = os ≡ []
AreOnward es vs os (l ∷ ls) =
    IsOnward (take l.edges es) (take l.vertices vs) (take l.onward os)
    × AreOnward (drop l.edges es) (drop l.vertices vs) (drop l.onward os) ls
