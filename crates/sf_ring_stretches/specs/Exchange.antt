-- Internal: who wants to trust the program need not read this file.
-- A ring of which a stretch of edges was exchanged for another one in a box, as by a vertex that was moved, put in or taken out.
use Rattle.std.specs.Prelude.{◌≡◌, true, false, List, [], ◌∷◌, ◌++◌, IsTrue, IsFalse}
use Rattle.std.specs.List.{AllByRecursion}
use Rattle.sf_grid.specs.Plane.{Coordinates, IsPoint, Point, grid_point}
use Rattle.sf_grid.specs.Edge.{Edge as Line}
use Rattle.sf_geometry.specs.Lists.{edges_of, tight}
use Rattle.sf_geometry.specs.PointSets.{in_ring, on_line, within_ring}
use Rattle.sf_plane.specs.Boxes.{Box, HasEnds, IsChain, IsClosedChain, boxes_meet, in_box}
use Rattle.sf_valid_rules.specs.Shapes.{share_piece}
use Rattle.sf_interiors.specs.Paths.{IsOffBox}

-- the edges of the two rings are the same but for a stretch, which leads from one point to another within the box
pub record IsExchanged (box : Box) (r s : List Coordinates) : Type 0 where
  pub from : Coordinates
  pub to : Coordinates
  pub front : List Line
  pub olds : List Line
  pub news : List Line
  pub back : List Line
  pub was : edges_of r ≡ front ++ (olds ++ back)
  pub is : edges_of s ≡ front ++ (news ++ back)
  pub old : IsChain from olds to
  pub new : IsChain from news to
  pub old_ends : AllByRecursion (HasEnds box) olds
  pub new_ends : AllByRecursion (HasEnds box) news

-- outside of the box the same points are on the two rings and inside them
abbrev pub RingsAgreeOutside : Type 0
RingsAgreeOutside =
    (box : Box) (r s : List Coordinates) (p : Point) → IsExchanged box r s → IsPoint p → in_box box p ≡ false
    → (on_line r p ≡ on_line s p) × (in_ring r p ≡ in_ring s p) × (within_ring r p ≡ within_ring s p)

-- with another ring that has no point of the box both share the same pieces
abbrev pub SharesAreKept : Type 0
SharesAreKept =
    (box : Box) (r s other : List Coordinates) (p q : Point) → IsExchanged box r s → AllByRecursion (IsOffBox box) (edges_of other) → IsPoint p
    → (share_piece r other p q ≡ share_piece s other p q) × (share_piece other r p q ≡ share_piece other s p q)

-- such a ring has all of the box inside, or none of it
abbrev pub OtherRingsAreOneSided : Type 0
OtherRingsAreOneSided =
    (box : Box) (ring : List Coordinates) (p q : Point) → IsClosedChain (edges_of ring) → AllByRecursion (IsOffBox box) (edges_of ring)
    → IsPoint p → IsPoint q → in_box box p ≡ true → in_box box q ≡ true → in_ring ring p ≡ in_ring ring q

-- the grid points lie in the box
abbrev pub AreIn : Box → List Coordinates → Type 0
AreIn box ps = AllByRecursion (λ p. IsTrue (in_box box (grid_point p))) ps

-- no two neighbours in the list are equal
abbrev pub HasNoRepeats : List Coordinates → Type 0
HasNoRepeats ps = tight ps ≡ ps

-- points between two others of a list are exchanged, in a box that has them and those two; before and behind them the lists are one
abbrev pub PointsAreExchanged : Type 0
PointsAreExchanged =
    (box : Box) (front olds news back : List Coordinates) (from to : Coordinates)
    → HasNoRepeats (front ++ from ∷ (olds ++ to ∷ back)) → HasNoRepeats (front ++ from ∷ (news ++ to ∷ back))
    → AreIn box (from ∷ (olds ++ to ∷ [])) → AreIn box (from ∷ (news ++ to ∷ []))
    → IsExchanged box (front ++ from ∷ (olds ++ to ∷ back)) (front ++ from ∷ (news ++ to ∷ back))

-- edges whose ends lie in a box have no point of another one that shares no point with it
abbrev pub BoxesApartAreOff : Type 0
BoxesApartAreOff =
    (own box : Box) (es : List Line) → AllByRecursion (HasEnds own) es → IsFalse (boxes_meet own box) → AllByRecursion (IsOffBox box) es
