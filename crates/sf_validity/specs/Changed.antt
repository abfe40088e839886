-- Internal: who wants to trust the program need not read this file.
-- A ring of polygons of which one vertex was put in, moved or taken out.
use Rattle.std.specs.Prelude.{◌≡◌, ℕ, ◌+◌, ◌≤◌, ◌<◌, Bool, IsTrue, List, ◌∷◌, ◌++◌, length, Some}
use Rattle.sf_grid.specs.Plane.{Coordinates}
use Rattle.sf_geometry.specs.declared.geometry.Geometry.{Geometry}
use Rattle.sf_geometry.specs.Lists.{is_closed}
use Rattle.sf_geometry.specs.Parts.{polygons_of}
use Rattle.sf_valid_rules.specs.Conditions.{Applies, AtPoint}
use Rattle.sf_valid_rules.specs.Validity.{IsValid}
use Rattle.sf_strands.specs.Changed.{edge_meets}
use Rattle.sf_strands.specs.Tight.{IsTight}
use Rattle.sf_validity.specs.Beside.{ring_in, stood}
use Rattle.sf_validity.specs.declared.changed.Stretch.{Stretch}

-- of the ring of a part and number, where there is one, no two neighbours are equal
abbrev pub IsTightAt : Geometry → ℕ → ℕ → Type 0
IsTightAt geometry part ring = (points : List Coordinates) → ring_in (polygons_of geometry) part ring ≡ Some points → IsTight points

-- at the index so many points stand in place of these, and before and after them the lists are one
pub record IsSpliced (old new : List Coordinates) (index count : ℕ) (olds : List Coordinates) : Type 0 where
  pub front : List Coordinates
  pub news : List Coordinates
  pub back : List Coordinates
  pub was : old ≡ front ++ (olds ++ back)
  pub is : new ≡ front ++ (news ++ back)
  pub placed : length front ≡ index
  pub counted : length news ≡ count

-- the same of one ring of polygons, with a point after them; all other rings are as before
pub record IsRespliced (before after : List (List (List Coordinates))) (part ring index count : ℕ) (olds : List Coordinates) : Type 0 where
  pub front : List (List (List Coordinates))
  pub back : List (List (List Coordinates))
  pub ring_front : List (List Coordinates)
  pub ring_back : List (List Coordinates)
  pub old : List Coordinates
  pub new : List Coordinates
  pub was : before ≡ front ++ (ring_front ++ old ∷ ring_back) ∷ back
  pub is : after ≡ front ++ (ring_front ++ new ∷ ring_back) ∷ back
  pub placed : length front ≡ part
  pub ring_placed : length ring_front ≡ ring
  pub spliced : IsSpliced old new index count olds
  pub ended : 0 < length spliced.back

-- of a valid geometry, the ring of a part and number was changed so, at a vertex that isn't the first
abbrev pub IsEdited : Geometry → Geometry → Stretch → Type 0
IsEdited before after s =
    IsValid before
    × ((points : List Coordinates) → ring_in (polygons_of after) s.part s.ring ≡ Some points → 0 < s.index
    → IsRespliced (polygons_of before) (polygons_of after) s.part s.ring s.index s.count (stood s.gone))

-- what is known of a change that is checked: it is one of a valid geometry, and where a flag says so its ring was tight
pub record IsChange (before after : Geometry) (was_tight : Bool) (s : Stretch) : Type 0 where
  pub edited : IsEdited before after s
  pub tight : IsTrue was_tight → IsTightAt before s.part s.ring

-- a ring whose points at the index, so many, have others before and after them
pub record IsInside (ring : List Coordinates) (index count : ℕ) : Type 0 where
  pub tight : IsTight ring
  pub closed : IsTrue (is_closed ring)
  pub many : 4 ≤ length ring
  pub later : 0 < index
  pub room : index + count < length ring

-- none of the edges from those points or to them meets another one
abbrev pub NoneMeets : List Coordinates → ℕ → ℕ → Type 0
NoneMeets ring first end = (n : ℕ) → first ≤ n → n < end → ¬ (Applies (AtPoint (edge_meets ring n)))
