-- Internal: who wants to trust the program need not read this file.
-- The first of points that are kept by pieces: a tree, each place of which has the earlier of those at twice that place and at the next one.
use Rattle.sf_strips.specs.Pieces.{pieces_max}
use Rattle.std.specs.Prelude.{◌≡◌, ℕ, ◌+◌, ◌*◌, ◌≤◌, ◌<◌, List, Option, None, Some, [], ◌∷◌, length, slice_index_or, if◌then◌else◌}
use Rattle.sf_grid.specs.Plane.{IsPoint, Point}
use Rattle.sf_strips.specs.declared.contact.Contact.{Contact}
use Rattle.sf_strips.specs.declared.contact.Contact.TheVariants.{Ahead, Never}
use Rattle.sf_sweep.specs.Tables.{IsNotBefore, ahead_of, point_before}

-- the first of two points, where there are any
abbrev pub earlier : Option Point → Option Point → Option Point
earlier None q = q
earlier (Some p) None = Some p
earlier (Some p) (Some q) = if point_before q p then Some q else Some p

abbrev pub place_at : List (Option Point) → ℕ → Option Point
place_at tree k = slice_index_or tree k None

-- from the place n on are the points of the pieces
abbrev pub IsTree : ℕ → List (Option Point) → Type 0
IsTree n tree = (k : ℕ) → 1 ≤ k → k < n → place_at tree k ≡ earlier (place_at tree (2 * k)) (place_at tree (2 * k + 1))

abbrev pub IsPointIn : Option Point → Type 0
IsPointIn None = Unit {0}
IsPointIn (Some p) = IsPoint p

-- all points of a tree are points of the plane
abbrev pub HasPoints : List (Option Point) → Type 0
HasPoints tree = (k : ℕ) → 1 ≤ k → IsPointIn (place_at tree k)

-- the leaves of the tree have, by pieces, the points at which their edges meet the next ones
pub record AreKept (contacts : List Contact) (tree : List (Option Point)) : Type 0 where
  pub few : length contacts ≤ pieces_max
  pub len : length tree ≡ 2 * length contacts
  pub firsts : IsTree (length contacts) tree
  pub leaves : (k : ℕ) → k < length contacts → place_at tree (length contacts + k) ≡ ahead_of (slice_index_or contacts k Never)
  pub points : HasPoints tree

-- the edge of a piece meets the next one at p
pub record HasMeeting (contacts : List Contact) (p : Point) : Type 0 where
  pub piece : ℕ
  pub meets : slice_index_or contacts piece Never ≡ Ahead p

-- of the points at which edges meet the next ones p is one, and none of them comes before it
pub record IsFirstMeeting (contacts : List Contact) (p : Point) : Type 0 where
  pub point : IsPoint p
  pub among : HasMeeting contacts p
  pub first : (k : ℕ) → IsNotBefore p (slice_index_or contacts k Never)
  pub points : (k : ℕ) → IsPointIn (ahead_of (slice_index_or contacts k Never))

-- no edge meets the next one
abbrev pub NoneMeet : List Contact → Type 0
NoneMeet contacts = (k : ℕ) → ahead_of (slice_index_or contacts k Never) ≡ None

-- what a first meeting is alone, as a contact
abbrev pub meeting_of : Option Point → List Contact
meeting_of None = []
meeting_of (Some p) = Ahead p ∷ []
