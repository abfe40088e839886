-- Internal: who wants to trust the program need not read this file.
-- The changes that the code makes in one list of vertices, and what comes of them by the list alone.
use Rattle.std.specs.Prelude.{◌≡◌, ◌⊎◌, ℕ, Bool, ◌==◌, ◌||◌, List, Option, Some, None, Result, Ok, Err, IsOk, length, insert, remove, slice_set, nat_le, nat_lt, if◌then◌else◌}
use Rattle.std.specs.List.{list_any}
use Rattle.sf_grid.specs.Plane.{Coordinates}
use Rattle.sf_geometry.specs.declared.change.Change.{Change as Made}
use Rattle.sf_geometry.specs.declared.change.Change.TheVariants.{Insert, Move, Remove}
use Rattle.sf_geometry.specs.declared.refusal.Refusal.{Refusal}
use Rattle.sf_geometry.specs.declared.refusal.Refusal.TheVariants.{Empty, Memory, NoVertex}
use Rattle.sf_geometry.specs.Size.{is_empty}
use Rattle.sf_geometry.specs.declared.geometry.Geometry.{Geometry}
use Rattle.sf_geometry.specs.declared.geometry.Geometry.TheVariants.{Point}
use Rattle.sf_geometry.specs.Vertices.{Change, exchange, insertion, removal, vertices_of}
use Rattle.std.specs.Option.{option_map_or}

-- the change of a list at an index
abbrev pub change_of : Made → ℕ → Change
change_of (Insert p) index = insertion index p
change_of (Move p) index = exchange index p
change_of Remove index = removal index

-- the list after it, where the index is a place for it
abbrev pub made : Made → ℕ → List Coordinates → List Coordinates
made (Insert p) index ps = insert ps index p
made (Move p) index ps = slice_set ps index p
made Remove index ps = remove ps index

-- why it can't be made at an index of so many vertices
abbrev pub place_fault : Made → ℕ → ℕ → Option Refusal
place_fault (Insert p) index count = if nat_le index count then None else Some NoVertex
place_fault (Move p) index count = if nat_lt index count then None else Some NoVertex
place_fault Remove index count = if nat_lt index count then (if count == 1 then Some Empty else None) else Some NoVertex

-- it puts a point in, so it may need memory
abbrev pub IsInsertion : Made → Type 0
IsInsertion (Insert p) = Unit {0}
IsInsertion _ = ⊥

-- what comes of a change: it has to be possible, and to leave no list empty
abbrev pub filled_or_refused : {X : Type 0} → (X → Bool) → Option X → Result X Refusal
filled_or_refused empty None = Err NoVertex
filled_or_refused empty (Some x) = if empty x then Err Empty else Ok x

-- the list is empty, or a member of it
abbrev pub lacks : {X : Type 0} → (X → Bool) → List X → Bool
lacks empty xs = is_empty xs || list_any empty xs

-- why a call that makes the change refuses it: by what comes of it, or as out of memory
abbrev pub Refuses : {X : Type 0} → Made → Result X Refusal → Refusal → Type 0
Refuses change outcome refusal = (outcome ≡ Err refusal) ⊎ ((refusal ≡ Memory) × IsInsertion change × IsOk outcome)

-- how many vertices of a part and ring could be taken out, were the list to be left empty: none of a Point
abbrev pub removable_count : Geometry → ℕ → ℕ → ℕ
removable_count (Point p) part ring = 0
removable_count geometry part ring = option_map_or (λ ps. length ps) (vertices_of geometry part ring) 0
