-- Internal: who wants to trust the program need not read this file.
-- The cells as they are recorded while they are handed out: a head for each cell, and the numbers of all of them one after another.
use Rattle.std.specs.Prelude.{ℕ, ◌+◌, ◌-◌, ◌^◌, Bool, ◌&&◌, nat_lt, min, List, [], ◌∷◌, ◌++◌, take, drop, length, vec_capacity, if◌then◌else◌}
use Rattle.std.specs.List.{count_by, fold}
use Rattle.sf_cells.specs.declared.cell.Cell.{Cell}
use Rattle.sf_cells.specs.declared.listing.Head.{Head}
use Rattle.sf_cells.specs.declared.listing.Measure.{Measure}
use Rattle.sf_cells.specs.declared.listing.Recorder.{Recorder}
use Rattle.sf_cells.specs.Cells.{numbers_from}
use Rattle.sf_cells.specs.Groups.{Item}

-- the groups that have a count
abbrev pub is_counted : ℕ → Bool
is_counted n = nat_lt 0 n

abbrev pub counted : List ℕ → List ℕ
counted counts = numbers_from 0 is_counted counts

-- ---- how much room is needed
pub record Measured : Type 0 where
  pub cells : ℕ
  pub numbers : ℕ

abbrev pub measured_by : Measure → Measured
measured_by m = record { cells = m.cells; numbers = m.numbers }

-- a sum, or the greatest number that fits
abbrev pub sum_within : ℕ → ℕ → ℕ
sum_within m n = min (m + n) (2 ^ 64 - 1)

abbrev pub measure : Measured → Item → Measured
measure m i =
    record {
      cells = sum_within m.cells 1;
      numbers = sum_within (sum_within m.numbers (count_by is_counted i.on)) (count_by is_counted i.above);
    }

-- ---- what is recorded
-- the heads and numbers so far, and for how many there is room in all
pub record Listing : Type 0 where
  pub heads : List Head
  pub numbers : List ℕ
  pub head_room : ℕ
  pub number_room : ℕ

abbrev pub listing_of : Recorder → Listing
listing_of r =
    record {
      heads = r.heads.items;
      numbers = r.numbers.items;
      head_room = vec_capacity r.heads;
      number_room = vec_capacity r.numbers;
    }

-- with a further number, where there is room for it
abbrev pub with_number : Listing → ℕ → Listing
with_number l n =
    if nat_lt n (2 ^ 32) && nat_lt (length l.numbers) l.number_room
    then record { heads = l.heads; numbers = l.numbers ++ n ∷ []; head_room = l.head_room; number_room = l.number_room }
    else l

-- with a further head, where there is room for it
abbrev pub with_head : Listing → Head → Listing
with_head l h =
    if nat_lt (length l.heads) l.head_room
    then record { heads = l.heads ++ h ∷ []; numbers = l.numbers; head_room = l.head_room; number_room = l.number_room }
    else l

-- the head of an item: its dimension, and how many numbers are on and above it
abbrev pub head_of : Item → Head
head_of i = record { dim = i.dim; on = count_by is_counted i.on; above = count_by is_counted i.above }

-- with a further item
abbrev pub record_item : Listing → Item → Listing
record_item l i = with_head (fold with_number (fold with_number l (counted i.on)) (counted i.above)) (head_of i)

-- ---- the cells that were recorded
-- how many numbers the heads take
abbrev pub total : List Head → ℕ
total [] = 0
total (h ∷ hs) = h.on + h.above + total hs

abbrev pub recorded_cell : Head → List ℕ → Cell
recorded_cell h ns = record { dim = h.dim; on = take h.on ns; above = take h.above (drop h.on ns) }

abbrev pub recorded_cells : List Head → List ℕ → List Cell
recorded_cells [] ns = []
recorded_cells (h ∷ hs) ns = recorded_cell h ns ∷ recorded_cells hs (drop h.above (drop h.on ns))
