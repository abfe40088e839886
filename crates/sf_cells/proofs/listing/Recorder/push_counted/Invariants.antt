use Rattle.std.proofs.Common.{◌≡◌, drop}
use Rattle.std.specs.List.{fold}
use Rattle.sf_cells.specs.Cells.{numbers_from}
use Rattle.sf_cells.specs.Listing.{counted, is_counted, listing_of, with_number}
use Rattle.sf_cells.proofs.listing.Recorder.push_counted.Given as goal

-- what is left to put down leads to the whole
abbrev pub invariant-loop-number : goal.invariant-loop-number
invariant-loop-number l =
    fold with_number (listing_of l.self) (numbers_from l.number is_counted (drop l.number l.counts))
    ≡ fold with_number (listing_of l.fn.self) (counted l.fn.counts)
