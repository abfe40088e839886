-- Internal: who wants to trust the program need not read this file.
-- The sweep's own state: its room, and the slab that it stands in.
use Rattle.std.specs.Prelude.{◌≡◌, ℕ, ◌+◌, ◌≤◌, List, [], None, length, vec_capacity}
use Rattle.sf_grid.specs.Fraction.{Fraction}
use Rattle.sf_strips.specs.declared.active.Active.{Active}
use Rattle.sf_strips.specs.declared.contact.Contact.{Contact}
use Rattle.sf_strips.specs.declared.piece.Piece.{Piece}
use Rattle.sf_strips.specs.Rooms.{HasRoom}
use Rattle.sf_slabs.specs.declared.sweep.Sweep.{Sweep}
use Rattle.sf_cells.specs.Groups.{counts}
use Rattle.sf_slabs.specs.Sweeps.{IsColumnOf, IsComing, IsFront}

-- there is room for all pieces, and for the levels that they and n vertices can have, and no count is left from a column before
pub record IsReady (pieces : List Piece) (groups : List ℕ) (n : ℕ) (s : Sweep) : Type 0 where
  pub order_room : length pieces ≤ vec_capacity s.order
  pub contacts_room : length pieces ≤ vec_capacity s.contacts
  pub cut_room : HasRoom (length pieces + n) (length pieces) s.cut
  pub none_on : s.tallies.on.items ≡ counts groups []
  pub none_above : s.tallies.above.items ≡ counts groups []

-- the edges are a front, and as they stand at some place right of it, where no vertex is
pub record IsSlabOf (pieces : List Piece) (os : List Active) (cs : List Contact) : Type 0 where
  pub left : Fraction
  pub front : IsFront pieces left os cs
  pub place : Fraction
  pub coming : IsComing pieces place None os cs
  pub column : IsColumnOf pieces place []
