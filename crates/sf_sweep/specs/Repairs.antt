-- Internal: who wants to trust the program need not read this file.
-- What is handed out where bundles pass a column below other parities than before: from the top, until a stored row agrees.
use Rattle.std.specs.Prelude.{◌≡◌, ℕ, Bool, List, [], ◌∷◌, ◌++◌, length, None, slice_index_or}
use Rattle.std.specs.List.{fold}
use Rattle.sf_strips.specs.declared.active.Active.{Active}
use Rattle.sf_strips.specs.declared.contact.Contact.{Contact}
use Rattle.sf_cells.specs.Groups.{Item, group_count}
use Rattle.sf_classes.specs.Classes.{Represent}
use Rattle.sf_sweep.specs.Parities.{parities, row_below, stored}
use Rattle.sf_sweep.specs.Passing.{IsLastApart}
use Rattle.sf_sweep.specs.Tables.{bundles_of, contacts_of}
use Rattle.sf_sweep.specs.Windows.{bundle_items}

-- the row stored above the first edge, where there is one, is this one
abbrev pub AgreesAt : List (List Bool) → List Bool → List Active → Type 0
AgreesAt table row [] = Unit {0}
AgreesAt table row (a ∷ es) = slice_index_or table a.piece [] ≡ row

-- of the edges of an order the first ones, `done`, were handed out bundle by bundle, and what is above them was stored
pub record IsHandedTo {Content : Type 0} (areal : List Bool) (groups : List ℕ) (contacts : List Contact) (order done left : List Active) (above : List Bool)
    (table table' : List (List Bool)) (after : Content → Item → Content) (old new : Content) : Type 0 where
  pub all : order ≡ done ++ left
  pub apart : IsLastApart None contacts done
  pub items : List Item
  pub handed : new ≡ fold after old items
  pub represent : (ns : List ℕ) → length ns ≡ group_count groups → parities areal ns ≡ above →
      Represent areal items (bundle_items groups ns (bundles_of (contacts_of contacts done) done))
  pub kept : table' ≡ stored areal groups table above done

-- and those below them are as they were
pub record IsRepaired {Content : Type 0} (areal : List Bool) (groups : List ℕ) (contacts : List Contact) (order : List Active) (above : List Bool)
    (table table' : List (List Bool)) (after : Content → Item → Content) (old new : Content) : Type 0 where
  pub done : List Active
  pub left : List Active
  pub handed : IsHandedTo areal groups contacts order done left above table table' after old new
  pub agrees : AgreesAt table' (row_below areal groups above done) left
