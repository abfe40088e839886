-- Internal: who wants to trust the program need not read this file.
-- Contacts by pieces, where some edges of an order are replaced: what is written in the table, and what holds of it then.
use Rattle.std.specs.Prelude.{◌≡◌, List, [], ◌∷◌, ◌++◌, slice_set}
use Rattle.sf_grid.specs.Fraction.{Fraction}
use Rattle.sf_strips.specs.declared.active.Active.{Active}
use Rattle.sf_strips.specs.declared.contact.Contact.{Contact}
use Rattle.sf_strips.specs.declared.contact.Contact.TheVariants.{Never}
use Rattle.sf_strips.specs.Fronts.{AreContacts, IsContact, line_of}
use Rattle.sf_sweep.specs.Passing.{contact_at}
use Rattle.sf_sweep.specs.Tables.{contacts_of}

-- ---- what is written
-- that edges meet none
abbrev pub forgotten : List Contact → List Active → List Contact
forgotten table [] = table
forgotten table (a ∷ es) = forgotten (slice_set table a.piece Never) es

-- what edges do with the next ones, as long as there are contacts
abbrev pub joined : List Contact → List Active → List Contact → List Contact
joined table [] cs = table
joined table (a ∷ es) [] = table
joined table (a ∷ es) (c ∷ cs) = joined (slice_set table a.piece c) es cs

-- what the last of some edges does with the next one, where there is a last one
abbrev pub with_last : List Contact → List Active → Contact → List Contact
with_last table [] c = table
with_last table (a ∷ []) c = slice_set table a.piece c
with_last table (a ∷ b ∷ es) c = with_last table (b ∷ es) c

-- ---- what holds then
-- what the last of some edges does right of the column x with the first of those below them
abbrev pub IsSeam : Fraction → List Active → List Active → Contact → Type 0
IsSeam x [] below c = Unit {0}
IsSeam x (a ∷ []) [] c = c ≡ Never
IsSeam x (a ∷ []) (b ∷ below) c = IsContact (line_of a) (line_of b) x c
IsSeam x (a ∷ b ∷ es) below c = IsSeam x (b ∷ es) below c

-- it was written
pub record WasSeamed (x : Fraction) (es below : List Active) (old new : List Contact) : Type 0 where
  pub contact : Contact
  pub seam : IsSeam x es below contact
  pub written : new ≡ with_last old es contact

-- edges that go on between others, with the contacts between them, were put down, and both seams
pub record WereSettled (x : Fraction) (upper went lower : List Active) (contacts old new : List Contact) : Type 0 where
  pub between : List Contact
  pub lower_seam : WasSeamed x went lower (joined old went contacts) between
  pub upper_seam : WasSeamed x upper (went ++ lower) between new

-- what the table has of the last of some edges
abbrev pub IsSeamAt : Fraction → List Contact → List Active → List Active → Type 0
IsSeamAt x table [] below = Unit {0}
IsSeamAt x table (a ∷ []) below = IsSeam x (a ∷ []) below (contact_at table a)
IsSeamAt x table (a ∷ b ∷ es) below = IsSeamAt x table (b ∷ es) below

-- the table has what each edge does right of the column x with the next one; below the last one are others
pub record AreMet (x : Fraction) (table : List Contact) (es below : List Active) : Type 0 where
  pub inner : AreContacts x es (contacts_of table es)
  pub seam : IsSeamAt x table es below
