-- A column before its first window, and behind its last one.
use Rattle.std.proofs.Common.{◌≡◌, refl, ap, sym, subst, ◌<◌, arith, Bool, true, List, [], ◌∷◌, Some, length}
use Rattle.std.specs.List.{AllByRecursion}
use Rattle.std.proofs.lemmas.List.{append-nil}
use Rattle.sf_grid.specs.Fraction.{Fraction}
use Rattle.sf_strips.specs.declared.active.Active.{Active}
use Rattle.sf_strips.specs.declared.contact.Contact.{Contact}
use Rattle.sf_strips.specs.Fronts.{pieces_of, touches}
use Rattle.sf_strips.specs.Parts.{is_over}
use Rattle.sf_cells.specs.Groups.{Item, counts}
use Rattle.sf_sweep.specs.Parities.{AreParities, parities}
use Rattle.sf_sweep.specs.Passing.{IsLastApart, contact_at}
use Rattle.sf_sweep.specs.Repairs.{IsRepaired}
use Rattle.sf_sweep.specs.Tables.{IsNeverElsewhere, contacts_of}
use Rattle.sf_sweep.specs.Within.{AreComing, Column, IsGiven, IsLastAlone, IsWithin, Swept}
use Rattle.sf_sweep.proofs.CalmLaws.{IsElsewhere, passing-rest}
use Rattle.sf_sweep.proofs.PassWithinLaws.{ArePassed, pass-within}
use Rattle.sf_sweep.proofs.PlaceLaws.{DoPass}
use Rattle.sf_sweep.proofs.SweptLaws.{swept-nothing}

-- ---- before the first window
-- what is known where all edges are as they came; the contacts of the column are those of the table
pub record IsBeforeColumn (k : Column) (table : List Contact) (odd : List (List Bool)) : Type 0 where
  pub contacts : k.contacts ≡ contacts_of table k.came
  pub coming : AreComing k.before k.x table k.came
  pub never : IsNeverElsewhere table k.came
  pub rows : AreParities k.areal k.groups odd (counts k.groups []) k.came
  pub edges : AllByRecursion (λ a. a.piece < length k.groups) k.came
  pub vertices : AllByRecursion (λ v. v.piece < length k.groups) k.vertices

pub start-within : (k : Column) (table : List Contact) (odd : List (List Bool)) → IsBeforeColumn k table odd → IsWithin k [] [] k.came k.vertices table odd []
start-within k table odd h =
    record {
      split = refl;
      swept = subst (λ cs. Swept k.areal k.groups (Some k.x) k.came k.came k.contacts cs k.vertices k.vertices [] [] []) h.contacts
          (swept-nothing k.areal k.groups (Some k.x) k.came k.contacts k.vertices);
      right = tt;
      old = h.rows;
      met = record { inner = refl; seam = tt };
      coming = h.coming;
      never = h.never;
      light = λ w. omega arith;
      edges = h.edges;
      vertices = h.vertices;
    }

-- ---- behind the last window
last-alone : (x : Fraction) (table : List Contact) (es : List Active) → IsLastAlone table es → IsLastApart (Some x) table es
last-alone x table [] h = tt
last-alone x table (a ∷ []) h = ap (touches (Some x)) h
last-alone x table (a ∷ b ∷ es) h = last-alone x table (b ∷ es) h

-- the edges that are left pass
pub rest-passes : (k : Column) (table : List Contact) (rest : List Active) → AreComing k.before k.x table rest → AllByRecursion (λ a. IsElsewhere k.x (contact_at table a)) rest → DoPass k table rest
rest-passes k table rest h e = record { passing = passing-rest k.x table rest e; last = last-alone k.x table rest h.alone }

each-over : (es : List Active) → AllByRecursion (λ a. is_over [] a ≡ true) es
each-over [] = tt
each-over (a ∷ es) = (refl, each-over es)

-- and once they were repaired, none is left
pub end-within : {Content : Type 0} (k : Column) (gone done rest : List Active) (table : List Contact) (odd odd' : List (List Bool)) (more : List Item) (after : Content → Item → Content) (old new : Content) →
    IsGiven k → IsWithin k gone done rest [] table odd more → length odd ≡ length k.groups → AllByRecursion (λ a. IsElsewhere k.x (contact_at table a)) rest →
    IsRepaired k.areal k.groups table rest (parities k.areal (counts k.groups (pieces_of done))) odd odd' after old new → ArePassed k gone done rest [] [] table odd' more after old new
end-within k gone done rest table odd odd' more after old new g h room e r =
    let pass = rest-passes k table rest h.coming e in
    pass-within k gone done rest [] [] table odd odd' more after old new g (subst (λ z. IsWithin k gone done z [] table odd more) (sym (append-nil rest)) h) room pass.passing pass.last (each-over rest) r
