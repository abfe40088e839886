-- A step of the sweep within a column: what its calls ask, and what they give together.
use Rattle.std.proofs.Common.{◌≡◌, ap, sym, ◌∙◌, subst, ℕ, ◌+◌, ◌<◌, arith, Bool, List, [], ◌++◌, None, Some, length, map, take, drop}
use Rattle.std.specs.List.{All}
use Rattle.std.proofs.lemmas.List.{append_assoc, length-append}
use Rattle.std.proofs.lemmas.List.Elements.{All-from_recursion}
use Rattle.sf_grid.specs.Fraction.{Fraction}
use Rattle.sf_strips.specs.declared.active.Active.{Active}
use Rattle.sf_strips.specs.declared.contact.Contact.{Contact}
use Rattle.sf_strips.specs.declared.vertex.Vertex.{Vertex}
use Rattle.sf_strips.specs.Fronts.{AreApart, AreContacts, pieces_of}
use Rattle.sf_cells.specs.Groups.{Item, counts, group_count}
use Rattle.sf_sweep.specs.declared.window.Window.{Window}
use Rattle.sf_sweep.specs.Cuts.{IsBalancedWindow, WasWindowHanded}
use Rattle.sf_sweep.specs.Parities.{AreParities, as_count, parities, stored}
use Rattle.sf_sweep.specs.Passing.{IsLastApart}
use Rattle.sf_sweep.specs.Repairs.{IsRepaired}
use Rattle.sf_sweep.specs.Settled.{WereSettled, forgotten}
use Rattle.sf_sweep.specs.Tables.{contacts_of}
use Rattle.sf_sweep.specs.Within.{Column, IsAtWindow, IsBehindWindow, IsNextAt, IsWithin, column_at}
use Rattle.sf_sweep.proofs.AdvanceLaws.{advanced, balanced-behind, passed-first, passes-first, ready-behind}
use Rattle.sf_sweep.proofs.PassWithinLaws.{ArePassed, last-everywhere}
use Rattle.sf_sweep.proofs.PlaceLaws.{each-first}
use Rattle.sf_sweep.proofs.ReachLaws.{IsReach}
use Rattle.sf_sweep.proofs.WithinLaws.{apart-behind, apart-first}

-- one step, with what is known of it
module _ (x : Fraction) (groups : List ℕ) (areal : List Bool) (order : List Active) (table : List Contact) (odd : List (List Bool)) (from lo hi : ℕ) (here : List Vertex) (w : Window)
    (s : IsAtWindow x groups areal order table odd from here w) (r : IsReach x groups areal order table odd from lo hi here w s) where
  abbrev the_column : Column
  the_column = column_at x groups areal s.pieces s.before s.came s.contacts s.vertices

  within-parts : IsWithin the_column s.gone s.done (r.es ++ (r.fs ++ r.gs)) (here ++ s.later) table odd s.more
  within-parts = subst (λ z. IsWithin the_column s.gone s.done z (here ++ s.later) table odd s.more) r.rest s.within

  next-parts : IsNextAt x table (r.es ++ (r.fs ++ r.gs)) here s.later w
  next-parts = subst (λ z. IsNextAt x table z here s.later w) r.rest s.next

  -- the edges above the window aren't level with it
  pub step-apart : IsLastApart None table (drop from (take lo order))
  step-apart =
      let pass = passes-first the_column s.gone s.done r.es r.fs r.gs here s.later table odd s.more w s.given within-parts next-parts r.reached in
      subst (IsLastApart None table) (sym r.passing) (last-everywhere (Some x) table r.es pass.passing pass.last)

  pub step-here : All (λ v. v.piece < length groups) here
  step-here = All-from_recursion (λ v. v.piece < length groups) here (each-first (λ v. v.piece < length groups) here s.later s.within.vertices)

  pub step-window : AreApart x (drop lo (take hi order)) (contacts_of table (drop lo (take hi order)))
  step-window =
      subst (λ z. AreApart x z (contacts_of table z)) (sym r.window)
      (apart-first x table r.fs r.gs (apart-behind x table r.es (r.fs ++ r.gs) (subst (λ z. AreApart x z (contacts_of table z)) r.rest s.within.coming.apart)))

  module _ {Content : Type 0} (odd' : List (List Bool)) (after : Content → Item → Content) (old between : Content) (room : length odd ≡ length groups)
      (repaired : IsRepaired areal groups table (drop from (take lo order)) (parities areal (counts groups (pieces_of (take from order)))) odd odd' after old between) where
    mine : IsRepaired areal groups table r.es (parities areal (counts groups (pieces_of s.done))) odd odd' after old between
    mine =
        subst (λ z. IsRepaired areal groups table r.es (parities areal (counts groups (pieces_of z))) odd odd' after old between) r.top
        (subst (λ z. IsRepaired areal groups table z (parities areal (counts groups (pieces_of (take from order)))) odd odd' after old between) r.passing repaired)

    passed : ArePassed the_column s.gone s.done r.es (r.fs ++ r.gs) (here ++ s.later) table odd' s.more after old between
    passed = passed-first the_column s.gone s.done r.es r.fs r.gs here s.later table odd odd' s.more w after old between s.given within-parts next-parts r.reached room mine

    pub step-balanced : IsBalancedWindow groups x (drop lo (take hi order)) (contacts_of table (drop lo (take hi order))) here
    step-balanced =
        subst (λ z. IsBalancedWindow groups x z (contacts_of table z) here) (sym r.window)
        (balanced-behind the_column table r.fs r.gs here s.later
        (ready-behind the_column (s.gone ++ r.es) (s.done ++ r.es) r.es r.fs r.gs here s.later table odd' (s.more ++ passed.then) w s.given passed.within next-parts r.reached))

    pub step-stored : AreParities areal groups odd' (counts groups []) (take lo order)
    step-stored = subst (AreParities areal groups odd' (counts groups [])) (sym r.upper) passed.within.right

    pub step-behind : (going : List Active) (contacts table' : List Contact) (odd'' : List (List Bool)) (order' : List Active) (to : ℕ) (new : Content) → length odd' ≡ length groups → length table ≡ length groups →
        WasWindowHanded x groups (map as_count (take (group_count groups) (parities areal (counts groups (pieces_of (take lo order)))))) (drop lo (take hi order)) (contacts_of table (drop lo (take hi order))) here going contacts
        after between new → AreContacts x going contacts → order' ≡ (take lo order ++ going) ++ drop hi order →
        WereSettled x (take lo order) going (drop hi order) contacts (forgotten table (drop lo (take hi order))) table' →
        odd'' ≡ stored areal groups odd' (parities areal (counts groups (pieces_of (take lo order)))) going → to ≡ lo + length going →
        IsBehindWindow s order' table' odd'' to after old new
    step-behind going contacts table' odd'' order' to new room' size handed are whole settled rows place =
        let handed' =
        subst (λ z. WasWindowHanded x groups (map as_count (take (group_count groups) (parities areal (counts groups (pieces_of (s.done ++ r.es)))))) z (contacts_of table z) here going contacts after between new) r.window
        (subst (λ z. WasWindowHanded x groups (map as_count (take (group_count groups) (parities areal (counts groups (pieces_of z))))) (drop lo (take hi order)) (contacts_of table (drop lo (take hi order))) here going contacts
        after between new) r.upper handed) in
        let settled' =
        subst (λ z. WereSettled x (s.done ++ r.es) going r.gs contacts (forgotten table z) table') r.window
        (subst (λ z. WereSettled x (s.done ++ r.es) going z contacts (forgotten table (drop lo (take hi order))) table') r.below
        (subst (λ z. WereSettled x z going (drop hi order) contacts (forgotten table (drop lo (take hi order))) table') r.upper settled)) in
        let rows' = subst (λ z. odd'' ≡ stored areal groups odd' (parities areal (counts groups (pieces_of z))) going) r.upper rows in
        let a =
        advanced the_column s.gone s.done r.es r.fs r.gs going here s.later table table' odd odd' odd'' s.more contacts w after old between new s.given within-parts next-parts r.reached room room' size mine handed' are
        settled' rows' in
        record {
          gone' = (s.gone ++ r.es) ++ r.fs;
          done' = (s.done ++ r.es) ++ going;
          reached = r.es ++ r.fs;
          rest' = r.gs;
          then = a.then;
          handed = a.handed;
          within = a.within;
          left = r.rest ∙ sym (append_assoc r.es r.fs r.gs);
          not_reached = r.reached.not_reached;
          whole = whole ∙ ap (λ z. (z ++ going) ++ drop hi order) r.upper ∙ ap (λ z. ((s.done ++ r.es) ++ going) ++ z) r.below;
          place = omega (arith, place, r.place, length-append (s.done ++ r.es) going);
        }
