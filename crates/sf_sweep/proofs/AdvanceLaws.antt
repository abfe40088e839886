-- Within a column, to the next window and behind it.
use Rattle.std.proofs.Common.{◌≡◌, refl, ap, sym, ◌∙◌, subst, ℕ, Bool, true, List, [], ◌∷◌, ◌++◌, length, map, take}
use Rattle.std.specs.List.{AllByRecursion, fold}
use Rattle.std.proofs.lemmas.List.{append_assoc}
use Rattle.sf_strips.specs.declared.active.Active.{Active}
use Rattle.sf_strips.specs.declared.contact.Contact.{Contact}
use Rattle.sf_strips.specs.declared.vertex.Vertex.{Vertex}
use Rattle.sf_strips.specs.Fronts.{AreContacts, pieces_of}
use Rattle.sf_strips.specs.Parts.{is_over}
use Rattle.sf_cells.specs.Groups.{Item, counts, group_count}
use Rattle.sf_cells.proofs.CallerLemmas.{fold-append}
use Rattle.sf_cells.proofs.TallyLaws.{length-counts}
use Rattle.sf_sweep.specs.declared.window.Window.{Window}
use Rattle.sf_classes.specs.Classes.{odds}
use Rattle.sf_sweep.specs.Cuts.{IsBalancedWindow, WasWindowHanded, going_items, level_items}
use Rattle.sf_sweep.specs.Parities.{as_count, parities, stored}
use Rattle.sf_sweep.specs.Passing.{contact_at}
use Rattle.sf_sweep.specs.Repairs.{IsRepaired}
use Rattle.sf_sweep.specs.Settled.{WereSettled, forgotten}
use Rattle.sf_sweep.specs.Sides.{is_below_edge}
use Rattle.sf_sweep.specs.Tables.{IsNotBefore, contacts_of}
use Rattle.sf_sweep.proofs.CutWithinLaws.{cut-within}
use Rattle.sf_sweep.proofs.ParityLaws.{odds-written}
use Rattle.sf_sweep.proofs.PassWithinLaws.{ArePassed, pass-within}
use Rattle.sf_sweep.proofs.PlaceLaws.{DoPass, IsReadyWindow, above-pass, window-ready}
use Rattle.sf_sweep.proofs.RepairLaws.{each-parts}
use Rattle.sf_sweep.proofs.WithinLaws.{Column, IsGiven, IsWithin}
pub use Rattle.sf_sweep.specs.Within.{IsNextAt, AreReached}

-- ---- the edges above it pass
pub passes-first : (k : Column) (gone done es fs gs : List Active) (here later : List Vertex) (table : List Contact) (odd : List (List Bool)) (more : List Item) (w : Window) → IsGiven k →
    IsWithin k gone done (es ++ (fs ++ gs)) (here ++ later) table odd more → IsNextAt k.x table (es ++ (fs ++ gs)) here later w → AreReached w es fs gs → DoPass k table es
passes-first k gone done es fs gs here later table odd more w g h n r =
    above-pass k gone done es (fs ++ gs) (here ++ later) table odd more w.top g h n.top n.top_here
    (each-parts (λ a. IsNotBefore w.top (contact_at table a)) es (fs ++ gs) n.near).0 r.above r.not_above

over-each : (w : Window) (vs : List Vertex) (es : List Active) → ((a : Active) → is_below_edge w.top a ≡ true → is_over vs a ≡ true) → AllByRecursion (λ a. is_below_edge w.top a ≡ true) es →
    AllByRecursion (λ a. is_over vs a ≡ true) es
over-each w vs [] o h = tt
over-each w vs (a ∷ es) o h = (o a h.0, over-each w vs es o h.1)

pub passed-first : {Content : Type 0} (k : Column) (gone done es fs gs : List Active) (here later : List Vertex) (table : List Contact) (odd odd' : List (List Bool)) (more : List Item) (w : Window)
    (after : Content → Item → Content) (old new : Content) → IsGiven k → IsWithin k gone done (es ++ (fs ++ gs)) (here ++ later) table odd more → IsNextAt k.x table (es ++ (fs ++ gs)) here later w →
    AreReached w es fs gs → length odd ≡ length k.groups → IsRepaired k.areal k.groups table es (parities k.areal (counts k.groups (pieces_of done))) odd odd' after old new →
    ArePassed k gone done es (fs ++ gs) (here ++ later) table odd' more after old new
passed-first k gone done es fs gs here later table odd odd' more w after old new g h n r room repaired =
    let pass = passes-first k gone done es fs gs here later table odd more w g h n r in
    pass-within k gone done es (fs ++ gs) (here ++ later) table odd odd' more after old new g h room pass.passing pass.last (over-each w (here ++ later) es n.over r.above) repaired

-- ---- the window behind them
pub ready-behind : (k : Column) (gone done es fs gs : List Active) (here later : List Vertex) (table : List Contact) (odd : List (List Bool)) (more : List Item) (w : Window) → IsGiven k →
    IsWithin k gone done (fs ++ gs) (here ++ later) table odd more → IsNextAt k.x table (es ++ (fs ++ gs)) here later w → AreReached w es fs gs → IsReadyWindow k table fs gs here later
ready-behind k gone done es fs gs here later table odd more w g h n r =
    window-ready k gone done fs gs here later table odd more w.bottom g h n.bottom n.bottom_here r.reached r.not_reached n.below n.above n.apart n.upright

pub balanced-behind : (k : Column) (table : List Contact) (fs gs : List Active) (here later : List Vertex) → IsReadyWindow k table fs gs here later →
    IsBalancedWindow k.groups k.x fs (contacts_of table fs) here
balanced-behind k table fs gs here later r going levels cut = (r.closed going levels cut).balanced

-- ---- both
pub record HasAdvanced {Content : Type 0} (k : Column) (gone done es fs gs going : List Active) (later : List Vertex) (table' : List Contact) (odd' : List (List Bool)) (more : List Item)
    (after : Content → Item → Content) (old new : Content) : Type 0 where
  pub then : List Item
  pub handed : new ≡ fold after old then
  pub within : IsWithin k ((gone ++ es) ++ fs) ((done ++ es) ++ going) gs later table' odd' (more ++ then)

pub advanced : {Content : Type 0} (k : Column) (gone done es fs gs going : List Active) (here later : List Vertex) (table table' : List Contact) (odd odd' odd'' : List (List Bool)) (more : List Item) (contacts : List Contact)
    (w : Window) (after : Content → Item → Content) (old between new : Content) → IsGiven k → IsWithin k gone done (es ++ (fs ++ gs)) (here ++ later) table odd more →
    IsNextAt k.x table (es ++ (fs ++ gs)) here later w → AreReached w es fs gs → length odd ≡ length k.groups → length odd' ≡ length k.groups → length table ≡ length k.groups →
    IsRepaired k.areal k.groups table es (parities k.areal (counts k.groups (pieces_of done))) odd odd' after old between →
    WasWindowHanded k.x k.groups (map as_count (take (group_count k.groups) (parities k.areal (counts k.groups (pieces_of (done ++ es)))))) fs (contacts_of table fs) here going contacts after between new →
    AreContacts k.x going contacts → WereSettled k.x (done ++ es) going gs contacts (forgotten table fs) table' →
    odd'' ≡ stored k.areal k.groups odd' (parities k.areal (counts k.groups (pieces_of (done ++ es)))) going →
    HasAdvanced k gone done es fs gs going later table' odd'' more after old new
advanced k gone done es fs gs going here later table table' odd odd' odd'' more contacts w after old between new g h n r room room' size repaired handed are settled rows =
    let passed = passed-first k gone done es fs gs here later table odd odd' more w after old between g h n r room repaired in
    let ready = ready-behind k (gone ++ es) (done ++ es) es fs gs here later table odd' (more ++ passed.then) w g passed.within n r in
    let ns : List ℕ = counts k.groups (pieces_of (done ++ es)) in
    let above : List ℕ = map as_count (take (group_count k.groups) (parities k.areal ns)) in
    let then : List Item = level_items k.groups above fs here going handed.levels ++ going_items k.groups above contacts going in
    let within =
    cut-within k (gone ++ es) (done ++ es) fs gs here later table table' odd' odd'' (more ++ passed.then) going then g passed.within
    (record {
      window = ready.window;
      apart = ready.apart;
      levels = handed.levels;
      cut = handed.cut;
      closed = ready.closed going handed.levels handed.cut;
      above = above;
      alike = ap (λ m. odds k.areal (map as_count (take m (parities k.areal ns)))) (sym (length-counts k.groups (pieces_of (done ++ es)))) ∙ odds-written k.areal ns;
      contacts = contacts;
      handed = refl;
      are_contacts = are;
      settled = settled;
      rows = rows;
      table_room = size;
      odd_room = room';
    }) in
    record {
      then = passed.then ++ then;
      handed = handed.handed ∙ ap (λ c. fold after c then) passed.handed ∙ sym (fold-append after old passed.then then);
      within = subst (IsWithin k ((gone ++ es) ++ fs) ((done ++ es) ++ going) gs later table' odd'') (append_assoc more passed.then then) within;
    }
