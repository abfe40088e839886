-- From column to column: what is known of the edges right of a column, and what was handed out so far.
use Rattle.std.proofs.Common.{◌≡◌, refl, ap, sym, ◌∙◌, subst, ℕ, zero, suc, ◌<◌, arith, ℤ, pos, ◌*ℤ◌, Bool, true, false, List, [], ◌∷◌, ◌++◌, Option, None, Some, length, map, take, drop, replicate}
use Rattle.std.specs.Prelude.{int_le, int_lt, slice_index_or}
use Rattle.std.specs.List.{AllByRecursion, fold, prefix_len}
use Rattle.std.specs.List.Sorted.{IsPermutation, IsSortedBy}
use Rattle.std.proofs.lemmas.Int.{ints}
use Rattle.std.proofs.lemmas.List.{append-nil, map-append}
use Rattle.sf_grid.specs.Fraction.{Fraction, IsFraction}
use Rattle.sf_grid.specs.Plane.{x_of}
use Rattle.sf_strips.specs.declared.active.Active.{Active}
use Rattle.sf_strips.specs.declared.contact.Contact.{Contact}
use Rattle.sf_strips.specs.declared.contact.Contact.TheVariants.{Ahead, Never, Throughout}
use Rattle.sf_strips.specs.declared.level.Level.{Level}
use Rattle.sf_strips.specs.declared.piece.Piece.{Piece}
use Rattle.sf_strips.specs.declared.vertex.Vertex.{Vertex}
use Rattle.sf_strips.specs.Levels.{AreTops}
use Rattle.sf_strips.specs.Vertices.{all_vertices, in_column, vertex_before}
use Rattle.sf_cells.specs.Cells.{cells}
use Rattle.sf_cells.specs.Groups.{Item, counts, item_of}
use Rattle.sf_cells.specs.Hands.{item, stop_items}
use Rattle.sf_cells.specs.Samples.{listed, unlisted}
use Rattle.sf_cells.proofs.CallerLemmas.{fold-append}
use Rattle.sf_classes.specs.Classes.{HaveItemsFor, Represent, WereHanded}
use Rattle.sf_classes.proofs.ClassLaws.{items-behind, represent-append, represents-itself}
use Rattle.sf_slabs.specs.Sweeps.{IsColumnOf, IsComing, IsFront, cells_in}
use Rattle.sf_slabs.proofs.Ahead.{IsAhead}
use Rattle.sf_slabs.proofs.FollowLaws.{Waits}
use Rattle.sf_slabs.proofs.RemainingLaws.{ahead_of_all, left, remaining, start-ahead, start-column, start-coming, start-front}
use Rattle.sf_slabs.proofs.RunLaws.{IsComingNext, Stands, StandsBefore, column-ahead, column-apart, column-cells, column-coming, column-vertices, fewer-left, first-cells, full-fold, slab-column, slab-coming, slab_place, stands}
use Rattle.sf_slabs.proofs.SlabCutLaws.{slab-column as slab-is_column}
use Rattle.sf_slabs.proofs.SweepLaws.{WasCut, contacts-fewer, cut-column, cut-front, cut-items, edges-below, vertices-below}
use Rattle.sf_sweep.specs.Parities.{AreParities}
use Rattle.sf_sweep.specs.Passing.{contact_at}
use Rattle.sf_sweep.specs.Settled.{IsSeamAt}
use Rattle.sf_sweep.specs.Tables.{IsNeverElsewhere, bundles_of, contacts_of}
use Rattle.sf_sweep.specs.Windows.{column_items, slab_items}
use Rattle.sf_sweep.specs.Within.{AreComing, Column, IsAt, IsBehindColumn, IsGiven, IsLastAlone, IsNotLeft, Fall, column_at}
use Rattle.sf_sweep.proofs.CalmLaws.{one-sloped}
use Rattle.sf_sweep.proofs.CompleteLaws.{complete}
use Rattle.sf_sweep.proofs.EndLaws.{start-within}
use Rattle.sf_sweep.proofs.RepairLaws.{each-of}
use Rattle.sf_sweep.proofs.SlabLaws.{slab-items}
use Rattle.sf_sweep.proofs.SweptLaws.{IsColumnSwept, represented-further, swept-whole}
use Rattle.sf_sweep.proofs.VertexWindowLaws.{falls-from}

-- ---- between two columns
-- what is known of the tables
pub record IsKept (groups : List ℕ) (areal : List Bool) (order : List Active) (table : List Contact) (odd : List (List Bool)) : Type 0 where
  pub alone : IsLastAlone table order
  pub never : IsNeverElsewhere table order
  pub rows : AreParities areal groups odd (counts groups []) order

-- the items so far represent the first cells, among which is the slab right of the last column, and those that are left are the others
pub record HaveHanded {Content : Type 0} (pieces : List Piece) (groups : List ℕ) (areal : List Bool) (order : List Active) (table : List Contact) (next : Option Fraction)
    (after : Content → Item → Content) (old new : Content) : Type 0 where
  pub items : List Item
  pub first : List Item
  pub handed : new ≡ fold after old items
  pub represent : Represent areal items first
  pub all : map (item_of groups) (cells pieces) ≡ first ++ map (item_of groups) (remaining pieces next)
  pub last : HaveItemsFor areal first (slab_items groups (bundles_of (contacts_of table order) order))

-- ---- the cells of a slab
abbrev through : Level → Level
through l = record { edges = l.edges; vertices = l.vertices; onward = l.edges }

tops-through : (column : Option Fraction) (es : List Active) (cs : List Contact) (vs : List Vertex) (ls : List Level) → AreTops column es cs vs ls → AreTops column es cs vs (map through ls)
tops-through column es cs vs [] h = h
tops-through column es cs vs (l ∷ ls) h =
    (record { some = h.0.some; edges = h.0.edges; vertices = h.0.vertices }, tops-through column (drop l.edges es) (drop l.edges cs) (drop l.vertices vs) ls h.1)

each-through : (ls : List Level) → AllByRecursion (λ l. l.onward ≡ l.edges) (map through ls)
each-through [] = tt
each-through (l ∷ ls) = (refl, each-through ls)

-- the edges that stand in it, bundle by bundle
slab-cells : (pieces : List Piece) (x z : Fraction) (groups : List ℕ) (es : List Active) (cs : List Contact) → IsFront pieces x es cs → IsComing pieces z None es cs → IsColumnOf pieces z [] →
    map (item_of groups) (cells_in pieces (unlisted z)) ≡ slab_items groups (bundles_of cs es)
slab-cells pieces x z groups es cs front coming column =
    let few = contacts-fewer z None es cs coming.steps in
    let cut = complete None es cs [] few in
    let ls : List Level = map through cut.levels in
    let tops = tops-through None es cs [] cut.levels cut.whole.tops in
    let onward = each-through cut.levels in
    let is = slab-is_column pieces x z es es cs cs ls front coming column refl refl tops onward in
    sym (cut-items pieces z es es [] es es ls ls coming.place is refl refl refl groups false) ∙ slab-items groups (counts groups []) cs es ls few tops onward

-- ---- before the first column
never-in : (n : ℕ) (i : ℕ) → slice_index_or (replicate n Never) i Never ≡ Never
never-in zero i = refl
never-in (suc n) zero = refl
never-in (suc n) (suc i) = never-in n i

pub first-kept : (groups : List ℕ) (areal : List Bool) (order : List Active) (table : List Contact) (odd : List (List Bool)) (n : ℕ) → order ≡ [] → table ≡ replicate n Never → IsKept groups areal order table odd
first-kept groups areal order table odd n e f =
    subst (λ es. IsKept groups areal es table odd) (sym e)
    (record { alone = tt; never = λ i out. ap (λ t. slice_index_or t i Never) f ∙ never-in n i; rows = tt })

pub first-handed : {Content : Type 0} (pieces : List Piece) (groups : List ℕ) (areal : List Bool) (order : List Active) (table : List Contact) (next : Option Fraction) (vs : List Vertex)
    (after : Content → Item → Content) (old new : Content) → order ≡ [] → IsPermutation (all_vertices 0 pieces) vs → IsSortedBy vertex_before vs → IsComingNext next vs (contacts_of table order) →
    new ≡ after old (item 2 (counts groups []) (counts groups [])) → HaveHanded pieces groups areal order table next after old new
first-handed pieces groups areal order table next vs after old new e all sorted coming handed =
    subst (λ es. HaveHanded pieces groups areal es table next after old new) (sym e)
    (record {
      items = item 2 (counts groups []) (counts groups []) ∷ [];
      first = map (item_of groups) (cells_in pieces (unlisted (ahead_of_all pieces)));
      handed = handed;
      represent = subst (Represent areal (item 2 (counts groups []) (counts groups []) ∷ [])) (sym slab) (represents-itself areal (item 2 (counts groups []) (counts groups []) ∷ []));
      all =
          ap (map (item_of groups)) (first-cells pieces next vs (start-ahead pieces vs all sorted) (subst (λ es. IsComingNext next vs (contacts_of table es)) e coming))
          ∙ map-append (item_of groups) (cells_in pieces (unlisted (ahead_of_all pieces))) (remaining pieces next);
      last = subst (λ js. HaveItemsFor areal js (item 2 (counts groups []) (counts groups []) ∷ [])) (sym slab) (represents-itself areal (item 2 (counts groups []) (counts groups []) ∷ [])).of_cells;
    })
  where
    slab : map (item_of groups) (cells_in pieces (unlisted (ahead_of_all pieces))) ≡ item 2 (counts groups []) (counts groups []) ∷ []
    slab = slab-cells pieces (ahead_of_all pieces) (ahead_of_all pieces) groups [] [] (start-front pieces) (start-coming pieces) (start-column pieces)

-- ---- a column that comes next
not-left : (x : Fraction) (c : Contact) → Waits x c → IsNotLeft x c
not-left x Never h = tt
not-left x (Ahead q) h = no_less (x.num *ℤ pos (x_of q).den) ((x_of q).num *ℤ pos x.den) h
  where
    no_less : (a b : ℤ) → int_le a b ≡ true → int_lt b a ≡ false
    no_less a b h = grind (arith, ints)
not-left x Throughout h = tt

each-not_left : (x : Fraction) (table : List Contact) (es : List Active) → AllByRecursion (Waits x) (contacts_of table es) → IsLastAlone table es → AllByRecursion (λ a. IsNotLeft x (contact_at table a)) es
each-not_left x table [] w l = tt
each-not_left x table (a ∷ []) w l = (subst (IsNotLeft x) (sym l) tt, tt)
each-not_left x table (a ∷ b ∷ es) w l = (not-left x (contact_at table a) w.0, each-not_left x table (b ∷ es) w.1 l)

pub fall-of : (pieces : List Piece) (x : Fraction) (vs : List Vertex) → IsColumnOf pieces x vs → IsFraction x → Fall vs
fall-of pieces x [] c i = tt
fall-of pieces x (v ∷ vs) c i = falls-from x v vs i c.here.0 c.here.1 c.in_order

seam-alone : (x : Fraction) (table : List Contact) (es : List Active) → IsSeamAt x table es [] → IsLastAlone table es
seam-alone x table [] h = tt
seam-alone x table (a ∷ []) h = h
seam-alone x table (a ∷ b ∷ es) h = seam-alone x table (b ∷ es) h

module _ (pieces : List Piece) (groups : List ℕ) (areal : List Bool) (x : Fraction) (order : List Active) (table : List Contact) (odd : List (List Bool)) (ahead here : List Vertex) (n : ℕ)
    (grouped : length groups ≡ length pieces) (s : StandsBefore pieces x order (contacts_of table order) ahead) (k : IsKept groups areal order table odd) (is_len : n ≡ prefix_len (in_column x) ahead)
    (is_here : here ≡ take n ahead) where
  abbrev the_column : Column
  the_column = column_at x groups areal pieces s.behind order (contacts_of table order) here

  pub vertices-of : IsColumnOf pieces x here
  vertices-of = column-vertices pieces x order (contacts_of table order) ahead here n s is_len is_here

  pub given : IsGiven the_column
  given = record { coming = column-coming pieces x order (contacts_of table order) ahead s; column = vertices-of; grouped = grouped }

  pub coming : AreComing s.behind x table order
  coming =
      record {
        contacts = s.front.contacts;
        alone = k.alone;
        sloped = one-sloped s.behind table order s.front.place s.front.contacts s.front.descend;
        steps = given.coming.steps;
        apart = column-apart pieces x order (contacts_of table order) ahead s;
        ahead = each-not_left x table order s.clear.waits k.alone;
      }

  abbrev pub at-column : IsAt x groups areal order table odd 0 here
  at-column =
      record {
        pieces = pieces;
        before = s.behind;
        came = order;
        contacts = contacts_of table order;
        vertices = here;
        gone = [];
        done = [];
        rest = order;
        more = [];
        given = given;
        within = start-within the_column table odd
            (record {
              contacts = refl;
              coming = coming;
              never = k.never;
              rows = k.rows;
              edges = each-of (λ a. a.piece < length groups) order (edges-below pieces (length groups) order order grouped refl s.front.entries);
              vertices = each-of (λ v. v.piece < length groups) here (vertices-below pieces (length groups) here grouped vertices-of.each);
            });
        here = vertices-of.here;
        falling = fall-of pieces x here vertices-of given.coming.place;
        whole = refl;
        place = refl;
      }

  -- ---- behind it
  module _ {Content : Type 0} (later : List Vertex) (is_later : later ≡ drop n ahead) (order' : List Active) (table' : List Contact) (odd' : List (List Bool)) (after : Content → Item → Content) (old mid new : Content)
      (b : IsBehindColumn at-column order' table' odd' after mid new) where
    swept : IsColumnSwept areal groups (Some x) order (contacts_of table order) here order' (bundles_of (contacts_of table' order') order') b.then
    swept =
        swept-whole areal groups (Some x) order [] (contacts_of table order) (contacts_of table' []) here [] order' b.then refl refl b.within.swept

    was-cut : WasCut pieces x (Some x) order order (contacts_of table order) (contacts_of table order) here order' swept.levels
    was-cut = record { coming = given.coming; vertices = vertices-of; edges_are = refl; contacts_are = refl; tops = swept.whole.tops; onward = swept.whole.onward }

    front-behind : IsFront pieces x order' (contacts_of table' order')
    front-behind = cut-front pieces x (Some x) order order (contacts_of table order) (contacts_of table order) (contacts_of table' order') here order' swept.levels was-cut b.within.met.inner

    ahead-behind : IsAhead pieces x later
    ahead-behind = column-ahead pieces x order (contacts_of table order) ahead later n s is_len is_later

    pub kept-behind : IsKept groups areal order' table' odd'
    kept-behind =
        record {
          alone = seam-alone x table' order' b.within.met.seam;
          never = subst (IsNeverElsewhere table') (append-nil order') b.within.never;
          rows = b.within.right;
        }

    module _ (next : Option Fraction) (coming-next : IsComingNext next later (contacts_of table' order')) where
      pub stands-behind : Stands pieces next order' (contacts_of table' order') later
      stands-behind = stands pieces x next order' (contacts_of table' order') later front-behind ahead-behind coming-next

      pub fewer-behind : left pieces next < left pieces (Some x)
      fewer-behind = fewer-left pieces x next order' (contacts_of table' order') later front-behind ahead-behind coming-next

      pub handed-behind : HaveHanded pieces groups areal order table (Some x) after old mid → HaveHanded pieces groups areal order' table' next after old new
      handed-behind h =
          let column : List Item = map (item_of groups) (cells_in pieces (listed x)) in
          let slab : List Item = map (item_of groups) (cells_in pieces (unlisted (slab_place x next))) in
          let rest : List Item = map (item_of groups) (remaining pieces next) in
          let is_column : column ≡ column_items groups swept.parts =
          sym (cut-items pieces x order order here order' order' swept.levels swept.levels given.coming.place
          (cut-column pieces x (Some x) order order (contacts_of table order) (contacts_of table order) here order' swept.levels was-cut) refl refl refl groups true)
          ∙ ap (stop_items groups true (counts groups []) (counts groups [])) swept.stops in
          let is_slab : slab ≡ slab_items groups (bundles_of (contacts_of table' order') order') =
          slab-cells pieces x (slab_place x next) groups order' (contacts_of table' order') front-behind
          (slab-coming pieces x next order' (contacts_of table' order') later front-behind ahead-behind coming-next)
          (slab-column pieces x next order' (contacts_of table' order') later front-behind ahead-behind coming-next) in
          let all : map (item_of groups) (cells pieces) ≡ h.first ++ (column ++ (slab ++ rest)) =
          h.all
          ∙ ap (λ z. h.first ++ z)
          (ap (map (item_of groups)) (column-cells pieces x next order' (contacts_of table' order') later front-behind ahead-behind coming-next)
          ∙ map-append (item_of groups) (cells_in pieces (listed x)) (cells_in pieces (unlisted (slab_place x next)) ++ remaining pieces next)
          ∙ ap (λ z. column ++ z) (map-append (item_of groups) (cells_in pieces (unlisted (slab_place x next))) (remaining pieces next))) in
          let r =
          represented-further areal groups order (contacts_of table order) swept.parts h.items b.then h.first column slab rest (map (item_of groups) (cells pieces)) all h.represent h.last swept.coming is_column
          (is_slab ∙ ap (slab_items groups) (sym swept.bundled)) swept.handed in
          record {
            items = h.items ++ b.then;
            first = h.first ++ (column ++ slab);
            handed = b.handed ∙ ap (λ c. fold after c b.then) h.handed ∙ sym (fold-append after old h.items b.then);
            represent = r.1;
            all = r.0;
            last = items-behind areal h.first (column ++ slab) (slab_items groups (bundles_of (contacts_of table' order') order'))
                (subst (HaveItemsFor areal (column ++ slab)) is_slab (items-behind areal column slab slab (represents-itself areal slab).of_cells));
          }

-- ---- the end
-- no further column is left
pub handed-all : {Content : Type 0} (pieces : List Piece) (groups : List ℕ) (areal : List Bool) (order : List Active) (table : List Contact) (next : Option Fraction)
    (after : Content → Item → Content) (old new : Content) → next ≡ None → HaveHanded pieces groups areal order table next after old new → WereHanded pieces groups areal after old new
handed-all pieces groups areal order table next after old new e h =
    record {
      items = h.items;
      represent = subst (Represent areal h.items) (sym (h.all ∙ ap (λ o. h.first ++ map (item_of groups) (remaining pieces o)) e ∙ append-nil h.first)) h.represent;
      handed = h.handed;
    }

-- or nothing that is left would change the sink
pub handed-full : {Content : Type 0} (pieces : List Piece) (groups : List ℕ) (areal : List Bool) (order : List Active) (table : List Contact) (next : Option Fraction)
    (after : Content → Item → Content) (old new : Content) → ((i : Item) → after new i ≡ new) → HaveHanded pieces groups areal order table next after old new → WereHanded pieces groups areal after old new
handed-full pieces groups areal order table next after old new full h =
    let rest : List Item = map (item_of groups) (remaining pieces next) in
    record {
      items = h.items ++ rest;
      represent = subst (Represent areal (h.items ++ rest)) (sym h.all) (represent-append areal h.items rest h.first rest h.represent (represents-itself areal rest));
      handed = sym (fold-append after old h.items rest ∙ ap (λ c. fold after c rest) (sym h.handed) ∙ full-fold after new full rest);
    }
