-- A patch that is read off a well-formed content fits where each counter is raised before features are put in.
use Rattle.std.proofs.Common.{◌≡◌, ℕ, zero, suc, ◌<◌, ◌≤◌, Bool, true, false, ◌||◌, List, [], ◌∷◌, ◌++◌, length, Option, None, Some, option_map, option_and_then, IsTrue, nat_eq, slice_get, refl, ap, sym, subst, ◌∙◌, arith}
use Rattle.std.proofs.lemmas.Bool.{eqb-true}
use Rattle.std.specs.List.{AllByRecursion}
use Rattle.std.specs.Option.{option_map_or}
use Rattle.std.specs.Ordering.{nat_cmp}
use Rattle.std.specs.BTreeMap.{insert_entry}
use Rattle.sf_features.specs.Features.{FeatureContent}
use Rattle.sf_layers.specs.Content.{Content, LayerContent, feature_of, layer_at, with_feature, with_next_id}
use Rattle.sf_layers.specs.WellFormed.{IsFeature, IsIssued, IsLayer, IsWellFormed, id_end}
use Rattle.sf_layers.proofs.Changes.{IsLayer-slice_get}
use Rattle.sf_layers.proofs.ChangedAt.{IsFeature-feature_of, IsWellFormed-at}
use Rattle.sf_layers.proofs.Fine.{all-insert_entry, rising-insert_entry}
use Rattle.sf_layers.proofs.Kept.{IsLayer-without_feature, IsWellFormed-change_at, all-weaker}
use Rattle.sf_patches.specs.declared.slot.Slot.{Slot}
use Rattle.sf_patches.specs.declared.slot.Slot.TheVariants.{Counter, State}
use Rattle.sf_patches.specs.Patches.{GrowsFirst, NoneGrows, NoneRemoves, next_id_at, patched, put_state, with_slot}
use Rattle.sf_patches.specs.Fits.{IsAt, StayFine}
use Rattle.sf_patches.specs.Merged.{HaveOneHead, HaveOneOrder, IsReadOff}
use Rattle.sf_patches.proofs.MergedLaws.{HaveOneOrder-with_slot, next_id_at-counter, next_id_at-other, next_id_at-state}
use Rattle.sf_together.proofs.ListLaws.{all-map, all-of_map, all-at_number}

-- ---- layers

IsIssued-more : (m n : ℕ) → m ≤ n → (id : ℕ) → IsIssued m id → IsIssued n id
IsIssued-more m n h id issued = (issued.0, omega (arith, h, issued.1))

IsLayer-with_next_id : (layer : LayerContent) (next_id : ℕ) → layer.next_id ≤ next_id → next_id ≤ id_end → IsLayer layer → IsLayer (with_next_id next_id layer)
IsLayer-with_next_id layer next_id more most h = record {
  next_id = (omega (arith, h.next_id.0, more), most);
  next_column = h.next_column;
  columns = h.columns;
  column_names = h.column_names;
  column_numbers = h.column_numbers;
  rising = h.rising;
  ids = all-weaker (IsIssued layer.next_id) (IsIssued next_id) (IsIssued-more layer.next_id next_id more) _ h.ids;
  features = h.features;
}

pub IsLayer-with_feature : (layer : LayerContent) (id : ℕ) (feature : FeatureContent) → IsIssued layer.next_id id → IsFeature layer.kind layer.columns feature → IsLayer layer → IsLayer (with_feature id feature layer)
IsLayer-with_feature layer id feature issued fits h = record {
  next_id = h.next_id;
  next_column = h.next_column;
  columns = h.columns;
  column_names = h.column_names;
  column_numbers = h.column_numbers;
  rising = rising-insert_entry id feature layer.features h.rising;
  ids =
      all-map (IsIssued layer.next_id) (λ e. e.0) (insert_entry nat_cmp layer.features id feature)
      (all-insert_entry (λ e. IsIssued layer.next_id e.0) id feature layer.features issued (all-of_map (IsIssued layer.next_id) (λ e. e.0) layer.features h.ids));
  features =
      all-map (IsFeature layer.kind layer.columns) (λ e. e.1) (insert_entry nat_cmp layer.features id feature)
      (all-insert_entry (λ e. IsFeature layer.kind layer.columns e.1) id feature layer.features fits (all-of_map (IsFeature layer.kind layer.columns) (λ e. e.1) layer.features h.features));
}

-- the identifier of a feature that is there was issued
pub issued-there : (layer : LayerContent) (id : ℕ) (feature : FeatureContent) → IsLayer layer → feature_of layer id ≡ Some feature → IsIssued layer.next_id id
issued-there layer id feature h found = all-at_number (λ e. IsIssued layer.next_id e.0) layer.features id feature (all-of_map (IsIssued layer.next_id) (λ e. e.0) layer.features h.ids) found

-- ---- layers at places

pub record Entry (content : Content) (place : ℕ) : Type 0 where
  pub entry : List ℕ × LayerContent
  pub is : slice_get content place ≡ Some entry

pub entry-there : (content : Content) (place : ℕ) → place < length content → Entry content place
entry-there [] place within = absurd (omega (arith, within))
entry-there (e ∷ es) zero within = record { entry = e; is = refl }
entry-there (e ∷ es) (suc place) within = let later = entry-there es place (omega (arith, within)) in record { entry = later.entry; is = later.is }

pub layer-there : (content : Content) (place : ℕ) (there : Entry content place) → layer_at content place ≡ Some there.entry.1
layer-there content place there = ap (option_map (λ entry. entry.1)) there.is

pub length-one_order : (c d : Content) → HaveOneOrder c d → length c ≡ length d
length-one_order [] [] h = refl
length-one_order [] (b ∷ d) h = absurd h
length-one_order (a ∷ c) [] h = absurd h
length-one_order (a ∷ c) (b ∷ d) h = ap suc (length-one_order c d h.2)

-- at one place there are layers of one head
pub head-there : (c d : Content) (place : ℕ) (a b : List ℕ × LayerContent) → HaveOneOrder c d → slice_get c place ≡ Some a → slice_get d place ≡ Some b → (a.0 ≡ b.0) × HaveOneHead a.1 b.1
head-there [] d place a b h p q = cc
head-there (x ∷ c) [] place a b h p q = absurd h
head-there (x ∷ c) (y ∷ d) zero a b h p q =
    let p_is : x ≡ a = cc in
    let q_is : y ≡ b = cc in
    subst (λ z. (z.0 ≡ b.0) × HaveOneHead z.1 b.1) p_is (subst (λ z. (x.0 ≡ z.0) × HaveOneHead x.1 z.1) q_is (h.0, h.1))
head-there (x ∷ c) (y ∷ d) (suc place) a b h p q = head-there c d place a b h.2 p q

-- ---- a content on the way

-- it is well formed, has the layers of the new one, no counter above, and those that were raised are as there
record IsOnTheWay (new now : Content) (raised : ℕ → Bool) : Type 0 where
  fine : IsWellFormed now
  order : HaveOneOrder now new
  below : (place : ℕ) → next_id_at now place ≤ next_id_at new place
  reached : (place : ℕ) → raised place ≡ true → next_id_at now place ≡ next_id_at new place

-- each feature is put in where the counter was raised
abbrev pub RaisedFirst : (ℕ → Bool) → List Slot → Type 0
RaisedFirst raised [] = Unit {0}
RaisedFirst raised (Counter place next_id ∷ slots) = RaisedFirst (λ other. nat_eq place other || raised other) slots
RaisedFirst raised (State place id None ∷ slots) = RaisedFirst raised slots
RaisedFirst raised (State place id (Some feature) ∷ slots) = IsTrue (raised place) × RaisedFirst raised slots

-- what is read off a content, of a layer that is there
pub record IsTakenFrom (new : Content) (slot : Slot) : Type 0 where
  pub read_off : IsReadOff new slot
  pub is_at : IsAt new slot

record IsNextOnTheWay (new now : Content) (raised : ℕ → Bool) (slot : Slot) : Type 0 where
  is_at : IsAt now slot
  next : IsOnTheWay new (with_slot slot now) raised

here : (new now : Content) (place : ℕ) → HaveOneOrder now new → place < length new → Entry now place
here new now place order within = entry-there now place (subst (λ n. place < n) (sym (length-one_order now new order)) within)

next-counter : (new now : Content) (raised : ℕ → Bool) (place n : ℕ) → IsWellFormed new → IsOnTheWay new now raised → IsTakenFrom new (Counter place n)
    → IsNextOnTheWay new now (λ other. nat_eq place other || raised other) (Counter place n)
next-counter new now raised place n fine way taken = record {
  is_at = subst (λ m. place < m) (sym (length-one_order now new way.order)) taken.is_at;
  next = record {
    fine = IsWellFormed-at now place mine.entry (with_next_id n) mine.is
        (IsLayer-with_next_id mine.entry.1 n
        (subst (λ m. mine.entry.1.next_id ≤ m) (sym taken.read_off) (subst (λ m. m ≤ next_id_at new place) (ap (λ o. option_map_or (λ layer. layer.next_id) o 0) (layer-there now place mine)) (way.below place)))
        (subst (λ m. m ≤ id_end) (sym (taken.read_off ∙ ap (λ o. option_map_or (λ layer. layer.next_id) o 0) (layer-there new place theirs))) (IsLayer-slice_get new place theirs.entry theirs.is fine.layers).next_id.1)
        (IsLayer-slice_get now place mine.entry mine.is way.fine.layers)) way.fine;
    order = HaveOneOrder-with_slot now new (Counter place n) way.order;
    below = λ other. below other (nat_eq place other) refl;
    reached = λ other h. reached other h (nat_eq place other) refl;
  };
}
  where
    mine : Entry now place
    mine = here new now place way.order taken.is_at

    theirs : Entry new place
    theirs = entry-there new place taken.is_at

    set : (other : ℕ) → nat_eq place other ≡ true → next_id_at (with_slot (Counter place n) now) other ≡ next_id_at new other
    set other is =
        subst (λ p. next_id_at (with_slot (Counter place n) now) p ≡ next_id_at new p) (eqb-true place other is) (next_id_at-counter now new place n way.order taken.read_off)

    below : (other : ℕ) → (b : Bool) → nat_eq place other ≡ b → next_id_at (with_slot (Counter place n) now) other ≤ next_id_at new other
    below other true is = subst (λ m. m ≤ next_id_at new other) (sym (set other is)) (omega arith)
    below other false is = subst (λ m. m ≤ next_id_at new other) (sym (next_id_at-other now other place n is)) (way.below other)

    reached : (other : ℕ) → nat_eq place other || raised other ≡ true → (b : Bool) → nat_eq place other ≡ b → next_id_at (with_slot (Counter place n) now) other ≡ next_id_at new other
    reached other h true is = set other is
    reached other h false is = next_id_at-other now other place n is ∙ way.reached other (sym (ap (λ b. b || raised other) is) ∙ h)

-- a content in which a state was exchanged
next-fine : (new now : Content) (raised : ℕ → Bool) (place id : ℕ) (state : Option FeatureContent) → IsOnTheWay new now raised → IsTakenFrom new (State place id state)
    → IsWellFormed (with_slot (State place id state) now) → IsNextOnTheWay new now raised (State place id state)
next-fine new now raised place id state way taken fine = record {
  is_at = subst (λ m. place < m) (sym (length-one_order now new way.order)) taken.is_at;
  next = record {
    fine = fine;
    order = HaveOneOrder-with_slot now new (State place id state) way.order;
    below = λ other. subst (λ m. m ≤ next_id_at new other) (sym (next_id_at-state now other place id state)) (way.below other);
    reached = λ other h. next_id_at-state now other place id state ∙ way.reached other h;
  };
}

next-none : (new now : Content) (raised : ℕ → Bool) (place id : ℕ) → IsOnTheWay new now raised → IsTakenFrom new (State place id None) → IsNextOnTheWay new now raised (State place id None)
next-none new now raised place id way taken =
    next-fine new now raised place id None way taken (IsWellFormed-change_at now place (put_state id None) (λ layer h. IsLayer-without_feature id layer h) way.fine)

next-some : (new now : Content) (raised : ℕ → Bool) (place id : ℕ) (feature : FeatureContent) → IsWellFormed new → IsOnTheWay new now raised → IsTakenFrom new (State place id (Some feature)) → raised place ≡ true
    → IsNextOnTheWay new now raised (State place id (Some feature))
next-some new now raised place id feature fine way taken up =
    next-fine new now raised place id (Some feature) way taken
    (IsWellFormed-at now place mine.entry (put_state id (Some feature)) mine.is
    (IsLayer-with_feature mine.entry.1 id feature (subst (λ n. IsIssued n id) (sym counter) (issued-there theirs.entry.1 id feature new_fine found))
    (subst (λ k. IsFeature k mine.entry.1.columns feature) (sym heads.1.0) (subst (λ cs. IsFeature theirs.entry.1.kind cs feature) (sym heads.1.2) (IsFeature-feature_of theirs.entry.1 id feature found new_fine)))
    (IsLayer-slice_get now place mine.entry mine.is way.fine.layers)) way.fine)
  where
    mine : Entry now place
    mine = here new now place way.order taken.is_at

    theirs : Entry new place
    theirs = entry-there new place taken.is_at

    new_fine : IsLayer theirs.entry.1
    new_fine = IsLayer-slice_get new place theirs.entry theirs.is fine.layers

    heads : (mine.entry.0 ≡ theirs.entry.0) × HaveOneHead mine.entry.1 theirs.entry.1
    heads = head-there now new place mine.entry theirs.entry way.order mine.is theirs.is

    counter : mine.entry.1.next_id ≡ theirs.entry.1.next_id
    counter =
        sym (ap (λ o. option_map_or (λ layer. layer.next_id) o 0) (layer-there now place mine)) ∙ way.reached place up
        ∙ ap (λ o. option_map_or (λ layer. layer.next_id) o 0) (layer-there new place theirs)

    found : feature_of theirs.entry.1 id ≡ Some feature
    found = sym (taken.read_off ∙ ap (option_and_then (λ layer. feature_of layer id)) (layer-there new place theirs))

stay : (new now : Content) (raised : ℕ → Bool) (slots : List Slot) → IsWellFormed new → IsOnTheWay new now raised → AllByRecursion (IsTakenFrom new) slots → RaisedFirst raised slots → StayFine now slots
stay new now raised [] fine way taken first = tt
stay new now raised (Counter place n ∷ slots) fine way taken first =
    let next = next-counter new now raised place n fine way taken.0 in
    (next.is_at, next.next.fine, stay new (with_slot (Counter place n) now) (λ other. nat_eq place other || raised other) slots fine next.next taken.1 first)
stay new now raised (State place id None ∷ slots) fine way taken first =
    let next = next-none new now raised place id way taken.0 in
    (next.is_at, next.next.fine, stay new (with_slot (State place id None) now) raised slots fine next.next taken.1 first)
stay new now raised (State place id (Some feature) ∷ slots) fine way taken first =
    let next = next-some new now raised place id feature fine way taken.0 first.0 in
    (next.is_at, next.next.fine, stay new (with_slot (State place id (Some feature)) now) raised slots fine next.next taken.1 first.1)

-- such a patch leads through well-formed contents
pub StayFine-taken : (old new : Content) (slots : List Slot) → IsWellFormed old → IsWellFormed new → HaveOneOrder old new → ((place : ℕ) → next_id_at old place ≤ next_id_at new place)
    → AllByRecursion (IsTakenFrom new) slots → RaisedFirst (λ place. false) slots → StayFine old slots
StayFine-taken old new slots old_fine fine order below taken first =
    stay new old (λ place. false) slots fine (record { fine = old_fine; order = order; below = below; reached = λ place h. cc }) taken first

-- ---- parts of a patch

pub RaisedFirst-append : (raised : ℕ → Bool) (a b : List Slot) → RaisedFirst raised a → ((more : ℕ → Bool) → RaisedFirst more b) → RaisedFirst raised (a ++ b)
RaisedFirst-append raised [] b first second = second raised
RaisedFirst-append raised (Counter place n ∷ a) b first second = RaisedFirst-append (λ other. nat_eq place other || raised other) a b first second
RaisedFirst-append raised (State place id None ∷ a) b first second = RaisedFirst-append raised a b first second
RaisedFirst-append raised (State place id (Some feature) ∷ a) b first second = (first.0, RaisedFirst-append raised a b first.1 second)

-- ---- what needs memory comes first

abbrev pub IsPut : Slot → Type 0
IsPut (Counter place n) = Unit {0}
IsPut (State place id None) = ⊥
IsPut (State place id (Some feature)) = Unit {0}

abbrev pub IsTaken : Slot → Type 0
IsTaken (Counter place n) = Unit {0}
IsTaken (State place id None) = Unit {0}
IsTaken (State place id (Some feature)) = ⊥

-- what is put removes nothing
pub NoneRemoves-put : (content : Content) (slots : List Slot) → AllByRecursion IsPut slots → NoneRemoves content slots
NoneRemoves-put content [] all = tt
NoneRemoves-put content (Counter place n ∷ slots) all = (refl, NoneRemoves-put (with_slot (Counter place n) content) slots all.1)
NoneRemoves-put content (State place id None ∷ slots) all = absurd all.0
NoneRemoves-put content (State place id (Some feature) ∷ slots) all = (refl, NoneRemoves-put (with_slot (State place id (Some feature)) content) slots all.1)

-- and what is taken puts nothing
pub NoneGrows-taken : (content : Content) (slots : List Slot) → AllByRecursion IsTaken slots → NoneGrows content slots
NoneGrows-taken content [] all = tt
NoneGrows-taken content (Counter place n ∷ slots) all = (refl, NoneGrows-taken (with_slot (Counter place n) content) slots all.1)
NoneGrows-taken content (State place id None ∷ slots) all = (refl, NoneGrows-taken (with_slot (State place id None) content) slots all.1)
NoneGrows-taken content (State place id (Some feature) ∷ slots) all = absurd all.0

pub GrowsFirst-put : (content : Content) (front back : List Slot) → AllByRecursion IsPut front → AllByRecursion IsTaken back → GrowsFirst content (front ++ back)
GrowsFirst-put content front back put taken = record {
  front = front;
  back = back;
  parts = refl;
  none_removes = NoneRemoves-put content front put;
  none_grows = NoneGrows-taken (patched content front) back taken;
}
