-- What is read off a scratch content after a group is all in which the whole content and what comes of it differ.
use Rattle.std.proofs.Common.{◌≡◌, ℕ, zero, suc, ◌+◌, ◌<◌, ◌≤◌, Bool, true, false, not, cond, ◌&&◌, ◌||◌, if◌then◌else◌, List, [], ◌∷◌, ◌++◌, length, map, filter, Option, None, Some, is_some, option_map, option_and_then, IsTrue, nat_eq, nat_le, bytes_eq, slice_get, refl, ap, sym, subst, ◌∙◌, arith}
use Rattle.std.proofs.lemmas.Bool.Decides.{nat_tests}
use Rattle.std.proofs.lemmas.Bool.{eq-eqb, eqb-true}
use Rattle.std.proofs.lemmas.Slice.Eq.{bytes_eq-Decides}
use Rattle.std.specs.List.{AllByRecursion, list_any, position_or_len}
use Rattle.std.specs.Map.{keys_of, lookup}
use Rattle.std.specs.Option.{option_map_or}
use Rattle.sf_features.specs.Columns.{IsDistinct}
use Rattle.sf_features.specs.Features.{FeatureContent}
use Rattle.sf_layers.specs.Content.{Content, LayerContent, feature_at, feature_in, feature_of, layer_at, layer_of, place_of}
use Rattle.sf_layers.specs.WellFormed.{IsLayer, IsWellFormed}
use Rattle.sf_layers.proofs.Changes.{IsLayer-layer_of, layer_of-place_of, place_of-within}
use Rattle.sf_layers.proofs.Kept.{all-weaker, none_or}
use Rattle.sf_layers.proofs.Places.{entry_at_place}
use Rattle.sf_steps.specs.Steps.{next_id_of}
use Rattle.sf_patches.specs.declared.slot.Slot.{Slot}
use Rattle.sf_patches.specs.declared.slot.Slot.TheVariants.{Counter}
use Rattle.sf_patches.specs.Patches.{next_id_at}
use Rattle.sf_patches.specs.Merged.{HasAllChanges, HaveOneOrder, IsReadOff, is_of_counter, is_of_id}
use Rattle.sf_patches.proofs.MergedLaws.{none-there}
use Rattle.sf_groups.specs.declared.member.Member.{Member}
use Rattle.sf_groups.specs.Members.{names}
use Rattle.sf_groups.specs.Scratches.{Shows, ShowsLayer, ShowsThere, is_of_layer, is_looked_at}
use Rattle.sf_groups.proofs.TogetherLaws.{and_true, or_left, or_right}
use Rattle.sf_together.specs.declared.removals.Key.{Key}
use Rattle.sf_together.specs.Copies.{CopiesLayer, IsCopied, IsScratchOf}
use Rattle.sf_together.specs.Exchanges.{has_key, key_at, keys_in, layer_slots, put_at, puts, removal, removals_of}
use Rattle.sf_together.proofs.Parts.{slots_between}
use Rattle.sf_together.proofs.ListLaws.{all-append, all-filter, all-flat_map, all-found, all-found_rising, all-map, all-none, all-of_map, any-left, any-right, bytes_eq-turned}
use Rattle.sf_together.proofs.FrameLaws.{Leaves}
use Rattle.sf_together.proofs.FitLaws.{IsTakenFrom, issued-there, length-one_order}

-- ---- layers of one name

-- a group was carried out on a content and on a scratch content of it
pub record AreCarried (members : List Member) (whole scratch new after : Content) : Type 0 where
  pub whole_fine : IsWellFormed whole
  pub scratch_fine : IsWellFormed scratch
  pub new_fine : IsWellFormed new
  pub after_fine : IsWellFormed after
  pub copied : IsScratchOf whole members scratch
  pub shows : Shows (is_of_layer members) (is_looked_at whole members) new after
  pub leaves : Leaves whole members whole new
  pub leaves_scratch : Leaves scratch members scratch after

-- what the layers of one name tell of one another
record Tell (whole part new after : LayerContent) : Type 0 where
  counter : after.next_id ≡ new.next_id
  found : (id : ℕ) (feature : FeatureContent) → feature_of after id ≡ Some feature → feature_of new id ≡ Some feature
  same : (id : ℕ) → feature_of part id ≡ None → feature_of after id ≡ None → feature_of whole id ≡ feature_of new id
  gone : (id : ℕ) (feature : FeatureContent) → feature_of part id ≡ Some feature → feature_of after id ≡ None → feature_of new id ≡ None

-- an identifier that was not issued is no feature's
pub none-above : (layer : LayerContent) (id : ℕ) → IsLayer layer → layer.next_id ≤ id → feature_of layer id ≡ None
none-above layer id fine above = by (feature_of layer id) refl
  where
    by : (o : Option FeatureContent) → feature_of layer id ≡ o → o ≡ None
    by None is = refl
    by (Some feature) is = absurd (omega (arith, above, (issued-there layer id feature fine is).1))

pub le_from : (m n : ℕ) → nat_le m n ≡ true → m ≤ n
le_from m n h = grind (arith, nat_tests)

pub feature-in : (content : Content) (name : List ℕ) (id : ℕ) (layer : LayerContent) → layer_of content name ≡ Some layer → feature_in content name id ≡ feature_of layer id
feature-in content name id layer is = ap (option_and_then (λ l. feature_of l id)) is

pub next_id-of : (content : Content) (name : List ℕ) (layer : LayerContent) → layer_of content name ≡ Some layer → next_id_of content name ≡ layer.next_id
next_id-of content name layer is = ap (λ o. option_map_or (λ l. l.next_id) o 0) is

-- the layers of a name
record Layers (members : List Member) (whole scratch new after : Content) (name : List ℕ) : Type 0 where
  w : LayerContent
  p : LayerContent
  n : LayerContent
  a : LayerContent
  w_is : layer_of whole name ≡ Some w
  p_is : layer_of scratch name ≡ Some p
  n_is : layer_of new name ≡ Some n
  a_is : layer_of after name ≡ Some a
  is_in : IsTrue (is_of_layer members name)
  copies : CopiesLayer members name w p
  shown : ShowsLayer (is_looked_at whole members name) n a

tell : (members : List Member) (whole scratch new after : Content) (name : List ℕ) → AreCarried members whole scratch new after → (l : Layers members whole scratch new after name) → Tell l.w l.p l.n l.a
tell members whole scratch new after name c l = record {
  counter = l.shown.next_id;
  found = λ id feature is. found id feature is (is_looked_at whole members name id) refl;
  same = λ id p_none a_none. same id p_none a_none (is_looked_at whole members name id) refl;
  gone = λ id feature p_some a_none. gone id feature p_some a_none (list_any (names name id) members) refl;
}
  where
    -- what is not looked at was not copied, and stays
    not_named : (id : ℕ) → list_any (names name id) members ≡ false → feature_of l.p id ≡ None
    not_named id none = l.copies.features id ∙ ap (λ b. if b then feature_of l.w id else None) none

    unseen : (id : ℕ) → is_looked_at whole members name id ≡ false → feature_of l.a id ≡ None
    unseen id none =
        sym (feature-in after name id l.a l.a_is)
        ∙ c.leaves_scratch.features name id
        (ap (λ m. list_any (names name id) members || nat_le m id) (next_id-of scratch name l.p l.p_is ∙ l.copies.head.next_id ∙ sym (next_id-of whole name l.w l.w_is)) ∙ none)
        ∙ feature-in scratch name id l.p l.p_is ∙ not_named id (none_or (list_any (names name id) members) (nat_le (next_id_of whole name) id) none).0

    kept : (id : ℕ) → is_looked_at whole members name id ≡ false → feature_of l.n id ≡ feature_of l.w id
    kept id none = sym (feature-in new name id l.n l.n_is) ∙ c.leaves.features name id none ∙ feature-in whole name id l.w l.w_is

    named : (id : ℕ) → list_any (names name id) members ≡ true → feature_of l.p id ≡ feature_of l.w id
    named id is = l.copies.features id ∙ ap (λ b. if b then feature_of l.w id else None) is

    found : (id : ℕ) (feature : FeatureContent) → feature_of l.a id ≡ Some feature → (b : Bool) → is_looked_at whole members name id ≡ b → feature_of l.n id ≡ Some feature
    found id feature is true looked = sym (l.shown.features id looked) ∙ is
    found id feature is false none = let no : ◌≡◌ {A = Option FeatureContent} None (Some feature) = sym (unseen id none) ∙ is in cc

    was_none : (id : ℕ) → feature_of l.p id ≡ None → is_looked_at whole members name id ≡ true → (b : Bool) → list_any (names name id) members ≡ b → feature_of l.w id ≡ None
    was_none id p_none looked true is = sym (named id is) ∙ p_none
    was_none id p_none looked false is =
        none-above l.w id (IsLayer-layer_of whole name l.w l.w_is c.whole_fine.layers)
        (subst (λ m. m ≤ id) (next_id-of whole name l.w l.w_is) (le_from (next_id_of whole name) id (sym (ap (λ b. b || nat_le (next_id_of whole name) id) is) ∙ looked)))

    same : (id : ℕ) → feature_of l.p id ≡ None → feature_of l.a id ≡ None → (b : Bool) → is_looked_at whole members name id ≡ b → feature_of l.w id ≡ feature_of l.n id
    same id p_none a_none true looked = was_none id p_none looked (list_any (names name id) members) refl ∙ sym (sym (l.shown.features id looked) ∙ a_none)
    same id p_none a_none false none = sym (kept id none)

    gone : (id : ℕ) (feature : FeatureContent) → feature_of l.p id ≡ Some feature → feature_of l.a id ≡ None → (b : Bool) → list_any (names name id) members ≡ b → feature_of l.n id ≡ None
    gone id feature p_some a_none true is = sym (l.shown.features id (or_left (list_any (names name id) members) (nat_le (next_id_of whole name) id) is)) ∙ a_none
    gone id feature p_some a_none false none = let no : ◌≡◌ {A = Option FeatureContent} None (Some feature) = sym (not_named id none) ∙ p_some in cc

-- ---- which layers there are

record Found (content : Content) (name : List ℕ) : Type 0 where
  layer : LayerContent
  is : layer_of content name ≡ Some layer

found-after : (c d : Content) (name : List ℕ) (layer : LayerContent) → HaveOneOrder c d → layer_of c name ≡ Some layer → Found d name
found-after [] [] name layer h is = cc
found-after [] (b ∷ d) name layer h is = absurd h
found-after (a ∷ c) [] name layer h is = absurd h
found-after (a ∷ c) (b ∷ d) name layer h is = by (λ there. found-after c d name layer h.2 there) (bytes_eq name a.0) refl is
  where
    by : (layer_of c name ≡ Some layer → Found d name) → (t : Bool) → bytes_eq name a.0 ≡ t → cond t (Some a.1) (layer_of c name) ≡ Some layer → Found (b ∷ d) name
    by later true t_is found = record { layer = b.1; is = ap (λ t. cond t (Some b.1) (layer_of d name)) (ap (bytes_eq name) (sym h.0) ∙ t_is) }
    by later false t_is found =
        let there = later found in
        record { layer = there.layer; is = ap (λ t. cond t (Some b.1) (layer_of d name)) (ap (bytes_eq name) (sym h.0) ∙ t_is) ∙ there.is }

found-before : (c d : Content) (name : List ℕ) (layer : LayerContent) → HaveOneOrder c d → layer_of d name ≡ Some layer → Found c name
found-before [] [] name layer h is = cc
found-before [] (b ∷ d) name layer h is = absurd h
found-before (a ∷ c) [] name layer h is = absurd h
found-before (a ∷ c) (b ∷ d) name layer h is = by (λ there. found-before c d name layer h.2 there) (bytes_eq name b.0) refl is
  where
    by : (layer_of d name ≡ Some layer → Found c name) → (t : Bool) → bytes_eq name b.0 ≡ t → cond t (Some b.1) (layer_of d name) ≡ Some layer → Found (a ∷ c) name
    by later true t_is found = record { layer = a.1; is = ap (λ t. cond t (Some a.1) (layer_of c name)) (ap (bytes_eq name) h.0 ∙ t_is) }
    by later false t_is found =
        let there = later found in
        record { layer = there.layer; is = ap (λ t. cond t (Some a.1) (layer_of c name)) (ap (bytes_eq name) h.0 ∙ t_is) ∙ there.is }

layers-of : (members : List Member) (whole scratch new after : Content) (name : List ℕ) (part : LayerContent) → AreCarried members whole scratch new after → layer_of scratch name ≡ Some part
    → Layers members whole scratch new after name
layers-of members whole scratch new after name part c part_is = by (layer_of whole name) refl (subst (λ q. IsCopied members name (layer_of whole name) q) part_is (c.copied name))
  where
    by : (o : Option LayerContent) → layer_of whole name ≡ o → IsCopied members name o (Some part) → Layers members whole scratch new after name
    by None is copies = absurd copies
    by (Some w) is copies =
        let there = found-after whole new name w c.leaves.order is in
        let later = found-after scratch after name part c.leaves_scratch.order part_is in
        record {
          w = w;
          p = part;
          n = there.layer;
          a = later.layer;
          w_is = is;
          p_is = part_is;
          n_is = there.is;
          a_is = later.is;
          is_in = copies.0;
          copies = copies.1;
          shown = subst (λ o. ShowsThere (is_looked_at whole members name) o (Some later.layer)) there.is
              (subst (λ o. ShowsThere (is_looked_at whole members name) (layer_of new name) o) later.is (c.shows name copies.0));
        }

-- ---- places

pub keys-one_order : (c d : Content) → HaveOneOrder c d → keys_of c ≡ keys_of d
keys-one_order [] [] h = refl
keys-one_order [] (b ∷ d) h = absurd h
keys-one_order (a ∷ c) [] h = absurd h
keys-one_order (a ∷ c) (b ∷ d) h = ap (λ n. n ∷ keys_of c) h.0 ∙ ap (λ ns. b.0 ∷ ns) (keys-one_order c d h.2)

layer-at_place : (whole new : Content) (name : List ℕ) → HaveOneOrder whole new → layer_at new (place_of whole name) ≡ layer_of new name
layer-at_place whole new name order = ap (λ ns. layer_at new (position_or_len (bytes_eq name) ns)) (keys-one_order whole new order) ∙ layer_of-place_of new name

pub all-at_place : {X : Type 0} (P : X → Type 0) (xs : List X) (i : ℕ) (x : X) → AllByRecursion P xs → slice_get xs i ≡ Some x → P x
all-at_place P [] i x all is = cc
all-at_place P (y ∷ ys) zero x all is = let same : y ≡ x = cc in subst P same all.0
all-at_place P (y ∷ ys) (suc i) x all is = all-at_place P ys i x all.1 is

place-found : (content : Content) (place : ℕ) (entry : List ℕ × LayerContent) → IsDistinct bytes_eq (keys_of content) → slice_get content place ≡ Some entry → place_of content entry.0 ≡ place
place-found [] place entry distinct is = cc
place-found (e ∷ es) zero entry distinct is =
    let same : e ≡ entry = cc in
    ap (λ b. cond (not b) (1 + place_of es entry.0) 0) ((bytes_eq-Decides entry.0 e.0).1 (ap (λ x. x.0) (sym same)))
place-found (e ∷ es) (suc place) entry distinct is =
    let apart : bytes_eq e.0 entry.0 ≡ false =
    all-at_place (λ f. bytes_eq e.0 f.0 ≡ false) es place entry (all-of_map (λ n. bytes_eq e.0 n ≡ false) (λ f. f.0) es (all-none (bytes_eq e.0) (keys_of es) distinct.0)) is in
    let later : place_of es entry.0 ≡ place = place-found es place entry distinct.1 is in
    ap (λ b. cond (not b) (1 + place_of es entry.0) 0) (bytes_eq-turned e.0 entry.0 apart) ∙ omega (arith, later)

-- ---- all that is put is read off

pub all-puts : (P : Slot → Type 0) (whole es : Content) → AllByRecursion (λ e. AllByRecursion P (layer_slots (place_of whole e.0) e.1)) es → AllByRecursion P (puts whole es)
all-puts P whole [] all = tt
all-puts P whole (e ∷ es) all = all-append P (puts whole es) (layer_slots (place_of whole e.0) e.1) (all-puts P whole es all.1) all.0

module _ (members : List Member) (whole scratch new after : Content) (c : AreCarried members whole scratch new after) where
  place-in : (name : List ℕ) (l : Layers members whole scratch new after name) → place_of whole name < length new
  place-in name l = subst (λ n. place_of whole name < n) (length-one_order whole new c.leaves.order) (place_of-within whole name (ap is_some l.w_is))

  counter-taken : (name : List ℕ) (l : Layers members whole scratch new after name) → IsTakenFrom new (Counter (place_of whole name) l.a.next_id)
  counter-taken name l = record {
    read_off =
        (tell members whole scratch new after name c l).counter
        ∙ sym (ap (λ o. option_map_or (λ layer. layer.next_id) o 0) (layer-at_place whole new name c.leaves.order ∙ l.n_is));
    is_at = place-in name l;
  }

  feature-there : (name : List ℕ) (l : Layers members whole scratch new after name) (id : ℕ) → feature_at new (place_of whole name) id ≡ feature_of l.n id
  feature-there name l id = ap (option_and_then (λ layer. feature_of layer id)) (layer-at_place whole new name c.leaves.order ∙ l.n_is)

  state-taken : (name : List ℕ) (l : Layers members whole scratch new after name) (e : ℕ × FeatureContent) → feature_of l.a e.0 ≡ Some e.1 → IsTakenFrom new (put_at (place_of whole name) e)
  state-taken name l e is = record {
    read_off = sym (feature-there name l e.0 ∙ (tell members whole scratch new after name c l).found e.0 e.1 is);
    is_at = place-in name l;
  }

  layer-taken : (name : List ℕ) (l : Layers members whole scratch new after name) → AllByRecursion (IsTakenFrom new) (layer_slots (place_of whole name) l.a)
  layer-taken name l = (
    counter-taken name l,
    all-map (IsTakenFrom new) (put_at (place_of whole name)) l.a.features
        (all-weaker (λ e. feature_of l.a e.0 ≡ Some e.1) (λ e. IsTakenFrom new (put_at (place_of whole name) e)) (state-taken name l) l.a.features
        (all-found_rising l.a.features (IsLayer-layer_of after name l.a l.a_is c.after_fine.layers).rising)),
  )

  entry-taken : (e : List ℕ × LayerContent) → layer_of after e.0 ≡ Some e.1 → AllByRecursion (IsTakenFrom new) (layer_slots (place_of whole e.0) e.1)
  entry-taken e is =
      let part = found-before scratch after e.0 e.1 c.leaves_scratch.order is in
      let l = layers-of members whole scratch new after e.0 part.layer c part.is in
      let both : ◌≡◌ {A = Option LayerContent} (Some l.a) (Some e.1) = sym l.a_is ∙ is in
      let same : l.a ≡ e.1 = cc in
      subst (λ a. AllByRecursion (IsTakenFrom new) (layer_slots (place_of whole e.0) a)) same (layer-taken e.0 l)

  puts-taken : AllByRecursion (IsTakenFrom new) (puts whole after)
  puts-taken = all-puts (IsTakenFrom new) whole after (all-weaker (λ e. layer_of after e.0 ≡ Some e.1) (λ e. AllByRecursion (IsTakenFrom new) (layer_slots (place_of whole e.0) e.1)) entry-taken after (all-found after c.after_fine.distinct))

  -- ---- and all that is removed

  has_key-there : (name : List ℕ) (l : Layers members whole scratch new after name) (id : ℕ) → has_key whole after (record { place = place_of whole name; id = id }) ≡ is_some (feature_of l.a id)
  has_key-there name l id = ap (λ o. option_map_or (λ entry. is_some (feature_in after entry.0 id)) o false) (entry_at_place whole name l.w l.w_is) ∙ ap is_some (feature-in after name id l.a l.a_is)

  none-of_test : {X : Type 0} (o : Option X) → not (is_some o) ≡ true → o ≡ None
  none-of_test None h = refl
  none-of_test (Some x) h = cc

  key-taken : (name : List ℕ) (l : Layers members whole scratch new after name) (e : ℕ × FeatureContent) → feature_of l.p e.0 ≡ Some e.1
      → not (has_key whole after (key_at (place_of whole name) e)) ≡ true → IsTakenFrom new (removal (key_at (place_of whole name) e))
  key-taken name l e is none = record {
    read_off = sym (feature-there name l e.0 ∙ (tell members whole scratch new after name c l).gone e.0 e.1 is (none-of_test (feature_of l.a e.0) (ap not (sym (has_key-there name l e.0)) ∙ none)));
    is_at = place-in name l;
  }

  keys-taken : (e : List ℕ × LayerContent) → layer_of scratch e.0 ≡ Some e.1
      → AllByRecursion (λ key. not (has_key whole after key) ≡ true → IsTakenFrom new (removal key)) (map (key_at (place_of whole e.0)) e.1.features)
  keys-taken e is =
      let l = layers-of members whole scratch new after e.0 e.1 c is in
      let both : ◌≡◌ {A = Option LayerContent} (Some l.p) (Some e.1) = sym l.p_is ∙ is in
      let same : l.p ≡ e.1 = cc in
      subst (λ p. AllByRecursion (λ key. not (has_key whole after key) ≡ true → IsTakenFrom new (removal key)) (map (key_at (place_of whole e.0)) p.features)) same
      (all-map (λ key. not (has_key whole after key) ≡ true → IsTakenFrom new (removal key)) (key_at (place_of whole e.0)) l.p.features
      (all-weaker (λ f. feature_of l.p f.0 ≡ Some f.1) (λ f. not (has_key whole after (key_at (place_of whole e.0) f)) ≡ true → IsTakenFrom new (removal (key_at (place_of whole e.0) f)))
      (key-taken e.0 l) l.p.features
      (all-found_rising l.p.features (IsLayer-layer_of scratch e.0 l.p l.p_is c.scratch_fine.layers).rising)))

  removals-taken : AllByRecursion (IsTakenFrom new) (removals_of whole after (keys_in whole scratch))
  removals-taken =
      all-map (IsTakenFrom new) removal (filter (λ key. not (has_key whole after key)) (keys_in whole scratch))
      (all-filter (λ key. IsTakenFrom new (removal key)) (λ key. not (has_key whole after key)) (keys_in whole scratch)
      (all-flat_map (λ key. not (has_key whole after key) ≡ true → IsTakenFrom new (removal key)) (λ entry. map (key_at (place_of whole entry.0)) entry.1.features) scratch
      (all-weaker (λ e. layer_of scratch e.0 ≡ Some e.1)
      (λ e. AllByRecursion (λ key. not (has_key whole after key) ≡ true → IsTakenFrom new (removal key)) (map (key_at (place_of whole e.0)) e.1.features))
      keys-taken scratch (all-found scratch c.scratch_fine.distinct))))

  pub slots-taken : AllByRecursion (IsTakenFrom new) (slots_between whole after (keys_in whole scratch))
  slots-taken = all-append (IsTakenFrom new) (puts whole after) (removals_of whole after (keys_in whole scratch)) puts-taken removals-taken

-- ---- all that changed is there

any-puts : (test : Slot → Bool) (whole es : Content) (name : List ℕ) (layer : LayerContent) → layer_of es name ≡ Some layer → list_any test (layer_slots (place_of whole name) layer) ≡ true
    → list_any test (puts whole es) ≡ true
any-puts test whole [] name layer is any = cc
any-puts test whole (e ∷ es) name layer is any = by (λ there. any-puts test whole es name layer there any) (bytes_eq name e.0) refl is
  where
    by : (layer_of es name ≡ Some layer → list_any test (puts whole es) ≡ true) → (b : Bool) → bytes_eq name e.0 ≡ b → cond b (Some e.1) (layer_of es name) ≡ Some layer
        → list_any test (puts whole es ++ layer_slots (place_of whole e.0) e.1) ≡ true
    by later true is h =
        let there : e.1 ≡ layer = cc in
        any-right test (puts whole es) (layer_slots (place_of whole e.0) e.1)
        (subst (λ n. list_any test (layer_slots (place_of whole n) e.1) ≡ true) ((bytes_eq-Decides name e.0).0 is) (subst (λ l. list_any test (layer_slots (place_of whole name) l) ≡ true) (sym there) any))
    by later false is h = any-left test (puts whole es) (layer_slots (place_of whole e.0) e.1) (later h)

any-state : (place id : ℕ) (es : List (ℕ × FeatureContent)) (feature : FeatureContent) → lookup (nat_eq id) es ≡ Some feature → list_any (is_of_id place id) (map (put_at place) es) ≡ true
any-state place id [] feature is = cc
any-state place id (e ∷ es) feature is = by (λ there. any-state place id es feature there) (nat_eq id e.0) refl is
  where
    by : (lookup (nat_eq id) es ≡ Some feature → list_any (is_of_id place id) (map (put_at place) es) ≡ true) → (b : Bool) → nat_eq id e.0 ≡ b → cond b (Some e.1) (lookup (nat_eq id) es) ≡ Some feature
        → (nat_eq place place && nat_eq e.0 id) || list_any (is_of_id place id) (map (put_at place) es) ≡ true
    by later true is h =
        or_left (nat_eq place place && nat_eq e.0 id) (list_any (is_of_id place id) (map (put_at place) es))
        (ap (λ b. b && nat_eq e.0 id) (eq-eqb place place refl) ∙ eq-eqb e.0 id (sym (eqb-true id e.0 is)))
    by later false is h = or_right (nat_eq place place && nat_eq e.0 id) (list_any (is_of_id place id) (map (put_at place) es)) (later h)

abbrev is_key : ℕ → ℕ → Key → Bool
is_key place id key = nat_eq key.place place && nat_eq key.id id

any-key : (place id : ℕ) (es : List (ℕ × FeatureContent)) (feature : FeatureContent) → lookup (nat_eq id) es ≡ Some feature → list_any (is_key place id) (map (key_at place) es) ≡ true
any-key place id [] feature is = cc
any-key place id (e ∷ es) feature is = by (λ there. any-key place id es feature there) (nat_eq id e.0) refl is
  where
    by : (lookup (nat_eq id) es ≡ Some feature → list_any (is_key place id) (map (key_at place) es) ≡ true) → (b : Bool) → nat_eq id e.0 ≡ b → cond b (Some e.1) (lookup (nat_eq id) es) ≡ Some feature
        → (nat_eq place place && nat_eq e.0 id) || list_any (is_key place id) (map (key_at place) es) ≡ true
    by later true is h =
        or_left (nat_eq place place && nat_eq e.0 id) (list_any (is_key place id) (map (key_at place) es))
        (ap (λ b. b && nat_eq e.0 id) (eq-eqb place place refl) ∙ eq-eqb e.0 id (sym (eqb-true id e.0 is)))
    by later false is h = or_right (nat_eq place place && nat_eq e.0 id) (list_any (is_key place id) (map (key_at place) es)) (later h)

any-keys : (test : Key → Bool) (whole es : Content) (name : List ℕ) (layer : LayerContent) → layer_of es name ≡ Some layer → list_any test (map (key_at (place_of whole name)) layer.features) ≡ true
    → list_any test (keys_in whole es) ≡ true
any-keys test whole [] name layer is any = cc
any-keys test whole (e ∷ es) name layer is any = by (λ there. any-keys test whole es name layer there any) (bytes_eq name e.0) refl is
  where
    by : (layer_of es name ≡ Some layer → list_any test (keys_in whole es) ≡ true) → (b : Bool) → bytes_eq name e.0 ≡ b → cond b (Some e.1) (layer_of es name) ≡ Some layer
        → list_any test (map (key_at (place_of whole e.0)) e.1.features ++ keys_in whole es) ≡ true
    by later true is h =
        let there : e.1 ≡ layer = cc in
        any-left test (map (key_at (place_of whole e.0)) e.1.features) (keys_in whole es)
        (subst (λ n. list_any test (map (key_at (place_of whole n)) e.1.features) ≡ true) ((bytes_eq-Decides name e.0).0 is)
        (subst (λ l. list_any test (map (key_at (place_of whole name)) l.features) ≡ true) (sym there) any))
    by later false is h = any-right test (map (key_at (place_of whole e.0)) e.1.features) (keys_in whole es) (later h)

any-removal : (whole after : Content) (place id : ℕ) (keys : List Key) → has_key whole after (record { place = place; id = id }) ≡ false → list_any (is_key place id) keys ≡ true
    → list_any (is_of_id place id) (removals_of whole after keys) ≡ true
any-removal whole after place id [] none any = cc
any-removal whole after place id (key ∷ keys) none any = by (any-removal whole after place id keys none) (nat_eq key.place place && nat_eq key.id id) refl any
  where
    passed : (b : Bool) → not (has_key whole after key) ≡ b → list_any (is_of_id place id) (removals_of whole after keys) ≡ true
        → list_any (is_of_id place id) (map removal (cond b (key ∷ filter (λ k. not (has_key whole after k)) keys) (filter (λ k. not (has_key whole after k)) keys))) ≡ true
    passed true is later = or_right (nat_eq key.place place && nat_eq key.id id) (list_any (is_of_id place id) (removals_of whole after keys)) later
    passed false is later = later

    gone : nat_eq key.place place && nat_eq key.id id ≡ true → (b : Bool) → not (has_key whole after key) ≡ b
        → list_any (is_of_id place id) (map removal (cond b (key ∷ filter (λ k. not (has_key whole after k)) keys) (filter (λ k. not (has_key whole after k)) keys))) ≡ true
    gone is true b_is = or_left (nat_eq key.place place && nat_eq key.id id) (list_any (is_of_id place id) (removals_of whole after keys)) is
    gone is false b_is =
        let both = and_true (nat_eq key.place place) (nat_eq key.id id) is in
        let there : has_key whole after key ≡ false =
        ap (λ p. has_key whole after (record { place = p; id = key.id })) (eqb-true key.place place both.0) ∙ ap (λ i. has_key whole after (record { place = place; id = i })) (eqb-true key.id id both.1) ∙ none in
        let yes : not (has_key whole after key) ≡ true = ap not there in
        let no : true ≡ false = sym yes ∙ b_is in cc

    by : (list_any (is_key place id) keys ≡ true → list_any (is_of_id place id) (removals_of whole after keys) ≡ true) → (b : Bool) → nat_eq key.place place && nat_eq key.id id ≡ b
        → b || list_any (is_key place id) keys ≡ true → list_any (is_of_id place id) (removals_of whole after (key ∷ keys)) ≡ true
    by later true is h = gone is (not (has_key whole after key)) refl
    by later false is h = passed (not (has_key whole after key)) refl (later h)

module _ (members : List Member) (whole scratch new after : Content) (c : AreCarried members whole scratch new after) where
  -- of a name
  clash : (b : Bool) → b ≡ true → b ≡ false → ⊥
  clash true h off = cc
  clash false h off = cc

  features-of : (name : List ℕ) (w : LayerContent) (id : ℕ) → layer_of whole name ≡ Some w → list_any (is_of_id (place_of whole name) id) (slots_between whole after (keys_in whole scratch)) ≡ false
      → feature_at whole (place_of whole name) id ≡ feature_at new (place_of whole name) id
  features-of name w id w_is none =
      ap (option_and_then (λ layer. feature_of layer id)) (layer_of-place_of whole name) ∙ by (layer_of scratch name) refl
      ∙ sym (ap (option_and_then (λ layer. feature_of layer id)) (layer-at_place whole new name c.leaves.order))
    where
      put : (l : Layers members whole scratch new after name) → (o : Option FeatureContent) → feature_of l.a id ≡ o → o ≡ None
      put l None is = refl
      put l (Some feature) is =
          absurd (clash (list_any (is_of_id (place_of whole name) id) (slots_between whole after (keys_in whole scratch)))
          (any-left (is_of_id (place_of whole name) id) (puts whole after) (removals_of whole after (keys_in whole scratch))
          (any-puts (is_of_id (place_of whole name) id) whole after name l.a l.a_is (any-state (place_of whole name) id l.a.features feature is))) none)

      taken : (l : Layers members whole scratch new after name) → feature_of l.a id ≡ None → (o : Option FeatureContent) → feature_of l.p id ≡ o → o ≡ None
      taken l a_none None is = refl
      taken l a_none (Some feature) is =
          absurd (clash (list_any (is_of_id (place_of whole name) id) (slots_between whole after (keys_in whole scratch)))
          (any-right (is_of_id (place_of whole name) id) (puts whole after) (removals_of whole after (keys_in whole scratch))
          (any-removal whole after (place_of whole name) id (keys_in whole scratch)
          (ap (λ o. option_map_or (λ entry. is_some (feature_in after entry.0 id)) o false) (entry_at_place whole name l.w l.w_is) ∙ ap is_some (feature-in after name id l.a l.a_is ∙ a_none))
          (any-keys (is_key (place_of whole name) id) whole scratch name l.p l.p_is (any-key (place_of whole name) id l.p.features feature is)))) none)

      by : (o : Option LayerContent) → layer_of scratch name ≡ o → feature_in whole name id ≡ feature_in new name id
      by None is =
          ap (option_and_then (λ layer. feature_of layer id))
          (sym (c.leaves.layers name (subst (λ o. IsCopied members name o None) w_is (subst (λ o. IsCopied members name (layer_of whole name) o) is (c.copied name)))))
      by (Some part) is =
          let l = layers-of members whole scratch new after name part c is in
          let a_none = put l (feature_of l.a id) refl in
          feature-in whole name id l.w l.w_is ∙ (tell members whole scratch new after name c l).same id (taken l a_none (feature_of l.p id) refl) a_none ∙ sym (feature-in new name id l.n l.n_is)

  counters-of : (name : List ℕ) (w : LayerContent) → layer_of whole name ≡ Some w → list_any (is_of_counter (place_of whole name)) (slots_between whole after (keys_in whole scratch)) ≡ false
      → next_id_at whole (place_of whole name) ≡ next_id_at new (place_of whole name)
  counters-of name w w_is none =
      ap (λ o. option_map_or (λ layer. layer.next_id) o 0) (layer_of-place_of whole name ∙ by (layer_of scratch name) refl ∙ sym (layer-at_place whole new name c.leaves.order))
    where
      by : (o : Option LayerContent) → layer_of scratch name ≡ o → layer_of whole name ≡ layer_of new name
      by None is = sym (c.leaves.layers name (subst (λ o. IsCopied members name o None) w_is (subst (λ o. IsCopied members name (layer_of whole name) o) is (c.copied name))))
      by (Some part) is =
          let l = layers-of members whole scratch new after name part c is in
          absurd (clash (list_any (is_of_counter (place_of whole name)) (slots_between whole after (keys_in whole scratch)))
          (any-left (is_of_counter (place_of whole name)) (puts whole after) (removals_of whole after (keys_in whole scratch))
          (any-puts (is_of_counter (place_of whole name)) whole after name l.a l.a_is
          (or_left (nat_eq (place_of whole name) (place_of whole name)) (list_any (is_of_counter (place_of whole name)) (map (put_at (place_of whole name)) l.a.features)) (eq-eqb (place_of whole name) (place_of whole name) refl)))) none)

  -- of a place
  by-place : (P : ℕ → Type 0) → ((place : ℕ) → layer_at whole place ≡ None → layer_at new place ≡ None → P place)
      → ((name : List ℕ) (w : LayerContent) → layer_of whole name ≡ Some w → P (place_of whole name)) → (place : ℕ) → P place
  by-place P none some place = by (slice_get whole place) refl
    where
      by : (o : Option (List ℕ × LayerContent)) → slice_get whole place ≡ o → P place
      by None is =
          let here : layer_at whole place ≡ None = ap (option_map (λ entry. entry.1)) is in
          none place here (none-there whole new place c.leaves.order here)
      by (Some entry) is =
          subst P (place-found whole place entry c.whole_fine.distinct is)
          (some entry.0 entry.1 (all-at_place (λ e. layer_of whole e.0 ≡ Some e.1) whole place entry (all-found whole c.whole_fine.distinct) is))

  -- no counter falls
  pub counters-below : (place : ℕ) → next_id_at whole place ≤ next_id_at new place
  counters-below =
      by-place (λ p. next_id_at whole p ≤ next_id_at new p)
      (λ p here there. subst (λ n. n ≤ next_id_at new p) (sym (ap (λ o. option_map_or (λ layer. layer.next_id) o 0) here)) (omega arith))
      (λ name w is.
      subst (λ n. n ≤ next_id_at new (place_of whole name)) (sym (ap (λ o. option_map_or (λ layer. layer.next_id) o 0) (layer_of-place_of whole name)))
      (subst (λ n. next_id_of whole name ≤ n) (sym (ap (λ o. option_map_or (λ layer. layer.next_id) o 0) (layer-at_place whole new name c.leaves.order))) (c.leaves.counters name)))

  pub all-changes : HasAllChanges whole new (slots_between whole after (keys_in whole scratch))
  all-changes = record {
    order = c.leaves.order;
    read_off = all-weaker (IsTakenFrom new) (IsReadOff new) (λ slot taken. taken.read_off) (slots_between whole after (keys_in whole scratch)) (slots-taken members whole scratch new after c);
    features = λ place id.
        by-place (λ p. list_any (is_of_id p id) (slots_between whole after (keys_in whole scratch)) ≡ false → feature_at whole p id ≡ feature_at new p id)
        (λ p here there none. ap (option_and_then (λ layer. feature_of layer id)) (here ∙ sym there)) (λ name w is none. features-of name w id is none) place;
    counters = λ place.
        by-place (λ p. list_any (is_of_counter p) (slots_between whole after (keys_in whole scratch)) ≡ false → next_id_at whole p ≡ next_id_at new p)
        (λ p here there none. ap (λ o. option_map_or (λ layer. layer.next_id) o 0) (here ∙ sym there)) (λ name w is none. counters-of name w is none) place;
  }
