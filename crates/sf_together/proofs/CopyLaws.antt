-- A scratch content that is made member by member has what they look at.
use Rattle.std.proofs.Common.{◌≡◌, ℕ, ◌≤◌, Bool, true, false, not, cond, ◌&&◌, ◌||◌, if◌then◌else◌, List, [], ◌∷◌, ◌++◌, Option, None, Some, is_some, option_map, nat_eq, nat_le, bytes_eq, refl, ap, sym, subst, ◌∙◌}
use Rattle.std.proofs.lemmas.Bool.{eqb-true}
use Rattle.std.proofs.lemmas.Slice.Eq.{bytes_eq-Decides}
use Rattle.std.specs.List.{list_any}
use Rattle.sf_features.specs.Features.{FeatureContent}
use Rattle.sf_layers.specs.Content.{Content, LayerContent, change_layer, feature_in, feature_of, has_layer, head_of, layer_of, with_feature}
use Rattle.sf_layers.specs.WellFormed.{IsWellFormed}
use Rattle.sf_layers.proofs.Changes.{IsLayer-layer_of, layer_of-change_layer}
use Rattle.sf_layers.proofs.Kept.{none_or, none-from}
use Rattle.sf_layers.proofs.Values.{lookup-insert_entry}
use Rattle.sf_patches.proofs.MergedLaws.{lookup-insert_entry-other}
use Rattle.sf_steps.specs.Steps.{edit_layer, next_id_of}
use Rattle.sf_groups.specs.declared.member.Member.{Member}
use Rattle.sf_groups.specs.Local.{edit_id}
use Rattle.sf_groups.specs.Members.{names}
use Rattle.sf_groups.specs.Scratches.{IsScratchFor, ShowsThere, is_of_layer, is_looked_at}
use Rattle.sf_groups.proofs.Pushed.{any-push}
use Rattle.sf_groups.proofs.ShownLaws.{layer_of-change_layer-other, nat_eq-turned}
use Rattle.sf_groups.proofs.TogetherLaws.{bytes_same}
use Rattle.sf_together.specs.Copies.{CopiesLayer, HasHeadOf, IsCopied, IsPart, IsPartOf, IsScratchOf, named_feature, with_feature_shown, with_head, with_layer_shown, with_shown}
use Rattle.sf_together.proofs.ListLaws.{bytes_eq-turned}
use Rattle.sf_together.proofs.ChangeLaws.{feature-in, le_from, next_id-of, none-above}

-- ---- what a scratch content is

-- at first it is empty
pub IsScratchOf-none : (whole : Content) → IsScratchOf whole [] []
IsScratchOf-none whole name = by (layer_of whole name)
  where
    by : (o : Option LayerContent) → IsCopied [] name o None
    by None = tt
    by (Some w) = refl

-- its layers have the heads of those that are there
pub IsPart-scratch : (whole scratch : Content) (members : List Member) → IsScratchOf whole members scratch → IsPart whole scratch
IsPart-scratch whole scratch members copied name = by (layer_of whole name) (layer_of scratch name) (copied name)
  where
    by : (o q : Option LayerContent) → IsCopied members name o q → IsPartOf o q
    by None None h = tt
    by None (Some p) h = absurd h
    by (Some w) None h = tt
    by (Some w) (Some p) h = h.1.head

-- it shows what members look at
pub IsScratchFor-scratch : (whole scratch : Content) (members : List Member) → IsWellFormed whole → IsScratchOf whole members scratch → IsScratchFor whole members scratch
IsScratchFor-scratch whole scratch members fine copied name is_in = by (layer_of whole name) (layer_of scratch name) refl (copied name)
  where
    shown : (w p : LayerContent) → layer_of whole name ≡ Some w → CopiesLayer members name w p → (id : ℕ) → is_looked_at whole members name id ≡ true → (b : Bool) → list_any (names name id) members ≡ b
        → feature_of p id ≡ feature_of w id
    shown w p w_is copies id looked true is = copies.features id ∙ ap (λ b. if b then feature_of w id else None) is
    shown w p w_is copies id looked false is =
        copies.features id ∙ ap (λ b. if b then feature_of w id else None) is
        ∙ sym (none-above w id (IsLayer-layer_of whole name w w_is fine.layers)
        (subst (λ m. m ≤ id) (next_id-of whole name w w_is) (le_from (next_id_of whole name) id (sym (ap (λ b. b || nat_le (next_id_of whole name) id) is) ∙ looked))))

    by : (o q : Option LayerContent) → layer_of whole name ≡ o → IsCopied members name o q → ShowsThere (is_looked_at whole members name) o q
    by None None w_is h = tt
    by None (Some p) w_is h = absurd h
    by (Some w) None w_is h = let no : true ≡ false = sym is_in ∙ h in cc
    by (Some w) (Some p) w_is h = record {
      kind = h.1.head.kind;
      next_id = h.1.head.next_id;
      columns = h.1.head.columns;
      features = λ id looked. shown w p w_is h.1 id looked (list_any (names name id) members) refl;
    }

-- ---- one layer more

pub layer_of-push : (content : Content) (name : List ℕ) (layer : LayerContent) → layer_of content name ≡ None → layer_of (content ++ (name, layer) ∷ []) name ≡ Some layer
layer_of-push [] name layer none = ap (λ b. cond b (Some layer) None) (bytes_same name)
layer_of-push (e ∷ es) name layer none = by (λ later. layer_of-push es name layer later) (bytes_eq name e.0) none
  where
    by : (layer_of es name ≡ None → layer_of (es ++ (name, layer) ∷ []) name ≡ Some layer) → (b : Bool) → cond b (Some e.1) (layer_of es name) ≡ None
        → cond b (Some e.1) (layer_of (es ++ (name, layer) ∷ []) name) ≡ Some layer
    by later true h = cc
    by later false h = later h

layer_of-push-other : (content : Content) (name other : List ℕ) (layer : LayerContent) → bytes_eq name other ≡ false → layer_of (content ++ (name, layer) ∷ []) other ≡ layer_of content other
layer_of-push-other [] name other layer apart = ap (λ b. cond b (Some layer) None) (bytes_eq-turned name other apart)
layer_of-push-other (e ∷ es) name other layer apart = ap (λ o. cond (bytes_eq other e.0) (Some e.1) o) (layer_of-push-other es name other layer apart)

-- ---- a layer with its head

-- a layer is there, and copies what members name
pub record HasCopy (members : List Member) (name : List ℕ) (w : LayerContent) (scratch : Content) : Type 0 where
  pub p : LayerContent
  pub is : layer_of scratch name ≡ Some p
  pub copies : CopiesLayer members name w p

-- where none is of the layer, none names a feature of it
none-named : (members : List Member) (name : List ℕ) (id : ℕ) → is_of_layer members name ≡ false → list_any (names name id) members ≡ false
none-named [] name id none = refl
none-named (m ∷ ms) name id none =
    let both = none_or (bytes_eq (edit_layer m.edit) name) (is_of_layer ms name) none in
    none-from (names name id m) (list_any (names name id) ms)
    (ap (λ b. not m.of_last && b && nat_eq (edit_id m.edit) id) both.0 ∙ by (not m.of_last) (nat_eq (edit_id m.edit) id)) (none-named ms name id both.1)
  where
    by : (a c : Bool) → a && false && c ≡ false
    by true c = refl
    by false c = refl

pub head-copied : (whole scratch : Content) (members : List Member) (name : List ℕ) (w : LayerContent) → IsScratchOf whole members scratch → layer_of whole name ≡ Some w → HasCopy members name w (with_head name w scratch)
head-copied whole scratch members name w copied w_is = by (layer_of scratch name) refl (subst (λ o. IsCopied members name o (layer_of scratch name)) w_is (copied name))
  where
    by : (q : Option LayerContent) → layer_of scratch name ≡ q → IsCopied members name (Some w) q → HasCopy members name w (with_head name w scratch)
    by (Some p) q_is h = record {
      p = p;
      is = ap (λ o. layer_of (if is_some o then scratch else scratch ++ (name, head_of w) ∷ []) name) q_is ∙ q_is;
      copies = h.1;
    }
    by None q_is h = record {
      p = head_of w;
      is = ap (λ o. layer_of (if is_some o then scratch else scratch ++ (name, head_of w) ∷ []) name) q_is ∙ layer_of-push scratch name (head_of w) q_is;
      copies = record {
        head = record { kind = refl; next_id = refl; columns = refl };
        features = λ id. sym (ap (λ b. if b then feature_of w id else None) (none-named members name id h));
      };
    }

head-others : (scratch : Content) (name other : List ℕ) (w : LayerContent) → bytes_eq name other ≡ false → layer_of (with_head name w scratch) other ≡ layer_of scratch other
head-others scratch name other w apart = by (has_layer scratch name)
  where
    by : (b : Bool) → layer_of (if b then scratch else scratch ++ (name, head_of w) ∷ []) other ≡ layer_of scratch other
    by true = refl
    by false = layer_of-push-other scratch name other (head_of w) apart

-- ---- a feature copied

-- one more member: the layer has what it names too
record Gains (member : Member) (w p q : LayerContent) : Type 0 where
  head : HasHeadOf p q
  features : (id : ℕ) → feature_of q id ≡ (if names (edit_layer member.edit) id member then feature_of w id else feature_of p id)

pub names-own : (member : Member) (id : ℕ) → names (edit_layer member.edit) id member ≡ (not member.of_last && nat_eq (edit_id member.edit) id)
names-own member id = ap (λ b. not member.of_last && b && nat_eq (edit_id member.edit) id) (bytes_same (edit_layer member.edit)) ∙ by (not member.of_last)
  where
    by : (a : Bool) → a && true && nat_eq (edit_id member.edit) id ≡ (a && nat_eq (edit_id member.edit) id)
    by true = refl
    by false = refl

gained : (members : List Member) (member : Member) (w p q : LayerContent) → CopiesLayer members (edit_layer member.edit) w p → Gains member w p q → CopiesLayer (members ++ member ∷ []) (edit_layer member.edit) w q
gained members member w p q copies gains = record {
  head = record { kind = gains.head.kind ∙ copies.head.kind; next_id = gains.head.next_id ∙ copies.head.next_id; columns = gains.head.columns ∙ copies.head.columns };
  features = λ id.
      gains.features id ∙ ap (λ o. if names (edit_layer member.edit) id member then feature_of w id else o) (copies.features id)
      ∙ by (feature_of w id) (list_any (names (edit_layer member.edit) id) members) (names (edit_layer member.edit) id member)
      ∙ ap (λ b. if b then feature_of w id else None) (sym (any-push (names (edit_layer member.edit) id) members member));
}
  where
    by : (o : Option FeatureContent) (a b : Bool) → (if b then o else (if a then o else None)) ≡ (if a || b then o else None)
    by o true true = refl
    by o true false = refl
    by o false true = refl
    by o false false = refl

-- a feature that is there is the one that is named
there-already : (members : List Member) (name : List ℕ) (w p : LayerContent) (id : ℕ) → CopiesLayer members name w p → is_some (feature_of p id) ≡ true → feature_of p id ≡ feature_of w id
there-already members name w p id copies there = by (list_any (names name id) members) refl
  where
    by : (b : Bool) → list_any (names name id) members ≡ b → feature_of p id ≡ feature_of w id
    by true is = copies.features id ∙ ap (λ b. if b then feature_of w id else None) is
    by false is =
        let none : feature_of p id ≡ None = copies.features id ∙ ap (λ b. if b then feature_of w id else None) is in
        let no : false ≡ true = sym (ap is_some none) ∙ there in cc

-- nothing is put where none is named
none-there : (members : List Member) (name : List ℕ) (w p : LayerContent) (id : ℕ) → CopiesLayer members name w p → feature_of w id ≡ None → feature_of p id ≡ feature_of w id
none-there members name w p id copies none = copies.features id ∙ by (list_any (names name id) members)
  where
    by : (b : Bool) → (if b then feature_of w id else None) ≡ feature_of w id
    by true = refl
    by false = sym none

-- where what it names is there already, nothing is gained
Gains-none : (member : Member) (w p : LayerContent) → (member.of_last ≡ false → feature_of p (edit_id member.edit) ≡ feature_of w (edit_id member.edit)) → Gains member w p p
Gains-none member w p there = record {
  head = record { kind = refl; next_id = refl; columns = refl };
  features = λ id. sym (ap (λ b. if b then feature_of w id else feature_of p id) (names-own member id) ∙ by id member.of_last refl (nat_eq (edit_id member.edit) id) refl);
}
  where
    by : (id : ℕ) (a : Bool) → member.of_last ≡ a → (b : Bool) → nat_eq (edit_id member.edit) id ≡ b → (if not a && b then feature_of w id else feature_of p id) ≡ feature_of p id
    by id true a_is b b_is = refl
    by id false a_is true b_is = subst (λ i. feature_of w i ≡ feature_of p i) (eqb-true (edit_id member.edit) id b_is) (sym (there a_is))
    by id false a_is false b_is = refl

Gains-feature : (member : Member) (w p : LayerContent) (feature : FeatureContent) → member.of_last ≡ false → feature_of w (edit_id member.edit) ≡ Some feature → Gains member w p (with_feature (edit_id member.edit) feature p)
Gains-feature member w p feature not_last found = record {
  head = record { kind = refl; next_id = refl; columns = refl };
  features = λ id. by id (nat_eq (edit_id member.edit) id) refl ∙ sym (ap (λ b. if b then feature_of w id else feature_of p id) (names-own member id ∙ ap (λ a. not a && nat_eq (edit_id member.edit) id) not_last));
}
  where
    by : (id : ℕ) (b : Bool) → nat_eq (edit_id member.edit) id ≡ b → feature_of (with_feature (edit_id member.edit) feature p) id ≡ (if nat_eq (edit_id member.edit) id then feature_of w id else feature_of p id)
    by id true is =
        subst (λ i. feature_of (with_feature (edit_id member.edit) feature p) i ≡ feature_of w i) (eqb-true (edit_id member.edit) id is) (lookup-insert_entry (edit_id member.edit) feature p.features ∙ sym found)
        ∙ sym (ap (λ b. if b then feature_of w id else feature_of p id) is)
    by id false is =
        lookup-insert_entry-other id (edit_id member.edit) feature p.features (nat_eq-turned (edit_id member.edit) id is)
        ∙ sym (ap (λ b. if b then feature_of w id else feature_of p id) is)

feature-copied : (members : List Member) (member : Member) (w : LayerContent) (scratch : Content) → HasCopy members (edit_layer member.edit) w scratch
    → HasCopy (members ++ member ∷ []) (edit_layer member.edit) w (with_feature_shown (edit_layer member.edit) (edit_id member.edit) (named_feature w member) scratch)
feature-copied members member w scratch has = by member.of_last refl (feature_of w (edit_id member.edit)) refl
  where
    same : Gains member w has.p has.p → HasCopy (members ++ member ∷ []) (edit_layer member.edit) w scratch
    same gains = record { p = has.p; is = has.is; copies = gained members member w has.p has.p has.copies gains }

    put : (feature : FeatureContent) → member.of_last ≡ false → feature_of w (edit_id member.edit) ≡ Some feature → (b : Bool) → is_some (feature_of has.p (edit_id member.edit)) ≡ b
        → HasCopy (members ++ member ∷ []) (edit_layer member.edit) w
        (if b then scratch else change_layer scratch (edit_layer member.edit) (with_feature (edit_id member.edit) feature))
    put feature not_last found true there = same (Gains-none member w has.p (λ h. there-already members (edit_layer member.edit) w has.p (edit_id member.edit) has.copies there))
    put feature not_last found false there = record {
      p = with_feature (edit_id member.edit) feature has.p;
      is = layer_of-change_layer scratch (edit_layer member.edit) (with_feature (edit_id member.edit) feature) ∙ ap (option_map (with_feature (edit_id member.edit) feature)) has.is;
      copies = gained members member w has.p (with_feature (edit_id member.edit) feature has.p) has.copies (Gains-feature member w has.p feature not_last found);
    }

    by : (a : Bool) → member.of_last ≡ a → (o : Option FeatureContent) → feature_of w (edit_id member.edit) ≡ o
        → HasCopy (members ++ member ∷ []) (edit_layer member.edit) w (with_feature_shown (edit_layer member.edit) (edit_id member.edit) (if member.of_last then None else feature_of w (edit_id member.edit)) scratch)
    by true a_is o o_is =
        subst (λ a. HasCopy (members ++ member ∷ []) (edit_layer member.edit) w (with_feature_shown (edit_layer member.edit) (edit_id member.edit) (if a then None else feature_of w (edit_id member.edit)) scratch)) (sym a_is)
        (same (Gains-none member w has.p (λ h. let no : true ≡ false = sym a_is ∙ h in cc)))
    by false a_is None o_is =
        subst (λ a. HasCopy (members ++ member ∷ []) (edit_layer member.edit) w (with_feature_shown (edit_layer member.edit) (edit_id member.edit) (if a then None else feature_of w (edit_id member.edit)) scratch)) (sym a_is)
        (subst (λ o. HasCopy (members ++ member ∷ []) (edit_layer member.edit) w (with_feature_shown (edit_layer member.edit) (edit_id member.edit) o scratch)) (sym o_is)
        (same (Gains-none member w has.p (λ h. none-there members (edit_layer member.edit) w has.p (edit_id member.edit) has.copies o_is))))
    by false a_is (Some feature) o_is =
        subst (λ a. HasCopy (members ++ member ∷ []) (edit_layer member.edit) w (with_feature_shown (edit_layer member.edit) (edit_id member.edit) (if a then None else feature_of w (edit_id member.edit)) scratch)) (sym a_is)
        (subst (λ o. HasCopy (members ++ member ∷ []) (edit_layer member.edit) w (with_feature_shown (edit_layer member.edit) (edit_id member.edit) o scratch)) (sym o_is)
        (subst (λ o. HasCopy (members ++ member ∷ []) (edit_layer member.edit) w
        (if is_some o then scratch else change_layer scratch (edit_layer member.edit) (with_feature (edit_id member.edit) feature)))
        (sym (feature-in scratch (edit_layer member.edit) (edit_id member.edit) has.p has.is))
        (put feature a_is o_is (is_some (feature_of has.p (edit_id member.edit))) refl)))

copy-others : (scratch : Content) (name other : List ℕ) (id : ℕ) (o : Option FeatureContent) → bytes_eq name other ≡ false → layer_of (with_feature_shown name id o scratch) other ≡ layer_of scratch other
copy-others scratch name other id None apart = refl
copy-others scratch name other id (Some feature) apart = by (is_some (feature_in scratch name id))
  where
    by : (b : Bool) → layer_of (if b then scratch else change_layer scratch name (with_feature id feature)) other ≡ layer_of scratch other
    by true = refl
    by false = layer_of-change_layer-other scratch name other (with_feature id feature) apart

-- ---- one member more

-- a layer that it does not name is copied as before
copied-other : (members : List Member) (member : Member) (name : List ℕ) (o q : Option LayerContent) → bytes_eq (edit_layer member.edit) name ≡ false → IsCopied members name o q → IsCopied (members ++ member ∷ []) name o q
copied-other members member name None None apart h = tt
copied-other members member name None (Some p) apart h = absurd h
copied-other members member name (Some w) None apart h = any-push (λ m. bytes_eq (edit_layer m.edit) name) members member ∙ none-from (is_of_layer members name) (bytes_eq (edit_layer member.edit) name) h apart
copied-other members member name (Some w) (Some p) apart h = (
  any-push (λ m. bytes_eq (edit_layer m.edit) name) members member ∙ ap (λ b. b || bytes_eq (edit_layer member.edit) name) h.0,
  record {
    head = h.1.head;
    features = λ id. h.1.features id ∙ ap (λ b. if b then feature_of w id else None) (sym (any-push (names name id) members member ∙ none id));
  },
)
  where
    unnamed : (a b c : Bool) → b ≡ false → a && b && c ≡ false
    unnamed true true c is = cc
    unnamed true false c is = refl
    unnamed false b c is = refl

    or_none : (a b : Bool) → b ≡ false → a || b ≡ a
    or_none true b is = refl
    or_none false b is = is

    none : (id : ℕ) → (list_any (names name id) members || names name id member) ≡ list_any (names name id) members
    none id = or_none (list_any (names name id) members) (names name id member) (unnamed (not member.of_last) (bytes_eq (edit_layer member.edit) name) (nat_eq (edit_id member.edit) id) apart)

shown-other : (scratch : Content) (member : Member) (name : List ℕ) (o : Option LayerContent) → bytes_eq (edit_layer member.edit) name ≡ false → layer_of (with_layer_shown member o scratch) name ≡ layer_of scratch name
shown-other scratch member name None apart = refl
shown-other scratch member name (Some w) apart =
    copy-others (with_head (edit_layer member.edit) w scratch) (edit_layer member.edit) name (edit_id member.edit) (named_feature w member) apart ∙ head-others scratch (edit_layer member.edit) name w apart

pub IsScratchOf-shown : (whole scratch : Content) (members : List Member) (member : Member) → IsScratchOf whole members scratch → IsScratchOf whole (members ++ member ∷ []) (with_shown whole member scratch)
IsScratchOf-shown whole scratch members member copied name = by (bytes_eq (edit_layer member.edit) name) refl
  where
    own : (o : Option LayerContent) → layer_of whole (edit_layer member.edit) ≡ o
        → IsCopied (members ++ member ∷ []) (edit_layer member.edit) o (layer_of (with_layer_shown member o scratch) (edit_layer member.edit))
    own None is = none (layer_of scratch (edit_layer member.edit)) (subst (λ o. IsCopied members (edit_layer member.edit) o (layer_of scratch (edit_layer member.edit))) is (copied (edit_layer member.edit)))
      where
        none : (q : Option LayerContent) → IsCopied members (edit_layer member.edit) None q → IsCopied (members ++ member ∷ []) (edit_layer member.edit) None q
        none None h = tt
        none (Some p) h = absurd h
    own (Some w) is =
        let has = feature-copied members member w (with_head (edit_layer member.edit) w scratch) (head-copied whole scratch members (edit_layer member.edit) w copied is) in
        subst (IsCopied (members ++ member ∷ []) (edit_layer member.edit) (Some w)) (sym has.is) (
          any-push (λ m. bytes_eq (edit_layer m.edit) (edit_layer member.edit)) members member
              ∙ or_last (is_of_layer members (edit_layer member.edit)) (bytes_eq (edit_layer member.edit) (edit_layer member.edit)) (bytes_same (edit_layer member.edit)),
          has.copies,
        )
      where
        or_last : (a b : Bool) → b ≡ true → a || b ≡ true
        or_last true b h = refl
        or_last false b h = h

    by : (b : Bool) → bytes_eq (edit_layer member.edit) name ≡ b → IsCopied (members ++ member ∷ []) name (layer_of whole name) (layer_of (with_shown whole member scratch) name)
    by true is =
        subst (λ n. IsCopied (members ++ member ∷ []) n (layer_of whole n) (layer_of (with_shown whole member scratch) n)) ((bytes_eq-Decides (edit_layer member.edit) name).0 is)
        (own (layer_of whole (edit_layer member.edit)) refl)
    by false is =
        subst (IsCopied (members ++ member ∷ []) name (layer_of whole name)) (sym (shown-other scratch member name (layer_of whole (edit_layer member.edit)) is))
        (copied-other members member name (layer_of whole name) (layer_of scratch name) is (copied name))
