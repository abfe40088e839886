-- Layers by their names and places before and after exchanges, and what stands there.
use Rattle.std.proofs.Common.{◌≡◌, ◌∙◌, ◌⊎◌, inl, inr, ℕ, Bool, true, false, cond, List, [], ◌∷◌, Option, None, Some, option_and_then, bytes_eq, refl, ap, sym, subst}
use Rattle.std.specs.Prelude.{if◌then◌else◌}
use Rattle.std.specs.List.{Contains, list_any, position_or_len}
use Rattle.std.specs.Map.{keys_of}
use Rattle.sf_features.specs.declared.column.Column.{Column}
use Rattle.sf_features.specs.Features.{FeatureContent}
use Rattle.sf_layers.specs.Content.{Content, LayerContent, feature_at, feature_of, layer_at, layer_of, place_of}
use Rattle.sf_layers.specs.WellFormed.{IsWellFormed}
use Rattle.sf_patches.specs.Merged.{HaveOneOrder, is_of_id}
use Rattle.sf_patches.specs.Patches.{patched, with_slot}
use Rattle.sf_patches.specs.declared.slot.Slot.{Slot}
use Rattle.sf_patches.specs.declared.slot.Slot.TheVariants.{State}
use Rattle.sf_rules.specs.Looks.{staying}
use Rattle.sf_rules.specs.Leaving.{is_leaving}
use Rattle.sf_rules.specs.Underway.{CanLeave, ComesOf}
use Rattle.sf_patches.proofs.Undoing.{undone_by}
use Rattle.sf_patches.proofs.ExchangeLaws.{AreRising-fine, KeepRising-fine, undone_by-undoing}
use Rattle.sf_patches.proofs.MergedLaws.{HaveOneOrder-with_slot}
use Rattle.sf_layers.proofs.Changes.{layer_of-place_of}
use Rattle.sf_rules.proofs.SlotLaws.{kept-by, left-by-removals, recorded-by}

-- ---- names and places

-- a layer that has a place in one content has it in every one with the same names
pub layer-at : (content now : Content) (name : List ℕ) (layer : LayerContent) → keys_of content ≡ keys_of now → layer_of content name ≡ Some layer → layer_at content (place_of now name) ≡ Some layer
layer-at content now name layer same found =
    ap (λ keys. layer_at content (position_or_len (bytes_eq name) keys)) (sym same) ∙ layer_of-place_of content name ∙ found

-- and is there in each
pub layer-there : (content now : Content) (name : List ℕ) (layer : LayerContent) → keys_of content ≡ keys_of now → layer_of now name ≡ Some layer → (other : LayerContent) × (layer_of content name ≡ Some other)
layer-there [] [] name layer same found = cc
layer-there [] (e ∷ es) name layer same found = let wrong : [] ≡ e.0 ∷ keys_of es = same in cc
layer-there (e ∷ es) [] name layer same found = let wrong : e.0 ∷ keys_of es ≡ [] = same in cc
layer-there (d ∷ ds) (e ∷ es) name layer same found = by (bytes_eq name e.0) refl found (layer-there ds es name layer rest)
  where
    key : d.0 ≡ e.0
    key = cc

    rest : keys_of ds ≡ keys_of es
    rest = cc

    by : (b : Bool) → bytes_eq name e.0 ≡ b → cond b (Some e.1) (layer_of es name) ≡ Some layer
        → (layer_of es name ≡ Some layer → (other : LayerContent) × (layer_of ds name ≡ Some other))
        → (other : LayerContent) × (cond (bytes_eq name d.0) (Some d.1) (layer_of ds name) ≡ Some other)
    by true is g later = (d.1, ap (λ b. cond b (Some d.1) (layer_of ds name)) (ap (bytes_eq name) key ∙ is))
    by false is g later = let o = later g in (o.0, ap (λ b. cond b (Some d.1) (layer_of ds name)) (ap (bytes_eq name) key ∙ is) ∙ o.1)

pub layer-missing : (content now : Content) (name : List ℕ) → keys_of content ≡ keys_of now → layer_of now name ≡ None → layer_of content name ≡ None
layer-missing content now name same none = by (layer_of content name) refl
  where
    by : (o : Option LayerContent) → layer_of content name ≡ o → o ≡ None
    by None is = refl
    by (Some layer) is = let there = layer-there now content name layer (sym same) is in let wrong : None ≡ Some there.0 = sym none ∙ there.1 in cc

-- what stands under an identifier of a layer at a place
pub at-place : (content : Content) (place id : ℕ) (layer : LayerContent) → layer_at content place ≡ Some layer → feature_at content place id ≡ feature_of layer id
at-place content place id layer is = ap (option_and_then (λ l. feature_of l id)) is

-- ---- columns

same-order : (content : Content) → HaveOneOrder content content
same-order [] = tt
same-order (e ∷ es) = (refl, (refl, refl, refl), same-order es)

-- exchanges leave the order of layers, and the columns of each
order-onto : (content other : Content) (slots : List Slot) → HaveOneOrder content other → HaveOneOrder (patched content slots) other
order-onto content other [] h = h
order-onto content other (slot ∷ slots) h = order-onto (with_slot slot content) other slots (HaveOneOrder-with_slot content other slot h)

pub order-patched : (content : Content) (slots : List Slot) → HaveOneOrder (patched content slots) content
order-patched content slots = order-onto content content slots (same-order content)

pub same-columns : (c d : Content) (name : List ℕ) (a b : LayerContent) → HaveOneOrder c d → layer_of c name ≡ Some a → layer_of d name ≡ Some b → a.columns ≡ b.columns
same-columns [] [] name a b h is js = cc
same-columns [] (y ∷ d) name a b h is js = absurd h
same-columns (x ∷ c) [] name a b h is js = absurd h
same-columns (x ∷ c) (y ∷ d) name a b h is js = by (bytes_eq name y.0) refl is js (same-columns c d name a b h.2)
  where
    same-key : (t : Bool) → bytes_eq name y.0 ≡ t → bytes_eq name x.0 ≡ t
    same-key t k = ap (bytes_eq name) h.0 ∙ k

    by : (t : Bool) → bytes_eq name y.0 ≡ t → cond (bytes_eq name x.0) (Some x.1) (layer_of c name) ≡ Some a → cond t (Some y.1) (layer_of d name) ≡ Some b
        → (layer_of c name ≡ Some a → layer_of d name ≡ Some b → a.columns ≡ b.columns) → a.columns ≡ b.columns
    by true k g w later =
        let first : Some x.1 ≡ Some a = sym (ap (λ t. cond t (Some x.1) (layer_of c name)) (same-key true k)) ∙ g in
        let left : x.1 ≡ a = cc in
        let right : y.1 ≡ b = cc in
        ap (λ (l : LayerContent). l.columns) (sym left) ∙ h.1.2 ∙ ap (λ (l : LayerContent). l.columns) right
    by false k g w later = later (sym (ap (λ t. cond t (Some x.1) (layer_of c name)) (same-key false k)) ∙ g) w

-- ---- what stands under an identifier before, now and after

module _ (old now : Content) (made leaving : List Slot) (comes : ComesOf old now made) (leaves : CanLeave now leaving) (fine : IsWellFormed now) where
  pub stays-at : (place id : ℕ) (after here : LayerContent) → layer_at (patched now leaving) place ≡ Some after → layer_at now place ≡ Some here → feature_of after id ≡ staying here leaving place id
  stays-at place id after here after_is here_is =
      sym (at-place (patched now leaving) place id after after_is)
      ∙ left-by-removals now leaving place id (AreRising-fine now fine) (KeepRising-fine now leaving leaves.fine) leaves.only
      ∙ ap (λ (o : Option FeatureContent). if is_leaving leaving place id then None else o) (at-place now place id here here_is)

  recorded-is : made ≡ undone_by old comes.exchanges
  recorded-is = comes.recorded ∙ sym (undone_by-undoing old comes.exchanges)

  pub kept-at : (place id : ℕ) (here before : LayerContent) → layer_at now place ≡ Some here → layer_at old place ≡ Some before → list_any (is_of_id place id) made ≡ false → feature_of here id ≡ feature_of before id
  kept-at place id here before here_is before_is none =
      sym (at-place now place id here here_is)
      ∙ ap (λ c. feature_at c place id) comes.led
      ∙ kept-by old comes.exchanges place id (ap (list_any (is_of_id place id)) (sym recorded-is) ∙ none)
      ∙ at-place old place id before before_is

  pub recorded-at : (place id : ℕ) (here before : LayerContent) → layer_at now place ≡ Some here → layer_at old place ≡ Some before
      → (feature_of here id ≡ feature_of before id) ⊎ Contains made (State place id (feature_of before id))
  recorded-at place id here before here_is before_is = by (recorded-by old comes.exchanges place id)
    where
      by : (feature_at (patched old comes.exchanges) place id ≡ feature_at old place id) ⊎ Contains (undone_by old comes.exchanges) (State place id (feature_at old place id))
          → (feature_of here id ≡ feature_of before id) ⊎ Contains made (State place id (feature_of before id))
      by (inl kept) = inl (sym (at-place now place id here here_is) ∙ ap (λ c. feature_at c place id) comes.led ∙ kept ∙ at-place old place id before before_is)
      by (inr there) =
          inr (subst (λ slots. Contains slots (State place id (feature_of before id))) (sym recorded-is)
          (subst (λ o. Contains (undone_by old comes.exchanges) (State place id o)) (at-place old place id before before_is) there))
