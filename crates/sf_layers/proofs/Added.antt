-- What is added to a well-formed content leaves it well formed.
use Rattle.std.proofs.Common.{◌≡◌, ℕ, ◌+◌, ◌<◌, Bool, true, false, cond, List, [], ◌∷◌, ◌++◌, map, length, IsTrue, Some, None, bytes_eq, nat_eq, refl, ap, sym, subst, ◌∙◌, arith, length-append, lit≤}
use Rattle.std.specs.Cmp.Lexicographic.{nat_list_eq_equiv}
use Rattle.std.specs.List.{list_any, AllByRecursion}
use Rattle.std.specs.List.Sorted.{IsStrictlySortedBy}
use Rattle.std.specs.Map.{lookup, keys_of, values_of, remove_entry}
use Rattle.std.specs.Ordering.{nat_cmp}
use Rattle.std.specs.BTreeMap.{insert_entry}
use Rattle.sf_features.specs.Names.{is_name}
use Rattle.sf_features.specs.Features.{FeatureContent}
use Rattle.sf_layers.specs.Content.{Content, LayerContent, layer_of, change_layer, with_next_feature, empty_layer}
use Rattle.sf_layers.specs.declared.layer_kind.LayerKind.{LayerKind}
use Rattle.sf_features.specs.Columns.{IsDistinct}
use Rattle.sf_layers.specs.WellFormed.{IsFeature, IsLayer, IsWellFormed, IsIssued, id_end, layers_max}
use Rattle.sf_layers.proofs.Changes.{all_layers-change_layer}
use Rattle.sf_layers.proofs.Issued.{all-push, insert_entry-next, remove_entry-push, lookup-push, rising-push, IsIssued-next}
use Rattle.sf_layers.proofs.Kept.{none_or, none-from, keys-change_layer, length-change_layer}

-- ---- one layer more

none-push : {X Y : Type 0} (test : Y → Bool) (f : X → Y) (xs : List X) (x : X) → list_any test (map f xs) ≡ false → test (f x) ≡ false → list_any test (map f (xs ++ x ∷ [])) ≡ false
none-push test f [] x h new = none-from (test (f x)) false new refl
none-push test f (y ∷ ys) x h new =
    let both = none_or (test (f y)) (list_any test (map f ys)) h in
    none-from (test (f y)) (list_any test (map f (ys ++ x ∷ []))) both.0 (none-push test f ys x both.1 new)

distinct-push : (content : Content) (name : List ℕ) (layer : LayerContent) → layer_of content name ≡ None → IsDistinct bytes_eq (keys_of content)
    → IsDistinct bytes_eq (keys_of (content ++ (name, layer) ∷ []))
distinct-push [] name layer absent h = (refl, tt)
distinct-push (e ∷ es) name layer absent h = at_entry (λ there. distinct-push es name layer there h.1) (bytes_eq name e.0) refl absent
  where
    at_entry : (layer_of es name ≡ None → IsDistinct bytes_eq (keys_of (es ++ (name, layer) ∷ []))) → (b : Bool) → bytes_eq name e.0 ≡ b
        → cond b (Some e.1) (layer_of es name) ≡ None → IsDistinct bytes_eq (keys_of (e ∷ (es ++ (name, layer) ∷ [])))
    at_entry later true is none = cc
    at_entry later false is none = (none-push (bytes_eq e.0) (λ entry. entry.0) es (name, layer) h.0 (nat_list_eq_equiv.symm e.0 name ∙ is), later none)

-- a layer under a new name stands last
pub IsWellFormed-push : (content : Content) (name : List ℕ) (layer : LayerContent) → IsTrue (is_name name) → layer_of content name ≡ None → length content < layers_max → IsLayer layer
    → IsWellFormed content → IsWellFormed (content ++ (name, layer) ∷ [])
IsWellFormed-push content name layer named absent room fits h = record {
  few = omega (arith, length-append content ((name, layer) ∷ []), room);
  named = all-push (λ bytes. IsTrue (is_name bytes)) (λ entry. entry.0) content (name, layer) h.named named;
  distinct = distinct-push content name layer absent h.distinct;
  layers = all-push IsLayer (λ entry. entry.1) content (name, layer) h.layers fits;
}

-- a change of a layer to a well-formed one
pub IsWellFormed-change_layer-at : (content : Content) (name : List ℕ) (layer : LayerContent) (f : LayerContent → LayerContent)
    → layer_of content name ≡ Some layer → IsLayer (f layer) → IsWellFormed content → IsWellFormed (change_layer content name f)
IsWellFormed-change_layer-at content name layer f found fits h = record {
  few = omega (arith, length-change_layer content name f, h.few);
  named = subst (AllByRecursion _) (sym (keys-change_layer content name f)) h.named;
  distinct = subst (IsDistinct bytes_eq) (sym (keys-change_layer content name f)) h.distinct;
  layers = all_layers-change_layer content name layer f found fits h.layers;
}

-- an empty layer is well formed
pub IsLayer-empty_layer : (kind : LayerKind) → IsLayer (empty_layer kind)
unfolding IsStrictlySortedBy
IsLayer-empty_layer kind = record {
  next_id = (lit≤ tt, lit≤ tt);
  next_column = (lit≤ tt, lit≤ tt);
  columns = tt;
  column_names = tt;
  column_numbers = tt;
  rising = tt;
  ids = tt;
  features = tt;
}

-- ---- one feature more, under the next identifier

-- the layer with one more feature
pub IsLayer-with_next_feature : (layer : LayerContent) (feature : FeatureContent) → IsFeature layer.kind layer.columns feature → layer.next_id < id_end → IsLayer layer
    → IsLayer (with_next_feature feature layer)
IsLayer-with_next_feature layer feature fits room h =
    let next = layer.next_id in
    let is : layer.features ++ (next, feature) ∷ [] ≡ insert_entry nat_cmp layer.features next feature = sym (insert_entry-next next layer.features feature h.ids) in
    record {
      next_id = (omega (arith, h.next_id), omega (arith, room));
      next_column = h.next_column;
      columns = h.columns;
      column_names = h.column_names;
      column_numbers = h.column_numbers;
      rising = subst (λ es. IsStrictlySortedBy nat_cmp (keys_of es)) is (rising-push next layer.features feature h.ids h.rising);
      ids = subst (λ es. AllByRecursion (IsIssued (next + 1)) (keys_of es)) is
          (all-push (IsIssued (next + 1)) (λ entry. entry.0) layer.features (next, feature) (IsIssued-next next (keys_of layer.features) h.ids) (omega (arith, h.next_id), omega arith));
      features = subst (λ es. AllByRecursion (IsFeature layer.kind layer.columns) (values_of es)) is
          (all-push (IsFeature layer.kind layer.columns) (λ entry. entry.1) layer.features (next, feature) h.features fits);
    }

-- it has the feature
pub feature_of-with_next_feature : (layer : LayerContent) (feature : FeatureContent) → IsLayer layer
    → lookup (nat_eq layer.next_id) (insert_entry nat_cmp layer.features layer.next_id feature) ≡ Some feature
feature_of-with_next_feature layer feature h =
    ap (lookup (nat_eq layer.next_id)) (insert_entry-next layer.next_id layer.features feature h.ids) ∙ lookup-push layer.next_id layer.features feature h.ids

-- and is the layer before, once it is taken out
pub remove_entry-with_next_feature : (layer : LayerContent) (feature : FeatureContent) → IsLayer layer
    → remove_entry (nat_eq layer.next_id) (insert_entry nat_cmp layer.features layer.next_id feature) ≡ layer.features
remove_entry-with_next_feature layer feature h =
    ap (remove_entry (nat_eq layer.next_id)) (insert_entry-next layer.next_id layer.features feature h.ids) ∙ remove_entry-push layer.next_id layer.features feature h.ids
