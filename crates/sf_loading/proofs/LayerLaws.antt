-- Layers to which columns and features are put one after another.
use Rattle.std.proofs.Common.{◌≡◌, ℕ, ◌<◌, Bool, true, false, cond, List, [], ◌∷◌, ◌++◌, map, Some, None, refl, sym, ap, subst, ◌∙◌, nat_eq, bytes_eq, arith}
use Rattle.std.specs.Prelude.{find}
use Rattle.std.specs.Cmp.Lexicographic.{nat_list_eq_equiv}
use Rattle.std.specs.List.{AllByRecursion, list_any}
use Rattle.std.specs.Map.{keys_of, values_of}
use Rattle.sf_features.specs.declared.column.Column.{Column}
use Rattle.sf_features.specs.Columns.{IsDistinct, named, numbered}
use Rattle.sf_features.specs.Features.{FeatureContent}
use Rattle.sf_layers.specs.Content.{LayerContent}
use Rattle.sf_layers.specs.WellFormed.{IsColumn, IsFeature, IsIssued, IsLayer}
use Rattle.sf_layers.proofs.Kept.{none_or, none-from}
use Rattle.sf_loading.specs.Types.{AreUpTo}
use Rattle.sf_loading.proofs.RisingLaws.{push-all, up-push}

none-push : {X Y : Type 0} (test : Y → Bool) (f : X → Y) (xs : List X) (x : X) → list_any test (map f xs) ≡ false → test (f x) ≡ false → list_any test (map f (xs ++ x ∷ [])) ≡ false
none-push test f [] x h new = none-from (test (f x)) false new refl
none-push test f (y ∷ ys) x h new =
    let both = none_or (test (f y)) (list_any test (map f ys)) h in
    none-from (test (f y)) (list_any test (map f (ys ++ x ∷ []))) both.0 (none-push test f ys x both.1 new)

-- what has another key than all of these may stand behind them
distinct-push : {X Y : Type 0} (eq : Y → Y → Bool) (f : X → Y) (xs : List X) (new : X) (test : X → Bool) → ((x : X) → test x ≡ false → eq (f x) (f new) ≡ false) → find test xs ≡ None
    → IsDistinct eq (map f xs) → IsDistinct eq (map f (xs ++ new ∷ []))
distinct-push eq f [] new test apart free h = (refl, tt)
distinct-push eq f (x ∷ xs) new test apart free h = by (λ none. distinct-push eq f xs new test apart none h.1) (test x) refl free
  where
    by : (find test xs ≡ None → IsDistinct eq (map f (xs ++ new ∷ []))) → (b : Bool) → test x ≡ b → cond b (Some x) (find test xs) ≡ None → IsDistinct eq (map f (x ∷ (xs ++ new ∷ [])))
    by later true is none = absurd (cc none)
    by later false is none = (none-push (eq (f x)) f xs new h.0 (apart x is), later none)

-- a layer without features, with one more column
pub layer-column : (layer : LayerContent) (column : Column) → layer.features ≡ [] → IsColumn layer.next_column column → named layer.columns column.name ≡ None → numbered layer.columns column.number ≡ None → IsLayer layer
    → IsLayer (record layer { columns = layer.columns ++ column ∷ [] })
layer-column layer column bare fits free unused h = record {
  next_id = h.next_id;
  next_column = h.next_column;
  columns = push-all (IsColumn layer.next_column) layer.columns column h.columns fits;
  column_names = distinct-push bytes_eq (λ (c : Column). c.name) layer.columns column (λ (c : Column). bytes_eq column.name c.name) (λ c apart. nat_list_eq_equiv.symm c.name column.name ∙ apart) free h.column_names;
  column_numbers = distinct-push nat_eq (λ (c : Column). c.number) layer.columns column (λ (c : Column). nat_eq c.number column.number) (λ c apart. apart) unused h.column_numbers;
  rising = h.rising;
  ids = h.ids;
  features = subst (λ (es : List (ℕ × FeatureContent)). AllByRecursion (IsFeature layer.kind (layer.columns ++ column ∷ [])) (values_of es)) (sym bare) tt;
}

-- a layer with one more feature, under a greater identifier
pub layer-feature : (layer : LayerContent) (last id : ℕ) (feature : FeatureContent) → last < id → id < layer.next_id → IsFeature layer.kind layer.columns feature → AreUpTo last layer.features → IsLayer layer
    → IsLayer (record layer { features = layer.features ++ (id, feature) ∷ [] })
layer-feature layer last id feature above below fits up h = record {
  next_id = h.next_id;
  next_column = h.next_column;
  columns = h.columns;
  column_names = h.column_names;
  column_numbers = h.column_numbers;
  rising = (up-push last id layer.features feature above up).rising;
  ids = subst (AllByRecursion (IsIssued layer.next_id)) (sym (keys-push layer.features)) (push-all (IsIssued layer.next_id) (keys_of layer.features) id h.ids (omega (arith, above), below));
  features = subst (AllByRecursion (IsFeature layer.kind layer.columns)) (sym (values-push layer.features)) (push-all (IsFeature layer.kind layer.columns) (values_of layer.features) feature h.features fits);
}
  where
    keys-push : (es : List (ℕ × FeatureContent)) → keys_of (es ++ (id, feature) ∷ []) ≡ keys_of es ++ id ∷ []
    keys-push [] = refl
    keys-push (e ∷ es) = ap (λ ks. e.0 ∷ ks) (keys-push es)

    values-push : (es : List (ℕ × FeatureContent)) → values_of (es ++ (id, feature) ∷ []) ≡ values_of es ++ feature ∷ []
    values-push [] = refl
    values-push (e ∷ es) = ap (λ vs. e.1 ∷ vs) (values-push es)
