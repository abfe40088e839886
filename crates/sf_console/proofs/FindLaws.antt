-- What `get` shows, and what `find` lists.
use Rattle.std.proofs.Common.{◌≡◌, ◌∙◌, ℕ, Bool, true, false, ◌&&◌, cond, nat_eq, List, [], ◌∷◌, map, Contains, Option, None, Some, option_map, if◌then◌else◌, refl, sym, ap, arith}
use Rattle.std.specs.Map.{lookup}
use Rattle.std.specs.Option.{option_map_or}
use Rattle.std.specs.Ordering.{is_le}
use Rattle.std.proofs.lemmas.Bool.{eqb-true}
use Rattle.std.proofs.lemmas.List.Elements.{Contains-append_right}
use Rattle.sf_features.specs.declared.attr_value.AttrValue.{AttrValue}
use Rattle.sf_features.proofs.SameLaws.{same-itself, same-value}
use Rattle.sf_features.specs.Features.{FeatureContent, value_in}
use Rattle.sf_features.specs.Order.{value_cmp}
use Rattle.sf_features.specs.Values.{same_value}
use Rattle.sf_refusals.specs.declared.refusal.Refusal.TheVariants.{WrongValue}
use Rattle.sf_layers.specs.Content.{LayerContent}
use Rattle.sf_layers.specs.Found.{is_between, is_from, is_up_to}
use Rattle.sf_layers.specs.declared.value_range.ValueRange.{ValueRange}
use Rattle.sf_layers.proofs.Changes.{IsLayer-layer_of}
use Rattle.sf_query.proofs.FilterLaws.{found-passes, passes-found, rising-filter}
use Rattle.sf_console.specs.Answers.{feature_row, found_by, found_in, has_sought, ids_with, is_sought, refusal_line, rows}
use Rattle.sf_commands.specs.declared.command.Sought.{Sought}
use Rattle.sf_commands.specs.declared.command.Sought.TheVariants as soughts
use Rattle.sf_console.specs.Laws.{FindRepliesListJustThoseFeatures, IsSought, LiesBetween, RowsOfGetAreRowsOfShow}
use Rattle.std.specs.Prelude.{decimal}

-- ---- values

-- whether a value is at an end that may be given, or on the right side of it
at-end : (test : AttrValue → Bool) (end : Option AttrValue) → option_map_or test end true ≡ true → (wanted : AttrValue) → end ≡ Some wanted → test wanted ≡ true
at-end test None is = λ wanted none. cc
at-end test (Some given) is = λ wanted some. let same : given ≡ wanted = cc in ap test (sym same) ∙ is

end-at : (test : AttrValue → Bool) (end : Option AttrValue) → ((wanted : AttrValue) → end ≡ Some wanted → test wanted ≡ true) → option_map_or test end true ≡ true
end-at test None is = refl
end-at test (Some given) is = is given refl

both-of : (a b : Bool) → (a && b) ≡ true → (a ≡ true) × (b ≡ true)
both-of true b is = (refl, is)
both-of false b is = cc

and-both : (a b : Bool) → a ≡ true → b ≡ true → (a && b) ≡ true
and-both a b first second = ap (λ x. x && b) first ∙ second

-- a value between two ends
lies-between : (range : ValueRange) (value : AttrValue) → is_between range.from range.to value ≡ true → LiesBetween range value
lies-between range value is =
    let both = both-of (is_from range.from value) (is_up_to range.to value) is in
    (at-end (λ end. is_le (value_cmp end value)) range.from both.0, at-end (λ end. is_le (value_cmp value end)) range.to both.1)

between-lies : (range : ValueRange) (value : AttrValue) → LiesBetween range value → is_between range.from range.to value ≡ true
between-lies range value lies =
    and-both (is_from range.from value) (is_up_to range.to value)
    (end-at (λ end. is_le (value_cmp end value)) range.from lies.0) (end-at (λ end. is_le (value_cmp value end)) range.to lies.1)

-- a value that is sought
sought-is : (sought : Sought) (value : AttrValue) → is_sought sought value ≡ true → IsSought sought value
sought-is soughts.Any value is = tt
sought-is (soughts.Value wanted) value is = sym (same-value wanted value is)
sought-is (soughts.Between range) value is = lies-between range value is

is-sought : (sought : Sought) (value : AttrValue) → IsSought sought value → is_sought sought value ≡ true
is-sought soughts.Any value is = refl
is-sought (soughts.Value wanted) value is = ap (same_value wanted) is ∙ same-itself wanted
is-sought (soughts.Between range) value is = between-lies range value is

-- a feature that has one
abbrev Has : ℕ → Sought → FeatureContent → Type 0
Has number sought feature = (value : AttrValue) × (value_in number feature ≡ Some value) × IsSought sought value

has-is : (number : ℕ) (sought : Sought) (feature : FeatureContent) → has_sought number sought feature ≡ true → Has number sought feature
has-is number sought feature is = by (value_in number feature) refl is
  where
    by : (o : Option AttrValue) → value_in number feature ≡ o → option_map_or (is_sought sought) o false ≡ true → Has number sought feature
    by None at is = cc
    by (Some value) at is = (value, at, sought-is sought value is)

is-has : (number : ℕ) (sought : Sought) (feature : FeatureContent) → Has number sought feature → has_sought number sought feature ≡ true
is-has number sought feature has = ap (λ o. option_map_or (is_sought sought) o false) has.1 ∙ is-sought sought has.0 has.2

-- ---- what is found

pub find_replies_list_just_those_features : FindRepliesListJustThoseFeatures
find_replies_list_just_those_features machine editor name layer column_name column sought fine is at may =
    let rising = (IsLayer-layer_of machine.now name layer is fine.now.layers).rising in (
      ids_with column.number sought layer,
      record {
        rising = rising-filter (λ entry. has_sought column.number sought entry.1) layer.features rising;
        just = λ id. (
          λ h.
              let f = found-passes (has_sought column.number sought) layer.features id rising h in
              let has = has-is column.number sought f.0 f.2 in
              (f.0, has.0, f.1, has.1, has.2),
          λ w. passes-found (has_sought column.number sought) layer.features id w.0 w.2 (is-has column.number sought w.0 (w.1, w.3, w.4)),
        );
      },
      ap (λ o. (machine, found_by o column_name sought)) is
          ∙ ap (λ c. (machine, found_in layer c sought)) at
          ∙ ap (λ b. (machine, if b then rows (map decimal (ids_with column.number sought layer)) else refusal_line WrongValue)) may,
    )

-- ---- what is shown

row-of : (layer : LayerContent) (id : ℕ) (text : List ℕ) (es : List (ℕ × FeatureContent)) → option_map (λ feature. feature_row layer.columns (id, feature)) (lookup (nat_eq id) es) ≡ Some text
    → Contains (map (feature_row layer.columns) es) text
row-of layer id text [] is = cc
row-of layer id text (e ∷ es) is = by (nat_eq id e.0) refl (λ k. row-of layer id text es k) is
  where
    by : (b : Bool) → nat_eq id e.0 ≡ b → (option_map (λ feature. feature_row layer.columns (id, feature)) (lookup (nat_eq id) es) ≡ Some text → Contains (map (feature_row layer.columns) es) text)
        → option_map (λ feature. feature_row layer.columns (id, feature)) (cond b (Some e.1) (lookup (nat_eq id) es)) ≡ Some text → Contains (map (feature_row layer.columns) (e ∷ es)) text
    by true same rest is =
        let shown : feature_row layer.columns (id, e.1) ≡ text = cc in
        (0, omega arith, ap (λ n. feature_row layer.columns (n, e.1)) (sym (eqb-true id e.0 same)) ∙ shown)
    by false other rest is = Contains-append_right (feature_row layer.columns e ∷ []) (map (feature_row layer.columns) es) text (rest is)

pub rows_of_get_are_rows_of_show : RowsOfGetAreRowsOfShow
rows_of_get_are_rows_of_show layer id text is = row-of layer id text layer.features is
