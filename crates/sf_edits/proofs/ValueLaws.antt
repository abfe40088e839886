-- The edits of values, and what takes them back.
use Rattle.std.proofs.Common.{◌≡◌, ℕ, true, false, List, [], ◌∷◌, ◌++◌, Option, None, Some, is_some, option_map, option_and_then, Result, Ok, Err, IfErr, IfOk, OnOk, IsOk, IsSomeAnd, refl, ap, sym, subst, ◌∙◌}
use Rattle.std.specs.Option.{option_map_or}
use Rattle.std.specs.Prelude.{slice_get}
use Rattle.sf_features.specs.declared.attr_value.AttrValue.{AttrValue}
use Rattle.sf_features.specs.declared.column.Column.{Column}
use Rattle.sf_features.specs.declared.column_type.ColumnType.{ColumnType}
use Rattle.sf_features.specs.Features.{FeatureContent, value_in, with_value, without_value}
use Rattle.sf_features.specs.Values.{is_of_type}
use Rattle.sf_layers.specs.Content.{Content, LayerContent, change_at, change_feature, change_in, column_named, column_place, feature_at, has_layer, layer_at, layer_of, place_of}
use Rattle.sf_layers.specs.WellFormed.{IsWellFormed}
use Rattle.sf_layers.proofs.Changes.{layer_of-change_layer}
use Rattle.sf_layers.proofs.Columns.{column_at_place}
use Rattle.sf_steps.specs.declared.answer.Answer.TheVariants.{Done}
use Rattle.sf_steps.specs.declared.edit.Edit.{Edit}
use Rattle.sf_steps.specs.declared.edit.Edit.TheVariants as edits
use Rattle.sf_steps.specs.declared.inverse.Inverse.TheVariants as inverses
use Rattle.sf_steps.specs.declared.refusal.Refusal.{Refusal}
use Rattle.sf_steps.specs.declared.refusal.Refusal.TheVariants.{NoColumn, NoFeature, NoLayer, WrongValue}
use Rattle.sf_steps.specs.Steps.{checks, column_in, column_takes, feature_checks, first_refusal, has_column, has_feature, number_in, unless, value_checks}
use Rattle.sf_steps.specs.Inverses.{Carries, Fits, RevertsOrKeeps, described, frees_only, setting, value_under}
use Rattle.sf_steps.proofs.InverseLaws.{feature_in-changed}
use Rattle.sf_steps.proofs.Passes.{Accepted, ColumnThere-column_in, FeatureThere, FeatureThere-feature_in, column_in-there, feature_in-there, passed, there_from_test}
use Rattle.sf_steps.proofs.StepsFine.{effect_fine}
use Rattle.sf_edits.proofs.Carrying.{Accepted-Fits, Carries-done, RevertsOrKeeps-described, changed-at, first_refusal-passed, fits-at}
use Rattle.sf_edits.proofs.FeatureLaws.{layer_of-at, of_some, placed-at}

-- ---- the place of a value

column_in-at : (content : Content) (name column : List ℕ) (place : ℕ) (layer : LayerContent) → place ≡ place_of content name → layer_at content place ≡ Some layer → column_in content name column ≡ column_named layer column
column_in-at content name column place layer at there = ap (option_and_then (λ l. column_named l column)) (layer_of-at content name place layer at there)

value-looked : (content : Content) (name : List ℕ) (id : ℕ) (column : List ℕ) (o : Option Column) → first_refusal (feature_checks content name id) ≡ None → column_in content name column ≡ o
    → first_refusal (value_checks content name id column) ≡ first_refusal (unless (is_some o) NoColumn ∷ [])
value-looked content name id column o passes is =
    first_refusal-passed (feature_checks content name id) (unless (has_column content name column) NoColumn ∷ []) passes ∙ ap (λ c. first_refusal (unless (is_some c) NoColumn ∷ [])) is

pub column-missed : (content : Content) (name : List ℕ) (id : ℕ) (column : List ℕ) (place : ℕ) (layer : LayerContent) → place ≡ place_of content name → layer_at content place ≡ Some layer
    → first_refusal (feature_checks content name id) ≡ None → false ≡ is_some (column_named layer column) → first_refusal (value_checks content name id column) ≡ Some NoColumn
column-missed content name id column place layer at there passes none =
    value-looked content name id column (column_in content name column) passes refl
    ∙ ap (λ o. first_refusal (unless (is_some o) NoColumn ∷ [])) (column_in-at content name column place layer at there)
    ∙ ap (λ b. first_refusal (unless b NoColumn ∷ [])) (sym none)

-- the column at the place of a name
pub column-found : (layer : LayerContent) (column : List ℕ) (place : ℕ) → place ≡ column_place layer column → true ≡ is_some (column_named layer column)
    → (c : Column) × ((column_named layer column ≡ Some c) × (slice_get layer.columns place ≡ Some c))
column-found layer column place at there =
    let found = there_from_test (column_named layer column) (sym there) in
    (found.0, (found.1, ap (slice_get layer.columns) at ∙ column_at_place layer column found.0 found.1))

pub value-passed : (content : Content) (name : List ℕ) (id : ℕ) (column : List ℕ) (place : ℕ) (layer : LayerContent) → place ≡ place_of content name → layer_at content place ≡ Some layer
    → first_refusal (feature_checks content name id) ≡ None → true ≡ is_some (column_named layer column) → first_refusal (value_checks content name id column) ≡ None
value-passed content name id column place layer at there passes found =
    value-looked content name id column (column_in content name column) passes refl
    ∙ ap (λ o. first_refusal (unless (is_some o) NoColumn ∷ [])) (column_in-at content name column place layer at there)
    ∙ ap (λ b. first_refusal (unless b NoColumn ∷ [])) (sym found)

pub column-there : (content : Content) (name column : List ℕ) (place column_at : ℕ) (layer : LayerContent) (c : Column) → place ≡ place_of content name → layer_at content place ≡ Some layer
    → column_at ≡ column_place layer column → true ≡ is_some (column_named layer column) → slice_get layer.columns column_at ≡ Some c → column_in content name column ≡ Some c
column-there content name column place column_at layer c at there spot found is =
    let known = column-found layer column column_at spot found in
    column_in-at content name column place layer at there ∙ known.1.0 ∙ sym known.1.1 ∙ is

-- what is known of a value once its place is found
pub record IsSpotted (content : Content) (name : List ℕ) (id : ℕ) (column : List ℕ) (place number : ℕ) (column_type : ColumnType) : Type 0 where
  pub at : place ≡ place_of content name
  pub passes : first_refusal (value_checks content name id column) ≡ None
  pub spot : Column
  pub found : column_in content name column ≡ Some spot
  pub numbered : number ≡ number_in content name column
  pub typed : spot.column_type ≡ column_type
  pub fine : IsWellFormed content

pub is-spotted : (content : Content) (name read : List ℕ) (id : ℕ) (column column_read : List ℕ) (place number : ℕ) (column_type : ColumnType) → read ≡ name → column_read ≡ column → place ≡ place_of content read
    → IsSomeAnd (column_in content read column_read) (λ c. (c.number ≡ number) × (c.column_type ≡ column_type)) → first_refusal (value_checks content read id column_read) ≡ None → IsWellFormed content
    → IsSpotted content name id column place number column_type
is-spotted content name read id column column_read place number column_type same same_column at h passes fine =
    let passes_named : first_refusal (value_checks content name id column) ≡ None =
    ap (λ n. first_refusal (value_checks content n id column)) (sym same) ∙ ap (λ n. first_refusal (value_checks content read id n)) (sym same_column) ∙ passes in
    let second = passed (has_feature content name id) NoFeature _ (passed (has_layer content name) NoLayer _ passes_named).1 in
    let found = there_from_test (column_in content name column) (passed (has_column content name column) NoColumn [] second.1).0 in
    let read_found : column_in content read column_read ≡ Some found.0 = ap (λ n. column_in content n column_read) same ∙ ap (column_in content name) same_column ∙ found.1 in
    let known = of_some (λ c. (c.number ≡ number) × (c.column_type ≡ column_type)) (column_in content read column_read) found.0 read_found h in
    record {
      at = at ∙ ap (place_of content) same;
      passes = passes_named;
      spot = found.0;
      found = found.1;
      numbered = sym known.0 ∙ sym (ap (λ o. option_map_or (λ c. c.number) o 0) found.1);
      typed = known.1;
      fine = fine;
    }

spotted-feature : (content : Content) (name : List ℕ) (id : ℕ) (column : List ℕ) → first_refusal (value_checks content name id column) ≡ None → FeatureThere content name id
spotted-feature content name id column passes = FeatureThere-feature_in content name id (passed (has_feature content name id) NoFeature _ (passed (has_layer content name) NoLayer _ passes).1).0

-- the value that was there
value-was : (content : Content) (name : List ℕ) (id : ℕ) (column : List ℕ) (place number : ℕ) (old : Option AttrValue) → place ≡ place_of content name → number ≡ number_in content name column
    → first_refusal (value_checks content name id column) ≡ None → IsSomeAnd (feature_at content place id) (λ feature. old ≡ value_in number feature) → old ≡ value_under content name id column
value-was content name id column place number old at numbered passes was =
    let t = spotted-feature content name id column passes in
    of_some (λ feature. old ≡ value_in number feature) (feature_at content place id) t.feature (placed-at content name id place t.feature at (feature_in-there content name id t)) was
    ∙ ap (λ n. value_in n t.feature) numbered
    ∙ ap (option_and_then (value_in (number_in content name column))) (sym (feature_in-there content name id t))

-- ---- a value that is set

set-checks : (content : Content) (name : List ℕ) (id : ℕ) (column : List ℕ) (value : AttrValue) (place number : ℕ) (column_type : ColumnType) → IsSpotted content name id column place number column_type
    → first_refusal (checks content (edits.SetValue name id column value)) ≡ first_refusal (unless (is_of_type column_type value) WrongValue ∷ [])
set-checks content name id column value place number column_type s =
    first_refusal-passed (value_checks content name id column) (unless (column_takes content name column value) WrongValue ∷ []) s.passes
    ∙ ap (λ o. first_refusal (unless (option_map_or (λ c. is_of_type c.column_type value) o false) WrongValue ∷ [])) s.found
    ∙ ap (λ t. first_refusal (unless (is_of_type t value) WrongValue ∷ [])) s.typed

set-passed : (content : Content) (name : List ℕ) (id : ℕ) (column : List ℕ) (value : AttrValue) (place number : ℕ) (column_type : ColumnType) → IsSpotted content name id column place number column_type
    → is_of_type column_type value ≡ true → first_refusal (checks content (edits.SetValue name id column value)) ≡ None
set-passed content name id column value place number column_type s fits = set-checks content name id column value place number column_type s ∙ ap (λ t. first_refusal (unless t WrongValue ∷ [])) fits

pub set-fits : (content : Content) (name : List ℕ) (id : ℕ) (column : List ℕ) (value : AttrValue) (place number : ℕ) (column_type : ColumnType) → IsSpotted content name id column place number column_type
    → is_of_type column_type value ≡ true → IsWellFormed (change_at place (change_feature id (with_value number value)) content)
set-fits content name id column value place number column_type s fits =
    subst (λ n. IsWellFormed (change_at place (change_feature id (with_value n value)) content)) (sym s.numbered)
    (fits-at content name place (change_feature id (with_value (number_in content name column) value)) s.at
    (effect_fine content (edits.SetValue name id column value) tt s.fine (set-passed content name id column value place number column_type s fits)))

pub set-done : (content new : Content) (name : List ℕ) (id : ℕ) (column : List ℕ) (value : AttrValue) (old : Option AttrValue) (place number : ℕ) (column_type : ColumnType)
    → IsSpotted content name id column place number column_type → is_of_type column_type value ≡ true → new ≡ change_at place (change_feature id (with_value number value)) content
    → IsSomeAnd (feature_at content place id) (λ feature. old ≡ value_in number feature) → Carries content (edits.SetValue name id column value) (Ok (inverses.PutValue name id column old)) new
set-done content new name id column value old place number column_type s fits is was =
    Carries-done content new (edits.SetValue name id column value) (inverses.PutValue name id column old) s.fine (set-passed content name id column value place number column_type s fits)
    (sym (changed-at content new name place (change_feature id (with_value (number_in content name column) value)) s.at
    (is ∙ ap (λ n. change_at place (change_feature id (with_value n value)) content) s.numbered)))
    (ap (inverses.PutValue name id column) (value-was content name id column place number old s.at s.numbered s.passes was))

-- ---- a value that is cleared

pub cleared : (content new : Content) (name : List ℕ) (id : ℕ) (column : List ℕ) (old : Option AttrValue) (place number : ℕ) (column_type : ColumnType) → IsSpotted content name id column place number column_type
    → new ≡ change_at place (change_feature id (without_value number)) content → IsSomeAnd (feature_at content place id) (λ feature. old ≡ value_in number feature)
    → Carries content (edits.ClearValue name id column) (Ok (inverses.PutValue name id column old)) new
cleared content new name id column old place number column_type s is was =
    Carries-done content new (edits.ClearValue name id column) (inverses.PutValue name id column old) s.fine
    s.passes
    (sym (changed-at content new name place (change_feature id (without_value (number_in content name column))) s.at
    (is ∙ ap (λ n. change_at place (change_feature id (without_value n)) content) s.numbered)))
    (ap (inverses.PutValue name id column) (value-was content name id column place number old s.at s.numbered s.passes was))

-- ---- taken back

-- a change of a feature keeps what is looked at for its values
value_checks-changed : (content : Content) (name : List ℕ) (id : ℕ) (column : List ℕ) (f : FeatureContent → FeatureContent) → first_refusal (value_checks content name id column) ≡ None
    → first_refusal (value_checks (change_in content name id f) name id column) ≡ None
value_checks-changed content name id column f passes =
    let second = passed (has_feature content name id) NoFeature _ (passed (has_layer content name) NoLayer _ passes).1 in
    let t = FeatureThere-feature_in content name id second.0 in
    let u = ColumnThere-column_in content name column (passed (has_column content name column) NoColumn [] second.1).0 in
    let new = change_in content name id f in
    let layer_is : layer_of new name ≡ Some (change_feature id f t.layer) = layer_of-change_layer content name (change_feature id f) ∙ ap (option_map (change_feature id f)) t.found in
    let column_is : column_in new name column ≡ Some u.column =
    ap (option_and_then (λ l. column_named l column)) layer_is ∙ sym (ap (option_and_then (λ l. column_named l column)) t.found) ∙ column_in-there content name column u in
    ap (λ o. first_refusal (unless (is_some o) NoLayer ∷ unless (has_feature new name id) NoFeature ∷ unless (has_column new name column) NoColumn ∷ [])) layer_is
    ∙ ap (λ o. first_refusal (unless (is_some o) NoFeature ∷ unless (has_column new name column) NoColumn ∷ [])) (feature_in-changed content name id t f)
    ∙ ap (λ o. first_refusal (unless (is_some o) NoColumn ∷ [])) column_is

-- the value that an inverse puts back has its column and its feature
pub value-there : (content : Content) (name : List ℕ) (id : ℕ) (column : List ℕ) (old : Option AttrValue) → Fits content (inverses.PutValue name id column old)
    → first_refusal (value_checks content name id column) ≡ None
value-there content name id column old fits = by (value_under content name id column) refl
  where
    before : Content
    before = described content (inverses.PutValue name id column old)

    by : (o : Option AttrValue) → value_under content name id column ≡ o → first_refusal (value_checks content name id column) ≡ None
    by None is =
        let accepted = subst (λ o. Accepted before (setting name id column o) content Done) is (Accepted-Fits content (inverses.PutValue name id column old) fits) in
        subst (λ c. first_refusal (value_checks c name id column) ≡ None) accepted.effect
        (value_checks-changed before name id column (without_value (number_in before name column)) accepted.passed)
    by (Some value) is =
        let accepted = subst (λ o. Accepted before (setting name id column o) content Done) is (Accepted-Fits content (inverses.PutValue name id column old) fits) in
        subst (λ c. first_refusal (value_checks c name id column) ≡ None) accepted.effect
        (value_checks-changed before name id column (with_value (number_in before name column) value) (all-passed before value accepted.passed))
      where
        all-passed : (b : Content) (v : AttrValue) → first_refusal (checks b (edits.SetValue name id column v)) ≡ None → first_refusal (value_checks b name id column) ≡ None
        all-passed b v h = first-part (value_checks b name id column) (unless (column_takes b name column v) WrongValue ∷ []) h
          where
            first-part : (some others : List (Option Refusal)) → first_refusal (some ++ others) ≡ None → first_refusal some ≡ None
            first-part [] others h = refl
            first-part (None ∷ some) others h = first-part some others h
            first-part ((Some refusal) ∷ some) others h = cc

-- so its place is found
pub ok-passed : {T : Type 0} (r : Result T Refusal) (content : Content) (name read : List ℕ) (id : ℕ) (column column_read : List ℕ) → read ≡ name → column_read ≡ column
    → first_refusal (value_checks content name id column) ≡ None → IfErr r (λ refusal. first_refusal (value_checks content read id column_read) ≡ Some refusal) → IsOk r
ok-passed (Ok x) content name read id column column_read same same_column passes h = refl
ok-passed (Err refusal) content name read id column column_read same same_column passes h =
    let none : first_refusal (value_checks content read id column_read) ≡ None =
    ap (λ n. first_refusal (value_checks content n id column_read)) same ∙ ap (λ n. first_refusal (value_checks content name id n)) same_column ∙ passes in
    cc

pub put-fits : (content : Content) (name : List ℕ) (id : ℕ) (column : List ℕ) (value : AttrValue) (place number : ℕ) (column_type : ColumnType) → IsSpotted content name id column place number column_type
    → Fits content (inverses.PutValue name id column (Some value)) → IsWellFormed (change_at place (change_feature id (with_value number value)) content)
put-fits content name id column value place number column_type s fits =
    subst (λ n. IsWellFormed (change_at place (change_feature id (with_value n value)) content)) (sym s.numbered)
    (fits-at content name place (change_feature id (with_value (number_in content name column) value)) s.at fits.well_formed)

pub put-back : (content new : Content) (name : List ℕ) (id : ℕ) (column : List ℕ) (value : AttrValue) (was : Option AttrValue) (place number : ℕ) (column_type : ColumnType)
    → IsSpotted content name id column place number column_type → Fits content (inverses.PutValue name id column (Some value))
    → new ≡ change_at place (change_feature id (with_value number value)) content → IsSomeAnd (feature_at content place id) (λ feature. was ≡ value_in number feature)
    → RevertsOrKeeps content (inverses.PutValue name id column (Some value)) (Ok (setting name id column was)) new
put-back content new name id column value was place number column_type s fits is there =
    RevertsOrKeeps-described content new (inverses.PutValue name id column (Some value)) (setting name id column was) fits
    (changed-at content new name place (change_feature id (with_value (number_in content name column) value)) s.at
    (is ∙ ap (λ n. change_at place (change_feature id (with_value n value)) content) s.numbered))
    (ap (setting name id column) (value-was content name id column place number was s.at s.numbered s.passes there))

pub taken-back : (content new : Content) (name : List ℕ) (id : ℕ) (column : List ℕ) (was : Option AttrValue) (place number : ℕ) (column_type : ColumnType)
    → IsSpotted content name id column place number column_type → Fits content (inverses.PutValue name id column None)
    → new ≡ change_at place (change_feature id (without_value number)) content → IsSomeAnd (feature_at content place id) (λ feature. was ≡ value_in number feature)
    → RevertsOrKeeps content (inverses.PutValue name id column None) (Ok (setting name id column was)) new
taken-back content new name id column was place number column_type s fits is there =
    RevertsOrKeeps-described content new (inverses.PutValue name id column None) (setting name id column was) fits
    (changed-at content new name place (change_feature id (without_value (number_in content name column))) s.at
    (is ∙ ap (λ n. change_at place (change_feature id (without_value n)) content) s.numbered))
    (ap (setting name id column) (value-was content name id column place number was s.at s.numbered s.passes there))

-- over another value no memory is wanted
pub never-kept : (content : Content) (name : List ℕ) (id : ℕ) (column : List ℕ) (value : AttrValue) (place number : ℕ) (column_type : ColumnType) → IsSpotted content name id column place number column_type
    → frees_only content (inverses.PutValue name id column (Some value)) ≡ true → IsSomeAnd (feature_at content place id) (λ feature. value_in number feature ≡ None) → ⊥
never-kept content name id column value place number column_type s frees none =
    let t = spotted-feature content name id column s.passes in
    let at = placed-at content name id place t.feature s.at (feature_in-there content name id t) in
    let missing : value_under content name id column ≡ None =
    ap (option_and_then (value_in (number_in content name column))) (feature_in-there content name id t) ∙ ap (λ n. value_in n t.feature) (sym s.numbered)
    ∙ of_some (λ feature. value_in number feature ≡ None) (feature_at content place id) t.feature at none in
    let both : false ≡ true = sym (ap is_some missing) ∙ frees in
    cc

-- ---- results that are unwrapped

pub some_of_copied : {X Y : Type 0} (f : X → Y) (o : Option X) (y : Y) → option_map f o ≡ Some y → is_some o ≡ true
some_of_copied f None y h = cc
some_of_copied f (Some x) y h = refl

pub unwrapped : {T E : Type 0} (P : T → Type 0) (r : Result T E) (x : T) → r ≡ Ok x → IfOk r P → P x
unwrapped P r x is h = subst (λ s. IfOk s P) is h

pub unwrapped_on : {T E P : Type 0} (r : Result T E) (x : T) → r ≡ Ok x → OnOk r P → P
unwrapped_on {P = P} r x is h = subst (λ s. OnOk s P) is h

-- ---- by the old value of an inverse

pub put-fits-some : (content : Content) (name : List ℕ) (id : ℕ) (column : List ℕ) (old : Option AttrValue) (value : AttrValue) (place number : ℕ) (column_type : ColumnType)
    → IsSpotted content name id column place number column_type → Fits content (inverses.PutValue name id column old) → old ≡ Some value
    → IsWellFormed (change_at place (change_feature id (with_value number value)) content)
put-fits-some content name id column old value place number column_type s fits is =
    put-fits content name id column value place number column_type s (subst (λ o. Fits content (inverses.PutValue name id column o)) is fits)

pub put-back-some : (content new : Content) (name : List ℕ) (id : ℕ) (column : List ℕ) (old : Option AttrValue) (value : AttrValue) (was : Option AttrValue) (edit : Edit) (place number : ℕ) (column_type : ColumnType)
    → IsSpotted content name id column place number column_type → Fits content (inverses.PutValue name id column old) → old ≡ Some value
    → new ≡ change_at place (change_feature id (with_value number value)) content → IsSomeAnd (feature_at content place id) (λ feature. was ≡ value_in number feature) → edit ≡ setting name id column was
    → RevertsOrKeeps content (inverses.PutValue name id column old) (Ok edit) new
put-back-some content new name id column old value was edit place number column_type s fits is changed there gives =
    subst (λ e. RevertsOrKeeps content (inverses.PutValue name id column old) (Ok e) new) (sym gives)
    (subst (λ o. RevertsOrKeeps content (inverses.PutValue name id column o) (Ok (setting name id column was)) new) (sym is)
    (put-back content new name id column value was place number column_type s (subst (λ o. Fits content (inverses.PutValue name id column o)) is fits) changed there))

pub taken-back-none : (content new : Content) (name : List ℕ) (id : ℕ) (column : List ℕ) (old was : Option AttrValue) (edit : Edit) (place number : ℕ) (column_type : ColumnType)
    → IsSpotted content name id column place number column_type → Fits content (inverses.PutValue name id column old) → old ≡ None
    → new ≡ change_at place (change_feature id (without_value number)) content → IsSomeAnd (feature_at content place id) (λ feature. was ≡ value_in number feature) → edit ≡ setting name id column was
    → RevertsOrKeeps content (inverses.PutValue name id column old) (Ok edit) new
taken-back-none content new name id column old was edit place number column_type s fits is changed there gives =
    subst (λ e. RevertsOrKeeps content (inverses.PutValue name id column old) (Ok e) new) (sym gives)
    (subst (λ o. RevertsOrKeeps content (inverses.PutValue name id column o) (Ok (setting name id column was)) new) (sym is)
    (taken-back content new name id column was place number column_type s (subst (λ o. Fits content (inverses.PutValue name id column o)) is fits) changed there))

pub never-kept-some : (content : Content) (name : List ℕ) (id : ℕ) (column : List ℕ) (old : Option AttrValue) (value : AttrValue) (place number : ℕ) (column_type : ColumnType)
    → IsSpotted content name id column place number column_type → old ≡ Some value → frees_only content (inverses.PutValue name id column old) ≡ true
    → IsSomeAnd (feature_at content place id) (λ feature. value_in number feature ≡ None) → ⊥
never-kept-some content name id column old value place number column_type s is frees none =
    never-kept content name id column value place number column_type s (ap (λ o. frees_only content (inverses.PutValue name id column o)) (sym is) ∙ frees) none
