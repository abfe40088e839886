-- What the edits of columns, and what takes them back, have to show.
use Rattle.std.proofs.Common.{◌≡◌, ℕ, zero, suc, ◌+◌, ◌-◌, ◌<◌, ◌≤◌, Bool, true, false, not, List, [], ◌∷◌, length, remove, slice_get, Option, None, Some, is_some, option_map, option_and_then, Ok, Bor, nat_lt, refl, ap, sym, subst, ◌∙◌, arith}
use Rattle.std.specs.Prelude.{IsSomeAnd, option_copied}
use Rattle.std.specs.List.{AllByRecursion}
use Rattle.std.specs.Map.{keys_of}
use Rattle.std.specs.Option.{option_map_or, IsSome}
use Rattle.std.proofs.lemmas.Bool.{lt-ltb, ltb-true}
use Rattle.std.proofs.lemmas.Bool.Decides.{nat_tests}
use Rattle.sf_features.specs.Columns.{numbered}
use Rattle.sf_features.specs.Names.{is_name}
use Rattle.sf_features.specs.declared.attr_value.AttrValue.{AttrValue}
use Rattle.sf_features.specs.declared.column.Column.{Column}
use Rattle.sf_features.specs.declared.column_type.ColumnType.{ColumnType}
use Rattle.sf_layers.specs.Content.{Content, LayerContent, change_at, change_layer, column_named, column_place, column_values, feature_of, has_layer, layer_at, layer_of, number_named, place_of, with_column, with_last_column, with_values, without_column, without_last_column, without_values}
use Rattle.sf_layers.specs.WellFormed.{IsLayer, IsWellFormed, column_end}
use Rattle.sf_layers.proofs.Added.{IsWellFormed-change_layer-at}
use Rattle.sf_layers.proofs.ChangedAt.{IsLayer-without_values}
use Rattle.sf_layers.proofs.Changes.{IsLayer-layer_of, change_layer-at, change_layer-same, layer_of-change_layer}
use Rattle.sf_layers.proofs.Columns.{column_at_place}
use Rattle.sf_layers.proofs.Places.{insert-remove, length-remove, remove-insert, slice_get-below}
use Rattle.sf_steps.specs.declared.edit.Edit.TheVariants as edits
use Rattle.sf_steps.specs.declared.inverse.Inverse.TheVariants.{TakeColumn, PutColumn}
use Rattle.sf_steps.specs.declared.refusal.Refusal.TheVariants.{NoLayer, NoColumn, BadName, ColumnExists, ColumnsExhausted}
use Rattle.sf_steps.specs.Steps.{add_column, checks, column_checks, column_in, drop_column, effect, first_refusal, unless}
use Rattle.sf_steps.specs.Inverses.{Carries, Fits, Reverts, adding_column, described, dropped_column, last_column, no_column, no_layer, put_column, the_column, the_layer}
use Rattle.sf_steps.proofs.Passes.{ColumnThere, ColumnThere-column_in, absent_from_not, column_in-there, passed, there_from_test}
use Rattle.sf_steps.proofs.StepsFine.{effect_fine}
use Rattle.sf_edits.proofs.Carrying.{Accepted-Fits, Carries-done, Reverts-described, changed-at, fits-at, layer_at-place_of}
use Rattle.sf_edits.proofs.ColumnsOut.{name-out, number-out, valued-there, values-out}
use Rattle.sf_edits.proofs.LayerLaws.{entry-found, place-within}
use Rattle.sf_edits.proofs.There.{column-there}

-- ---- the layer of a name at its place

pub entry-there : (content : Content) (name : List ℕ) (place : ℕ) → has_layer content name ≡ true → place ≡ place_of content name → IsSome (slice_get content place)
entry-there content name place found at = ap is_some (ap (slice_get content) at ∙ (entry-found content name found).1.1)

-- the layer that is seen at the place of a name is the layer of the name
pub layer-seen : (content : Content) (name : List ℕ) (place : ℕ) (layer : LayerContent) → place ≡ place_of content name → layer_at content place ≡ Some layer → layer_of content name ≡ Some layer
layer-seen content name place layer at seen = sym (layer_at-place_of content name) ∙ ap (layer_at content) (sym at) ∙ seen

pub layer-at : (content : Content) (name : List ℕ) (place : ℕ) (layer : LayerContent) → place ≡ place_of content name → layer_of content name ≡ Some layer → layer_at content place ≡ Some layer
layer-at content name place layer at found = ap (layer_at content) at ∙ layer_at-place_of content name ∙ found

-- what holds of the layer of a name holds of the one at its place
pub holds-at : (content : Content) (name : List ℕ) (place : ℕ) (layer : LayerContent) (P : LayerContent → Type 0) → place ≡ place_of content name → layer_of content name ≡ Some layer
    → P layer → IsSomeAnd (layer_at content place) P
holds-at content name place layer P at found p = subst (λ o. IsSomeAnd o P) (sym (layer-at content name place layer at found)) p

-- and the other way round
pub holds-of : (content : Content) (name : List ℕ) (place : ℕ) (layer : LayerContent) (P : LayerContent → Type 0) → place ≡ place_of content name → layer_of content name ≡ Some layer
    → IsSomeAnd (layer_at content place) P → P layer
holds-of content name place layer P at found p = subst (λ o. IsSomeAnd o P) (layer-at content name place layer at found) p

-- ---- a column put last

-- the checks, once the layer is found
adding-checks : (content : Content) (name column : List ℕ) (column_type : ColumnType) (layer : LayerContent) → layer_of content name ≡ Some layer
    → first_refusal (checks content (edits.AddColumn name column column_type))
    ≡ first_refusal (unless (is_name column) BadName ∷ unless (not (is_some (column_named layer column))) ColumnExists ∷ unless (nat_lt layer.next_column column_end) ColumnsExhausted ∷ [])
adding-checks content name column column_type layer found =
    ap (λ o. first_refusal (unless (is_some o) NoLayer ∷ unless (is_name column) BadName ∷ unless (not (is_some (option_and_then (λ l. column_named l column) o))) ColumnExists
    ∷ unless (option_map_or (λ l. nat_lt l.next_column column_end) o false) ColumnsExhausted ∷ [])) found

pub adding-exists : (content : Content) (name column : List ℕ) (column_type : ColumnType) (layer : LayerContent) → layer_of content name ≡ Some layer → is_name column ≡ true
    → is_some (column_named layer column) ≡ true → first_refusal (checks content (edits.AddColumn name column column_type)) ≡ Some ColumnExists
adding-exists content name column column_type layer found named exists =
    adding-checks content name column column_type layer found
    ∙ ap (λ b. first_refusal (unless b BadName ∷ unless (not (is_some (column_named layer column))) ColumnExists ∷ unless (nat_lt layer.next_column column_end) ColumnsExhausted ∷ [])) named
    ∙ ap (λ b. first_refusal (unless (not b) ColumnExists ∷ unless (nat_lt layer.next_column column_end) ColumnsExhausted ∷ [])) exists

-- the last check decides
adding-room : (content : Content) (name column : List ℕ) (column_type : ColumnType) (layer : LayerContent) → layer_of content name ≡ Some layer → is_name column ≡ true
    → is_some (column_named layer column) ≡ false → (room : Bool) → nat_lt layer.next_column column_end ≡ room
    → first_refusal (checks content (edits.AddColumn name column column_type)) ≡ first_refusal (unless room ColumnsExhausted ∷ [])
adding-room content name column column_type layer found named none room is =
    adding-checks content name column column_type layer found
    ∙ ap (λ b. first_refusal (unless b BadName ∷ unless (not (is_some (column_named layer column))) ColumnExists ∷ unless (nat_lt layer.next_column column_end) ColumnsExhausted ∷ [])) named
    ∙ ap (λ b. first_refusal (unless (not b) ColumnExists ∷ unless (nat_lt layer.next_column column_end) ColumnsExhausted ∷ [])) none
    ∙ ap (λ b. first_refusal (unless b ColumnsExhausted ∷ [])) is

pub adding-exhausted : (content : Content) (name column : List ℕ) (column_type : ColumnType) (layer : LayerContent) → layer_of content name ≡ Some layer → is_name column ≡ true
    → is_some (column_named layer column) ≡ false → column_end ≤ layer.next_column → first_refusal (checks content (edits.AddColumn name column column_type)) ≡ Some ColumnsExhausted
adding-exhausted content name column column_type layer found named none full =
    adding-room content name column column_type layer found named none false (grind (arith, nat_tests, full))

pub adding-passed : (content : Content) (name column : List ℕ) (column_type : ColumnType) (layer : LayerContent) → layer_of content name ≡ Some layer → is_name column ≡ true
    → is_some (column_named layer column) ≡ false → layer.next_column < column_end → first_refusal (checks content (edits.AddColumn name column column_type)) ≡ None
adding-passed content name column column_type layer found named none room =
    adding-room content name column column_type layer found named none true (lt-ltb layer.next_column column_end room)

-- what is known once the place of a new column's layer was found
pub record IsAdding (content : Content) (name column : List ℕ) (column_type : ColumnType) (place : ℕ) : Type 0 where
  pub at : place ≡ place_of content name
  pub passed : first_refusal (checks content (edits.AddColumn name column column_type)) ≡ None
  pub layer : LayerContent
  pub found : layer_of content name ≡ Some layer
  pub free : column_named layer column ≡ None
  pub room : layer.next_column < column_end

pub is-adding : (content : Content) (name column read column_read : List ℕ) (column_type : ColumnType) (place : ℕ) → read ≡ name → column_read ≡ column → place ≡ place_of content read
    → ((t : ColumnType) → first_refusal (checks content (edits.AddColumn read column_read t)) ≡ None) → IsAdding content name column column_type place
is-adding content name column read column_read column_type place same column_same at h =
    let here : first_refusal (checks content (edits.AddColumn name column column_type)) ≡ None =
    ap (λ n. first_refusal (checks content (edits.AddColumn n column column_type))) (sym same)
    ∙ ap (λ n. first_refusal (checks content (edits.AddColumn read n column_type))) (sym column_same) ∙ h column_type in
    let there = there_from_test (layer_of content name) (passed (has_layer content name) NoLayer _ here).0 in
    let first = passed (is_name column) BadName _ (sym (adding-checks content name column column_type there.0 there.1) ∙ here) in
    let second = passed (not (is_some (column_named there.0 column))) ColumnExists _ first.1 in
    let third = passed (nat_lt there.0.next_column column_end) ColumnsExhausted [] second.1 in
    record {
      at = at ∙ ap (place_of content) same;
      passed = here;
      layer = there.0;
      found = there.1;
      free = absent_from_not (column_named there.0 column) second.0;
      room = ltb-true there.0.next_column column_end third.0;
    }

pub adding-fits : (content : Content) (name column : List ℕ) (column_type : ColumnType) (place : ℕ) → IsWellFormed content → IsAdding content name column column_type place
    → IsWellFormed (change_at place (with_last_column column column_type) content)
adding-fits content name column column_type place fine a =
    fits-at content name place (add_column column column_type) a.at (effect_fine content (edits.AddColumn name column column_type) tt fine a.passed)

pub column-added : (content new : Content) (name column : List ℕ) (column_type : ColumnType) (place : ℕ) → IsWellFormed content → IsAdding content name column column_type place
    → new ≡ change_at place (with_last_column column column_type) content → Carries content (edits.AddColumn name column column_type) (Ok (TakeColumn name)) new
column-added content new name column column_type place fine a is =
    Carries-done content new (edits.AddColumn name column column_type) (TakeColumn name) fine a.passed (sym (changed-at content new name place (add_column column column_type) a.at is)) refl

-- ---- and taken off

-- the last column of a layer
pub record LastColumn (content : Content) (name : List ℕ) : Type 0 where
  pub layer : LayerContent
  pub column : Column
  pub found : layer_of content name ≡ Some layer
  pub last : slice_get layer.columns (length layer.columns - 1) ≡ Some column

pub LastColumn-Fits : (content : Content) (name : List ℕ) → Fits content (TakeColumn name) → LastColumn content name
LastColumn-Fits content name fits = let there = column-there content name fits in by there.0 (layer_of content name) refl there.1
  where
    by : (column : Column) (o : Option LayerContent) → layer_of content name ≡ o → option_and_then (λ layer. slice_get layer.columns (length layer.columns - 1)) o ≡ Some column → LastColumn content name
    by column None is h = cc
    by column (Some layer) is h = record { layer = layer; column = column; found = is; last = h }

pub last-there : (content : Content) (name : List ℕ) → Fits content (TakeColumn name) → has_layer content name ≡ true
last-there content name fits = ap is_some (LastColumn-Fits content name fits).found

pub last-some : (content : Content) (name : List ℕ) (place : ℕ) → Fits content (TakeColumn name) → place ≡ place_of content name → IsSomeAnd (layer_at content place) (λ layer. 0 < length layer.columns)
last-some content name place fits at =
    let l = LastColumn-Fits content name fits in
    let below : length l.layer.columns - 1 < length l.layer.columns = slice_get-below l.layer.columns (length l.layer.columns - 1) l.column l.last in
    holds-at content name place l.layer (λ layer. 0 < length layer.columns) at l.found (omega (arith, below))

pub column-taken : (content new : Content) (name : List ℕ) (place : ℕ) (column : Column) → Fits content (TakeColumn name) → place ≡ place_of content name
    → IsSomeAnd (layer_at content place) (λ layer. slice_get layer.columns (length layer.columns - 1) ≡ Some column) → new ≡ change_at place without_last_column content
    → Reverts content (TakeColumn name) (edits.AddColumn name column.name column.column_type) new
column-taken content new name place column fits at taken is =
    let l = LastColumn-Fits content name fits in
    let last : slice_get l.layer.columns (length l.layer.columns - 1) ≡ Some column =
    holds-of content name place l.layer (λ layer. slice_get layer.columns (length layer.columns - 1) ≡ Some column) at l.found taken in
    let there : last_column content name ≡ Some column = ap (option_and_then (λ layer. slice_get layer.columns (length layer.columns - 1))) l.found ∙ last in
    Reverts-described content new (TakeColumn name) (edits.AddColumn name column.name column.column_type) fits (changed-at content new name place without_last_column at is)
    (sym (ap (adding_column name) there))

-- ---- where a column stands

pub spot-passed : (content : Content) (name column : List ℕ) (layer : LayerContent) → layer_of content name ≡ Some layer → is_some (column_named layer column) ≡ true
    → first_refusal (column_checks content name column) ≡ None
spot-passed content name column layer found named =
    ap (λ o. first_refusal (unless (is_some o) NoLayer ∷ unless (is_some (option_and_then (λ l. column_named l column) o)) NoColumn ∷ [])) found
    ∙ ap (λ b. first_refusal (unless b NoColumn ∷ [])) named

pub spot-refused : (content : Content) (name column : List ℕ) (layer : LayerContent) → layer_of content name ≡ Some layer → is_some (column_named layer column) ≡ false
    → first_refusal (column_checks content name column) ≡ Some NoColumn
spot-refused content name column layer found none =
    ap (λ o. first_refusal (unless (is_some o) NoLayer ∷ unless (is_some (option_and_then (λ l. column_named l column) o)) NoColumn ∷ [])) found
    ∙ ap (λ b. first_refusal (unless b NoColumn ∷ [])) none

same-column : (c d : Column) → Some c ≡ Some d → c ≡ d
same-column c d h = cc

-- the column that is seen at the place of a name is the column of the name
pub column-seen : (layer : LayerContent) (name : List ℕ) (place : ℕ) → place ≡ column_place layer name → is_some (column_named layer name) ≡ true
    → (column : Column) × ((column_named layer name ≡ Some column) × (slice_get layer.columns place ≡ Some column))
column-seen layer name place at found =
    let there = there_from_test (column_named layer name) found in
    (there.0, (there.1, ap (slice_get layer.columns) at ∙ column_at_place layer name there.0 there.1))

pub spot-number : (content : Content) (name column : List ℕ) (layer : LayerContent) (place : ℕ) (read : Column) → layer_of content name ≡ Some layer → is_some (column_named layer column) ≡ true
    → place ≡ column_place layer column → slice_get layer.columns place ≡ Some read → IsSomeAnd (column_in content name column) (λ c. c.number ≡ read.number)
spot-number content name column layer place read found named at seen =
    let there = column-seen layer column place at named in
    let is : column_in content name column ≡ Some there.0 = ap (option_and_then (λ l. column_named l column)) found ∙ there.1.0 in
    subst (λ o. IsSomeAnd o (λ c. c.number ≡ read.number)) (sym is) (ap (λ c. c.number) (same-column there.0 read (sym there.1.1 ∙ seen)))

pub spot-place : (content : Content) (name column : List ℕ) (layer : LayerContent) (place : ℕ) → layer_of content name ≡ Some layer → place ≡ column_place layer column
    → IsSomeAnd (layer_of content name) (λ l. place ≡ column_place l column)
spot-place content name column layer place found at = subst (λ o. IsSomeAnd o (λ l. place ≡ column_place l column)) (sym found) at

pub copied-some : (o : Option (Bor Column)) (column : Column) → option_copied o ≡ Some column → IsSome o
copied-some None column h = cc
copied-some (Some c) column h = refl

-- ---- changes of the layer at one place

pub change_at-change_at : (place : ℕ) (content : Content) (f g : LayerContent → LayerContent) → change_at place g (change_at place f content) ≡ change_at place (λ layer. g (f layer)) content
change_at-change_at place [] f g = refl
change_at-change_at zero (e ∷ es) f g = refl
change_at-change_at (suc place) (e ∷ es) f g = ap (λ rest. e ∷ rest) (change_at-change_at place es f g)

-- two changes of the layer of a name, one after the other, as one that does the same to it
pub changed-twice : (content middle new : Content) (name : List ℕ) (place : ℕ) (layer : LayerContent) (f g h : LayerContent → LayerContent) → place ≡ place_of content name
    → layer_of content name ≡ Some layer → middle ≡ change_at place f content → new ≡ change_at place g middle → g (f layer) ≡ h layer → new ≡ change_layer content name h
changed-twice content middle new name place layer f g h at found first second same =
    second ∙ ap (change_at place g) first ∙ change_at-change_at place content f g
    ∙ changed-at content (change_at place (λ l. g (f l)) content) name place (λ l. g (f l)) at refl
    ∙ change_layer-at content name layer (λ l. g (f l)) h found same

-- the layer at the place after a change of it
pub layer-changed : (content middle : Content) (name : List ℕ) (place : ℕ) (layer : LayerContent) (f : LayerContent → LayerContent) → place ≡ place_of content name
    → layer_of content name ≡ Some layer → middle ≡ change_at place f content → layer_at middle place ≡ Some (f layer)
layer-changed content middle name place layer f at found is =
    ap (λ c. layer_at c place) is ∙ there content place ∙ ap (option_map f) (layer-at content name place layer at found)
  where
    there : (c : Content) (n : ℕ) → layer_at (change_at n f c) n ≡ option_map f (layer_at c n)
    there [] zero = refl
    there [] (suc n) = refl
    there (e ∷ es) zero = refl
    there (e ∷ es) (suc n) = there es n

-- ---- a column taken out with its values

-- what is known once a column to be dropped was found
pub record IsDropping (content : Content) (name column : List ℕ) (place column_at number : ℕ) : Type 0 where
  pub at : place ≡ place_of content name
  pub there : ColumnThere content name column
  pub placed : column_at ≡ column_place there.layer column
  pub number_is : there.column.number ≡ number
  pub passed : first_refusal (checks content (edits.DropColumn name column)) ≡ None

is-dropping-here : (content : Content) (name column : List ℕ) (place column_at number : ℕ) → place ≡ place_of content name
    → IsSomeAnd (layer_of content name) (λ l. column_at ≡ column_place l column) → IsSomeAnd (column_in content name column) (λ c. c.number ≡ number)
    → first_refusal (column_checks content name column) ≡ None → IsDropping content name column place column_at number
is-dropping-here content name column place column_at number at placed numbered h =
    let first = passed (has_layer content name) NoLayer _ h in
    let second = passed (is_some (column_in content name column)) NoColumn [] first.1 in
    let t = ColumnThere-column_in content name column second.0 in
    record {
      at = at;
      there = t;
      placed = subst (λ o. IsSomeAnd o (λ l. column_at ≡ column_place l column)) t.found placed;
      number_is = subst (λ o. IsSomeAnd o (λ c. c.number ≡ number)) (column_in-there content name column t) numbered;
      passed = h;
    }

pub is-dropping : (content : Content) (name column read column_read : List ℕ) (place column_at number : ℕ) → read ≡ name → column_read ≡ column → place ≡ place_of content read
    → IsSomeAnd (layer_of content read) (λ l. column_at ≡ column_place l column_read) → IsSomeAnd (column_in content read column_read) (λ c. c.number ≡ number)
    → first_refusal (column_checks content read column_read) ≡ None → IsDropping content name column place column_at number
is-dropping content name column read column_read place column_at number same column_same at placed numbered h =
    subst (λ n. IsDropping content n column place column_at number) same
    (subst (λ n. IsDropping content read n place column_at number) column_same (is-dropping-here content read column_read place column_at number at placed numbered h))

pub dropping-within : (content : Content) (name column : List ℕ) (place column_at number : ℕ) → IsDropping content name column place column_at number → place < length content
dropping-within content name column place column_at number d = place-within content name place (ap is_some d.there.found) d.at

-- the column stands there, also once its values are out
dropping-standing : (content : Content) (name column : List ℕ) (place column_at number : ℕ) (d : IsDropping content name column place column_at number) → slice_get d.there.layer.columns column_at ≡ Some d.there.column
dropping-standing content name column place column_at number d = ap (slice_get d.there.layer.columns) d.placed ∙ column_at_place d.there.layer column d.there.column d.there.named

pub dropping-there : (content bared : Content) (name column : List ℕ) (place column_at number : ℕ) → IsDropping content name column place column_at number
    → bared ≡ change_at place (without_values number) content → IsSomeAnd (layer_at bared place) (λ layer. column_at < length layer.columns)
dropping-there content bared name column place column_at number d out =
    subst (λ o. IsSomeAnd o (λ layer. column_at < length layer.columns)) (sym (layer-changed content bared name place d.there.layer (without_values number) d.at d.there.found out))
    (slice_get-below d.there.layer.columns column_at d.there.column (dropping-standing content name column place column_at number d))

dropping-effect : (content bared new : Content) (name column : List ℕ) (place column_at number : ℕ) → IsDropping content name column place column_at number
    → bared ≡ change_at place (without_values number) content → new ≡ change_at place (without_column column_at) bared → new ≡ effect content (edits.DropColumn name column)
dropping-effect content bared new name column place column_at number d out taken =
    let number_is : number ≡ number_named d.there.layer column = sym d.number_is ∙ sym (ap (λ o. option_map_or (λ c. c.number) o 0) d.there.named) in
    changed-twice content bared new name place d.there.layer (without_values number) (without_column column_at) (drop_column column) d.at d.there.found out taken
    (ap (λ n. without_column n (without_values number d.there.layer)) d.placed ∙ ap (λ n. without_column (column_place d.there.layer column) (without_values n d.there.layer)) number_is)

pub dropping-fits : (content bared : Content) (name column : List ℕ) (place column_at number : ℕ) → IsWellFormed content → IsDropping content name column place column_at number
    → bared ≡ change_at place (without_values number) content → IsWellFormed (change_at place (without_column column_at) bared)
dropping-fits content bared name column place column_at number fine d out =
    subst IsWellFormed (sym (dropping-effect content bared (change_at place (without_column column_at) bared) name column place column_at number d out refl))
    (effect_fine content (edits.DropColumn name column) tt fine d.passed)

pub column-dropped : (content bared new : Content) (name column : List ℕ) (place column_at number : ℕ) (taken : Column) (values : List (ℕ × AttrValue)) → IsWellFormed content
    → IsDropping content name column place column_at number → IsSomeAnd (layer_at content place) (λ layer. values ≡ column_values number layer)
    → bared ≡ change_at place (without_values number) content → IsSomeAnd (layer_at bared place) (λ layer. slice_get layer.columns column_at ≡ Some taken)
    → new ≡ change_at place (without_column column_at) bared → Carries content (edits.DropColumn name column) (Ok (PutColumn name column column_at taken values)) new
column-dropped content bared new name column place column_at number taken values fine d given out stood rest =
    let t = d.there in
    let values_are : values ≡ column_values t.column.number t.layer =
    holds-of content name place t.layer (λ layer. values ≡ column_values number layer) d.at t.found given ∙ ap (λ n. column_values n t.layer) (sym d.number_is) in
    let column_is : taken ≡ t.column = same-column taken t.column
    (sym (subst (λ o. IsSomeAnd o (λ layer. slice_get layer.columns column_at ≡ Some taken)) (layer-changed content bared name place t.layer (without_values number) d.at t.found out) stood)
    ∙ dropping-standing content name column place column_at number d) in
    let the_column_is : the_column content name column ≡ t.column = ap (λ o. option_map_or (λ c. c) o no_column) (column_in-there content name column t) in
    let the_layer_is : the_layer content name ≡ t.layer = ap (λ o. option_map_or (λ l. l) o no_layer) t.found in
    Carries-done content new (edits.DropColumn name column) (PutColumn name column column_at taken values) fine d.passed
    (sym (dropping-effect content bared new name column place column_at number d out rest))
    (ap (λ n. PutColumn name column n taken values) d.placed
    ∙ ap (λ c. PutColumn name column (column_place t.layer column) c values) column_is
    ∙ ap (PutColumn name column (column_place t.layer column) t.column) values_are
    ∙ sym (ap (λ c. dropped_column name column c (the_layer content name)) the_column_is ∙ ap (dropped_column name column t.column) the_layer_is))

-- ---- and put back with its values

-- what fits of a column that was taken out: the layer of the name is another one less that column and its values
pub record ColumnOut (content : Content) (name : List ℕ) (column_at : ℕ) (column : Column) (values : List (ℕ × AttrValue)) : Type 0 where
  pub before : LayerContent
  pub fine : IsLayer before
  pub standing : slice_get before.columns column_at ≡ Some column
  pub found : layer_of content name ≡ Some (without_column column_at (without_values column.number before))
  pub values_are : column_values column.number before ≡ values

-- the parts of the inverse of a dropped column
record IsPut (column_at other_at : ℕ) (column other : Column) (values others : List (ℕ × AttrValue)) : Type 0 where
  pub same_place : column_at ≡ other_at
  pub same_column : column ≡ other
  pub same_values : values ≡ others

pub ColumnOut-Fits : (content : Content) (name column_name : List ℕ) (column_at : ℕ) (column : Column) (values : List (ℕ × AttrValue)) → Fits content (PutColumn name column_name column_at column values)
    → ColumnOut content name column_at column values
ColumnOut-Fits content name column_name column_at column values fits =
    let inverse = PutColumn name column_name column_at column values in
    let old : Content = described content inverse in
    let accepted = Accepted-Fits content inverse fits in
    let first = passed (has_layer old name) NoLayer _ accepted.passed in
    let second = passed (is_some (column_in old name column_name)) NoColumn [] first.1 in
    let t = ColumnThere-column_in old name column_name second.0 in
    let the_column_is : the_column old name column_name ≡ t.column = ap (λ o. option_map_or (λ c. c) o no_column) (column_in-there old name column_name t) in
    let the_layer_is : the_layer old name ≡ t.layer = ap (λ o. option_map_or (λ l. l) o no_layer) t.found in
    let same = put-same (column_place t.layer column_name) t.column (column_values t.column.number t.layer)
    (sym (ap (λ c. dropped_column name column_name c (the_layer old name)) the_column_is ∙ ap (dropped_column name column_name t.column) the_layer_is) ∙ fits.same) in
    let number_is : number_named t.layer column_name ≡ column.number = ap (λ o. option_map_or (λ c. c.number) o 0) t.named ∙ ap (λ c. c.number) same.same_column in
    record {
      before = t.layer;
      fine = IsLayer-layer_of old name t.layer t.found fits.well_formed.layers;
      standing = ap (slice_get t.layer.columns) (sym same.same_place) ∙ column_at_place t.layer column_name t.column t.named ∙ ap (λ c. Some c) same.same_column;
      found =
          ap (λ c. layer_of c name) (sym accepted.effect) ∙ layer_of-change_layer old name (drop_column column_name) ∙ ap (option_map (drop_column column_name)) t.found
          ∙ ap (λ n. Some (without_column n (without_values (number_named t.layer column_name) t.layer))) same.same_place ∙ ap (λ n. Some (without_column column_at (without_values n t.layer))) number_is;
      values_are = ap (λ c. column_values c.number t.layer) (sym same.same_column) ∙ same.same_values;
    }
  where
    put-same : (p : ℕ) (c : Column) (vs : List (ℕ × AttrValue)) → PutColumn name column_name p c vs ≡ PutColumn name column_name column_at column values → IsPut p column_at c column vs values
    put-same p c vs h = record { same_place = cc; same_column = cc; same_values = cc }

pub out-there : (content : Content) (name : List ℕ) (column_at : ℕ) (column : Column) (values : List (ℕ × AttrValue)) → ColumnOut content name column_at column values → has_layer content name ≡ true
out-there content name column_at column values o = ap is_some o.found

module _ (content : Content) (name : List ℕ) (place column_at : ℕ) (column : Column) (values : List (ℕ × AttrValue)) (o : ColumnOut content name column_at column values) (at : place ≡ place_of content name) where
  abbrev bare : LayerContent
  bare = without_values column.number o.before

  abbrev now : LayerContent
  now = without_column column_at bare

  below : column_at < length o.before.columns
  below = slice_get-below o.before.columns column_at column o.standing

  within : column_at ≤ length now.columns
  within = let shorter : length (remove o.before.columns column_at) + 1 ≡ length o.before.columns = length-remove o.before.columns column_at below in omega (arith, shorter, below)

  -- the column put back leaves the values out
  whole : with_column column_at column now ≡ bare
  whole = ap (λ cs. let l : LayerContent = record bare { columns = cs } in l) (insert-remove o.before.columns column_at column o.standing)

  pub out-within : IsSomeAnd (layer_at content place) (λ layer. column_at ≤ length layer.columns)
  out-within = holds-at content name place now (λ layer. column_at ≤ length layer.columns) at o.found within

  pub out-free : IsSomeAnd (layer_at content place) (λ layer. column_named layer column.name ≡ None)
  out-free = holds-at content name place now (λ layer. column_named layer column.name ≡ None) at o.found (name-out o.before column_at column o.fine o.standing)

  pub out-unused : IsSomeAnd (layer_at content place) (λ layer. numbered layer.columns column.number ≡ None)
  out-unused = holds-at content name place now (λ layer. numbered layer.columns column.number ≡ None) at o.found (number-out o.before column_at column o.fine o.standing)

  pub out-fits : IsWellFormed content → IsWellFormed (change_at place (with_column column_at column) content)
  out-fits fine =
      fits-at content name place (with_column column_at column) at
      (IsWellFormed-change_layer-at content name now (with_column column_at column) o.found (subst IsLayer (sym whole) (IsLayer-without_values column.number o.before o.fine)) fine)

  module _ (middle : Content) (put : middle ≡ change_at place (with_column column_at column) content) where
    bare-at : layer_at middle place ≡ Some bare
    bare-at = layer-changed content middle name place now (with_column column_at column) at o.found put ∙ ap (λ l. Some l) whole

    pub bared-there : (taken : List (ℕ × AttrValue)) → taken ≡ values → IsSomeAnd (layer_at middle place) (λ layer. AllByRecursion (λ id. IsSome (feature_of layer id)) (keys_of taken))
    bared-there taken is =
        subst (λ r. IsSomeAnd r (λ layer. AllByRecursion (λ id. IsSome (feature_of layer id)) (keys_of taken))) (sym bare-at)
        (subst (λ vs. AllByRecursion (λ id. IsSome (feature_of bare id)) (keys_of vs)) (o.values_are ∙ sym is) (valued-there column.number o.before))

    pub bared-bare : IsSomeAnd (layer_at middle place) (λ layer. column_values column.number layer ≡ [])
    bared-bare = subst (λ r. IsSomeAnd r (λ layer. column_values column.number layer ≡ [])) (sym bare-at) (values-out column.number o.before o.fine)

    pub bared-standing : IsSomeAnd (layer_at middle place) (λ layer. column_at < length layer.columns)
    bared-standing = subst (λ r. IsSomeAnd r (λ layer. column_at < length layer.columns)) (sym bare-at) below

    -- with its values, it is the layer before
    pub filled : (new : Content) (taken : List (ℕ × AttrValue)) → taken ≡ values → new ≡ change_at place (with_values column.number taken) middle
        → new ≡ change_layer content name (put_column column_at column values)
    filled new taken is given =
        changed-twice content middle new name place now (with_column column_at column) (with_values column.number taken) (put_column column_at column values) at o.found put given
        (ap (λ vs. with_values column.number vs (with_column column_at column now)) is)

    pub filled-fits : (taken : List (ℕ × AttrValue)) → taken ≡ values → IsWellFormed (change_layer content name (put_column column_at column values))
        → IsWellFormed (change_at place (with_values column.number taken) middle)
    filled-fits taken is fine = subst IsWellFormed (sym (filled (change_at place (with_values column.number taken) middle) taken is refl)) fine

    -- without the column again, the content is what it was
    pub emptied : (new : Content) → new ≡ change_at place (without_column column_at) middle → new ≡ content
    emptied new is =
        changed-twice content middle new name place now (with_column column_at column) (without_column column_at) (λ layer. layer) at o.found put is
        (ap (λ cs. let l : LayerContent = record now { columns = cs } in l) (remove-insert now.columns column_at column within))
        ∙ change_layer-same content name

    pub emptied-fits : IsWellFormed content → IsWellFormed (change_at place (without_column column_at) middle)
    emptied-fits fine = subst IsWellFormed (sym (emptied (change_at place (without_column column_at) middle) refl)) fine

    pub standing-is : (taken : Column) → IsSomeAnd (layer_at middle place) (λ layer. slice_get layer.columns column_at ≡ Some taken) → taken ≡ column
    standing-is taken h = same-column taken column (sym (subst (λ r. IsSomeAnd r (λ layer. slice_get layer.columns column_at ≡ Some taken)) bare-at h) ∙ o.standing)
