-- What is carried out under rules is a step.
use Rattle.std.proofs.Common.{◌≡◌, ◌⊎◌, inl, inr, ℕ, Bool, true, false, ◌&&◌, ◌||◌, cond, List, [], ◌∷◌, ◌++◌, map, remove, Option, Some, None, is_some, Ok, Err, Result, bytes_eq, refl, ap, sym, subst, ◌∙◌}
use Rattle.std.specs.Prelude.{if◌then◌else◌}
use Rattle.std.specs.List.{list_all}
use Rattle.std.specs.Option.{option_and_then, option_map, option_map_or}
use Rattle.sf_features.specs.declared.column.Column.{Column}
use Rattle.sf_features.specs.Columns.{named}
use Rattle.sf_layers.specs.Content.{Content, LayerContent, change_layer, column_named, column_place, has_layer, layer_of, place_of}
use Rattle.sf_layers.specs.WellFormed.{IsLayer, IsWellFormed}
use Rattle.sf_layers.proofs.Changes.{IsLayer-layer_of, layer_of-change_layer}
use Rattle.sf_layers.proofs.Columns.{column_at_place}
use Rattle.sf_edits.proofs.ColumnsOut.{name-out}
use Rattle.sf_groups.proofs.ShownLaws.{layer_of-change_layer-other}
use Rattle.sf_groups.specs.Local.{is_of_features}
use Rattle.sf_patches.specs.Merged.{HaveOneOrder}
use Rattle.sf_together.proofs.FrameLaws.{HaveOneOrder-then}
use Rattle.sf_layers.proofs.Places.{layer_of-remove}
use Rattle.sf_steps.specs.declared.answer.Answer.{Answer}
use Rattle.sf_steps.specs.declared.answer.Answer.TheVariants.{Done, Id}
use Rattle.sf_steps.specs.declared.edit.Edit.{Edit}
use Rattle.sf_steps.specs.declared.edit.Edit.TheVariants.{AddLayer, DropLayer, RenameLayer, MoveLayer, AddColumn, DropColumn, AddFeature, DeleteFeature, ReplaceGeometry, InsertVertex, MoveVertex, RemoveVertex, SetValue, ClearValue}
use Rattle.sf_steps.specs.declared.inverse.Inverse.{Inverse}
use Rattle.sf_steps.specs.declared.refusal.Refusal.{Refusal as EditRefusal}
use Rattle.sf_steps.specs.declared.refusal.Refusal.TheVariants as steps
use Rattle.sf_steps.specs.Steps.{drop_column, edit_layer, effect, has_column, step}
use Rattle.sf_steps.specs.Inverses.{Accepts, Refuses, Restores, answer_of}
use Rattle.sf_steps.proofs.Passes.{Accepted-step, step-passed, there_from_test}
use Rattle.sf_patches.specs.declared.halves.Halves.{Halves}
use Rattle.sf_patches.specs.Halves.{after_halves, back_halves}
use Rattle.sf_patches.specs.Patches.{patched}
use Rattle.sf_patches.proofs.HalvesLaws.{halves-take_back}
use Rattle.sf_groups.specs.declared.member.Member.{Member}
use Rattle.sf_groups.specs.Members.{Refused, and_behind, ids_given, together}
use Rattle.sf_together.specs.Plans.{IsPlan}
use Rattle.sf_together.specs.declared.outcome.Refusal.{Refusal as GroupRefusal}
use Rattle.sf_together.specs.declared.outcome.Refusal.TheVariants as groups
use Rattle.sf_together.specs.Outcomes.{IsRefusedAs as IsGroupRefusedAs}
use Rattle.sf_ruled_store.specs.Changes.{OfEdit, OfGroup}
use Rattle.sf_ruled_store.specs.declared.changes.undo.Undo.TheVariants as changes
use Rattle.sf_rules.specs.declared.breaks.Broken.{Broken}
use Rattle.sf_rules.specs.declared.exchanging.NotExchanged.{NotExchanged}
use Rattle.sf_rules.specs.declared.exchanging.NotExchanged.TheVariants as exchanges
use Rattle.sf_rules.specs.declared.rule.Rule.{Rule}
use Rattle.sf_rules.specs.declared.rule.Says.{Says}
use Rattle.sf_rules.specs.declared.rule.Says.TheVariants.{OfLayers, OfValues}
use Rattle.sf_rules.proofs.PlaceLaws.{order-patched}
use Rattle.sf_rules.specs.Exchanging.{IsRefusedUnder}
use Rattle.sf_rules.specs.Rules.{first_broken}
use Rattle.sf_ruled_store.specs.declared.refusal.Refusal.{Refusal}
use Rattle.sf_ruled_store.specs.declared.refusal.Refusal.TheVariants.{ByEdit, ByMember, ColumnRuled, LayerRuled, Memory}
use Rattle.sf_ruled_store.specs.declared.undo.Undo.TheVariants as undos
use Rattle.sf_ruled_store.specs.Outcomes.{IsRefusedAs, as_edit, as_member, by_edit, by_member, by_rules, ruled}
use Rattle.sf_ruled_store.specs.Outcomes.{answer_of as answer_of_ids}
use Rattle.sf_ruled_store.specs.Ruled.{OfChange, Ruled, after_change, edit_led, fits_column, fits_layer, group_led, has_layers_of, has_layers_said, has_named, has_said, ruled_step, rules_after, settled, unless_broken, why_missing, with_renamed}
use Rattle.sf_ruled_store.specs.Undos.{IsEdited, IsGrouped, IsSettled, IsUnseen, alone, changes_geometries, is_renaming, is_seen, sees, sees_said}
use Rattle.sf_ruled_store.proofs.NameLaws.{same-names}
use Rattle.sf_ruled_store.proofs.EditLaws.{column-there, renamed-settled, settled-ok, unseen-rules, unseen-settled}

-- ---- edits that no rule sees

-- an edit that was accepted and leaves all rules settled
pub settled-edited : (old new : Content) (rules : List Rule) (edit : Edit) (inverse : Inverse) → IsSettled (ruled old rules) → rules_after rules (OfEdit edit) ≡ rules → IsSettled (ruled new rules)
    → Accepts old edit inverse new → IsEdited (ruled old rules) edit (answer_of inverse) (undos.Change (changes.Edit inverse)) (ruled new rules)
settled-edited old new rules edit inverse held same now accepts = record {
  led =
      ap (λ r. after_change (ruled old rules) (OfEdit edit) (edit_led r)) accepts.led
      ∙ ap (λ rs. settled (ruled new rs)) same ∙ settled-ok (ruled new rules) now;
  answered = accepts.led;
  back = ap (λ c. ruled c rules) (sym accepts.restores.described_by);
  fits = record {
    can = subst (Restores new inverse) accepts.restores.described_by accepts.restores;
    settled = subst (λ c. IsSettled (ruled c rules)) accepts.restores.described_by held;
  };
}

pub unseen-edited : (old new : Content) (rules : List Rule) (edit : Edit) (inverse : Inverse) → IsWellFormed old → IsSettled (ruled old rules) → IsUnseen rules edit → Accepts old edit inverse new
    → IsEdited (ruled old rules) edit (answer_of inverse) (undos.Change (changes.Edit inverse)) (ruled new rules)
unseen-edited old new rules edit inverse fine held unseen accepts =
    let a = Accepted-step old new edit (answer_of inverse) accepts.led in
    settled-edited old new rules edit inverse held (unseen-rules edit rules unseen) (subst (λ c. IsSettled (ruled c rules)) a.effect (unseen-settled old edit rules fine a.passed held unseen)) accepts

pub edit-refused : (old : Content) (rules : List Rule) (edit : Edit) (refusal : EditRefusal) → Refuses old edit refusal
    → IsRefusedAs (ruled_step (ruled old rules) (OfChange (OfEdit edit))) (by_edit refusal)
edit-refused old rules edit steps.Memory why = tt
edit-refused old rules edit refusal (inl is) = ap (λ r. after_change (ruled old rules) (OfEdit edit) (edit_led r)) is
edit-refused old rules edit refusal (inr memory) = let no : refusal ≡ steps.Memory = memory.0 in absurd cc

-- ---- another name for a layer that rules name

renamed-edited : (old new : Content) (rules : List Rule) (n n' : List ℕ) (inverse : Inverse) → IsSettled (ruled old rules) → Accepts old (RenameLayer n n') inverse new
    → IsEdited (ruled old rules) (RenameLayer n n') (answer_of inverse) (undos.Renamed inverse rules) (ruled new (map (with_renamed n n') rules))
renamed-edited old new rules n n' inverse held accepts =
    let a = Accepted-step old new (RenameLayer n n') (answer_of inverse) accepts.led in
    let now : IsSettled (ruled new (map (with_renamed n n') rules)) =
    subst (λ c. IsSettled (ruled c (map (with_renamed n n') rules))) a.effect (renamed-settled old n n' rules a.passed held) in record {
      led =
          ap (λ r. after_change (ruled old rules) (OfEdit (RenameLayer n n')) (edit_led r)) accepts.led
          ∙ settled-ok (ruled new (map (with_renamed n n') rules)) now;
      answered = accepts.led;
      back = ap (λ c. ruled c rules) (sym accepts.restores.described_by);
      fits = record {
        can = subst (Restores new inverse) accepts.restores.described_by accepts.restores;
        settled = subst (λ c. IsSettled (ruled c rules)) accepts.restores.described_by held;
      };
    }

pub renaming-edited : (old new : Content) (rules after : List Rule) (edit : Edit) (inverse : Inverse) → is_renaming edit ≡ true → after ≡ rules_after rules (OfEdit edit)
    → IsSettled (ruled old rules) → Accepts old edit inverse new → IsEdited (ruled old rules) edit (answer_of inverse) (undos.Renamed inverse rules) (ruled new after)
renaming-edited old new rules after (RenameLayer n n') inverse is renamed held accepts =
    subst (λ rs. IsEdited (ruled old rules) (RenameLayer n n') (answer_of inverse) (undos.Renamed inverse rules) (ruled new rs)) (sym renamed) (renamed-edited old new rules n n' inverse held accepts)
renaming-edited old new rules after edit inverse is renamed held accepts = absurd cc

-- ---- what rules name is not dropped

or_true : (a b : Bool) → a || b ≡ true → (a ≡ true) ⊎ (b ≡ true)
or_true true b h = inl refl
or_true false b h = inr h

and_true : (a b : Bool) → a && b ≡ true → (a ≡ true) × (b ≡ true)
and_true true true h = (refl, refl)
and_true true false h = cc
and_true false b h = cc

and_first : (a b : Bool) → a ≡ false → a && b ≡ false
and_first true b h = cc
and_first false b h = refl

and_second : (a b : Bool) → b ≡ false → a && b ≡ false
and_second true b h = h
and_second false b h = refl

-- a rule that sees an edit, among several of which all is there
record IsSeenBy (content : Content) (edit : Edit) : Type 0 where
  says : Says
  there : has_said content says ≡ true
  seen : sees_said edit says ≡ true

seen-by : (content : Content) (edit : Edit) (rules : List Rule) → is_seen edit rules ≡ true → list_all (has_named content) rules ≡ true → IsSeenBy content edit
seen-by content edit [] seen there = cc
seen-by content edit (rule ∷ rules) seen there =
    let all = and_true (has_named content rule) (list_all (has_named content) rules) there in
    by (or_true (sees edit rule) (is_seen edit rules) seen) all.0 (λ later. seen-by content edit rules later all.1)
  where
    by : (sees edit rule ≡ true) ⊎ (is_seen edit rules ≡ true) → has_named content rule ≡ true → (is_seen edit rules ≡ true → IsSeenBy content edit) → IsSeenBy content edit
    by (inl here) is later = record { says = rule.says; there = is; seen = here }
    by (inr rest) is later = later rest

-- what sees an edit is not there any more, so not all is there
seen-gone : (has : Rule → Bool) (edit : Edit) (rules : List Rule) → ((rule : Rule) → sees edit rule ≡ true → has rule ≡ false) → is_seen edit rules ≡ true → list_all has rules ≡ false
seen-gone has edit [] gone seen = cc
seen-gone has edit (rule ∷ rules) gone seen = by (or_true (sees edit rule) (is_seen edit rules) seen) (λ rest. seen-gone has edit rules gone rest)
  where
    by : (sees edit rule ≡ true) ⊎ (is_seen edit rules ≡ true) → (is_seen edit rules ≡ true → list_all has rules ≡ false) → has rule && list_all has rules ≡ false
    by (inl here) later = and_first (has rule) (list_all has rules) (gone rule here)
    by (inr rest) later = and_second (has rule) (list_all has rules) (later rest)

-- ---- a layer

-- a layer of a rule that sees the edit is that of the edit
layer-there : (content : Content) (edit : Edit) (says : Says) → has_said content says ≡ true → sees_said edit says ≡ true → has_layer content (edit_layer edit) ≡ true
layer-there content edit (OfLayers rule) there seen = at (and_true (has_layer content rule.first) (has_layer content rule.second) there) (or_true (bytes_eq (edit_layer edit) rule.first) (bytes_eq (edit_layer edit) rule.second) (and_true _ _ seen).0)
  where
    at : (has_layer content rule.first ≡ true) × (has_layer content rule.second ≡ true) → (bytes_eq (edit_layer edit) rule.first ≡ true) ⊎ (bytes_eq (edit_layer edit) rule.second ≡ true) → has_layer content (edit_layer edit) ≡ true
    at two (inl is) = subst (λ n. has_layer content n ≡ true) (sym (same-names (edit_layer edit) rule.first is)) two.0
    at two (inr is) = subst (λ n. has_layer content n ≡ true) (sym (same-names (edit_layer edit) rule.second is)) two.1
layer-there content edit (OfValues rule) there seen =
    let c = column-there rule (layer_of content rule.layer) there in
    subst (λ n. has_layer content n ≡ true) (sym (same-names (edit_layer edit) rule.layer (and_true _ _ seen).0)) (ap is_some c.2)

-- where the layer is gone, neither is it there for the rule, nor its column
layer-gone : (content : Content) (edit : Edit) (says : Says) → layer_of content (edit_layer edit) ≡ None → sees_said edit says ≡ true → (has_layers_said content says ≡ false) × (has_said content says ≡ false)
layer-gone content edit (OfLayers rule) none seen = at (or_true (bytes_eq (edit_layer edit) rule.first) (bytes_eq (edit_layer edit) rule.second) (and_true _ _ seen).0)
  where
    gone : (name : List ℕ) → bytes_eq (edit_layer edit) name ≡ true → has_layer content name ≡ false
    gone name is = ap is_some (subst (λ n. layer_of content n ≡ None) (same-names (edit_layer edit) name is) none)

    either : has_layer content rule.first && has_layer content rule.second ≡ false → (has_layers_said content (OfLayers rule) ≡ false) × (has_said content (OfLayers rule) ≡ false)
    either h = (h, h)

    at : (bytes_eq (edit_layer edit) rule.first ≡ true) ⊎ (bytes_eq (edit_layer edit) rule.second ≡ true) → (has_layers_said content (OfLayers rule) ≡ false) × (has_said content (OfLayers rule) ≡ false)
    at (inl is) = either (and_first (has_layer content rule.first) (has_layer content rule.second) (gone rule.first is))
    at (inr is) = either (and_second (has_layer content rule.first) (has_layer content rule.second) (gone rule.second is))
layer-gone content edit (OfValues rule) none seen =
    let gone : layer_of content rule.layer ≡ None = subst (λ n. layer_of content n ≡ None) (same-names (edit_layer edit) rule.layer (and_true _ _ seen).0) none in
    (ap is_some gone, ap (fits_layer rule) gone)

pub dropped-refused : (old : Content) (rules : List Rule) (name : List ℕ) → IsWellFormed old → IsSettled (ruled old rules) → is_seen (DropLayer name) rules ≡ true
    → ruled_step (ruled old rules) (OfChange (OfEdit (DropLayer name))) ≡ Err LayerRuled
dropped-refused old rules name fine held seen =
    let by = seen-by old (DropLayer name) rules seen held.there in
    let there = layer-there old (DropLayer name) by.says by.there by.seen in
    let found = there_from_test (layer_of old name) there in
    let after : Content = remove old (place_of old name) in
    let none = layer_of-remove old name found.0 fine.distinct found.1 in
    let failed : Bool → Result Ruled Refusal = λ b. Err (if b then ColumnRuled else LayerRuled) in
    ap (λ r. after_change (ruled old rules) (OfEdit (DropLayer name)) (edit_led r)) (step-passed old (DropLayer name) (passes (has_layer old name) there))
    ∙ ap (λ b. if b then unless_broken (ruled after rules) (first_broken after rules) else failed (list_all (has_layers_of after) rules))
    (seen-gone (has_named after) (DropLayer name) rules (λ rule is. (layer-gone after (DropLayer name) rule.says none is).1) seen)
    ∙ ap failed (seen-gone (has_layers_of after) (DropLayer name) rules (λ rule is. (layer-gone after (DropLayer name) rule.says none is).0) seen)
  where
    passes : (t : Bool) → t ≡ true → Rattle.sf_steps.specs.Steps.first_refusal (Rattle.sf_steps.specs.Steps.unless t steps.NoLayer ∷ []) ≡ None
    passes true is = refl
    passes false is = cc

-- ---- a column

-- the column that an edit drops is that of the rule that sees it
column-seen : (content : Content) (name column : List ℕ) (says : Says) → has_said content says ≡ true → sees_said (DropColumn name column) says ≡ true
    → (a : LayerContent) × (c : Column) × (layer_of content name ≡ Some a) × (column_named a column ≡ Some c)
column-seen content name column (OfLayers rule) there seen = let wrong : false ≡ true = (and_true (bytes_eq name rule.first || bytes_eq name rule.second) false seen).1 in cc
column-seen content name column (OfValues rule) there seen =
    let both = and_true (bytes_eq name rule.layer) _ seen in
    let same : rule.column ≡ column = same-names rule.column column (or_left (bytes_eq rule.column column) both.1) in
    subst (λ n. (a : LayerContent) × (c : Column) × (layer_of content n ≡ Some a) × (column_named a column ≡ Some c)) (sym (same-names name rule.layer both.0))
    (subst (λ m. (a : LayerContent) × (c : Column) × (layer_of content rule.layer ≡ Some a) × (column_named a m ≡ Some c)) same (column-there rule (layer_of content rule.layer) there))
  where
    or_left : (b : Bool) → b || false ≡ true → b ≡ true
    or_left true h = refl
    or_left false h = cc

-- where it is gone from its layer, it is not there for the rule
column-gone : (content : Content) (name column : List ℕ) (a : LayerContent) (says : Says) → layer_of content name ≡ Some a → column_named a column ≡ None → sees_said (DropColumn name column) says ≡ true
    → has_said content says ≡ false
column-gone content name column a (OfLayers rule) found none seen = let wrong : false ≡ true = (and_true (bytes_eq name rule.first || bytes_eq name rule.second) false seen).1 in cc
column-gone content name column a (OfValues rule) found none seen =
    let both = and_true (bytes_eq name rule.layer) _ seen in
    ap (λ n. fits_layer rule (layer_of content n)) (sym (same-names name rule.layer both.0))
    ∙ ap (fits_layer rule) found
    ∙ ap (λ n. fits_column rule.demand (column_named a n)) (same-names rule.column column (or_left (bytes_eq rule.column column) both.1))
    ∙ ap (fits_column rule.demand) none
  where
    or_left : (b : Bool) → b || false ≡ true → b ≡ true
    or_left true h = refl
    or_left false h = cc

-- layers are there by their names
layers-by : (old new : Content) → ((name : List ℕ) → has_layer new name ≡ has_layer old name) → (says : Says) → has_said old says ≡ true → has_layers_said new says ≡ true
layers-by old new same (OfLayers rule) there = ap (λ b. b && has_layer new rule.second) (same rule.first) ∙ ap (λ b. has_layer old rule.first && b) (same rule.second) ∙ there
layers-by old new same (OfValues rule) there = let c = column-there rule (layer_of old rule.layer) there in same rule.layer ∙ ap is_some c.2

all-layers-by : (old new : Content) → ((name : List ℕ) → has_layer new name ≡ has_layer old name) → (rules : List Rule) → list_all (has_named old) rules ≡ true → list_all (has_layers_of new) rules ≡ true
all-layers-by old new same [] there = refl
all-layers-by old new same (rule ∷ rules) there =
    let all = and_true (has_named old rule) (list_all (has_named old) rules) there in
    ap (λ b. b && list_all (has_layers_of new) rules) (layers-by old new same rule.says all.0) ∙ all-layers-by old new same rules all.1

has-changed : (content : Content) (n : List ℕ) (f : LayerContent → LayerContent) (name : List ℕ) → has_layer (change_layer content n f) name ≡ has_layer content name
has-changed content n f name = by (bytes_eq n name) refl
  where
    some : (o : Option LayerContent) → is_some (option_map f o) ≡ is_some o
    some None = refl
    some (Some layer) = refl

    by : (t : Bool) → bytes_eq n name ≡ t → has_layer (change_layer content n f) name ≡ has_layer content name
    by false is = ap is_some (layer_of-change_layer-other content n name f is)
    by true is =
        ap (λ m. has_layer (change_layer content m f) name) (same-names n name is) ∙ ap is_some (layer_of-change_layer content name f) ∙ some (layer_of content name)

-- the name of a column that was taken out of its layer is free
column-out : (layer : LayerContent) (name : List ℕ) (column : Column) → IsLayer layer → column_named layer name ≡ Some column → column_named (drop_column name layer) name ≡ None
column-out layer name column fine found =
    let called : column.name ≡ name = sym (same-names name column.name (named-so layer.columns name column found)) in
    ap (named (remove layer.columns (column_place layer name))) (sym called) ∙ name-out layer (column_place layer name) column fine (column_at_place layer name column found)
  where
    named-so : (cs : List Column) (n : List ℕ) (c : Column) → named cs n ≡ Some c → bytes_eq n c.name ≡ true
    named-so [] n c h = cc
    named-so (d ∷ cs) n c h = by (bytes_eq n d.name) refl h (named-so cs n c)
      where
        by : (t : Bool) → bytes_eq n d.name ≡ t → cond t (Some d) (named cs n) ≡ Some c → (named cs n ≡ Some c → bytes_eq n c.name ≡ true) → bytes_eq n c.name ≡ true
        by true is g later = let same : d ≡ c = cc in ap (λ (x : Column). bytes_eq n x.name) (sym same) ∙ is
        by false is g later = later g

pub column-refused : (old : Content) (rules : List Rule) (name column : List ℕ) → IsWellFormed old → IsSettled (ruled old rules) → is_seen (DropColumn name column) rules ≡ true
    → ruled_step (ruled old rules) (OfChange (OfEdit (DropColumn name column))) ≡ Err ColumnRuled
column-refused old rules name column fine held seen =
    let by = seen-by old (DropColumn name column) rules seen held.there in
    let c = column-seen old name column by.says by.there by.seen in
    let after : Content = change_layer old name (drop_column column) in
    let found : layer_of after name ≡ Some (drop_column column c.0) = layer_of-change_layer old name (drop_column column) ∙ ap (option_map (drop_column column)) c.2 in
    let none = column-out c.0 column c.1 (IsLayer-layer_of old name c.0 c.2 fine.layers) c.3 in
    let failed : Bool → Result Ruled Refusal = λ b. Err (if b then ColumnRuled else LayerRuled) in
    ap (λ r. after_change (ruled old rules) (OfEdit (DropColumn name column)) (edit_led r))
    (step-passed old (DropColumn name column)
    (passes (has_layer old name) (has_column old name column) (ap is_some c.2) (ap (λ o. is_some (option_and_then (λ (l : LayerContent). column_named l column) o)) c.2 ∙ ap is_some c.3)))
    ∙ ap (λ b. if b then unless_broken (ruled after rules) (first_broken after rules) else failed (list_all (has_layers_of after) rules))
    (seen-gone (has_named after) (DropColumn name column) rules (λ rule is. column-gone after name column (drop_column column c.0) rule.says found none is) seen)
    ∙ ap failed (all-layers-by old after (λ n. has-changed old name (drop_column column) n) rules held.there)
  where
    passes : (t u : Bool) → t ≡ true → u ≡ true
        → Rattle.sf_steps.specs.Steps.first_refusal (Rattle.sf_steps.specs.Steps.unless t steps.NoLayer ∷ Rattle.sf_steps.specs.Steps.unless u steps.NoColumn ∷ []) ≡ None
    passes true true is js = refl
    passes true false is js = cc
    passes false u is js = cc

-- ---- what no rule can see

none-sees : (edit : Edit) (rules : List Rule) → ((says : Says) → sees_said edit says ≡ false) → is_seen edit rules ≡ false
none-sees edit [] none = refl
none-sees edit (rule ∷ rules) none = ap (λ b. b || is_seen edit rules) (none rule.says) ∙ none-sees edit rules none

-- an edit that is of no feature, drops nothing and renames nothing
pub not-seen : (edit : Edit) (rules : List Rule) → is_of_features edit ≡ false → ((name : List ℕ) → edit ≡ DropLayer name → ⊥) → ((name column : List ℕ) → edit ≡ DropColumn name column → ⊥)
    → ((name new_name : List ℕ) → edit ≡ RenameLayer name new_name → ⊥) → is_seen edit rules ≡ false
not-seen (AddLayer name kind) rules of layer column other = none-sees (AddLayer name kind) rules none
  where
    none : (says : Says) → sees_said (AddLayer name kind) says ≡ false
    none (OfLayers rule) = and_second (bytes_eq name rule.first || bytes_eq name rule.second) false refl
    none (OfValues rule) = and_second (bytes_eq name rule.layer) false refl
not-seen (DropLayer name) rules of layer column other = absurd (layer name refl)
not-seen (RenameLayer name new_name) rules of layer column other = absurd (other name new_name refl)
not-seen (MoveLayer name place) rules of layer column other = none-sees (MoveLayer name place) rules none
  where
    none : (says : Says) → sees_said (MoveLayer name place) says ≡ false
    none (OfLayers rule) = and_second (bytes_eq name rule.first || bytes_eq name rule.second) false refl
    none (OfValues rule) = and_second (bytes_eq name rule.layer) false refl
not-seen (AddColumn name added column_type) rules of layer column other = none-sees (AddColumn name added column_type) rules none
  where
    none : (says : Says) → sees_said (AddColumn name added column_type) says ≡ false
    none (OfLayers rule) = and_second (bytes_eq name rule.first || bytes_eq name rule.second) false refl
    none (OfValues rule) = and_second (bytes_eq name rule.layer) false refl
not-seen (DropColumn name dropped) rules of layer column other = absurd (column name dropped refl)
not-seen (AddFeature name geometry) rules of layer column other = cc
not-seen (DeleteFeature name id) rules of layer column other = cc
not-seen (ReplaceGeometry name id geometry) rules of layer column other = cc
not-seen (InsertVertex name id part ring index point) rules of layer column other = cc
not-seen (MoveVertex name id part ring index point) rules of layer column other = cc
not-seen (RemoveVertex name id part ring index) rules of layer column other = cc
not-seen (SetValue name id set value) rules of layer column other = cc
not-seen (ClearValue name id cleared) rules of layer column other = cc

-- ---- groups

-- whether a layer is there with columns that pass a test
abbrev has_columns_that : (List Column → Bool) → Option LayerContent → Bool
has_columns_that test layer = option_map_or (λ (l : LayerContent). test l.columns) layer false

-- all that a rule names is there in a content with the same layers and columns
there-by-order : (c d : Content) (name : List ℕ) (test : List Column → Bool) → HaveOneOrder c d
    → (has_layer c name ≡ has_layer d name) × (has_columns_that test (layer_of c name) ≡ has_columns_that test (layer_of d name))
there-by-order [] [] name test h = (refl, refl)
there-by-order [] (y ∷ d) name test h = absurd h
there-by-order (x ∷ c) [] name test h = absurd h
there-by-order (x ∷ c) (y ∷ d) name test h = by (bytes_eq name y.0) (ap (bytes_eq name) h.0) (there-by-order c d name test h.2)
  where
    Same : Option LayerContent → Option LayerContent → Type 0
    Same o p = (is_some o ≡ is_some p) × (has_columns_that test o ≡ has_columns_that test p)

    by : (t : Bool) → bytes_eq name x.0 ≡ t → Same (layer_of c name) (layer_of d name) → Same (cond (bytes_eq name x.0) (Some x.1) (layer_of c name)) (cond t (Some y.1) (layer_of d name))
    by true is rest =
        subst (λ t. Same (cond t (Some x.1) (layer_of c name)) (Some y.1)) (sym is) (refl, ap test h.1.2)
    by false is rest = subst (λ t. Same (cond t (Some x.1) (layer_of c name)) (layer_of d name)) (sym is) rest

said-same : (old new : Content) (says : Says) → HaveOneOrder new old → has_said new says ≡ has_said old says
said-same old new (OfLayers rule) same =
    ap (λ b. b && has_layer new rule.second) (there-by-order new old rule.first (λ columns. true) same).0 ∙ ap (λ b. has_layer old rule.first && b) (there-by-order new old rule.second (λ columns. true) same).0
said-same old new (OfValues rule) same = (there-by-order new old rule.layer (λ columns. fits_column rule.demand (named columns rule.column)) same).1

pub there-same : (old new : Content) (rules : List Rule) → HaveOneOrder new old → list_all (has_named new) rules ≡ list_all (has_named old) rules
there-same old new [] same = refl
there-same old new (rule ∷ rules) same =
    ap (λ b. b && list_all (has_named new) rules) (said-same old new rule.says same) ∙ ap (λ b. has_named old rule && b) (there-same old new rules same)

order-halves : (old : Content) (halves : Halves) → HaveOneOrder (after_halves old halves) old
order-halves old halves =
    HaveOneOrder-then (after_halves old halves) (patched old halves.growing) old (order-patched (patched old halves.growing) halves.removing) (order-patched old halves.growing)

pub group-grouped : (old : Content) (rules : List Rule) (members : List Member) (halves : Halves) (ids : List ℕ) → IsPlan old members halves ids → IsSettled (ruled old rules)
    → first_broken (after_halves old halves) rules ≡ None
    → IsGrouped (ruled old rules) members ids (undos.Change (changes.Group (back_halves old halves))) (ruled (after_halves old halves) rules)
group-grouped old rules members halves ids plan held unbroken =
    let new : Content = after_halves old halves in
    let now : IsSettled (ruled new rules) = record { named = held.named; there = there-same old new rules (order-halves old halves) ∙ held.there; held = unbroken } in
    let back = halves-take_back old halves plan.fits in record {
      led = ap (λ r. after_change (ruled old rules) (OfGroup members) (group_led r)) plan.led ∙ settled-ok (ruled new rules) now;
      gave = plan.led;
      back = ap (λ c. ruled c rules) back.back;
      fits = record {
        can = back.fit;
        settled = subst (λ c. IsSettled (ruled c rules)) (sym back.back) held;
      };
    }

pub group-refused : (old : Content) (rules : List Rule) (members : List Member) (refusal : GroupRefusal) → IsGroupRefusedAs old members refusal
    → IsRefusedAs (ruled_step (ruled old rules) (OfChange (OfGroup members))) (by_member refusal)
group-refused old rules members (groups.Member number refusal) why = ap (λ r. after_change (ruled old rules) (OfGroup members) (group_led r)) why
group-refused old rules members groups.Memory why = tt

pub rules-refused : (old : Content) (rules : List Rule) (members : List Member) (halves : Halves) (ids : List ℕ) (refusal : NotExchanged) → IsPlan old members halves ids → IsSettled (ruled old rules)
    → IsRefusedUnder (after_halves old halves) rules refusal → IsRefusedAs (ruled_step (ruled old rules) (OfChange (OfGroup members))) (by_rules refusal)
rules-refused old rules members halves ids (exchanges.Broken broken) plan held why =
    let new : Content = after_halves old halves in
    let failed : Result Ruled Refusal = Err (why_missing new rules) in
    ap (λ r. after_change (ruled old rules) (OfGroup members) (group_led r)) plan.led
    ∙ ap (λ b. if b then unless_broken (ruled new rules) (first_broken new rules) else failed) (there-same old new rules (order-halves old halves) ∙ held.there)
    ∙ ap (unless_broken (ruled new rules)) why
rules-refused old rules members halves ids exchanges.Memory plan held why = tt

-- ---- an edit as the only one of a group

kept-rules : (edit : Edit) (rules : List Rule) → is_of_features edit ≡ true → rules_after rules (OfEdit edit) ≡ rules
kept-rules (AddFeature name geometry) rules h = refl
kept-rules (DeleteFeature name id) rules h = refl
kept-rules (ReplaceGeometry name id geometry) rules h = refl
kept-rules (InsertVertex name id part ring index point) rules h = refl
kept-rules (MoveVertex name id part ring index point) rules h = refl
kept-rules (RemoveVertex name id part ring index) rules h = refl
kept-rules (RenameLayer name new_name) rules h = cc
kept-rules (AddLayer name kind) rules h = refl
kept-rules (DropLayer name) rules h = refl
kept-rules (MoveLayer name place) rules h = refl
kept-rules (AddColumn name column column_type) rules h = refl
kept-rules (DropColumn name column) rules h = refl
kept-rules (SetValue name id column value) rules h = refl
kept-rules (ClearValue name id column) rules h = refl

-- the edit's own step, by the group's
edit-alone : (old new : Content) (edit : Edit) (ids : List ℕ) → together old (alone edit) ≡ Ok (new, ids) → step old edit ≡ Ok (new, answer_of_ids ids)
edit-alone old new edit ids h = by (step old edit) h
  where
    given-back : (answer : Answer) → answer_of_ids (ids_given answer ++ []) ≡ answer
    given-back Done = refl
    given-back (Id id) = refl

    by : (r : Result (Content × Answer) EditRefusal) → and_behind 1 r (λ next. Ok (next, [])) ≡ Ok (new, ids) → r ≡ Ok (new, answer_of_ids ids)
    by (Ok done) g =
        let both : ◌≡◌ {A = Content × List ℕ} (done.0, ids_given done.1 ++ []) (new, ids) = cc in
        let given : answer_of_ids ids ≡ done.1 = ap (λ (p : Content × List ℕ). answer_of_ids p.1) (sym both) ∙ given-back done.1 in
        ap (λ c. Ok (c, done.1)) (ap (λ (p : Content × List ℕ). p.0) both) ∙ ap (λ a. Ok (new, a)) (sym given)
    by (Err refusal) g = cc

pub seen-edited : (old new : Content) (rules : List Rule) (edit : Edit) (ids : List ℕ) (undo : Rattle.sf_ruled_store.specs.declared.undo.Undo.Undo) → is_of_features edit ≡ true
    → IsGrouped (ruled old rules) (alone edit) ids undo (ruled new rules) → IsEdited (ruled old rules) edit (answer_of_ids ids) undo (ruled new rules)
seen-edited old new rules edit ids undo seen grouped =
    let mine = edit-alone old new edit ids grouped.gave in record {
      led =
          ap (λ r. after_change (ruled old rules) (OfEdit edit) (edit_led r)) mine
          ∙ ap (λ rs. settled (ruled new rs)) (kept-rules edit rules seen)
          ∙ sym (ap (λ r. after_change (ruled old rules) (OfGroup (alone edit)) (group_led r)) grouped.gave) ∙ grouped.led;
      answered = mine;
      back = grouped.back;
      fits = grouped.fits;
    }

-- rules refuse no member
settled-refusal : (r : Ruled) (refusal : Refusal) → IsRefusedAs (settled r) refusal → IsRefusedAs (settled r) (as_edit refusal)
settled-refusal r (ByMember number refusal) h = by (list_all (has_named r.content) r.rules) h
  where
    why : (t : Bool) → ◌≡◌ {A = Result Ruled Refusal} (Err (if t then ColumnRuled else LayerRuled)) (Err (ByMember number refusal)) → ⊥
    why true g = cc
    why false g = cc

    at : (o : Option Broken) → unless_broken r o ≡ Err (ByMember number refusal) → IsRefusedAs (settled r) (ByEdit refusal)
    at None g = cc
    at (Some broken) g = cc

    by : (t : Bool) → (if t then unless_broken r (first_broken r.content r.rules) else Err (why_missing r.content r.rules)) ≡ Err (ByMember number refusal) → IsRefusedAs (settled r) (ByEdit refusal)
    by true g = at (first_broken r.content r.rules) g
    by false g = absurd (why (list_all (has_layers_of r.content) r.rules) g)
settled-refusal r refusal h = h

alone-refused : (number : ℕ) (e : EditRefusal) (refusal : Refusal) → IsRefusedAs (Err (ByMember number e)) refusal → IsRefusedAs (Err (ByEdit e)) (as_edit refusal)
alone-refused number e Memory h = tt
alone-refused number e (ByMember n f) h = let same : e ≡ f = cc in ap (λ x. Err (ByEdit x)) same
alone-refused number e refusal h = cc

pub seen-refused : (old : Content) (rules : List Rule) (edit : Edit) (refusal : Refusal) → is_of_features edit ≡ true
    → IsRefusedAs (ruled_step (ruled old rules) (OfChange (OfGroup (alone edit)))) refusal
    → IsRefusedAs (ruled_step (ruled old rules) (OfChange (OfEdit edit))) (as_edit refusal)
seen-refused old rules edit refusal seen h = by (step old edit) h
  where
    by : (r : Result (Content × Answer) EditRefusal) → IsRefusedAs (after_change (ruled old rules) (OfGroup (alone edit)) (group_led (and_behind 1 r (λ next. Ok (next, []))))) refusal
        → IsRefusedAs (after_change (ruled old rules) (OfEdit edit) (edit_led r)) (as_edit refusal)
    by (Ok done) g =
        subst (λ rs. IsRefusedAs (settled (ruled done.0 rs)) (as_edit refusal)) (sym (kept-rules edit rules seen)) (settled-refusal (ruled done.0 rules) refusal g)
    by (Err e) g = alone-refused 1 e refusal g

-- ---- a group whose only edit no rule sees

no-more : (given : Answer) → ids_given given ++ [] ≡ ids_given given
no-more Done = refl
no-more (Id id) = refl

alone-led : (old new : Content) (edit : Edit) (answer : Answer) → step old edit ≡ Ok (new, answer) → together old (alone edit) ≡ Ok (new, ids_given answer)
alone-led old new edit answer is =
    let led : (List ℕ) → Result (Content × List ℕ) Refused = λ ids. Ok (new, ids) in
    ap (λ r. and_behind 1 r (λ next. Ok (next, []))) is ∙ ap led (no-more answer)

pub alone-grouped : (old new : Content) (rules : List Rule) (edit : Edit) (answer : Answer) (undo : Rattle.sf_ruled_store.specs.declared.undo.Undo.Undo) → IsUnseen rules edit
    → IsEdited (ruled old rules) edit answer undo (ruled new rules) → IsGrouped (ruled old rules) (alone edit) (ids_given answer) undo (ruled new rules)
alone-grouped old new rules edit answer undo unseen edited =
    let gave = alone-led old new edit answer edited.answered in record {
      led =
          ap (λ r. after_change (ruled old rules) (OfGroup (alone edit)) (group_led r)) gave
          ∙ sym (ap (λ rs. settled (ruled new rs)) (unseen-rules edit rules unseen))
          ∙ sym (ap (λ r. after_change (ruled old rules) (OfEdit edit) (edit_led r)) edited.answered) ∙ edited.led;
      gave = gave;
      back = edited.back;
      fits = edited.fits;
    }

-- rules refuse no edit either
settled-member : (r : Ruled) (refusal : Refusal) → IsRefusedAs (settled r) refusal → IsRefusedAs (settled r) (as_member refusal)
settled-member r (ByEdit refusal) h = by (list_all (has_named r.content) r.rules) h
  where
    why : (t : Bool) → ◌≡◌ {A = Result Ruled Refusal} (Err (if t then ColumnRuled else LayerRuled)) (Err (ByEdit refusal)) → ⊥
    why true g = cc
    why false g = cc

    at : (o : Option Broken) → unless_broken r o ≡ Err (ByEdit refusal) → IsRefusedAs (settled r) (ByMember 1 refusal)
    at None g = cc
    at (Some broken) g = cc

    by : (t : Bool) → (if t then unless_broken r (first_broken r.content r.rules) else Err (why_missing r.content r.rules)) ≡ Err (ByEdit refusal) → IsRefusedAs (settled r) (ByMember 1 refusal)
    by true g = at (first_broken r.content r.rules) g
    by false g = absurd (why (list_all (has_layers_of r.content) r.rules) g)
settled-member r refusal h = h

only-refused : (e : EditRefusal) (refusal : Refusal) → IsRefusedAs (Err (ByEdit e)) refusal → IsRefusedAs (Err (ByMember 1 e)) (as_member refusal)
only-refused e Memory h = tt
only-refused e (ByEdit f) h = let same : e ≡ f = cc in ap (λ x. Err (ByMember 1 x)) same
only-refused e refusal h = cc

pub unseen-refused : (old : Content) (rules : List Rule) (edit : Edit) (refusal : Refusal) → IsUnseen rules edit
    → IsRefusedAs (ruled_step (ruled old rules) (OfChange (OfEdit edit))) refusal
    → IsRefusedAs (ruled_step (ruled old rules) (OfChange (OfGroup (alone edit)))) (as_member refusal)
unseen-refused old rules edit refusal unseen h = by (step old edit) h
  where
    by : (r : Result (Content × Answer) EditRefusal) → IsRefusedAs (after_change (ruled old rules) (OfEdit edit) (edit_led r)) refusal
        → IsRefusedAs (after_change (ruled old rules) (OfGroup (alone edit)) (group_led (and_behind 1 r (λ next. Ok (next, []))))) (as_member refusal)
    by (Ok done) g =
        settled-member (ruled done.0 rules) refusal (subst (λ rs. IsRefusedAs (settled (ruled done.0 rs)) refusal) (unseen-rules edit rules unseen) g)
    by (Err e) g = only-refused e refusal g
