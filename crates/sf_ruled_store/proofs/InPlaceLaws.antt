-- An edit that was carried out in place changed one feature, which alone may break rules; it is taken back without memory.
use Rattle.std.proofs.Common.{◌≡◌, ◌∙◌, ◌+◌, ℕ, Bool, true, false, not, ◌&&◌, ◌||◌, List, [], ◌∷◌, Option, None, Some, is_some, IsTrue, Err, Ok, Result, nat_eq, bytes_eq, option_and_then, option_map, refl, ap, sym, subst, arith}
use Rattle.std.specs.Prelude.{if◌then◌else◌, IfErr, IfOk, OnOk}
use Rattle.std.specs.List.{AllByRecursion, list_all, list_any}
use Rattle.sf_features.specs.declared.attr_value.AttrValue.{AttrValue}
use Rattle.sf_features.specs.Features.{FeatureContent, plain_feature, with_value}
use Rattle.sf_layers.specs.Content.{Content, LayerContent, change_layer, feature_in, feature_of, layer_of}
use Rattle.sf_layers.specs.WellFormed.{IsWellFormed}
use Rattle.sf_layers.proofs.Changes.{layer_of-change_layer}
use Rattle.sf_groups.proofs.ShownLaws.{layer_of-change_layer-other, lookup-change_value, nat_eq-turned}
use Rattle.sf_patches.specs.Merged.{HaveOneHead, HaveOneOrder}
use Rattle.sf_patches.proofs.MergedLaws.{lookup-insert_entry-other}
use Rattle.sf_together.proofs.FrameLaws.{HaveOneOrder-same}
use Rattle.sf_steps.specs.declared.edit.Edit.{Edit}
use Rattle.sf_steps.specs.declared.edit.Edit.TheVariants.{AddFeature, SetValue}
use Rattle.sf_steps.specs.declared.inverse.Inverse.{Inverse}
use Rattle.sf_steps.specs.declared.inverse.Inverse.TheVariants.{PutValue, TakeFeature}
use Rattle.sf_steps.specs.Inverses.{Accepts, Fits, Restores, answer_of, described, frees_only, inverse_of, setting, taken_back, value_under}
use Rattle.sf_steps.specs.Steps.{checks, edit_layer, effect, first_refusal, next_id_of, number_in}
use Rattle.sf_steps.proofs.Passes.{Accepted-step}
use Rattle.sf_ruled_store.specs.Changes.{OfEdit}
use Rattle.sf_ruled_store.specs.declared.changes.undo.Undo.TheVariants as changes
use Rattle.sf_rules.specs.declared.rule.Rule.{Rule}
use Rattle.sf_rules.specs.declared.rule.Says.{Says}
use Rattle.sf_rules.specs.declared.rule.Says.TheVariants.{OfLayers, OfValues}
use Rattle.sf_rules.specs.Rules.{break_said, broken_from, first_broken}
use Rattle.sf_rules.specs.Underway.{DiffersAt, HeldBefore, HeldSaid}
use Rattle.sf_rules.proofs.UnderwayLaws.{held-at}
use Rattle.sf_ruled_store.specs.declared.edits.Edited.{Edited}
use Rattle.sf_ruled_store.specs.declared.refusal.Refusal.{Refusal}
use Rattle.sf_ruled_store.specs.declared.undo.Undo.TheVariants as undos
use Rattle.sf_ruled_store.specs.InPlace.{WasPut, is_in_place, is_seen_between, puts_only, sees_between}
use Rattle.sf_ruled_store.specs.Outcomes.{IsRefusedAs, ruled}
use Rattle.sf_ruled_store.specs.Ruled.{OfChange, Ruled, after_change, edit_led, has_named, has_said, ruled_step, rules_after, settled, unless_broken, why_missing}
use Rattle.sf_ruled_store.specs.Undos.{IsEdited, IsSettled}
use Rattle.sf_ruled_store.proofs.NameLaws.{same-names}
use Rattle.sf_ruled_store.proofs.EditLaws.{layers-unseen}
use Rattle.sf_ruled_store.proofs.CallLaws.{settled-edited, there-same}

and_true : (a b : Bool) → a && b ≡ true → (a ≡ true) × (b ≡ true)
and_true true true h = (refl, refl)
and_true true false h = cc
and_true false b h = cc

or_false : (a b : Bool) → a || b ≡ false → (a ≡ false) × (b ≡ false)
or_false true b h = cc
or_false false b h = (refl, h)

not_back : (b : Bool) → not b ≡ true → b ≡ false
not_back true h = cc
not_back false h = refl

-- ---- one feature was changed

order-kept : (content : Content) (name : List ℕ) (f : LayerContent → LayerContent) → ((layer : LayerContent) → HaveOneHead layer (f layer)) → HaveOneOrder content (change_layer content name f)
order-kept [] name f heads = tt
order-kept (e ∷ es) name f heads = by (order-kept es name f heads) (bytes_eq name e.0)
  where
    by : HaveOneOrder es (change_layer es name f) → (b : Bool) → HaveOneOrder (e ∷ es) (if b then (e.0, f e.1) ∷ es else e ∷ change_layer es name f)
    by later true = (refl, heads e.1, HaveOneOrder-same es)
    by later false = (refl, (refl, refl, refl), later)

features-kept : (content : Content) (name : List ℕ) (f : LayerContent → LayerContent) (id : ℕ)
    → ((layer : LayerContent) → layer_of content name ≡ Some layer → (j : ℕ) → nat_eq id j ≡ false → feature_of (f layer) j ≡ feature_of layer j)
    → (other : List ℕ) (j : ℕ) → bytes_eq name other && nat_eq id j ≡ false → feature_in (change_layer content name f) other j ≡ feature_in content other j
features-kept content name f id kept other j apart = by (bytes_eq name other) refl apart
  where
    at : (o : Option LayerContent) → layer_of content name ≡ o → nat_eq id j ≡ false
        → option_and_then (λ (layer : LayerContent). feature_of layer j) (option_map f o) ≡ option_and_then (λ (layer : LayerContent). feature_of layer j) o
    at None is h = refl
    at (Some layer) is h = kept layer is j h

    by : (t : Bool) → bytes_eq name other ≡ t → t && nat_eq id j ≡ false → feature_in (change_layer content name f) other j ≡ feature_in content other j
    by false is h = ap (option_and_then (λ (layer : LayerContent). feature_of layer j)) (layer_of-change_layer-other content name other f is)
    by true is h =
        subst (λ n. feature_in (change_layer content name f) n j ≡ feature_in content n j) (same-names name other is)
        (ap (option_and_then (λ (layer : LayerContent). feature_of layer j)) (layer_of-change_layer content name f) ∙ at (layer_of content name) refl h)

-- the identifier of the feature that is put, or gets a value
abbrev pub put_id : Content → Edit → ℕ
put_id content (AddFeature name geometry) = next_id_of content name
put_id content (SetValue name id column value) = id
put_id content edit = 0

pub put-differs : (old : Content) (edit : Edit) → puts_only edit ≡ true → DiffersAt (edit_layer edit) (put_id old edit) old (effect old edit)
put-differs old (AddFeature name geometry) puts = record {
  order = order-kept old name _ (λ layer. (refl, refl, refl));
  features = features-kept old name _ (next_id_of old name) (λ layer found j apart.
      let next : next_id_of old name ≡ layer.next_id = ap (λ o. Rattle.std.specs.Option.option_map_or (λ (l : LayerContent). l.next_id) o 0) found in
      lookup-insert_entry-other j layer.next_id (plain_feature geometry) layer.features
      (nat_eq-turned layer.next_id j (ap (λ n. nat_eq n j) (sym next) ∙ apart)));
}
put-differs old (SetValue name id column value) puts = record {
  order = order-kept old name _ (λ layer. (refl, refl, refl));
  features = features-kept old name _ id (λ layer found j apart.
      lookup-change_value j id layer.features (with_value (number_in old name column) value)
      ∙ ap (λ b. if b then option_map (with_value (number_in old name column) value) (feature_of layer j) else feature_of layer j) apart);
}
put-differs old edit puts = absurd cc

-- ---- all rules held before

said-held : (old : Content) (edit : Edit) (says : Says) → IsWellFormed old → first_refusal (checks old edit) ≡ None → has_said old says ≡ true → sees_between edit says ≡ false
    → break_said old says ≡ None → HeldSaid old (effect old edit) says
said-held old edit (OfLayers rule) fine passed there unseen held = (layers-unseen old edit rule fine passed there unseen).0 ∙ held
said-held old edit (OfValues rule) fine passed there unseen held = held

all-held : (old : Content) (edit : Edit) (place : ℕ) (rules : List Rule) → IsWellFormed old → first_refusal (checks old edit) ≡ None → list_all (has_named old) rules ≡ true
    → is_seen_between edit rules ≡ false → broken_from place old rules ≡ None → AllByRecursion (λ rule. HeldSaid old (effect old edit) rule.says) rules
all-held old edit place [] fine passed there unseen held = tt
all-held old edit place (rule ∷ rules) fine passed there unseen held =
    let all = and_true (has_named old rule) (list_all (has_named old) rules) there in
    let no = or_false (sees_between edit rule.says) (is_seen_between edit rules) unseen in
    let both = held-at old place rule rules held in
    (said-held old edit rule.says fine passed all.0 no.0 both.0, all-held old edit (place + 1) rules fine passed all.1 no.1 both.1)

module _ (rules : List Rule) (inverse : Inverse) (now : Content) (w : WasPut rules inverse now) where
  parts : (puts_only w.edit ≡ true) × (not (is_seen_between w.edit rules) ≡ true)
  parts = and_true (puts_only w.edit) (not (is_seen_between w.edit rules)) w.in_place

  differs : DiffersAt (edit_layer w.edit) (put_id w.old w.edit) w.old now
  differs =
      let a = Accepted-step w.old now w.edit (answer_of inverse) w.accepts.led in
      subst (DiffersAt (edit_layer w.edit) (put_id w.old w.edit) w.old) a.effect (put-differs w.old w.edit parts.0)

  pub put-held : HeldBefore (edit_layer w.edit) (put_id w.old w.edit) now rules
  put-held =
      let a = Accepted-step w.old now w.edit (answer_of inverse) w.accepts.led in (
        w.old,
        differs,
        subst (λ c. AllByRecursion (λ rule. HeldSaid w.old c rule.says) rules) a.effect
            (all-held w.old w.edit 0 rules w.fine a.passed w.settled.there (not_back (is_seen_between w.edit rules) parts.1) w.settled.held),
      )

  -- all that rules name is there still
  pub put-there : list_all (has_named now) rules ≡ true
  put-there = sym (there-same now w.old rules differs.order) ∙ w.settled.there

  -- it is taken back
  pub put-fits : Fits now inverse
  put-fits = subst (Restores now inverse) w.accepts.restores.described_by w.accepts.restores

  pub put-back : described now inverse ≡ w.old
  put-back = sym w.accepts.restores.described_by

-- where a feature was put
pub put-feature : (rules : List Rule) (name : List ℕ) (id : ℕ) (now : Content) → WasPut rules (TakeFeature name id) now → HeldBefore name id now rules
put-feature rules name id now w =
    let same = by w.edit (and_true (puts_only w.edit) (not (is_seen_between w.edit rules)) w.in_place).0 w.is in
    subst (λ n. HeldBefore n id now rules) same.0 (subst (λ i. HeldBefore (edit_layer w.edit) i now rules) same.1 (put-held rules (TakeFeature name id) now w))
  where
    by : (edit : Edit) → puts_only edit ≡ true → TakeFeature name id ≡ inverse_of w.old edit → (edit_layer edit ≡ name) × (put_id w.old edit ≡ id)
    by (AddFeature n geometry) puts is =
        let names : n ≡ name = cc in
        let ids : next_id_of w.old n ≡ id = cc in (names, ids)
    by (SetValue n i column value) puts is = cc
    by edit puts is = absurd cc

-- where a value was
pub put-value : (rules : List Rule) (name : List ℕ) (id : ℕ) (column : List ℕ) (before : Option AttrValue) (now : Content) → WasPut rules (PutValue name id column before) now → HeldBefore name id now rules
put-value rules name id column before now w =
    let same = by w.edit (and_true (puts_only w.edit) (not (is_seen_between w.edit rules)) w.in_place).0 w.is in
    subst (λ n. HeldBefore n id now rules) same.0 (subst (λ i. HeldBefore (edit_layer w.edit) i now rules) same.1 (put-held rules (PutValue name id column before) now w))
  where
    by : (edit : Edit) → puts_only edit ≡ true → PutValue name id column before ≡ inverse_of w.old edit → (edit_layer edit ≡ name) × (put_id w.old edit ≡ id)
    by (AddFeature n geometry) puts is = cc
    by (SetValue n i c value) puts is =
        let names : n ≡ name = cc in
        let ids : i ≡ id = cc in (names, ids)
    by edit puts is = absurd cc

-- no memory is needed
pub put-frees : (rules : List Rule) (inverse : Inverse) (now : Content) → WasPut rules inverse now → frees_only now inverse ≡ true
put-frees rules inverse now w = by w.edit (and_true (puts_only w.edit) (not (is_seen_between w.edit rules)) w.in_place).0 w.is w.accepts.same_edit
  where
    there : (name : List ℕ) (id : ℕ) (column : List ℕ) (value : AttrValue) (o : Option AttrValue) → setting name id column o ≡ SetValue name id column value → is_some o ≡ true
    there name id column value None h = cc
    there name id column value (Some found) h = refl

    set : (name : List ℕ) (id : ℕ) (column : List ℕ) (value : AttrValue) (before : Option AttrValue) → taken_back now (PutValue name id column before) ≡ SetValue name id column value
        → frees_only now (PutValue name id column before) ≡ true
    set name id column value None h = refl
    set name id column value (Some before) h = there name id column value (value_under now name id column) h

    by : (edit : Edit) → puts_only edit ≡ true → inverse ≡ inverse_of w.old edit → taken_back now inverse ≡ edit → frees_only now inverse ≡ true
    by (AddFeature name geometry) puts is same = subst (λ i. frees_only now i ≡ true) (sym is) refl
    by (SetValue name id column value) puts is same =
        subst (λ i. frees_only now i ≡ true) (sym is)
        (set name id column value (value_under w.old name id column) (subst (λ i. taken_back now i ≡ SetValue name id column value) is same))
    by edit puts is same = absurd cc

-- ---- what the call gives

rules-same : (rules : List Rule) (edit : Edit) → puts_only edit ≡ true → rules_after rules (OfEdit edit) ≡ rules
rules-same rules (AddFeature name geometry) puts = refl
rules-same rules (SetValue name id column value) puts = refl
rules-same rules edit puts = absurd cc

pub put-edited : (old new : Content) (rules : List Rule) (edit : Edit) (inverse : Inverse) → IsWellFormed old → IsSettled (ruled old rules) → is_in_place edit rules ≡ true
    → Accepts old edit inverse new → inverse ≡ inverse_of old edit → first_broken new rules ≡ None
    → IsEdited (ruled old rules) edit (answer_of inverse) (undos.Change (changes.Edit inverse)) (ruled new rules)
put-edited old new rules edit inverse fine held in_place accepts is none =
    settled-edited old new rules edit inverse held (rules-same rules edit (and_true (puts_only edit) (not (is_seen_between edit rules)) in_place).0)
    (record { named = held.named; there = put-there rules inverse new (record { old = old; edit = edit; fine = fine; settled = held; in_place = in_place; accepts = accepts; is = is }); held = none }) accepts

pub put-refused : (old new : Content) (rules : List Rule) (edit : Edit) (inverse : Inverse) (refusal : Refusal) → IsWellFormed old → IsSettled (ruled old rules) → is_in_place edit rules ≡ true
    → Accepts old edit inverse new → inverse ≡ inverse_of old edit → IsRefusedAs (unless_broken (ruled new rules) (first_broken new rules)) refusal
    → IsRefusedAs (ruled_step (ruled old rules) (OfChange (OfEdit edit))) refusal
put-refused old new rules edit inverse refusal fine held in_place accepts is why =
    let there = put-there rules inverse new (record { old = old; edit = edit; fine = fine; settled = held; in_place = in_place; accepts = accepts; is = is }) in
    let failed : Result Ruled Refusal = Err (why_missing new rules) in
    subst (λ r. IsRefusedAs r refusal)
    (sym (ap (λ r. after_change (ruled old rules) (OfEdit edit) (edit_led r)) accepts.led
    ∙ ap (λ rs. settled (ruled new rs)) (rules-same rules edit (and_true (puts_only edit) (not (is_seen_between edit rules)) in_place).0)
    ∙ ap (λ b. if b then unless_broken (ruled new rules) (first_broken new rules) else failed) there)) why

-- the same of what a call answers
pub put-answered : (old new last : Content) (rules : List Rule) (edit : Edit) (inverse : Inverse) (r : Result Edited Refusal) → IsWellFormed old → IsSettled (ruled old rules) → is_in_place edit rules ≡ true
    → Accepts old edit inverse new → inverse ≡ inverse_of old edit
    → IfOk r (λ done. done ≡ record { answer = answer_of inverse; undo = undos.Change (changes.Edit inverse) }) → OnOk r (first_broken new rules ≡ None) → OnOk r (last ≡ new)
    → IfOk r (λ done. IsEdited (ruled old rules) edit done.answer done.undo (ruled last rules))
put-answered old new last rules edit inverse (Ok done) fine held in_place accepts is same none kept =
    subst (λ c. IsEdited (ruled old rules) edit done.answer done.undo (ruled c rules)) (sym kept)
    (subst (λ (d : Edited). IsEdited (ruled old rules) edit d.answer d.undo (ruled new rules)) (sym same)
    (put-edited old new rules edit inverse fine held in_place accepts is none))
put-answered old new last rules edit inverse (Err refusal) fine held in_place accepts is same none kept = tt

pub put-declined : (old new : Content) (rules : List Rule) (edit : Edit) (inverse : Inverse) (r : Result Edited Refusal) → IsWellFormed old → IsSettled (ruled old rules) → is_in_place edit rules ≡ true
    → Accepts old edit inverse new → inverse ≡ inverse_of old edit → IfErr r (IsRefusedAs (unless_broken (ruled new rules) (first_broken new rules)))
    → IfErr r (IsRefusedAs (ruled_step (ruled old rules) (OfChange (OfEdit edit))))
put-declined old new rules edit inverse (Ok done) fine held in_place accepts is why = tt
put-declined old new rules edit inverse (Err refusal) fine held in_place accepts is why = put-refused old new rules edit inverse refusal fine held in_place accepts is why
