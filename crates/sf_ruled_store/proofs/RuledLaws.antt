-- Rules hold in every content that steps lead to.
use Rattle.std.proofs.Common.{◌≡◌, ◌∙◌, ℕ, Bool, true, false, not, ◌&&◌, List, [], ◌∷◌, ◌++◌, length, remove, take, drop, zero, suc, Option, None, Some, Result, Ok, Err, nat_lt, slice_get, refl, ap, sym, subst}
use Rattle.std.specs.Prelude.{if◌then◌else◌, is_some}
use Rattle.std.specs.List.{AllByRecursion, list_all}
use Rattle.sf_layers.specs.Content.{Content, has_layer}
use Rattle.sf_layers.specs.WellFormed.{IsWellFormed}
use Rattle.sf_ruled_store.specs.Changes.{Change, OfEdit, OfGroup}
use Rattle.sf_groups.specs.Members.{Refused, together}
use Rattle.sf_steps.specs.declared.answer.Answer.{Answer}
use Rattle.sf_steps.specs.Steps.{step}
use Rattle.sf_features.specs.Names.{is_name}
use Rattle.sf_steps.specs.declared.refusal.Refusal.{Refusal as EditRefusal}
use Rattle.sf_ruled_store.specs.declared.refusal.Refusal.{Refusal}
use Rattle.sf_ruled_store.specs.declared.refusal.Refusal.TheVariants.{RuleBroken, RuleExists, ColumnRuled, LayerRuled, BadName, NoLayer, NoColumn, TooManyRules, WrongValue}
use Rattle.sf_features.specs.declared.column.Column.{Column}
use Rattle.sf_layers.specs.Content.{LayerContent, column_named, layer_of}
use Rattle.sf_rules.specs.declared.rule.Rule.{Rule}
use Rattle.sf_rules.specs.declared.rule.Says.{Says}
use Rattle.sf_rules.specs.declared.rule.ValueRule.{ValueRule}
use Rattle.sf_rules.specs.declared.rule.Says.TheVariants.{OfLayers, OfValues}
use Rattle.sf_rules.specs.declared.breaks.Break.{Break}
use Rattle.sf_rules.specs.declared.breaks.Broken.{Broken}
use Rattle.sf_rules.specs.Holds.{HasColumn, HasNamed, HasSaid, Holds, IsBrokenBy}
use Rattle.sf_rules.specs.Rules.{break_of, broken_or, first_broken}
use Rattle.sf_ruled_store.specs.Ruled.{OfChange, AddRule, DropRule, Ruled, added, after_change, change_led, dropped, edit_led, fits_column, fits_layer, group_led, has_columns_of, has_layers_of, has_named, has_rule, has_said, place_of_rule, without_rule, rules_after, rules_max, settled, unless_broken, why_missing, with_rule}
use Rattle.sf_ruled_store.specs.Laws.{IsKept, IsRefusedRightly, RefusalsNameBreaks, RuledStepsKeepRules}
use Rattle.sf_ruled_store.specs.Undos.{IsSettled}
use Rattle.sf_rules.proofs.JoinedLists.{each-append}
use Rattle.sf_rules.proofs.HoldsLaws.{broken-at, reported_rules_are_broken, rule-over-the-plane, rules_are_over_the_plane}

and_true : (a b : Bool) → a && b ≡ true → (a ≡ true) × (b ≡ true)
and_true true true h = (refl, refl)
and_true true false h = cc
and_true false b h = cc

not_back : (b : Bool) → not b ≡ false → b ≡ true
not_back true h = refl
not_back false h = cc

-- where a rule's values fit a column, the column is there
column-in : (rule : ValueRule) (o : Option LayerContent) → fits_layer rule o ≡ true → HasColumn rule.column o
column-in rule None h = cc
column-in rule (Some layer) h = by (column_named layer rule.column) h
  where
    by : (c : Option Column) → fits_column rule.demand c ≡ true → is_some c ≡ true
    by None g = cc
    by (Some column) g = refl

said-there : (content : Content) (says : Says) → has_said content says ≡ true → HasSaid content says
said-there content (OfLayers rule) h = let both = and_true (has_layer content rule.first) (has_layer content rule.second) h in (both.0, both.1)
said-there content (OfValues rule) h = column-in rule (layer_of content rule.layer) h

all-there : (content : Content) (rules : List Rule) → list_all (has_named content) rules ≡ true → AllByRecursion (HasNamed content) rules
all-there content [] h = tt
all-there content (rule ∷ rules) h =
    let both = and_true (has_named content rule) (list_all (has_named content) rules) h in
    (said-there content rule.says both.0, all-there content rules both.1)

-- rules of which it is computed that they hold, do so over the plane
pub is_settled-kept : (ruled : Ruled) → IsWellFormed ruled.content → IsSettled ruled → IsKept ruled
is_settled-kept ruled fine s = (rules_are_over_the_plane ruled.content ruled.rules fine (all-there ruled.content ruled.rules s.there)).0 s.held

-- ---- accepted steps

pub unless-kept : (ruled new : Ruled) (o : Option Broken) → unless_broken ruled o ≡ Ok new → (o ≡ None) × (ruled ≡ new)
unless-kept ruled new None h = let same : ruled ≡ new = cc in (refl, same)
unless-kept ruled new (Some broken) h = cc

settled-kept : (ruled new : Ruled) → settled ruled ≡ Ok new → IsWellFormed new.content → IsKept new
settled-kept ruled new h fine = by (list_all (has_named ruled.content) ruled.rules) refl h
  where
    by : (t : Bool) → list_all (has_named ruled.content) ruled.rules ≡ t → (if t then unless_broken ruled (first_broken ruled.content ruled.rules) else Err (why_missing ruled.content ruled.rules)) ≡ Ok new → IsKept new
    by false is g = cc
    by true is g =
        let k = unless-kept ruled new (first_broken ruled.content ruled.rules) g in
        subst IsKept k.1
        ((rules_are_over_the_plane ruled.content ruled.rules (subst (λ (r : Ruled). IsWellFormed r.content) (sym k.1) fine) (all-there ruled.content ruled.rules is)).0 k.0)

change-kept : (old new : Ruled) (change : Change) (r : Result Content Refusal) → after_change old change r ≡ Ok new → IsWellFormed new.content → IsKept new
change-kept old new change (Err refusal) h fine = cc
change-kept old new change (Ok content) h fine = settled-kept (record { content = content; rules = rules_after old.rules change }) new h fine

-- a rule that is added passed its checks
pub record WasAdded (old : Ruled) (rule : Rule) (result : Result Ruled Refusal) : Type 0 where
  pub named : is_name rule.name ≡ true
  pub other : has_rule rule.name old.rules ≡ false
  pub few : nat_lt (length old.rules) rules_max ≡ true
  pub there : has_named old.content rule ≡ true
  pub last : result ≡ unless_broken (with_rule old rule) (broken_or (length old.rules) (break_of old.content rule) None)

-- ... or is refused for no rule that is broken
pub data AddsOr (old : Ruled) (rule : Rule) (result : Result Ruled Refusal) : Type 0 where
  Adds : WasAdded old rule result → AddsOr old rule result
  Refuses : ((new : Ruled) → result ≡ Ok new → ⊥) → ((broken : Broken) → result ≡ Err (RuleBroken broken) → ⊥) → AddsOr old rule result

pub adds : (old : Ruled) (rule : Rule) → AddsOr old rule (added old rule)
adds old rule = first (is_name rule.name) refl
  where
    last : Result Ruled Refusal
    last = unless_broken (with_rule old rule) (broken_or (length old.rules) (break_of old.content rule) None)

    fifth : (t : Bool) → nat_lt (length old.rules) rules_max ≡ t → is_name rule.name ≡ true → has_rule rule.name old.rules ≡ false
        → has_named old.content rule ≡ true → AddsOr old rule (if not t then Err TooManyRules else last)
    fifth false is n o h = Refuses (λ new g. cc) (λ broken g. cc)
    fifth true is n o h = Adds (record { named = n; other = o; few = is; there = h; last = refl })

    fourth : (t : Bool) → has_named old.content rule ≡ t → is_name rule.name ≡ true → has_rule rule.name old.rules ≡ false
        → AddsOr old rule (if not t then Err WrongValue else if not (nat_lt (length old.rules) rules_max) then Err TooManyRules else last)
    fourth false is n o = Refuses (λ new g. cc) (λ broken g. cc)
    fourth true is n o = fifth (nat_lt (length old.rules) rules_max) refl n o is

    -- the column is there
    columns : (t : Bool) → is_name rule.name ≡ true → has_rule rule.name old.rules ≡ false
        → AddsOr old rule (if not t then Err NoColumn else if not (has_named old.content rule) then Err WrongValue
        else if not (nat_lt (length old.rules) rules_max) then Err TooManyRules else last)
    columns false n o = Refuses (λ new g. cc) (λ broken g. cc)
    columns true n o = fourth (has_named old.content rule) refl n o

    third : (t : Bool) → is_name rule.name ≡ true → has_rule rule.name old.rules ≡ false
        → AddsOr old rule (if not t then Err NoLayer else if not (has_columns_of old.content rule) then Err NoColumn
        else if not (has_named old.content rule) then Err WrongValue
        else if not (nat_lt (length old.rules) rules_max) then Err TooManyRules else last)
    third false n o = Refuses (λ new g. cc) (λ broken g. cc)
    third true n o = columns (has_columns_of old.content rule) n o

    second : (t : Bool) → has_rule rule.name old.rules ≡ t → is_name rule.name ≡ true
        → AddsOr old rule (if t then Err RuleExists else if not (has_layers_of old.content rule) then Err NoLayer
        else if not (has_columns_of old.content rule) then Err NoColumn
        else if not (has_named old.content rule) then Err WrongValue
        else if not (nat_lt (length old.rules) rules_max) then Err TooManyRules else last)
    second true is n = Refuses (λ new g. cc) (λ broken g. cc)
    second false is n = third (has_layers_of old.content rule) n is

    first : (t : Bool) → is_name rule.name ≡ t
        → AddsOr old rule (if not t then Err BadName else if has_rule rule.name old.rules then Err RuleExists
        else if not (has_layers_of old.content rule) then Err NoLayer
        else if not (has_columns_of old.content rule) then Err NoColumn
        else if not (has_named old.content rule) then Err WrongValue
        else if not (nat_lt (length old.rules) rules_max) then Err TooManyRules else last)
    first false is = Refuses (λ new g. cc) (λ broken g. cc)
    first true is = second (has_rule rule.name old.rules) refl is

pub only-none : (place : ℕ) (o : Option Break) → broken_or place o None ≡ None → o ≡ None
only-none place None h = refl
only-none place (Some least) h = cc

added-kept : (old new : Ruled) (rule : Rule) → IsWellFormed old.content → IsKept old → added old rule ≡ Ok new → IsKept new
added-kept old new rule fine kept h = by (adds old rule)
  where
    by : AddsOr old rule (added old rule) → IsKept new
    by (Refuses accepted broke) = absurd (accepted new h)
    by (Adds was) =
        let k = unless-kept (with_rule old rule) new (broken_or (length old.rules) (break_of old.content rule) None) (sym was.last ∙ h) in
        let holds : Holds old.content rule = (rule-over-the-plane old.content rule fine (said-there old.content rule.says was.there)).0 (only-none (length old.rules) (break_of old.content rule) k.0) in
        subst IsKept k.1 (each-append (Holds old.content) old.rules (rule ∷ []) kept (holds, tt))

-- what holds of all rules holds of all but one
all-take : (P : Rule → Type 0) (n : ℕ) (rules : List Rule) → AllByRecursion P rules → AllByRecursion P (take n rules)
all-take P zero rules all = tt
all-take P (suc n) [] all = tt
all-take P (suc n) (rule ∷ rules) all = (all.0, all-take P n rules all.1)

all-drop : (P : Rule → Type 0) (n : ℕ) (rules : List Rule) → AllByRecursion P rules → AllByRecursion P (drop n rules)
all-drop P zero rules all = all
all-drop P (suc n) [] all = tt
all-drop P (suc n) (rule ∷ rules) all = all-drop P n rules all.1

pub all-removed : (P : Rule → Type 0) (rules : List Rule) (place : ℕ) → AllByRecursion P rules → AllByRecursion P (remove rules place)
all-removed P rules place all = each-append P (take place rules) (drop (suc place) rules) (all-take P place rules all) (all-drop P (suc place) rules all)

dropped-kept : (old new : Ruled) (name : List ℕ) → IsKept old → dropped old name ≡ Ok new → IsKept new
dropped-kept old new name kept h = by (place_of_rule name old.rules) h
  where
    by : (o : Option ℕ) → without_rule old o ≡ Ok new → IsKept new
    by None g = cc
    by (Some place) g =
        let after : Ruled = record old { rules = remove old.rules place } in
        let same : after ≡ new = cc in
        subst IsKept same (all-removed (Holds old.content) old.rules place kept)

pub ruled_steps_keep_rules : RuledStepsKeepRules
ruled_steps_keep_rules old new (OfChange change) fine fine' kept h = change-kept old new change (change_led old.content change) h fine'
ruled_steps_keep_rules old new (AddRule rule) fine fine' kept h = added-kept old new rule fine kept h
ruled_steps_keep_rules old new (DropRule name) fine fine' kept h = dropped-kept old new name kept h

-- ---- refused steps

unless-refused : (ruled : Ruled) (o : Option Broken) (broken : Broken) → unless_broken ruled o ≡ Err (RuleBroken broken) → o ≡ Some broken
unless-refused ruled None broken h = cc
unless-refused ruled (Some found) broken h = let same : found ≡ broken = cc in ap (λ b. Some b) same

settled-refused : (ruled : Ruled) (broken : Broken) → settled ruled ≡ Err (RuleBroken broken) → first_broken ruled.content ruled.rules ≡ Some broken
settled-refused ruled broken h = by (list_all (has_named ruled.content) ruled.rules) h
  where
    why : (t : Bool) → ◌≡◌ {A = Result Ruled Refusal} (Err (if t then ColumnRuled else LayerRuled)) (Err (RuleBroken broken)) → ⊥
    why true g = cc
    why false g = cc

    by : (t : Bool) → (if t then unless_broken ruled (first_broken ruled.content ruled.rules) else Err (why_missing ruled.content ruled.rules)) ≡ Err (RuleBroken broken) → first_broken ruled.content ruled.rules ≡ Some broken
    by false g = absurd (why (list_all (has_layers_of ruled.content) ruled.rules) g)
    by true g = unless-refused ruled (first_broken ruled.content ruled.rules) broken g

-- no refusal of a change itself is that a rule is broken
not-broken : (content : Content) (change : Change) (broken : Broken) → change_led content change ≡ Err (RuleBroken broken) → ⊥
not-broken content (OfEdit edit) broken h = by (step content edit) h
  where
    by : (r : Result (Content × Answer) EditRefusal) → edit_led r ≡ Err (RuleBroken broken) → ⊥
    by (Ok done) g = cc
    by (Err refusal) g = cc
not-broken content (OfGroup members) broken h = by (together content members) h
  where
    by : (r : Result (Content × List ℕ) Refused) → group_led r ≡ Err (RuleBroken broken) → ⊥
    by (Ok done) g = cc
    by (Err refusal) g = cc

at-end : (rules : List Rule) (rule : Rule) → slice_get (rules ++ rule ∷ []) (length rules) ≡ Some rule
at-end [] rule = refl
at-end (r ∷ rules) rule = at-end rules rule

pub refusals_name_breaks : RefusalsNameBreaks
refusals_name_breaks old (OfChange change) broken h = by (change_led old.content change) refl h
  where
    by : (r : Result Content Refusal) → change_led old.content change ≡ r → after_change old change r ≡ Err (RuleBroken broken) → IsRefusedRightly old (OfChange change) broken
    by (Err refusal) is g =
        let same : ◌≡◌ {A = Refusal} refusal (RuleBroken broken) = cc in
        absurd (not-broken old.content change broken (is ∙ ap (λ (e : Refusal). let r : Result Content Refusal = Err e in r) same))
    by (Ok content) is g = record {
      new = record { content = content; rules = rules_after old.rules change };
      led = (is, refl);
      broke = λ fine. reported_rules_are_broken content (rules_after old.rules change) broken fine (settled-refused (record { content = content; rules = rules_after old.rules change }) broken g);
    }
refusals_name_breaks old (AddRule rule) broken h = by (adds old rule)
  where
    at : IsWellFormed old.content → (o : Option Break) → break_of old.content rule ≡ o → broken_or (length old.rules) o None ≡ Some broken → IsBrokenBy old.content (old.rules ++ rule ∷ []) broken
    at fine None is g = cc
    at fine (Some least) is g =
        let same : ◌≡◌ {A = Broken} (record { place = length old.rules; least = least }) broken = cc in
        broken-at old.content (old.rules ++ rule ∷ []) broken rule fine
        (ap (λ (b : Broken). slice_get (old.rules ++ rule ∷ []) b.place) (sym same) ∙ at-end old.rules rule)
        (is ∙ ap (λ (b : Broken). Some b.least) same)

    by : AddsOr old rule (added old rule) → IsRefusedRightly old (AddRule rule) broken
    by (Refuses accepted broke) = absurd (broke broken h)
    by (Adds was) = record {
      new = with_rule old rule;
      led = refl;
      broke = λ fine. at fine (break_of old.content rule) refl (unless-refused (with_rule old rule) (broken_or (length old.rules) (break_of old.content rule) None) broken (sym was.last ∙ h));
    }
refusals_name_breaks old (DropRule name) broken h = by (place_of_rule name old.rules) h
  where
    by : (o : Option ℕ) → without_rule old o ≡ Err (RuleBroken broken) → IsRefusedRightly old (DropRule name) broken
    by None g = cc
    by (Some place) g = cc
