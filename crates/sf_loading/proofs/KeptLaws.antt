-- A rule that was read is added just where it holds.
use Rattle.std.proofs.Common.{◌≡◌, ◌∙◌, ◌<◌, ℕ, Bool, true, false, not, List, [], Option, None, Some, length, OnOk, Result, Ok, Err, refl, sym, ap, subst, arith}
use Rattle.std.specs.Prelude.{is_some, nat_lt, if◌then◌else◌}
use Rattle.std.proofs.lemmas.Bool.{lt-ltb}
use Rattle.sf_features.specs.Names.{is_name}
use Rattle.sf_layers.specs.Content.{Content, LayerContent, layer_of}
use Rattle.sf_format.specs.Stored.{Break, IsRefusedAs, OfLayers, OfValues, Refusal, Rule, Ruled, Says, added, break_of, broken_or, fits_layer, has_columns_of, has_layers_of, has_named, has_rule, has_said, rules_max, unless_broken, with_rule}
use Rattle.sf_format.specs.Stored.refusals as refusals
use Rattle.sf_streams.specs.Streams.{Goes, Left}
use Rattle.sf_streams.proofs.ReadingLaws.{Goes-nothing}
use Rattle.sf_format.specs.declared.version.Version.{Version}
use Rattle.sf_format.specs.Readings.{Reading, done}
use Rattle.sf_format.specs.declared.defect.Defect.TheVariants.{RuleBroken}
use Rattle.sf_format.specs.Format.{allowed, rule, rules_in, unbroken}
use Rattle.sf_format.proofs.NamedValues.{column-held}
use Rattle.sf_loading.specs.declared.halt.Halt.{Halt}
use Rattle.sf_loading.specs.declared.halt.Halt.TheVariants as halts
use Rattle.sf_loading.specs.Kept.{CanBeAdded, GivesRule, halt_of}
use Rattle.sf_loading.specs.Streaming.{Judges, Takes}
use Rattle.sf_loading.proofs.StreamLaws.{Finds-field, Takes-field}

-- where all that a rule names is there, its layers are
layers-there : (content : Content) (title : List ℕ) (says : Says) → has_said content says ≡ true → has_layers_of content (record { name = title; says = says }) ≡ true
layers-there content title (OfLayers r) there = there
layers-there content title (OfValues r) there = by (layer_of content r.layer) there
  where
    by : (o : Option LayerContent) → fits_layer r o ≡ true → is_some o ≡ true
    by None h = absurd cc
    by (Some layer) h = refl

-- and so is its column
columns-there : (content : Content) (title : List ℕ) (says : Says) → has_said content says ≡ true → has_columns_of content (record { name = title; says = says }) ≡ true
columns-there content title (OfLayers r) there = refl
columns-there content title (OfValues r) there = column-held r (layer_of content r.layer) there

-- where it can be added, it is, unless it is broken
adds : (old : Ruled) (r : Rule) → CanBeAdded old r → length old.rules < rules_max → added old r ≡ unless_broken (with_rule old r) (broken_or (length old.rules) (break_of old.content r) None)
adds old r can few =
    let last = unless_broken (with_rule old r) (broken_or (length old.rules) (break_of old.content r) None) in
    let sixth : Result Ruled Refusal = if not (nat_lt (length old.rules) rules_max) then Err refusals.TooManyRules else last in
    let fifth : Result Ruled Refusal = if not (has_named old.content r) then Err refusals.WrongValue else sixth in
    let fourth : Result Ruled Refusal = if not (has_columns_of old.content r) then Err refusals.NoColumn else fifth in
    let third : Result Ruled Refusal = if not (has_layers_of old.content r) then Err refusals.NoLayer else fourth in
    let second : Result Ruled Refusal = if has_rule r.name old.rules then Err refusals.RuleExists else third in
    ap (λ b. if not b then Err refusals.BadName else second) can.named
    ∙ ap (λ b. if b then Err refusals.RuleExists else third) can.free
    ∙ ap (λ b. if not b then Err refusals.NoLayer else fourth) (layers-there old.content r.name r.says can.there)
    ∙ ap (λ b. if not b then Err refusals.NoColumn else fifth) (columns-there old.content r.name r.says can.there)
    ∙ ap (λ b. if not b then Err refusals.WrongValue else sixth) can.there
    ∙ ap (λ b. if not b then Err refusals.TooManyRules else last) (lt-ltb (length old.rules) rules_max few)

-- it was added
pub added-judged : (old new : Ruled) (r : Rule) → CanBeAdded old r → length old.rules < rules_max → added old r ≡ Ok new → (unbroken old.content r ≡ Ok r) × (new ≡ with_rule old r)
added-judged old new r can few led = by (break_of old.content r) refl (sym (adds old r can few) ∙ led)
  where
    by : (b : Option Break) → break_of old.content r ≡ b → unless_broken (with_rule old r) (broken_or (length old.rules) b None) ≡ Ok new → (unbroken old.content r ≡ Ok r) × (new ≡ with_rule old r)
    by None is h = let same : with_rule old r ≡ new = cc in (ap (λ b. allowed (not (is_some b)) RuleBroken r) is, sym same)
    by (Some found) is h = absurd cc

-- it is broken
is-broken : (old : Ruled) (r : Rule) (refusal : Refusal) → CanBeAdded old r → length old.rules < rules_max → added old r ≡ Err refusal → unbroken old.content r ≡ Err RuleBroken
is-broken old r refusal can few refused = by (break_of old.content r) refl (sym (adds old r can few) ∙ refused)
  where
    by : (b : Option Break) → break_of old.content r ≡ b → unless_broken (with_rule old r) (broken_or (length old.rules) b None) ≡ Err refusal → unbroken old.content r ≡ Err RuleBroken
    by None is h = absurd cc
    by (Some found) is h = ap (λ b. allowed (not (is_some b)) RuleBroken r) is

-- what a function returned is what the rule's own verdict makes of the rule at a place
abbrev pub JudgesRule : ℕ → Content → Rule → Result (Unit {0}) Halt → Type 0
JudgesRule place content r result = Judges (λ (done : Unit {0}). r) place (unbroken content r) result

pub refused-judged : (old : Ruled) (r : Rule) (place : ℕ) (refusal : Refusal) (halt : Halt) → CanBeAdded old r → length old.rules < rules_max → IsRefusedAs (added old r) refusal
    → halt ≡ halt_of place refusal → JudgesRule place old.content r (Err halt)
refused-judged old r place refusal halt can few refused is = subst (λ h. JudgesRule place old.content r (Err h)) (sym is) (by refusal refused)
  where
    by : (refusal : Refusal) → IsRefusedAs (added old r) refusal → JudgesRule place old.content r (Err (halt_of place refusal))
    by refusals.Memory h = tt
    by (refusals.ByEdit inner) h = (refl, is-broken old r (refusals.ByEdit inner) can few h)
    by (refusals.ByMember number inner) h = (refl, is-broken old r (refusals.ByMember number inner) can few h)
    by (refusals.RuleBroken broken) h = (refl, is-broken old r (refusals.RuleBroken broken) can few h)
    by refusals.NoRule h = (refl, is-broken old r refusals.NoRule can few h)
    by refusals.RuleExists h = (refl, is-broken old r refusals.RuleExists can few h)
    by refusals.NoColumn h = (refl, is-broken old r refusals.NoColumn can few h)
    by refusals.WrongValue h = (refl, is-broken old r refusals.WrongValue can few h)
    by refusals.ColumnRuled h = (refl, is-broken old r refusals.ColumnRuled can few h)
    by refusals.LayerRuled h = (refl, is-broken old r refusals.LayerRuled can few h)
    by refusals.BadName h = (refl, is-broken old r refusals.BadName can few h)
    by refusals.NoLayer h = (refl, is-broken old r refusals.NoLayer can few h)
    by refusals.TooManyRules h = (refl, is-broken old r refusals.TooManyRules can few h)

-- a rule was read, and added or refused
pub GivesRule-judged : (version : Version) (before after : Ruled) (r : Rule) (place : ℕ) (result : Result (Unit {0}) Halt) (unread left : Option (List ℕ)) (old new : Left) → place ≡ old.place
    → Takes (rule version before.content before.rules) r unread left old new → JudgesRule place before.content r result → OnOk result (after ≡ with_rule before r)
    → GivesRule version before after unread left old new result
GivesRule-judged version before after r place (Ok done) unread left old new here a judges is =
    (r, Takes-field (rule version before.content before.rules) (unbroken before.content) r r unread left old new judges a, is)
GivesRule-judged version before after r place (Err (halts.Found there defect)) unread left old new here a judges is =
    Finds-field (rule version before.content before.rules) (unbroken before.content) r there defect unread left old new (judges.0 ∙ here) judges.1 a
GivesRule-judged version before after r place (Err halts.Memory) unread left old new here a judges is = (a.got, a.consumed)
GivesRule-judged version before after r place (Err halts.Read) unread left old new here a judges is = (a.got, a.consumed)

-- where a version has no rules, none is read
pub no-rules-read : (version : Version) (content : Content) (kept : List Rule) (unread : Option (List ℕ)) (left : Left) → rules_in version content ≡ done {T = List Rule} [] → kept ≡ []
    → Goes (rules_in version content) (done kept) unread unread left left
no-rules-read version content kept unread left none is =
    subst (λ (rs : List Rule). Goes (rules_in version content) (done rs) unread unread left left) (sym is)
    (subst (λ (read : Reading (List Rule)). Goes read (done {T = List Rule} []) unread unread left left) (sym none) (Goes-nothing (done {T = List Rule} []) unread left))
