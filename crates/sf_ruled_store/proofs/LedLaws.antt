-- The content that an accepted step leads to.
use Rattle.std.proofs.Common.{◌≡◌, ℕ, Bool, true, false, List, length, remove, Option, None, Some, Result, Ok, Err, ap, sym, ◌∙◌}
use Rattle.std.specs.Prelude.{if◌then◌else◌}
use Rattle.std.specs.List.{list_all}
use Rattle.sf_layers.specs.Content.{Content}
use Rattle.sf_steps.specs.declared.answer.Answer.{Answer}
use Rattle.sf_steps.specs.declared.edit.Edit.{Edit}
use Rattle.sf_steps.specs.declared.refusal.Refusal.{Refusal as EditRefusal}
use Rattle.sf_steps.specs.Steps.{step}
use Rattle.sf_groups.specs.declared.member.Member.{Member}
use Rattle.sf_groups.specs.Members.{Refused, together}
use Rattle.sf_ruled_store.specs.Changes.{Change, OfEdit, OfGroup}
use Rattle.sf_rules.specs.declared.rule.Rule.{Rule}
use Rattle.sf_rules.specs.Rules.{break_of, broken_or, first_broken}
use Rattle.sf_ruled_store.specs.declared.refusal.Refusal.{Refusal}
use Rattle.sf_ruled_store.specs.Ruled.{OfChange, AddRule, DropRule, Ruled, added, after_change, edit_led, group_led, has_named, place_of_rule, ruled_step, rules_after, settled, unless_broken, why_missing, with_rule, without_rule}
use Rattle.sf_ruled_store.proofs.RuledLaws.{AddsOr, Adds, Refuses, adds, unless-kept}

settled-same : (ruled new : Ruled) → settled ruled ≡ Ok new → ruled ≡ new
settled-same ruled new h = by (list_all (has_named ruled.content) ruled.rules) h
  where
    by : (t : Bool) → (if t then unless_broken ruled (first_broken ruled.content ruled.rules) else Err (why_missing ruled.content ruled.rules)) ≡ Ok new → ruled ≡ new
    by true g = (unless-kept ruled new (first_broken ruled.content ruled.rules) g).1
    by false g = cc

-- ---- of a change: the one that it leads to whatever rules there are

ok-same : {one other : Content} → ◌≡◌ {A = Result Content Refusal} (Ok one) (Ok other) → one ≡ other
ok-same h = cc

change-content : (old new : Ruled) (change : Change) (r : Result Content Refusal) → after_change old change r ≡ Ok new → r ≡ Ok new.content
change-content old new change (Ok content) h =
    let led : Ruled → Result Content Refusal = λ ruled. Ok ruled.content in
    ap led (settled-same (record { content = content; rules = rules_after old.rules change }) new h)
change-content old new change (Err refusal) h = cc

pub edit-content : (old new : Ruled) (edit : Edit) → ruled_step old (OfChange (OfEdit edit)) ≡ Ok new → (answer : Answer) × (step old.content edit ≡ Ok (new.content, answer))
edit-content old new edit h = by (step old.content edit) h
  where
    by : (r : Result (Content × Answer) EditRefusal) → after_change old (OfEdit edit) (edit_led r) ≡ Ok new → (answer : Answer) × (r ≡ Ok (new.content, answer))
    by (Ok done) g =
        let same : done.0 ≡ new.content = ok-same (change-content old new (OfEdit edit) (Ok done.0) g) in
        (done.1, ap (λ content. Ok (content, done.1)) same)
    by (Err refusal) g = cc

pub group-content : (old new : Ruled) (members : List Member) → ruled_step old (OfChange (OfGroup members)) ≡ Ok new → (ids : List ℕ) × (together old.content members ≡ Ok (new.content, ids))
group-content old new members h = by (together old.content members) h
  where
    by : (r : Result (Content × List ℕ) Refused) → after_change old (OfGroup members) (group_led r) ≡ Ok new → (ids : List ℕ) × (r ≡ Ok (new.content, ids))
    by (Ok done) g =
        let same : done.0 ≡ new.content = ok-same (change-content old new (OfGroup members) (Ok done.0) g) in
        (done.1, ap (λ content. Ok (content, done.1)) same)
    by (Err refused) g = cc

-- ---- of a rule that is added or dropped: the same

pub add-content : (old new : Ruled) (rule : Rule) → ruled_step old (AddRule rule) ≡ Ok new → new.content ≡ old.content
add-content old new rule h = by (adds old rule)
  where
    by : AddsOr old rule (added old rule) → new.content ≡ old.content
    by (Refuses accepted broke) = absurd (accepted new h)
    by (Adds was) =
        sym (ap (λ ruled. ruled.content) (unless-kept (with_rule old rule) new (broken_or (length old.rules) (break_of old.content rule) None) (sym was.last ∙ h)).1)

pub drop-content : (old new : Ruled) (name : List ℕ) → ruled_step old (DropRule name) ≡ Ok new → new.content ≡ old.content
drop-content old new name h = by (place_of_rule name old.rules) h
  where
    by : (o : Option ℕ) → without_rule old o ≡ Ok new → new.content ≡ old.content
    by None g = cc
    by (Some place) g =
        let after : Ruled = record old { rules = remove old.rules place } in
        let same : after ≡ new = cc in
        sym (ap (λ ruled. ruled.content) same)
