-- Names of rules stay names, of which no two are one.
use Rattle.std.proofs.Common.{◌≡◌, ◌∙◌, ◌≤◌, ◌+◌, ℕ, zero, suc, Bool, true, false, not, cond, ◌||◌, List, [], ◌∷◌, ◌++◌, length, map, remove, take, drop, Option, Some, None, Result, Ok, Err, is_some, nat_lt, bytes_eq, refl, ap, sym, subst, arith}
use Rattle.std.specs.Prelude.{IfOk, IsTrue, OnErr, if◌then◌else◌}
use Rattle.std.specs.List.{AllByRecursion, list_all, list_any, position_or_len}
use Rattle.sf_features.specs.Columns.{IsDistinct}
use Rattle.sf_features.specs.Names.{is_name}
use Rattle.sf_layers.proofs.Kept.{distinct-remove}
use Rattle.sf_rules.proofs.JoinedLists.{each-append}
use Rattle.sf_rules.specs.declared.rule.Rule.{Rule}
use Rattle.sf_layers.specs.Content.{Content}
use Rattle.sf_steps.specs.declared.edit.Edit.{Edit}
use Rattle.sf_steps.specs.declared.edit.Edit.TheVariants.{RenameLayer}
use Rattle.sf_ruled_store.specs.Changes.{Change, OfEdit}
use Rattle.sf_rules.specs.declared.breaks.Broken.{Broken}
use Rattle.sf_rules.specs.Rules.{first_broken}
use Rattle.sf_ruled_store.specs.declared.edits.Edited.{Edited}
use Rattle.sf_ruled_store.specs.Outcomes.{ruled}
use Rattle.sf_ruled_store.specs.declared.refusal.Refusal.{Refusal}
use Rattle.sf_ruled_store.specs.Ruled.{OfChange, Ruled, after_change, change_led, has_named, has_rule, rules_after, rules_max, ruled_step, unless_broken, why_missing, with_renamed}
use Rattle.sf_ruled_store.specs.Undos.{AreNamed, IsEdited, IsSettled}
use Rattle.sf_ruled_store.proofs.NameLaws.{turned}
use Rattle.sf_ruled_store.proofs.RuledLaws.{all-removed}

abbrev names : List Rule → List (List ℕ)
names rules = map (λ rule. rule.name) rules

-- ---- with other layers

same-names-of : (f : Rule → Rule) → ((rule : Rule) → (f rule).name ≡ rule.name) → (rules : List Rule) → names (map f rules) ≡ names rules
same-names-of f same [] = refl
same-names-of f same (rule ∷ rules) = ap (λ n. n ∷ names (map f rules)) (same rule) ∙ ap (λ ns. rule.name ∷ ns) (same-names-of f same rules)

all-named : (f : Rule → Rule) → ((rule : Rule) → (f rule).name ≡ rule.name) → (rules : List Rule) → AllByRecursion (λ rule. IsTrue (is_name rule.name)) rules
    → AllByRecursion (λ rule. IsTrue (is_name rule.name)) (map f rules)
all-named f same [] all = tt
all-named f same (rule ∷ rules) all = (subst (λ n. IsTrue (is_name n)) (sym (same rule)) all.0, all-named f same rules all.1)

same-length : (f : Rule → Rule) (rules : List Rule) → length (map f rules) ≡ length rules
same-length f [] = refl
same-length f (rule ∷ rules) = ap suc (same-length f rules)

pub named-alike : (f : Rule → Rule) → ((rule : Rule) → (f rule).name ≡ rule.name) → (rules : List Rule) → AreNamed rules → AreNamed (map f rules)
named-alike f same rules are = record {
  few = subst (λ n. n ≤ rules_max) (sym (same-length f rules)) are.few;
  named = all-named f same rules are.named;
  distinct = subst (IsDistinct bytes_eq) (sym (same-names-of f same rules)) are.distinct;
}

-- ---- with one more

some-of : (t : Bool) (place : ℕ) → is_some (cond t (Some place) None) ≡ false → t ≡ false
some-of true place h = cc
some-of false place h = refl

-- a name that none has is not that of any
apart-from : (name : List ℕ) (rules : List Rule) → nat_lt (position_or_len (λ rule. bytes_eq name rule.name) rules) (length rules) ≡ false
    → AllByRecursion (λ rule. bytes_eq name rule.name ≡ false) rules
apart-from name [] none = tt
apart-from name (rule ∷ rules) none = by (λ h. apart-from name rules h) (bytes_eq name rule.name) refl none
  where
    at : ℕ
    at = position_or_len (λ r. bytes_eq name r.name) rules

    by : (nat_lt at (length rules) ≡ false → AllByRecursion (λ r. bytes_eq name r.name ≡ false) rules) → (t : Bool) → bytes_eq name rule.name ≡ t
        → nat_lt (cond (not t) (1 + at) 0) (suc (length rules)) ≡ false → AllByRecursion (λ r. bytes_eq name r.name ≡ false) (rule ∷ rules)
    by later true is h = grind (arith, h)
    by later false is h = let rest : nat_lt at (length rules) ≡ false = grind (arith, h) in (is, later rest)

absent : (name : List ℕ) (rules : List Rule) → has_rule name rules ≡ false → AllByRecursion (λ rule. bytes_eq name rule.name ≡ false) rules
absent name rules none =
    apart-from name rules (some-of (nat_lt (position_or_len (λ rule. bytes_eq name rule.name) rules) (length rules)) (position_or_len (λ rule. bytes_eq name rule.name) rules) none)

any-last : (name : List ℕ) (rules : List Rule) (rule : Rule) → bytes_eq name rule.name ≡ false → list_any (bytes_eq name) (names rules) ≡ false
    → list_any (bytes_eq name) (names (rules ++ rule ∷ [])) ≡ false
any-last name [] rule apart none = ap (λ b. b || false) apart
any-last name (r ∷ rules) rule apart none = by (λ h. any-last name rules rule apart h) (bytes_eq name r.name) none
  where
    by : (list_any (bytes_eq name) (names rules) ≡ false → list_any (bytes_eq name) (names (rules ++ rule ∷ [])) ≡ false) → (t : Bool)
        → t || list_any (bytes_eq name) (names rules) ≡ false → t || list_any (bytes_eq name) (names (rules ++ rule ∷ [])) ≡ false
    by later true h = cc
    by later false h = later h

distinct-last : (rules : List Rule) (rule : Rule) → AllByRecursion (λ r. bytes_eq rule.name r.name ≡ false) rules → IsDistinct bytes_eq (names rules)
    → IsDistinct bytes_eq (names (rules ++ rule ∷ []))
distinct-last [] rule apart distinct = (refl, tt)
distinct-last (r ∷ rules) rule apart distinct =
    (any-last r.name rules rule (turned rule.name r.name apart.0) distinct.0, distinct-last rules rule apart.1 distinct.1)

one-longer : (rules : List Rule) (rule : Rule) → length (rules ++ rule ∷ []) ≡ suc (length rules)
one-longer [] rule = refl
one-longer (r ∷ rules) rule = ap suc (one-longer rules rule)

below : (m n : ℕ) → nat_lt m n ≡ true → suc m ≤ n
below m n is = grind (arith, is)

pub named-added : (rules : List Rule) (rule : Rule) → AreNamed rules → is_name rule.name ≡ true → has_rule rule.name rules ≡ false
    → nat_lt (length rules) rules_max ≡ true → AreNamed (rules ++ rule ∷ [])
named-added rules rule are named other few = record {
  few = subst (λ n. n ≤ rules_max) (sym (one-longer rules rule)) (below (length rules) rules_max few);
  named = each-append (λ r. IsTrue (is_name r.name)) rules (rule ∷ []) are.named (named, tt);
  distinct = distinct-last rules rule (absent rule.name rules other) are.distinct;
}

-- ---- without one

fewer : (rules : List Rule) (place : ℕ) → length (take place rules ++ drop (suc place) rules) ≤ length rules
fewer [] zero = omega arith
fewer [] (suc place) = omega arith
fewer (rule ∷ rules) zero = omega arith
fewer (rule ∷ rules) (suc place) = let rest = fewer rules place in omega (arith, rest)

at-most : (a b c : ℕ) → a ≤ b → b ≤ c → a ≤ c
at-most a b c first second = omega (arith, first, second)

pub named-removed : (rules : List Rule) (place : ℕ) → AreNamed rules → AreNamed (remove rules place)
named-removed rules place are = record {
  few = at-most _ _ _ (fewer rules place) are.few;
  named = all-removed (λ rule. IsTrue (is_name rule.name)) rules place are.named;
  distinct = distinct-remove bytes_eq (λ rule. rule.name) rules place are.distinct;
}

-- ---- after a change

pub named-after : (rules : List Rule) (change : Change) → AreNamed rules → AreNamed (rules_after rules change)
named-after rules (OfEdit (RenameLayer name new_name)) are = named-alike (with_renamed name new_name) (λ rule. refl) rules are
named-after rules change are = are

-- what a change leads to is settled
pub change-settled : (old new : Ruled) (change : Change) → IsSettled old → ruled_step old (OfChange change) ≡ Ok new → IsSettled new
change-settled old new change held h = by (change_led old.content change) h
  where
    by : (r : Result Content Refusal) → after_change old change r ≡ Ok new → IsSettled new
    by (Err refusal) g = cc
    by (Ok content) g =
        inner (list_all (has_named content) (rules_after old.rules change)) refl (first_broken content (rules_after old.rules change)) refl g
      where
        next : Ruled
        next = record { content = content; rules = rules_after old.rules change }

        inner : (t : Bool) → list_all (has_named content) (rules_after old.rules change) ≡ t → (o : Option Broken) → first_broken content (rules_after old.rules change) ≡ o
            → (if t then unless_broken next o else Err (why_missing next.content next.rules)) ≡ Ok new → IsSettled new
        inner true is None none k =
            let same : next ≡ new = cc in
            subst IsSettled same (record { named = named-after old.rules change held.named; there = is; held = none })
        inner true is (Some broken) none k = cc
        inner false is o none k = cc

pub edited-settled : (result : Result Edited Refusal) (old : Ruled) (edit : Edit) (content : Content) (rules : List Rule) → IsSettled old
    → IfOk result (λ done. IsEdited old edit done.answer done.undo (ruled content rules)) → OnErr result (content ≡ old.content) → OnErr result (rules ≡ old.rules)
    → IsSettled (ruled content rules)
edited-settled (Ok done) old edit content rules held led same kept = change-settled old (ruled content rules) (OfEdit edit) held led.led
edited-settled (Err refusal) old edit content rules held led same kept =
    subst (λ rs. IsSettled (ruled content rs)) (sym kept) (subst (λ c. IsSettled (ruled c old.rules)) (sym same) held)
