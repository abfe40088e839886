-- Steps taken back, and made again.
use Rattle.std.proofs.Common.{◌≡◌, ◌≤◌, ◌<◌, ◌-◌, ◌+◌, ℕ, Bool, true, false, ◌&&◌, List, [], ◌∷◌, ◌++◌, insert, length, remove, slice_get, take, Option, Some, None, Ok, refl, ap, sym, subst, ◌∙◌, arith}
use Rattle.std.specs.List.{AllByRecursion, list_all}
use Rattle.sf_layers.specs.Content.{Content}
use Rattle.sf_layers.proofs.Places.{insert-remove, length-remove, remove-insert, slice_get-below, slice_get-insert}
use Rattle.sf_steps.specs.declared.edit.Edit.{Edit}
use Rattle.sf_steps.specs.declared.inverse.Inverse.{Inverse}
use Rattle.sf_steps.specs.Inverses.{Carries, Reverts}
use Rattle.sf_ruled_store.specs.declared.changes.redo.Redo.{Redo as ContentRedo}
use Rattle.sf_ruled_store.specs.declared.changes.undo.Undo.{Undo as ContentUndo}
use Rattle.sf_ruled_store.specs.Changes.{MakesAgain, TakesBack}
use Rattle.sf_ruled_store.proofs.ChangeLaws.{edit-made_again, edit-taken_back}
use Rattle.sf_rules.specs.declared.breaks.Break.{Break}
use Rattle.sf_rules.specs.declared.rule.Rule.{Rule}
use Rattle.sf_rules.specs.Rules.{break_of, broken_from, broken_or}
use Rattle.sf_rules.proofs.JoinedLists.{each-append}
use Rattle.sf_ruled_store.specs.declared.undo.Undo.TheVariants as undos
use Rattle.sf_ruled_store.specs.declared.redo.Redo.TheVariants as redos
use Rattle.sf_ruled_store.specs.Outcomes.{ruled}
use Rattle.sf_ruled_store.specs.Ruled.{AddRule, DropRule, Ruled, has_named, ruled_step, with_rule}
use Rattle.sf_ruled_store.specs.Undos.{AreNamed, IsLed, IsSettled, MakesAgainUnder, TakesBackUnder}
use Rattle.sf_ruled_store.proofs.RuleNames.{named-added, named-removed}
use Rattle.sf_ruled_store.proofs.RuledLaws.{AddsOr, Adds, Refuses, adds, all-removed, only-none, unless-kept}

-- ---- rules that hold, one by one

and_true : (a b : Bool) → a && b ≡ true → (a ≡ true) × (b ≡ true)
and_true true true h = (refl, refl)
and_true true false h = cc
and_true false b h = cc

and_of : (a b : Bool) → a ≡ true → b ≡ true → a && b ≡ true
and_of true b h k = k
and_of false b h k = cc

abbrev pub IsHeld : Content → Rule → Type 0
IsHeld content rule = (has_named content rule ≡ true) × (break_of content rule ≡ None)

held-from : (place : ℕ) (content : Content) (rules : List Rule) → list_all (has_named content) rules ≡ true → broken_from place content rules ≡ None → AllByRecursion (IsHeld content) rules
held-from place content [] layers none = tt
held-from place content (rule ∷ rules) layers none =
    let all = and_true (has_named content rule) (list_all (has_named content) rules) layers in
    by (λ g. held-from (place + 1) content rules all.1 g) all.0 (break_of content rule) refl none
  where
    by : (broken_from (place + 1) content rules ≡ None → AllByRecursion (IsHeld content) rules) → has_named content rule ≡ true → (o : Option Break) → break_of content rule ≡ o
        → broken_or place o (broken_from (place + 1) content rules) ≡ None → AllByRecursion (IsHeld content) (rule ∷ rules)
    by later here None is g = ((here, is), later g)
    by later here (Some least) is g = cc

there-of : (content : Content) (rules : List Rule) → AllByRecursion (IsHeld content) rules → list_all (has_named content) rules ≡ true
there-of content [] all = refl
there-of content (rule ∷ rules) all = and_of (has_named content rule) (list_all (has_named content) rules) all.0.0 (there-of content rules all.1)

none-of : (place : ℕ) (content : Content) (rules : List Rule) → AllByRecursion (IsHeld content) rules → broken_from place content rules ≡ None
none-of place content [] all = refl
none-of place content (rule ∷ rules) all =
    ap (λ o. broken_or place o (broken_from (place + 1) content rules)) all.0.1 ∙ none-of (place + 1) content rules all.1

each-held : (content : Content) (rules : List Rule) → IsSettled (ruled content rules) → AllByRecursion (IsHeld content) rules
each-held content rules settled = held-from 0 content rules settled.there settled.held

all-settled : (content : Content) (rules : List Rule) → AreNamed rules → AllByRecursion (IsHeld content) rules → IsSettled (ruled content rules)
all-settled content rules named all = record { named = named; there = there-of content rules all; held = none-of 0 content rules all }

-- ---- lists

insert-last : {X : Type 0} (xs : List X) (x : X) → insert xs (length xs) x ≡ xs ++ x ∷ []
insert-last [] x = refl
insert-last (y ∷ ys) x = ap (λ rest. y ∷ rest) (insert-last ys x)

length-last : {X : Type 0} (xs : List X) (x : X) → length (xs ++ x ∷ []) ≡ length xs + 1
length-last [] x = omega arith
length-last (y ∷ ys) x = let rest : length (ys ++ x ∷ []) ≡ length ys + 1 = length-last ys x in omega (arith, rest)

take-front : {X : Type 0} (xs : List X) (x : X) → take (length xs) (xs ++ x ∷ []) ≡ xs
take-front [] x = refl
take-front (y ∷ ys) x = ap (λ rest. y ∷ rest) (take-front ys x)

pub take-last : {X : Type 0} (xs : List X) (x : X) → take (length (xs ++ x ∷ []) - 1) (xs ++ x ∷ []) ≡ xs
take-last xs x =
    let fewer : length (xs ++ x ∷ []) - 1 ≡ length xs = omega (arith, length-last xs x) in
    ap (λ n. take n (xs ++ x ∷ [])) fewer ∙ take-front xs x

pub one-more : {X : Type 0} (xs : List X) (x : X) → 0 < length (xs ++ x ∷ [])
one-more xs x = omega (arith, length-last xs x)

-- ---- rules added and dropped

-- a rule that was added holds, and those before it
pub added-settled : (content : Content) (rules : List Rule) (rule : Rule) (new : Ruled) → IsSettled (ruled content rules) → ruled_step (ruled content rules) (AddRule rule) ≡ Ok new
    → IsSettled (ruled content (rules ++ rule ∷ []))
added-settled content rules rule new settled h = by (adds (ruled content rules) rule)
  where
    by : AddsOr (ruled content rules) rule (ruled_step (ruled content rules) (AddRule rule)) → IsSettled (ruled content (rules ++ rule ∷ []))
    by (Refuses accepted broke) = absurd (accepted new h)
    by (Adds was) =
        let kept = unless-kept (with_rule (ruled content rules) rule) new (broken_or (length rules) (break_of content rule) None) (sym was.last ∙ h) in
        all-settled content (rules ++ rule ∷ []) (named-added rules rule settled.named was.named was.other was.few)
        (each-append (IsHeld content) rules (rule ∷ []) (each-held content rules settled)
        ((was.there, only-none (length rules) (break_of content rule) kept.0), tt))

pub added-led : (content : Content) (rules after : List Rule) (rule : Rule) → IsSettled (ruled content rules) → after ≡ rules ++ rule ∷ []
    → ruled_step (ruled content rules) (AddRule rule) ≡ Ok (ruled content after) → IsLed (ruled content rules) (ruled_step (ruled content rules) (AddRule rule)) undos.AddedRule (ruled content after)
added-led content rules after rule settled is h =
    let back : take (length after - 1) after ≡ rules = ap (λ rs. take (length rs - 1) rs) is ∙ take-last rules rule in record {
      led = h;
      back = ap (ruled content) back;
      fits = record {
        can = subst (λ (rs : List Rule). 0 < length rs) (sym is) (one-more rules rule);
        settled = subst (λ rs. IsSettled (ruled content rs)) (sym back) settled;
      };
    }

pub removed-settled : (content : Content) (rules : List Rule) (place : ℕ) → IsSettled (ruled content rules) → IsSettled (ruled content (remove rules place))
removed-settled content rules place settled =
    all-settled content (remove rules place) (named-removed rules place settled.named) (all-removed (IsHeld content) rules place (each-held content rules settled))

pub dropped-led : (content : Content) (rules after : List Rule) (name : List ℕ) (place : ℕ) (rule : Rule) → IsSettled (ruled content rules) → slice_get rules place ≡ Some rule → after ≡ remove rules place
    → ruled_step (ruled content rules) (DropRule name) ≡ Ok (ruled content after)
    → IsLed (ruled content rules) (ruled_step (ruled content rules) (DropRule name)) (undos.DroppedRule place rule) (ruled content after)
dropped-led content rules after name place rule settled there is h =
    let back : insert after place rule ≡ rules = ap (λ rs. insert rs place rule) is ∙ insert-remove rules place rule there in
    let below = slice_get-below rules place rule there in
    let fewer : length (remove rules place) + 1 ≡ length rules = length-remove rules place below in
    let fits : place ≤ length (remove rules place) = omega (arith, fewer, below) in record {
      led = h;
      back = ap (ruled content) back;
      fits = record {
        can = subst (λ (rs : List Rule). place ≤ length rs) (sym is) fits;
        settled = subst (λ rs. IsSettled (ruled content rs)) (sym back) settled;
      };
    }

-- ---- taken back

pub change-back : (old new : Content) (rules : List Rule) (undo : ContentUndo) (redo : ContentRedo) → IsSettled (ruled old rules) → TakesBack old undo redo new
    → TakesBackUnder (ruled old rules) (undos.Change undo) (redos.Change redo) (ruled new rules)
change-back old new rules undo redo settled t = record {
  undone = ap (λ c. ruled c rules) t.undone;
  again = ap (λ c. ruled c rules) t.again;
  fits = record { can = t.fits; settled = subst (λ c. IsSettled (ruled c rules)) (sym t.again) settled };
}

pub name-back : (old new : Content) (rules before : List Rule) (inverse : Inverse) (edit : Edit) → IsSettled (ruled old rules) → Reverts old inverse edit new
    → TakesBackUnder (ruled old rules) (undos.Renamed inverse before) (redos.Renamed edit rules) (ruled new before)
name-back old new rules before inverse edit settled reverts =
    let t = edit-taken_back old new inverse edit reverts in record {
      undone = ap (λ c. ruled c before) t.undone;
      again = ap (λ c. ruled c rules) t.again;
      fits = record { can = t.fits; settled = subst (λ c. IsSettled (ruled c rules)) (sym t.again) settled };
    }

pub last-back : (content : Content) (rules after : List Rule) (rule : Rule) → IsSettled (ruled content rules) → after ≡ take (length rules - 1) rules → rules ≡ after ++ rule ∷ []
    → TakesBackUnder (ruled content rules) undos.AddedRule (redos.AddRule rule) (ruled content after)
last-back content rules after rule settled is parts = record {
  undone = ap (ruled content) is;
  again = ap (ruled content) (sym parts);
  fits = record { can = tt; settled = subst (λ rs. IsSettled (ruled content rs)) parts settled };
}

pub rule-back : (content : Content) (rules after : List Rule) (place : ℕ) (rule : Rule) → IsSettled (ruled content rules) → place ≤ length rules → after ≡ insert rules place rule
    → TakesBackUnder (ruled content rules) (undos.DroppedRule place rule) (redos.DropRule place) (ruled content after)
rule-back content rules after place rule settled fits is =
    let again : remove after place ≡ rules = ap (λ rs. remove rs place) is ∙ remove-insert rules place rule fits in
    let below : place < length (insert rules place rule) = slice_get-below (insert rules place rule) place rule (slice_get-insert rules place rule fits) in record {
      undone = ap (ruled content) is;
      again = ap (ruled content) again;
      fits = record {
        can = subst (λ (rs : List Rule). place < length rs) (sym is) below;
        settled = subst (λ rs. IsSettled (ruled content rs)) (sym again) settled;
      };
    }

-- ---- made again

pub change-again : (old new : Content) (rules : List Rule) (redo : ContentRedo) (undo : ContentUndo) → IsSettled (ruled old rules) → MakesAgain old redo undo new
    → MakesAgainUnder (ruled old rules) (redos.Change redo) (undos.Change undo) (ruled new rules)
change-again old new rules redo undo settled t = record {
  redone = ap (λ c. ruled c rules) t.redone;
  back = ap (λ c. ruled c rules) t.back;
  fits = record { can = t.fits; settled = subst (λ c. IsSettled (ruled c rules)) (sym t.back) settled };
}

pub name-again : (old new : Content) (rules after : List Rule) (edit : Edit) (inverse : Inverse) → IsSettled (ruled old rules) → Carries old edit (Ok inverse) new
    → MakesAgainUnder (ruled old rules) (redos.Renamed edit after) (undos.Renamed inverse rules) (ruled new after)
name-again old new rules after edit inverse settled carries =
    let t = edit-made_again old new edit inverse carries in record {
      redone = ap (λ c. ruled c after) t.redone;
      back = ap (λ c. ruled c rules) t.back;
      fits = record { can = t.fits; settled = subst (λ c. IsSettled (ruled c rules)) (sym t.back) settled };
    }

pub rule-again : (content : Content) (rules after : List Rule) (rule : Rule) → IsSettled (ruled content rules) → after ≡ insert rules (length rules) rule
    → MakesAgainUnder (ruled content rules) (redos.AddRule rule) undos.AddedRule (ruled content after)
rule-again content rules after rule settled is =
    let last : after ≡ rules ++ rule ∷ [] = is ∙ insert-last rules rule in
    let back : take (length after - 1) after ≡ rules = ap (λ rs. take (length rs - 1) rs) last ∙ take-last rules rule in record {
      redone = ap (ruled content) last;
      back = ap (ruled content) back;
      fits = record {
        can = subst (λ (rs : List Rule). 0 < length rs) (sym last) (one-more rules rule);
        settled = subst (λ rs. IsSettled (ruled content rs)) (sym back) settled;
      };
    }

pub drop-again : (content : Content) (rules after : List Rule) (place : ℕ) (rule : Rule) → IsSettled (ruled content rules) → slice_get rules place ≡ Some rule → after ≡ remove rules place
    → MakesAgainUnder (ruled content rules) (redos.DropRule place) (undos.DroppedRule place rule) (ruled content after)
drop-again content rules after place rule settled there is =
    let back : insert after place rule ≡ rules = ap (λ rs. insert rs place rule) is ∙ insert-remove rules place rule there in
    let below = slice_get-below rules place rule there in
    let fewer : length (remove rules place) + 1 ≡ length rules = length-remove rules place below in
    let fits : place ≤ length (remove rules place) = omega (arith, fewer, below) in record {
      redone = ap (ruled content) is;
      back = ap (ruled content) back;
      fits = record {
        can = subst (λ (rs : List Rule). place ≤ length rs) (sym is) fits;
        settled = subst (λ rs. IsSettled (ruled content rs)) (sym back) settled;
      };
    }
