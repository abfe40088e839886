-- What becomes of a text that is carried out.
use Rattle.std.proofs.Common.{◌≡◌, ℕ, Bool, true, false, List, Some, Result, Ok, Err, inl, inr, refl, sym, ap, ◌∙◌, subst}
use Rattle.sf_refusals.specs.declared.refusal.Refusal.{Refusal}
use Rattle.sf_refusals.specs.declared.refusal.Refusal.TheVariants.{Memory}
use Rattle.sf_console.specs.History.{Machine}
use Rattle.sf_console.specs.Carried.{Command, GroupRefusal, Member, OrMemoryIf, command_of, group_of, takes_memory}
use Rattle.sf_console.specs.Answers.{accepted_line, reply, reply_text}
use Rattle.sf_console.specs.Readings.{Asked, Grouped, by_group, text_reading}
use Rattle.sf_console.specs.Session.{IsAnswered}
use Rattle.sf_console.proofs.ReadingLemmas.{IsAnswered-asked}
use Rattle.sf_keeping.specs.Changes.{changed, commanded}
use Rattle.sf_keeping.specs.Outcomes.{Becomes, BecomesGrouped, IsNoChange, IsOutcome}
use Rattle.sf_keeping.specs.declared.carrying.Outcome.{Outcome}
use Rattle.sf_keeping.specs.declared.carrying.Outcome.TheVariants as outcomes

-- what was parsed is the command, where it is one
parsed_is : (takes : Bool) (expected : Result (ℕ × Command) Refusal) (asked : ℕ × Command) → OrMemoryIf takes expected (Ok asked) → expected ≡ Ok asked
parsed_is true expected asked parsed = sym parsed
parsed_is false expected asked parsed = sym parsed

-- what becomes of a command becomes of its text
pub outcome-of : (old new : Machine) (text : List ℕ) (asker : ℕ) (command : Command) (outcome : Outcome)
    → text_reading text ≡ Asked (takes_memory text) (command_of text) → OrMemoryIf (takes_memory text) (command_of text) (Ok (asker, command))
    → Becomes old asker command outcome new → IsOutcome old text outcome new
outcome-of old new text asker command (outcomes.Changed answer) asks parsed (replies, changes) =
    let is : command_of text ≡ Ok (asker, command) = parsed_is (takes_memory text) (command_of text) (asker, command) parsed in (
      subst (λ r. IsAnswered old r (accepted_line answer) new) (sym asks) (inl (ap (reply old) is ∙ replies)),
      ap (changed old) asks ∙ ap (commanded old) is ∙ changes,
    )
outcome-of old new text asker command (outcomes.Grouped answer) asks parsed none = absurd none
outcome-of old new text asker command (outcomes.Told told) asks parsed (answered, same, none) =
    let is : command_of text ≡ Ok (asker, command) = parsed_is (takes_memory text) (command_of text) (asker, command) parsed in (
      subst (λ r. IsAnswered old r (reply_text told) new) (sym asks)
          (IsAnswered-asked (takes_memory text) old new (reply_text told) (command_of text) (Ok (asker, command)) parsed answered),
      same,
      subst (IsNoChange told) (sym (ap (changed old) asks ∙ ap (commanded old) is)) none,
    )

-- a text that is read as no command changes nothing
pub no_command : (takes : Bool) (old : Machine) (text : List ℕ) (expected : Result (ℕ × Command) Refusal) (refusal : Refusal)
    → text_reading text ≡ Asked takes expected → OrMemoryIf takes expected (Err refusal) → IsNoChange (Err refusal) (changed old (text_reading text))
no_command false old text expected refusal asks is = inr (ap (changed old) asks ∙ sym (ap (commanded old) is))
no_command true old text expected Memory asks is = inl refl
no_command true old text expected refusal asks is = inr (ap (changed old) asks ∙ sym (ap (commanded old) is))

-- what becomes of a group becomes of its text
pub outcome-of_group : (old new : Machine) (text : List ℕ) (asker : ℕ) (group : Result (List Member) GroupRefusal) (outcome : Outcome)
    → text_reading text ≡ by_group text (group_of text) → group_of text ≡ Some (asker, group) → BecomesGrouped old asker group outcome new → IsOutcome old text outcome new
outcome-of_group old new text asker group outcome reads is becomes = by outcome becomes
  where
    asks : text_reading text ≡ Grouped asker group
    asks = reads ∙ ap (by_group text) is

    by : (outcome : Outcome) → BecomesGrouped old asker group outcome new → IsOutcome old text outcome new
    by (outcomes.Changed answer) none = absurd none
    by (outcomes.Grouped answer) (replies, changes) =
        (subst (λ r. IsAnswered old r answer.items new) (sym asks) (inl replies), ap (changed old) asks ∙ changes)
    by (outcomes.Told told) (answered, same, none) =
        (subst (λ r. IsAnswered old r (reply_text told) new) (sym asks) answered, same, subst (IsNoChange told) (sym (ap (changed old) asks)) none)
