-- Internal: who wants to trust the program need not read this file.
-- What becomes of a text that is carried out.
use Rattle.std.specs.Prelude.{◌≡◌, ◌⊎◌, ℕ, false, List, Option, None, Some, Result, Ok, Err}
use Rattle.sf_refusals.specs.declared.refusal.Refusal.{Refusal}
use Rattle.sf_refusals.specs.declared.refusal.Refusal.TheVariants.{Memory}
use Rattle.sf_console.specs.History.{Machine}
use Rattle.sf_console.specs.Carried.{Command, GroupRefusal, Member}
use Rattle.sf_console.specs.Answers.{accepted_line, group_reply, reply, reply_text}
use Rattle.sf_console.specs.declared.reply.Reply.{Reply}
use Rattle.sf_console.specs.Readings.{Asked, text_reading}
use Rattle.sf_console.specs.Readings.Reading.{Grouped as AskedGroup}
use Rattle.sf_console.specs.Session.{IsAnswered}
use Rattle.sf_keeping.specs.Changes.{changed, commanded, grouped_by}
use Rattle.sf_keeping.specs.declared.carrying.Outcome.{Outcome}
use Rattle.sf_keeping.specs.declared.carrying.Outcome.TheVariants.{Changed, Grouped, Told}

-- what is told of what changes nothing: that no memory was found, or else it is no change that is accepted
abbrev pub IsNoChange : Result Reply Refusal → Option Machine → Type 0
IsNoChange told change = (told ≡ Err Memory) ⊎ (change ≡ None)

-- what becomes of a text: it changed the machine and is answered so, or changed nothing
abbrev pub IsOutcome : Machine → List ℕ → Outcome → Machine → Type 0
IsOutcome old text (Changed answer) new =
    IsAnswered old (text_reading text) (accepted_line answer) new × (changed old (text_reading text) ≡ Some new)
IsOutcome old text (Grouped answer) new =
    IsAnswered old (text_reading text) answer.items new × (changed old (text_reading text) ≡ Some new)
IsOutcome old text (Told told) new =
    IsAnswered old (text_reading text) (reply_text told) new × (new ≡ old) × IsNoChange told (changed old (text_reading text))

-- what becomes of a command
abbrev pub Becomes : Machine → ℕ → Command → Outcome → Machine → Type 0
Becomes old asker command (Changed answer) new =
    (reply old (Ok (asker, command)) ≡ (new, accepted_line answer)) × (commanded old (Ok (asker, command)) ≡ Some new)
Becomes old asker command (Grouped answer) new = ⊥
Becomes old asker command (Told told) new =
    IsAnswered old (Asked false (Ok (asker, command))) (reply_text told) new × (new ≡ old) × IsNoChange told (commanded old (Ok (asker, command)))

-- what becomes of a group of an editor: it changed the machine and is answered so, or changed nothing
abbrev pub BecomesGrouped : Machine → ℕ → Result (List Member) GroupRefusal → Outcome → Machine → Type 0
BecomesGrouped old asker group (Changed answer) new = ⊥
BecomesGrouped old asker group (Grouped answer) new =
    (group_reply old asker group ≡ (new, answer.items)) × (grouped_by old asker group ≡ Some new)
BecomesGrouped old asker group (Told told) new =
    IsAnswered old (AskedGroup asker group) (reply_text told) new × (new ≡ old) × IsNoChange told (grouped_by old asker group)
