-- Whose steps the undos and redos of a session move.
use Rattle.std.proofs.Common.{◌≡◌, ◌⊎◌, ℕ, inl, inr, List, [], ◌∷◌, Option, None, Some, Result, Ok, Err, filter_map, option_map, refl, sym, ap, ◌∙◌, subst}
use Rattle.std.specs.List.{cons_option}
use Rattle.sf_refusals.specs.declared.refusal.Refusal.{Refusal}
use Rattle.sf_layers.specs.Content.{Content}
use Rattle.sf_steps.specs.declared.answer.Answer.{Answer}
use Rattle.sf_steps.specs.declared.edit.Edit.{Edit}
use Rattle.sf_steps.specs.Steps.{step}
use Rattle.sf_groups.specs.declared.member.Member.{Member}
use Rattle.sf_groups.specs.Members.{Refused, together}
use Rattle.sf_steps.specs.declared.refusal.Refusal.{Refusal as EditRefusal}
use Rattle.sf_history.specs.Recorded.{OfEdit, OfGroup}
use Rattle.sf_history.specs.Recorded.{StepRefusal}
use Rattle.sf_history.specs.Recorded.{AddRule, DropRule, OfChange}
use Rattle.sf_history.specs.History.{Machine, answering, fresh_under, giving, identifying, stepped, undone, redone}
use Rattle.sf_history.specs.Laws.{Turn, Leads, LeadInTurn}
use Rattle.sf_history.proofs.OwnSteps.{own_steps_law}
use Rattle.sf_commands.specs.declared.command.Command.TheVariants as commands
use Rattle.sf_console.specs.Answers.{edit_reply, history_reply, rule_reply, step_reply}
use Rattle.sf_console.proofs.WellFormedSessions.{machine_after}
use Rattle.sf_console.specs.Readings.{Reading, Blank, Unreadable, Asked, Grouped, Cut}
use Rattle.sf_console.specs.Requests.{readings_of}
use Rattle.sf_console.specs.Session.{IsAnswered, Run}
use Rattle.sf_console.specs.Laws.{turn_of, SessionsMoveOwnSteps}

-- a line that asks nothing of the history leaves it, and one that does is its turn or is refused
abbrev pub LeadsOrStays : Option Turn → Machine → Machine → Type 0
LeadsOrStays None old new = new ≡ old
LeadsOrStays (Some turn) old new = Leads old turn new ⊎ (new ≡ old)

-- a step whose answer is this was carried out, or changed nothing
step_turn : (old new : Machine) (result : Result Machine StepRefusal) → machine_after old result ≡ new → (result ≡ Ok new) ⊎ (new ≡ old)
step_turn old new (Ok next) led = inl (ap (λ (m : Machine). let r : Result Machine StepRefusal = Ok m in r) led)
step_turn old new (Err refusal) led = inr (sym led)

edit_machine : (old : Machine) (answer : Answer) (result : Result Machine StepRefusal) → (edit_reply old (giving answer result)).0 ≡ machine_after old result
edit_machine old answer (Ok next) = refl
edit_machine old answer (Err refusal) = refl

edit_turn : (editor : ℕ) (edit : Edit) (old new : Machine) (text : List ℕ) (result : Result Machine StepRefusal) (done : Result (Content × Answer) EditRefusal)
    → edit_reply old (answering result done) ≡ (new, text) → (result ≡ Ok new) ⊎ (new ≡ old)
edit_turn editor edit old new text result (Ok done) h = step_turn old new result (sym (edit_machine old done.1 result) ∙ ap (λ p. p.0) h)
edit_turn editor edit old new text result (Err refusal) h = inr (sym (ap (λ p. p.0) h))

group_machine : (old : Machine) (ids : List ℕ) (result : Result Machine StepRefusal) → (step_reply old (giving ids result)).0 ≡ machine_after old result
group_machine old ids (Ok next) = refl
group_machine old ids (Err refusal) = refl

group_turn : (old new : Machine) (text : List ℕ) (result : Result Machine StepRefusal) (done : Result (Content × List ℕ) Refused)
    → step_reply old (identifying result done) ≡ (new, text) → (result ≡ Ok new) ⊎ (new ≡ old)
group_turn old new text result (Ok done) h = step_turn old new result (sym (group_machine old done.1 result) ∙ ap (λ p. p.0) h)
group_turn old new text result (Err refused) h = inr (sym (ap (λ p. p.0) h))

rule_machine : (old : Machine) (name : List ℕ) (result : Result Machine StepRefusal) → (rule_reply old name result).0 ≡ machine_after old result
rule_machine old name (Ok next) = refl
rule_machine old name (Err refusal) = refl

rule_turn : (old new : Machine) (text name : List ℕ) (result : Result Machine StepRefusal) → rule_reply old name result ≡ (new, text) → (result ≡ Ok new) ⊎ (new ≡ old)
rule_turn old new text name result h = step_turn old new result (sym (rule_machine old name result) ∙ ap (λ p. p.0) h)

move_turn : (old new : Machine) (text : List ℕ) (r e : Result Machine Refusal) → e ≡ r → history_reply old r ≡ (new, text) → (e ≡ Ok new) ⊎ (new ≡ old)
move_turn old new text (Ok other) e is h = inl (is ∙ ap (λ (m : Machine). let r : Result Machine Refusal = Ok m in r) (ap (λ p. p.0) h))
move_turn old new text (Err refusal) e is h = inr (sym (ap (λ p. p.0) h))

pub line_turn : (old new : Machine) (line : Reading) (text : List ℕ) → IsAnswered old line text new → LeadsOrStays (turn_of line) old new
line_turn old new Blank text answered = answered.1
line_turn old new (Unreadable refusal) text answered = answered.1
line_turn old new (Asked takes (Err refusal)) text (inl replied) = sym (ap (λ p. p.0) replied)
line_turn old new (Asked takes (Err refusal)) text (inr refused) = refused.1
line_turn old new (Asked takes (Ok (editor, commands.Edit edit))) text (inl replied) =
    edit_turn editor edit old new text (stepped editor old (OfChange (OfEdit edit))) (step old.now edit) replied
line_turn old new (Asked takes (Ok (editor, commands.Edit edit))) text (inr refused) = inr refused.1
line_turn old new (Asked takes (Ok (editor, commands.AddRule rule))) text (inl replied) = rule_turn old new text rule.name (stepped editor old (AddRule rule)) replied
line_turn old new (Asked takes (Ok (editor, commands.AddRule rule))) text (inr refused) = inr refused.1
line_turn old new (Asked takes (Ok (editor, commands.DropRule name))) text (inl replied) = rule_turn old new text name (stepped editor old (DropRule name)) replied
line_turn old new (Asked takes (Ok (editor, commands.DropRule name))) text (inr refused) = inr refused.1
line_turn old new (Asked takes (Ok (editor, commands.Undo))) text (inl replied) = move_turn old new text (undone editor old) (undone editor old) refl replied
line_turn old new (Asked takes (Ok (editor, commands.Undo))) text (inr refused) = inr refused.1
line_turn old new (Asked takes (Ok (editor, commands.Redo))) text (inl replied) = move_turn old new text (redone editor old) (redone editor old) refl replied
line_turn old new (Asked takes (Ok (editor, commands.Redo))) text (inr refused) = inr refused.1
line_turn old new (Asked takes (Ok (editor, command))) text (inl replied) = sym (ap (λ p. p.0) replied)
line_turn old new (Asked takes (Ok (editor, command))) text (inr refused) = refused.1
line_turn old new (Grouped editor (Ok members)) text (inl replied) = group_turn old new text (stepped editor old (OfChange (OfGroup members))) (together old.now members) replied
line_turn old new (Grouped editor (Ok members)) text (inr refused) = inr refused.1
line_turn old new (Grouped editor (Err refusal)) text (inl replied) = sym (ap (λ p. p.0) replied)
line_turn old new (Grouped editor (Err refusal)) text (inr refused) = refused.1
line_turn old new (Cut group) text answered = answered.1

-- the lines' turns lead where the session leads
one_more : (old mid new : Machine) (turn : Option Turn) (lines : List Reading) → LeadsOrStays turn old mid → LeadInTurn mid (filter_map turn_of lines) new
    → LeadInTurn old (cons_option turn (filter_map turn_of lines)) new
one_more old mid new None lines led rest = subst (λ m. LeadInTurn m (filter_map turn_of lines) new) led rest
one_more old mid new (Some turn) lines led rest = (mid, led, rest)

turns_lead : (old new : Machine) (lines : List Reading) (output : List ℕ) → Run old lines output new → LeadInTurn old (filter_map turn_of lines) new
turns_lead old new [] output ran = ran.1
turns_lead old new (line ∷ lines) output (mid, text, rest, answered, ran, parts) =
    one_more old mid new (turn_of line) lines (line_turn old mid line text answered) (turns_lead mid new lines rest ran)

pub sessions_move_own_steps : SessionsMoveOwnSteps
sessions_move_own_steps first input output machine ran =
    own_steps_law first (filter_map turn_of (readings_of input)) machine (turns_lead (fresh_under first) machine (readings_of input) output ran)
