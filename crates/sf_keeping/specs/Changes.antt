-- What a text of a journal does: the edits that were accepted, replayed.
use Rattle.std.specs.Prelude.{◌≡◌, ℕ, List, [], ◌∷◌, Option, None, Some, Result, Ok, Err}
use Rattle.sf_refusals.specs.declared.refusal.Refusal.{Refusal}
use Rattle.sf_console.specs.Carried.{AddRule, Adding, Answer, Command, DropRule, Dropping, Edit, GroupRefusal, Member, Redo, StepRefusal, Undo}
use Rattle.sf_console.specs.History.{Machine, edited, grouped, stepped, undone, redone}
use Rattle.sf_console.specs.Readings.{Reading, Asked, Grouped, text_reading}

-- the machine of an accepted edit
abbrev pub after_edit : Result (Machine × Answer) StepRefusal → Option Machine
after_edit (Ok done) = Some done.0
after_edit (Err refusal) = None

-- the machine of an accepted group
abbrev pub after_group : Result (Machine × List ℕ) StepRefusal → Option Machine
after_group (Ok done) = Some done.0
after_group (Err refusal) = None

-- the machine of a rule that was added or dropped
abbrev pub after_rule : Result Machine StepRefusal → Option Machine
after_rule (Ok machine) = Some machine
after_rule (Err refusal) = None

-- the machine of an accepted undo or redo
abbrev pub after_move : Result Machine Refusal → Option Machine
after_move (Ok machine) = Some machine
after_move (Err refusal) = None

-- the machine after an accepted edit, rule added or dropped, undo or redo; nothing else changes it
abbrev pub commanded : Machine → Result (ℕ × Command) Refusal → Option Machine
commanded machine (Ok (editor, Edit edit)) = after_edit (edited editor machine edit)
commanded machine (Ok (editor, AddRule rule)) = after_rule (stepped editor machine (Adding rule))
commanded machine (Ok (editor, DropRule name)) = after_rule (stepped editor machine (Dropping name))
commanded machine (Ok (editor, Undo)) = after_move (undone editor machine)
commanded machine (Ok (editor, Redo)) = after_move (redone editor machine)
commanded machine other = None

-- the machine after a group that is accepted
abbrev pub grouped_by : Machine → ℕ → Result (List Member) GroupRefusal → Option Machine
grouped_by machine editor (Ok members) = after_group (grouped editor machine members)
grouped_by machine editor (Err refusal) = None

-- the machine after what is asked, where that is an accepted edit, group, undo or redo
abbrev pub changed : Machine → Reading → Option Machine
changed machine (Asked takes command) = commanded machine command
changed machine (Grouped editor group) = grouped_by machine editor group
changed machine other = None

-- the texts lead from the one machine to the other, each an accepted edit, group, undo or redo
abbrev pub Leads : Machine → List (List ℕ) → Machine → Type 0
Leads old [] new = new ≡ old
Leads old (text ∷ texts) new = (mid : Machine) × (changed old (text_reading text) ≡ Some mid) × Leads mid texts new
