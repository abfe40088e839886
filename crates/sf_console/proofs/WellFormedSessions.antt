-- Sessions lead from well-formed contents to well-formed ones.
use Rattle.std.proofs.Common.{◌≡◌, ℕ, Bool, true, false, not, zero, suc, ◌-◌, nat_eq, inl, inr, List, [], ◌∷◌, ◌++◌, length, Option, None, Some, Result, Ok, Err, if◌then◌else◌, nat_lt, refl, sym, ap, ◌∙◌, subst, arith}
use Rattle.std.specs.List.{AllByRecursion, IsDistinct, list_all}
use Rattle.std.specs.Str.{is_utf8}
use Rattle.sf_refusals.specs.declared.refusal.Refusal.{Refusal}
use Rattle.sf_refusals.specs.declared.refusal.Refusal.TheVariants.{BadCommand, NotYours}
use Rattle.sf_wkt.specs.Tokens.{is_blank}
use Rattle.sf_layers.specs.Content.{Content, has_layer}
use Rattle.sf_layers.specs.WellFormed.{IsWellFormed}
use Rattle.sf_steps.specs.declared.answer.Answer.{Answer}
use Rattle.sf_steps.specs.declared.edit.Edit.{Edit}
use Rattle.sf_steps.specs.declared.refusal.Refusal.{Refusal as EditRefusal}
use Rattle.sf_steps.specs.Laws.{BringsGridPoints}
use Rattle.sf_steps.specs.Steps.{step}
use Rattle.sf_steps.proofs.StepsFine.{IsWellFormed-step}
use Rattle.sf_history.specs.Recorded.{OfEdit, OfGroup}
use Rattle.sf_features.specs.Names.{is_name}
use Rattle.sf_history.specs.Recorded.{Broken}
use Rattle.sf_history.specs.Recorded.{Rule}
use Rattle.sf_history.specs.Recorded.{break_of, broken_or, first_broken}
use Rattle.sf_history.specs.Recorded.{StepRefusal}
use Rattle.sf_history.specs.Recorded.refusals.{BadName, NoColumn, WrongValue, NoLayer, RuleExists, TooManyRules}
use Rattle.sf_history.specs.Recorded.{Ruled, added, after_change, edit_led, group_led, has_columns_of, has_layers_of, has_named, has_rule, place_of_rule, rules_after, rules_max, settled, unless_broken, why_missing, with_rule, without_rule}
use Rattle.sf_history.specs.History.{Kept, Machine, after_step, answering, back_to, forth_to, fresh, giving, identifying, ruled_now}
use Rattle.sf_commands.specs.declared.command.Command.{Command}
use Rattle.sf_commands.specs.declared.command.Command.TheVariants as commands
use Rattle.sf_groups.specs.declared.member.Member.{Member}
use Rattle.sf_groups.specs.Members.{Refused, together}
use Rattle.sf_groups.proofs.GroupsFine.{groups-fine}
use Rattle.sf_commands.specs.declared.group_text.GroupRefusal.{GroupRefusal}
use Rattle.sf_commands.specs.declared.head.Head.{Head}
use Rattle.sf_commands.specs.GroupTexts.{group_by_head, group_by_parts, group_of, head_of, members_of, parts_of}
use Rattle.sf_commands.proofs.LawProofs.{commands_bring_grid_points, members_bring_grid_points}
use Rattle.sf_console.specs.Answers.{edit_reply, group_reply, history_reply, reply, rule_reply, step_reply}
use Rattle.sf_console.specs.Readings.{Reading, Blank, Unreadable, Asked, Grouped, Cut, by_group, reading_of, text_reading}
use Rattle.sf_console.specs.Requests.{Closed, Comes, Ends, Event, Gathering, Open, events_of, gathered, gathered_on, is_passed_over, line_head, nothing_asked, outside, readings, readings_of, requests_from, whole_lines_come, whole_readings_of, with_member}
use Rattle.sf_console.specs.Session.{IsAnswered, Run}
use Rattle.sf_console.specs.Serving.{AreFirst, BreaksOff}
use Rattle.sf_console.specs.Laws.{AreWellFormed, FreshMachinesAreWellFormed, ServingKeepsContentsWellFormed, SessionsKeepContentsWellFormed}

-- ---- a command

-- the machine after a step; the one before where it is refused
abbrev pub machine_after : Machine → Result Machine StepRefusal → Machine
machine_after machine (Ok next) = next
machine_after machine (Err refusal) = machine

edit_fine : (machine : Machine) (answer : Answer) (result : Result Machine StepRefusal) → AreWellFormed (machine_after machine result)
    → AreWellFormed (edit_reply machine (giving answer result)).0
edit_fine machine answer (Ok next) fine = fine
edit_fine machine answer (Err refusal) fine = fine

group_fine : (machine : Machine) (ids : List ℕ) (result : Result Machine StepRefusal) → AreWellFormed (machine_after machine result)
    → AreWellFormed (step_reply machine (giving ids result)).0
group_fine machine ids (Ok next) fine = fine
group_fine machine ids (Err refusal) fine = fine

rule_fine : (machine : Machine) (name : List ℕ) (result : Result Machine StepRefusal) → AreWellFormed (machine_after machine result)
    → AreWellFormed (rule_reply machine name result).0
rule_fine machine name (Ok next) fine = fine
rule_fine machine name (Err refusal) fine = fine

-- a step to a content that is well formed
led_fine : (machine : Machine) (editor : ℕ) (next : Ruled) → IsWellFormed next.content → AreWellFormed machine
    → AreWellFormed (machine_after machine (after_step editor machine (settled next)))
led_fine machine editor next well fine = by (list_all (has_named next.content) next.rules) (first_broken next.content next.rules)
  where
    by : (there : Bool) (broken : Option Broken)
        → AreWellFormed (machine_after machine (after_step editor machine (if there then unless_broken next broken else Err (why_missing next.content next.rules))))
    by true None = record { now = well; past = (fine.now, fine.past); future = tt }
    by true (Some broken) = fine
    by false broken = fine

after_edit : (machine : Machine) (editor : ℕ) (edit : Edit) (done : Result (Content × Answer) EditRefusal) → step machine.now edit ≡ done
    → BringsGridPoints edit → AreWellFormed machine
    → AreWellFormed (edit_reply machine (answering (after_step editor machine (after_change (ruled_now machine) (OfEdit edit) (edit_led done))) done)).0
after_edit machine editor edit (Ok done) is brings fine =
    let next : Ruled = record { content = done.0; rules = rules_after machine.rules (OfEdit edit) } in
    edit_fine machine done.1 (after_step editor machine (settled next))
    (led_fine machine editor next (IsWellFormed-step machine.now done.0 edit done.1 brings fine.now is) fine)
after_edit machine editor edit (Err refusal) is brings fine = fine

-- a check that refuses a step, or what is behind it
checked_fine : (machine : Machine) (editor : ℕ) (fails : Bool) (refusal : StepRefusal) (rest : Result Ruled StepRefusal) → AreWellFormed machine
    → AreWellFormed (machine_after machine (after_step editor machine rest))
    → AreWellFormed (machine_after machine (after_step editor machine (if fails then Err refusal else rest)))
checked_fine machine editor true refusal rest fine behind = fine
checked_fine machine editor false refusal rest fine behind = behind

after_rule : (machine : Machine) (editor : ℕ) (rule : Rule) → AreWellFormed machine
    → AreWellFormed (machine_after machine (after_step editor machine (added (ruled_now machine) rule)))
after_rule machine editor rule fine =
    checked_fine machine editor (not (is_name rule.name)) BadName _ fine
    (checked_fine machine editor (has_rule rule.name machine.rules) RuleExists _ fine
    (checked_fine machine editor (not (has_layers_of machine.now rule)) NoLayer _ fine
    (checked_fine machine editor (not (has_columns_of machine.now rule)) NoColumn _ fine
    (checked_fine machine editor (not (has_named machine.now rule)) WrongValue _ fine
    (checked_fine machine editor (not (nat_lt (length machine.rules) rules_max)) TooManyRules _ fine
    (by (broken_or (length machine.rules) (break_of machine.now rule) None)))))))
  where
    by : (broken : Option Broken) → AreWellFormed (machine_after machine (after_step editor machine (unless_broken (with_rule (ruled_now machine) rule) broken)))
    by None = record { now = fine.now; past = (fine.now, fine.past); future = tt }
    by (Some broken) = fine

after_drop : (machine : Machine) (editor : ℕ) (place : Option ℕ) → AreWellFormed machine
    → AreWellFormed (machine_after machine (after_step editor machine (without_rule (ruled_now machine) place)))
after_drop machine editor None fine = fine
after_drop machine editor (Some place) fine = record { now = fine.now; past = (fine.now, fine.past); future = tt }

-- a machine that a move leads to, where the editor who asks may make it
if_own_fine : (is : Bool) (machine next : Machine) (refusal : Refusal) → AreWellFormed machine → AreWellFormed next
    → AreWellFormed (history_reply machine (if is then Ok next else Err refusal)).0
if_own_fine true machine next refusal fine led = led
if_own_fine false machine next refusal fine led = fine

after_undo : (machine : Machine) (editor : ℕ) (past : List Kept) → AllByRecursion (λ kept. IsWellFormed kept.content) past
    → AreWellFormed machine → AreWellFormed (history_reply machine (back_to editor machine past)).0
after_undo machine editor [] all fine = fine
after_undo machine editor (before ∷ earlier) all fine =
    if_own_fine (nat_eq before.editor editor) machine _ (NotYours before.editor) fine (record { now = all.0; past = all.1; future = (fine.now, fine.future) })

after_redo : (machine : Machine) (editor : ℕ) (future : List Kept) → AllByRecursion (λ kept. IsWellFormed kept.content) future
    → AreWellFormed machine → AreWellFormed (history_reply machine (forth_to editor machine future)).0
after_redo machine editor [] all fine = fine
after_redo machine editor (after ∷ later) all fine =
    if_own_fine (nat_eq after.editor editor) machine _ (NotYours after.editor) fine (record { now = all.0; past = (fine.now, fine.past); future = all.1 })

-- the points that the edit of a command brings are on the grid
abbrev Brings : Result (ℕ × Command) Refusal → Type 0
Brings command = (editor : ℕ) (edit : Edit) → command ≡ Ok (editor, commands.Edit edit) → BringsGridPoints edit

after_command : (machine : Machine) (command : Result (ℕ × Command) Refusal) → Brings command → AreWellFormed machine → AreWellFormed (reply machine command).0
after_command machine (Ok (editor, commands.Edit edit)) brings fine = after_edit machine editor edit (step machine.now edit) refl (brings editor edit refl) fine
after_command machine (Ok (editor, commands.AddRule rule)) brings fine =
    rule_fine machine rule.name (after_step editor machine (added (ruled_now machine) rule)) (after_rule machine editor rule fine)
after_command machine (Ok (editor, commands.DropRule name)) brings fine =
    let place = place_of_rule name machine.rules in
    rule_fine machine name (after_step editor machine (without_rule (ruled_now machine) place)) (after_drop machine editor place fine)
after_command machine (Ok (editor, commands.Undo)) brings fine = after_undo machine editor machine.past fine.past fine
after_command machine (Ok (editor, commands.Redo)) brings fine = after_redo machine editor machine.future fine.future fine
after_command machine command brings fine = fine

-- ---- a group

after_members : (machine : Machine) (editor : ℕ) (members : List Member) (done : Result (Content × List ℕ) Refused) → together machine.now members ≡ done
    → AllByRecursion (λ member. BringsGridPoints member.edit) members → AreWellFormed machine
    → AreWellFormed (step_reply machine (identifying (after_step editor machine (after_change (ruled_now machine) (OfGroup members) (group_led done))) done)).0
after_members machine editor members (Ok done) is bring fine =
    let next : Ruled = record { content = done.0; rules = rules_after machine.rules (OfGroup members) } in
    group_fine machine done.1 (after_step editor machine (settled next))
    (led_fine machine editor next (groups-fine machine.now done.0 members done.1 bring fine.now is) fine)
after_members machine editor members (Err refused) is bring fine = fine

-- the points that the members of a group bring are on the grid
abbrev GroupBrings : Result (List Member) GroupRefusal → Type 0
GroupBrings group = (members : List Member) → group ≡ Ok members → AllByRecursion (λ member. BringsGridPoints member.edit) members

after_group_of : (machine : Machine) (editor : ℕ) (group : Result (List Member) GroupRefusal) → GroupBrings group → AreWellFormed machine
    → AreWellFormed (group_reply machine editor group).0
after_group_of machine editor (Ok members) brings fine = after_members machine editor members (together machine.now members) refl (brings members refl) fine
after_group_of machine editor (Err refusal) brings fine = fine

-- ---- what is asked

-- the same of what is asked
abbrev pub LineBrings : Reading → Type 0
LineBrings (Asked takes command) = Brings command
LineBrings (Grouped editor group) = GroupBrings group
LineBrings other = Unit {0}

by_test : (b : Bool) (one other : Reading) → LineBrings one → LineBrings other → LineBrings (if b then one else other)
by_test true one other first second = first
by_test false one other first second = second

-- a group that a text is has the members that the text spells
group_spelled : (text : List ℕ) (head : Option Head) (count : ℕ) → group_by_head head text count ≡ group_by_head head text count
    → (group : ℕ × Result (List Member) GroupRefusal) → group_by_head head text count ≡ Some group → group.1 ≡ members_of text
group_spelled text None count same group is = absurd cc
group_spelled text (Some head) count same group is = by_count (nat_eq head.members count) is
  where
    by_count : (all : Bool) → (if all then Some (head.editor, members_of text) else None) ≡ Some group → group.1 ≡ members_of text
    by_count true is = ap (λ o. group_in o) (sym is)
      where
        group_in : Option (ℕ × Result (List Member) GroupRefusal) → Result (List Member) GroupRefusal
        group_in (Some found) = found.1
        group_in None = members_of text
    by_count false is = absurd cc

text_brings : (text : List ℕ) → LineBrings (text_reading text)
text_brings text =
    by_test (not (is_utf8 text)) (Unreadable BadCommand) _ tt (by_test (list_all is_blank text) Blank (by_group text (group_of text)) tt (of_group (group_of text) refl))
  where
    spelled_in : (parts : List (List ℕ)) (group : ℕ × Result (List Member) GroupRefusal) → group_by_parts parts text ≡ Some group → group.1 ≡ members_of text
    spelled_in [] group is = absurd cc
    spelled_in (first ∷ members) group is = group_spelled text (head_of first) (length members) refl group is

    of_group : (group : Option (ℕ × Result (List Member) GroupRefusal)) → group_of text ≡ group → LineBrings (by_group text group)
    of_group None is = commands_bring_grid_points text
    of_group (Some group) is = λ members spelled. members_bring_grid_points text members (sym (spelled_in (parts_of text) group is) ∙ spelled)

line_brings : (line : Option (List ℕ)) → LineBrings (reading_of line)
line_brings None = tt
line_brings (Some text) = text_brings text

event_brings : (gathering : Gathering) (event : Event) → LineBrings (gathered gathering event).1.reading
event_brings Closed (Comes line) = by_head (line_head line)
  where
    by_head : (head : Option Head) → LineBrings (outside line head).1.reading
    by_head None = line_brings line
    by_head (Some head) = tt
event_brings Closed Ends = tt
event_brings (Open text left) (Comes line) = by_passed (is_passed_over line)
  where
    by_left : (whole : List ℕ) (n : ℕ) → LineBrings (gathered_on whole n).1.reading
    by_left whole zero = text_brings whole
    by_left whole (suc n) = tt

    by_passed : (passed : Bool) → LineBrings (if passed then (Open text left, nothing_asked) else gathered_on (with_member text line) (left - 1)).1.reading
    by_passed true = tt
    by_passed false = by_left (with_member text line) (left - 1)
event_brings (Open text left) Ends = tt

pub events_bring : (gathering : Gathering) (events : List Event) → AllByRecursion LineBrings (readings (requests_from gathering events))
events_bring gathering [] = tt
events_bring gathering (event ∷ events) = (event_brings gathering event, events_bring (gathered gathering event).0 events)

pub after_line : (old new : Machine) (line : Reading) (text : List ℕ) → LineBrings line → AreWellFormed old → IsAnswered old line text new → AreWellFormed new
after_line old new Blank text brings fine answered = subst AreWellFormed (sym answered.1) fine
after_line old new (Unreadable refusal) text brings fine answered = subst AreWellFormed (sym answered.1) fine
after_line old new (Asked takes command) text brings fine (inl replied) = subst AreWellFormed (ap (λ p. p.0) replied) (after_command old command brings fine)
after_line old new (Asked takes command) text brings fine (inr refused) = subst AreWellFormed (sym refused.1) fine
after_line old new (Grouped editor group) text brings fine (inl replied) = subst AreWellFormed (ap (λ p. p.0) replied) (after_group_of old editor group brings fine)
after_line old new (Grouped editor group) text brings fine (inr refused) = subst AreWellFormed (sym refused.1) fine
after_line old new (Cut group) text brings fine answered = subst AreWellFormed (sym answered.1) fine

-- ---- lines

pub after_lines : (old new : Machine) (lines : List Reading) (output : List ℕ) → AllByRecursion LineBrings lines → AreWellFormed old → Run old lines output new → AreWellFormed new
after_lines old new [] output bring fine ran = subst AreWellFormed (sym ran.1) fine
after_lines old new (line ∷ lines) output bring fine (mid, text, rest, answered, ran, parts) =
    after_lines mid new lines rest bring.1 (after_line old mid line text bring.0 fine answered) ran

pub parts_bring : (lines more : List Reading) → AllByRecursion LineBrings (lines ++ more) → AllByRecursion LineBrings lines × AllByRecursion LineBrings more
parts_bring [] more bring = (tt, bring)
parts_bring (line ∷ lines) more bring = let parts = parts_bring lines more bring.1 in ((bring.0, parts.0), parts.1)

pub first_bring : (lines : List Reading) (taken : List ℕ) (left : Option (List ℕ)) → AreFirst lines taken left → AllByRecursion LineBrings lines
first_bring lines taken left (inl (later, parts)) =
    (parts_bring lines later (subst (λ all. AllByRecursion LineBrings all) parts (events_bring Closed (whole_lines_come taken)))).0
first_bring lines taken left (inr (at_end, later, parts)) =
    (parts_bring lines later (subst (λ all. AllByRecursion LineBrings all) parts (events_bring Closed (events_of taken)))).0

after_break : (unread left written_before written : Option (List ℕ)) (old new : Machine) → AreWellFormed old → BreaksOff unread left written_before written old new → AreWellFormed new
after_break unread left written_before written old new fine broken =
    let bring = parts_bring broken.earlier (broken.last ∷ []) (first_bring _ broken.taken left broken.first_lines) in
    let before = after_lines old broken.mid broken.earlier broken.output bring.0 fine broken.ran in
    after_line broken.mid new broken.last (broken.sent ++ broken.unsent) bring.1.0 before broken.answered

-- ---- the laws

new_store : IsWellFormed []
unfolding IsDistinct
new_store = record { few = omega arith; named = tt; distinct = tt; layers = tt }

of_content : (content : Content) → IsWellFormed content → AreWellFormed (fresh content)
of_content content fine = record { now = fine; past = tt; future = tt }

pub fresh_machines_are_well_formed : FreshMachinesAreWellFormed
fresh_machines_are_well_formed = (of_content, of_content [] new_store)

pub sessions_keep_contents_well_formed : SessionsKeepContentsWellFormed
sessions_keep_contents_well_formed old new input output fine ran =
    after_lines old new (readings_of input) output (events_bring Closed (events_of input)) fine ran

pub serving_keeps_contents_well_formed : ServingKeepsContentsWellFormed
serving_keeps_contents_well_formed unread left written_before written old new fine = record {
  all = λ serves. after_lines old new (readings_of serves.taken) serves.output (events_bring Closed (events_of serves.taken)) fine serves.ran;
  whole_lines = λ serves. after_lines old new (whole_readings_of serves.taken) serves.output (events_bring Closed (whole_lines_come serves.taken)) fine serves.ran;
  broken_off = after_break unread left written_before written old new fine;
}
