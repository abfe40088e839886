-- All rules hold in every content to which a session leads.
use Rattle.std.proofs.Common.{◌≡◌, ◌⊎◌, ℕ, inl, inr, List, [], ◌∷◌, ◌++◌, Option, None, Some, sym, subst}
use Rattle.std.specs.List.{AllByRecursion}
use Rattle.sf_history.specs.History.{Machine}
use Rattle.sf_history.specs.Laws.{KeepsRules, Turn}
use Rattle.sf_history.proofs.KeptRules.{turns_keep_rules}
use Rattle.sf_console.specs.Readings.{Reading}
use Rattle.sf_console.specs.Requests.{Closed, events_of, readings_of, whole_lines_come, whole_readings_of}
use Rattle.sf_console.specs.Session.{Run}
use Rattle.sf_console.specs.Serving.{BreaksOff}
use Rattle.sf_console.specs.Laws.{AreWellFormed, FreshMachinesKeepRules, ServingKeepsRules, SessionsKeepRules, turn_of}
use Rattle.sf_console.proofs.OwnSteps.{LeadsOrStays, line_turn}
use Rattle.sf_console.proofs.WellFormedSessions.{LineBrings, after_line, after_lines as well_after_lines, events_bring, first_bring, parts_bring}

after_turn : (old new : Machine) (turn : Option Turn) → AreWellFormed old → AreWellFormed new → KeepsRules old → LeadsOrStays turn old new → KeepsRules new
after_turn old new None before after keep same = subst KeepsRules (sym same) keep
after_turn old new (Some turn) before after keep (inl leads) = turns_keep_rules old new turn before.now after.now keep leads
after_turn old new (Some turn) before after keep (inr same) = subst KeepsRules (sym same) keep

after_lines : (old new : Machine) (lines : List Reading) (output : List ℕ) → AllByRecursion LineBrings lines → AreWellFormed old → KeepsRules old
    → Run old lines output new → KeepsRules new
after_lines old new [] output bring fine keep ran = subst KeepsRules (sym ran.1) keep
after_lines old new (line ∷ lines) output bring fine keep (mid, text, rest, answered, ran, parts) =
    let next = after_line old mid line text bring.0 fine answered in
    after_lines mid new lines rest bring.1 next (after_turn old mid (turn_of line) fine next keep (line_turn old mid line text answered)) ran

pub sessions_keep_rules : SessionsKeepRules
sessions_keep_rules old new input output fine keep ran = after_lines old new (readings_of input) output (events_bring Closed (events_of input)) fine keep ran

after_break : (unread left written_before written : Option (List ℕ)) (old new : Machine) → AreWellFormed old → KeepsRules old
    → BreaksOff unread left written_before written old new → KeepsRules new
after_break unread left written_before written old new fine keep broken =
    let bring = parts_bring broken.earlier (broken.last ∷ []) (first_bring _ broken.taken left broken.first_lines) in
    let before = well_after_lines old broken.mid broken.earlier broken.output bring.0 fine broken.ran in
    let kept = after_lines old broken.mid broken.earlier broken.output bring.0 fine keep broken.ran in
    let next = after_line broken.mid new broken.last (broken.sent ++ broken.unsent) bring.1.0 before broken.answered in
    after_turn broken.mid new (turn_of broken.last) before next kept (line_turn broken.mid new broken.last (broken.sent ++ broken.unsent) broken.answered)

pub serving_keeps_rules : ServingKeepsRules
serving_keeps_rules unread left written_before written old new fine keep = record {
  all = λ serves. after_lines old new (readings_of serves.taken) serves.output (events_bring Closed (events_of serves.taken)) fine keep serves.ran;
  whole_lines = λ serves. after_lines old new (whole_readings_of serves.taken) serves.output (events_bring Closed (whole_lines_come serves.taken)) fine keep serves.ran;
  broken_off = after_break unread left written_before written old new fine keep;
}

pub fresh_machines_keep_rules : FreshMachinesKeepRules
fresh_machines_keep_rules content = record { now = tt; past = tt; future = tt }
