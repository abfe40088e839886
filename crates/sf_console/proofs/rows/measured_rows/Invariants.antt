use Rattle.std.proofs.Common.{string_bytes}
use Rattle.sf_console.specs.Answers.{measured_row}
use Rattle.sf_console.proofs.LookupLemmas.{AreShown}
use Rattle.sf_console.proofs.rows.measured_rows.Given as goal

-- the head, and the rows of the identifiers so far
abbrev pub invariant-loop-id : goal.invariant-loop-id
invariant-loop-id l = AreShown (measured_row l.measure l.layer) l.ids l.id-index (string_bytes l.text)
