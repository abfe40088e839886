use Rattle.std.proofs.Common.{◌≡◌, length, take}
use Rattle.sf_along.specs.declared.run.TheConstants.{PLACES}
use Rattle.sf_along.specs.Marks.{AreMarks}
use Rattle.sf_along.proofs.marks.marks.Given as goal

-- the table is as long as it was, and has the marks of the runs gone through
abbrev pub invariant-loop-run : goal.invariant-loop-run
invariant-loop-run l = (length l.marks.items ≡ PLACES) × AreMarks l.marks.items l.is_first (take l.run-index l.runs)
