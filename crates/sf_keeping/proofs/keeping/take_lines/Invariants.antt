use Rattle.std.proofs.Common.{ℕ, List, length}
use Rattle.sf_text_lines.specs.Lines.{HasNoFeed}
use Rattle.sf_text_lines.specs.Buffers.{IsBufferOf}
use Rattle.sf_console.specs.Requests.{Gathering}
use Rattle.sf_console.specs.Gatherings.{IsHeld}
use Rattle.sf_keeping.specs.Underway.{TakesLines}
use Rattle.sf_keeping.proofs.keeping.take_lines.Given as goal

-- the lines before the rest were carried out
abbrev pub invariant-loop-alloc : goal.invariant-loop-alloc
invariant-loop-alloc g l = (before : List ℕ) (gathering : Gathering) → IsBufferOf before l.fn.input.begun → HasNoFeed before → IsHeld gathering l.fn.group →
    TakesLines before l.fn.input.rest gathering l.group (g.D.Folder.calls l.fn.desk) (g.D.Folder.calls l.desk) l.fn.pending l.fn.editor l.input l.pending l.editor

abbrev pub decreases-loop-alloc : goal.decreases-loop-alloc
decreases-loop-alloc g l = length l.input.rest
