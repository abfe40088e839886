use Rattle.std.proofs.Common.{ℕ, List, length}
use Rattle.sf_text_lines.specs.Lines.{HasNoFeed}
use Rattle.sf_text_lines.specs.Buffers.{IsBufferOf}
use Rattle.sf_console.specs.Requests.{Gathering}
use Rattle.sf_console.specs.Gatherings.{IsHeld}
use Rattle.sf_console.specs.Chunks.{Takes}
use Rattle.sf_console.specs.Outlets.{StaysLeft}
use Rattle.sf_console.proofs.serving.take_chunk.Given as goal

-- the lines before the rest were answered, and the answers have left
abbrev pub invariant-loop-at : goal.invariant-loop-at
invariant-loop-at g l = ((before : List ℕ) (gathering : Gathering) → IsBufferOf before l.fn.buffer → HasNoFeed before → IsHeld gathering l.fn.group →
    Takes before l.chunk l.rest l.buffer gathering l.group (g.W.Write.contents l.fn.writer) (g.W.Write.contents l.writer) l.fn.editor l.editor)
    × StaysLeft (g.W.Outlet.left l.fn.writer) (g.W.Write.contents l.fn.writer) (g.W.Outlet.left l.writer) (g.W.Write.contents l.writer)

abbrev pub decreases-loop-at : goal.decreases-loop-at
decreases-loop-at g l = length l.rest
