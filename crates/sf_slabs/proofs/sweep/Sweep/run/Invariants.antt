use Rattle.std.proofs.Common.{◌≡◌, ◌≤◌, length, map}
use Rattle.std.specs.List.{fold}
use Rattle.sf_cells.specs.Cells.{cells}
use Rattle.sf_cells.specs.Groups.{item_of}
use Rattle.sf_slabs.specs.Walks.{IsReady}
use Rattle.sf_slabs.proofs.RemainingLaws.{left, remaining}
use Rattle.sf_slabs.proofs.RunLaws.{Stands}
use Rattle.sf_slabs.proofs.sweep.Sweep.run.Given as goal

-- the sweep stands before the next column, and what has been handed out with what is left is all
abbrev pub invariant-loop-next : goal.invariant-loop-next
invariant-loop-next g l =
    record {
      ready : IsReady l.pieces l.groups (length l.fn.vertices) l.self;
      stands : Stands l.pieces l.next l.self.order.items l.self.contacts.items l.ahead;
      fewer : length l.ahead ≤ length l.fn.vertices;
      handed : fold g.S.CellSink.after (g.S.CellSink.content l.sink) (map (item_of l.groups) (remaining l.pieces l.next))
          ≡ fold g.S.CellSink.after (g.S.CellSink.content l.fn.sink) (map (item_of l.groups) (cells l.pieces));
    }

abbrev pub decreases-loop-next : goal.decreases-loop-next
decreases-loop-next g l = left l.pieces l.next
