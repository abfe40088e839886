use Rattle.std.proofs.Common.{◌≤◌, length}
use Rattle.sf_slabs.proofs.RemainingLaws.{left}
use Rattle.sf_slabs.proofs.RunLaws.{Stands}
use Rattle.sf_sweep.specs.Ready.{IsReady, KeepsPlaces}
use Rattle.sf_sweep.specs.Tables.{contacts_of}
use Rattle.sf_sweep.proofs.AcrossLaws.{HaveHanded, IsKept}
use Rattle.sf_sweep.proofs.class_sweep.ClassSweep.run.Given as goal

-- the sweep stands before the next column, and what was handed out so far represents the cells up to it
abbrev pub invariant-loop-next : goal.invariant-loop-next
invariant-loop-next g l =
    record {
      stands : Stands l.pieces l.next l.self.front.order.items (contacts_of l.self.front.meetings l.self.front.order.items) l.ahead;
      kept : IsKept l.groups l.areal l.self.front.order.items l.self.front.meetings l.self.odd;
      handed : HaveHanded l.pieces l.groups l.areal l.self.front.order.items l.self.front.meetings l.next g.S.CellSink.after (g.S.CellSink.content l.fn.sink) (g.S.CellSink.content l.sink);
      fewer : length l.ahead ≤ length l.vertices;
      places : KeepsPlaces l.fn.self l.self;
      ready : IsReady g.R.Row.width l.areal l.groups l.self.odd l.self.tallies;
    }

abbrev pub decreases-loop-next : goal.decreases-loop-next
decreases-loop-next g l = left l.pieces l.next
