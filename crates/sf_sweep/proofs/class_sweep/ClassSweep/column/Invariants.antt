use Rattle.std.proofs.Common.{◌≤◌, length, ◌+◌, ◌-◌}
use Rattle.sf_sweep.specs.Ready.{IsReady, KeepsPlaces}
use Rattle.sf_sweep.specs.Within.{IsAt, IsSince}
use Rattle.sf_sweep.proofs.class_sweep.ClassSweep.column.Given as goal

-- the edges above the place were dealt with, and the first vertices
abbrev pub invariant-loop-window : goal.invariant-loop-window
invariant-loop-window g l =
    record {
      since : (s : IsAt l.x l.groups l.areal l.fn.self.front.order.items l.fn.self.front.meetings l.fn.self.odd 0 l.vertices)
          → IsSince s l.self.front.order.items l.self.front.meetings l.self.odd l.from l.left g.S.CellSink.after (g.S.CellSink.content l.fn.sink) (g.S.CellSink.content l.sink);
      fewer : length l.left ≤ length l.vertices;
      places : KeepsPlaces l.fn.self l.self;
      ready : IsReady g.R.Row.width l.areal l.groups l.self.odd l.self.tallies;
    }

abbrev pub decreases-loop-window : goal.decreases-loop-window
decreases-loop-window g l = (length l.self.front.order.items - l.from) + length l.left
