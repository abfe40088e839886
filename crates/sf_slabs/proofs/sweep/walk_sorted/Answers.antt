use Rattle.std.proofs.Common.{sym, rules}
use Rattle.sf_slabs.proofs.sweep.walk_sorted.Goals as goal

pub run-requires-clause-ready : goal.run-requires-clause-ready
run-requires-clause-ready g c = c.in_ok-sweep.ensures.ready c.args.pieces.now (search rules) c.args.groups.now (sym c.group_count.ensures)
