use Rattle.std.proofs.Common.{◌≡◌, take}
use Rattle.sf_rtree.specs.Indexes.{ids_meeting}
use Rattle.sf_rtree.proofs.list.ListIndexSpatialIndex.meeting.Given as goal

abbrev pub invariant-loop-entry : goal.invariant-loop-entry
invariant-loop-entry l = l.ids.items ≡ ids_meeting l.extent (take l.entry-index l.entry-items)
