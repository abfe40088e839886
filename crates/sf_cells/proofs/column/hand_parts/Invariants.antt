use Rattle.std.proofs.Common.{drop}
use Rattle.sf_strips.specs.Fronts.{pieces_of}
use Rattle.sf_strips.specs.Parts.{levels_of}
use Rattle.sf_cells.specs.Groups.{counts}
use Rattle.sf_cells.specs.Hands.{plus}
use Rattle.sf_strips.specs.Strips.{is_column}
use Rattle.sf_cells.proofs.HandSteps.{Handing, gathered}
use Rattle.sf_cells.proofs.column.hand_parts.Given as goal

-- the parts from the index on are left, and from them the sink gathers what is missing of the whole column
abbrev pub invariant-loop-part : goal.invariant-loop-part
invariant-loop-part g l =
    let column = l.fn.column in
    Handing g.S.CellSink.after l.groups (plus l.fn.tallies.above.items (counts l.groups (pieces_of column.onward.now))) (is_column l.strip)
    (gathered g.S.CellSink.after (g.S.CellSink.content l.fn.sink) l.groups (is_column l.strip) l.fn.tallies.above.items column.edges.now column.vertices.now column.onward.now (levels_of column.parts.now))
    (g.S.CellSink.content l.sink) l.tallies.on.items l.tallies.above.items l.edges l.vertices l.onward (levels_of (drop l.part-index l.part-items))
