use Rattle.std.proofs.Common.{ap, ◌∙◌}
use Rattle.sf_strips.specs.declared.part.Part.TheVariants.{Alone, Together}
use Rattle.sf_strips.specs.Parts.{levels_of}
use Rattle.sf_strips.specs.Strips.{is_column}
use Rattle.sf_cells.proofs.HandSteps.{Handing-level, Handing-of, Handing-same, IsCut, Left-above, Left-of, Left-start, gathered, gathered-start, none-next, part-next}
use Rattle.sf_cells.proofs.AloneSteps.{Handing-alone, Left-alone}
use Rattle.sf_cells.proofs.column.hand_parts.Goals as goal
use Rattle.sf_cells.proofs.column.hand_parts.Goals.{in-Alone, in-Together}

pub loop-part-init : goal.loop-part-init
loop-part-init g c =
    let column = c.args.column.now in
    record {
      left = Left-start c.args.groups.now c.args.tallies.now.on.items c.args.tallies.now.above.items column.edges.now column.vertices.now column.onward.now (levels_of column.parts.now)
          c.requires.edges c.requires.vertices c.requires.onward c.requires.few c.requires.levels c.requires.balanced c.requires.none_on c.requires.counted_above c.requires.room_above;
      handed = gathered-start g.S.CellSink.after (g.S.CellSink.content c.args.sink.now) c.args.groups.now (is_column c.args.strip.now) column.edges.now column.vertices.now column.onward.now (levels_of column.parts.now)
          c.args.tallies.now.on.items c.args.tallies.now.above.items c.requires.none_on;
    }

pub split_at-requires : goal.split_at-requires
split_at-requires g c =
    (Left-alone c.in-Alone.count
    (Left-of (part-next c.args.column.now.parts.now c.loop-part.part-index (Alone 0) (Alone c.in-Alone.count) c.loop-part-test.true c.in-Alone.is) c.loop-part.invariant.left)).enough

pub split_at-requires-in-Alone : goal.split_at-requires-in-Alone
split_at-requires-in-Alone g c =
    (Left-alone c.in-Alone.count
    (Left-of (part-next c.args.column.now.parts.now c.loop-part.part-index (Alone 0) (Alone c.in-Alone.count) c.loop-part-test.true c.in-Alone.is) c.loop-part.invariant.left)).enough_onward

pub loop-part-preserved : goal.loop-part-preserved
loop-part-preserved g c =
    elim c.match-part.branch [
      | in-Alone w ↦
          Handing-same (ap g.S.CellSink.content w.sink-is) (ap (λ t. t.on.items) w.tallies-is) (ap (λ t. t.above.items) w.tallies-is) (ap (λ z. z.now) w.edges-is) (ap (λ z. z.now) w.vertices-is) (ap (λ z. z.now) w.onward-is)
          (Handing-alone w.in-Alone.count w.split_at.ensures.front w.split_at.ensures.back w.split_at-in-Alone.ensures.front w.split_at-in-Alone.ensures.back
          w.hand_alone.ensures.on w.hand_alone.ensures.above w.hand_alone.ensures.handed
          (Handing-of (part-next c.args.column.now.parts.now c.loop-part.part-index (Alone 0) (Alone w.in-Alone.count) c.loop-part-test.true w.in-Alone.is) c.loop-part.invariant))
      | in-Together w ↦
          let cut : IsCut w.in-Together.level c.loop-part.edges.now w.split_at-in-Together.result.0.now w.split_at-in-Together.result.1.now
          c.loop-part.vertices.now w.split_at-in-Together-2.result.0.now w.split_at-in-Together-2.result.1.now
          c.loop-part.onward.now w.split_at-in-Together-3.result.0.now w.split_at-in-Together-3.result.1.now =
          record {
            edges = w.split_at-in-Together.ensures.front;
            later_edges = w.split_at-in-Together.ensures.back;
            vertices = w.split_at-in-Together-2.ensures.front;
            later_vertices = w.split_at-in-Together-2.ensures.back;
            onward = w.split_at-in-Together-3.ensures.front;
            later_onward = w.split_at-in-Together-3.ensures.back;
          } in
          Handing-same (ap g.S.CellSink.content w.sink-is) (ap (λ t. t.on.items) w.tallies-is) (ap (λ t. t.above.items) w.tallies-is) (ap (λ z. z.now) w.edges-is) (ap (λ z. z.now) w.vertices-is) (ap (λ z. z.now) w.onward-is)
          (Handing-level cut w.hand_level.ensures.on w.hand_level.ensures.above w.hand_level.ensures.handed
          (Handing-of (part-next c.args.column.now.parts.now c.loop-part.part-index (Alone 0) (Together w.in-Together.level) c.loop-part-test.true w.in-Together.is) c.loop-part.invariant))
    ]

pub returns-clause-handed : goal.returns-clause-handed
unfolding gathered
returns-clause-handed g c =
    let last = Handing-of (none-next c.args.column.now.parts.now c.loop-part.part-index c.loop-part-test.false) c.loop-part.invariant in
    c.hand_gap.ensures ∙ last.handed

pub returns-clause-none_on : goal.returns-clause-none_on
returns-clause-none_on g c =
    let left = Left-of (none-next c.args.column.now.parts.now c.loop-part.part-index c.loop-part-test.false) c.loop-part.invariant.left in
    left.balanced

pub returns-clause-above : goal.returns-clause-above
returns-clause-above g c = Left-above (Left-of (none-next c.args.column.now.parts.now c.loop-part.part-index c.loop-part-test.false) c.loop-part.invariant.left)
