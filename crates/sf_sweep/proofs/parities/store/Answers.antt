use Rattle.std.proofs.Common.{sym, ap, ◌∙◌, ◌+◌, ◌∷◌, drop}
use Rattle.std.specs.Prelude.{slice_set}
use Rattle.std.proofs.lemmas.List.{at_drop_all, at_drop_more}
use Rattle.sf_sweep.specs.Parities.{row_below, stored}
use Rattle.sf_sweep.proofs.parities.store.Goals as goal

pub loop-edge-preserved : goal.loop-edge-preserved
loop-edge-preserved g c =
    let areal = c.args.areal.now in
    let groups = c.args.groups.now in
    let edges = c.args.edges.now in
    let i = c.loop-edge.edge-index in
    let a = c.edge-item.result in
    let odd = g.R.Row.bits c.loop-edge.odd in
    record {
      table = ap (λ table. stored areal groups table (g.R.Row.bits c.below-odd.result) (drop (i + 1) edges)) c.put.ensures.table
          ∙ ap (λ row. stored areal groups (slice_set c.loop-edge.table a.piece odd) row (drop (i + 1) edges)) c.below-odd.ensures
          ∙ ap (λ e. stored areal groups c.loop-edge.table odd (e ∷ drop (i + 1) edges)) c.edge-item.is
          ∙ sym (at_drop_more (stored areal groups c.loop-edge.table odd) edges i a c.loop-edge-test.true)
          ∙ c.loop-edge.invariant.table;
      len = c.put.ensures.len ∙ c.loop-edge.invariant.len;
      below = ap (λ row. row_below areal groups row (drop (i + 1) edges)) c.below-odd.ensures
          ∙ ap (λ e. row_below areal groups odd (e ∷ drop (i + 1) edges)) c.edge-item.is
          ∙ sym (at_drop_more (row_below areal groups odd) edges i a c.loop-edge-test.true)
          ∙ c.loop-edge.invariant.below;
    }

pub returns-clause-table : goal.returns-clause-table
returns-clause-table g c =
    sym (at_drop_all (stored c.args.areal.now c.args.groups.now c.loop-edge.table (g.R.Row.bits c.loop-edge.odd)) c.args.edges.now c.loop-edge.edge-index c.loop-edge-test.false) ∙ c.loop-edge.invariant.table

pub returns-clause-below : goal.returns-clause-below
returns-clause-below g c =
    sym (at_drop_all (row_below c.args.areal.now c.args.groups.now (g.R.Row.bits c.loop-edge.odd)) c.args.edges.now c.loop-edge.edge-index c.loop-edge-test.false) ∙ c.loop-edge.invariant.below
