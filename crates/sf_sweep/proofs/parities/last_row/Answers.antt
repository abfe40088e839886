use Rattle.std.proofs.Common.{ap, ◌∙◌}
use Rattle.std.specs.Prelude.{slice_index}
use Rattle.sf_sweep.specs.Parities.{turned}
use Rattle.sf_sweep.proofs.ParityRowLaws.{row-below_last, row-below_none}
use Rattle.sf_sweep.proofs.parities.last_row.Goals as goal

pub returns-in-Some : goal.returns-in-Some
returns-in-Some g c =
    let a = c.in-Some.last.now in
    c.below.ensures ∙ ap (λ row. turned c.args.areal.now row (slice_index c.args.groups.now a.piece)) c.at.ensures
    ∙ row-below_last c.args.areal.now c.args.groups.now c.args.table.now c.args.edges.now c.in-Some.field-0-1.now a c.in-Some.ensures.cases.0 c.requires.grouped c.requires.stored

pub returns-in-None : goal.returns-in-None
returns-in-None g c = c.of.ensures ∙ row-below_none c.args.areal.now c.args.groups.now c.args.edges.now g.R.Row.width c.in-None.ensures.cases c.requires.wide
