use Rattle.std.proofs.Common.{ap, ◌∙◌}
use Rattle.std.specs.Prelude.{slice_set}
use Rattle.std.proofs.lemmas.List.{map-set}
use Rattle.sf_sweep.proofs.row.Rows.put.Goals as goal

pub returns-clause-table : goal.returns-clause-table
returns-clause-table g c =
    map-set g.R.Row.bits c.self.inside.rows.items c.args.piece c.args.row ∙ ap (λ rows. slice_set rows c.args.piece (g.R.Row.bits c.args.row)) c.self.view_is
