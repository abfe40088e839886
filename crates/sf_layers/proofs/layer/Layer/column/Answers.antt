use Rattle.std.proofs.Common.{option_copied}
use Rattle.sf_layers.proofs.Columns.{column-at}
use Rattle.sf_layers.proofs.layer.Layer.column.Goals as goal

pub returns-in-Some : goal.returns-in-Some
returns-in-Some c = column-at c.args.self.now c.args.name.now c.in-Some.place (option_copied c.column_at.result) c.in-Some.ensures.there c.in-Some.ensures.found c.column_at.ensures
