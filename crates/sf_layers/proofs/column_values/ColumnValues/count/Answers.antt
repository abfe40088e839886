use Rattle.std.proofs.Common.{ap, length, arith}
use Rattle.std.proofs.lemmas.Slice.Zip.{length-zip}
use Rattle.sf_layers.proofs.column_values.ColumnValues.count.Goals as goal

pub returns-clause-count : goal.returns-clause-count
returns-clause-count c =
    let both = length-zip c.self.inside.ids.items c.self.inside.values.items in
    omega (arith, c.len.ensures, c.self.invariant.0, c.self.inside.ids.ok.0, c.self.inside.values.ok.0, both, ap length c.self.view_is)

pub returns-clause-small : goal.returns-clause-small
returns-clause-small c = omega (arith, c.len.ensures, c.self.inside.values.ok.1, c.self.inside.values.small)
