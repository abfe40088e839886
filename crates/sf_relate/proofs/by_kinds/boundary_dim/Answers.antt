use Rattle.sf_relate.proofs.ToldLaws.{lines-boundary}
use Rattle.sf_relate.proofs.by_kinds.boundary_dim.Goals as goal

pub returns-in-MultiLineString : goal.returns-in-MultiLineString
returns-in-MultiLineString c =
    lines-boundary c.args.geometry.now c.in-MultiLineString.lines c.as_slice-in-MultiLineString.result.now c.has_odd_ends.result c.dim_of_ends-in-MultiLineString.result
    c.in-MultiLineString.is c.as_slice-in-MultiLineString.ensures c.has_odd_ends.ensures c.dim_of_ends-in-MultiLineString.ensures
