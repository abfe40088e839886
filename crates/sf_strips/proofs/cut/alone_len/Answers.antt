use Rattle.std.proofs.Common.{rules}
use Rattle.sf_strips.specs.Strips.{column_of}
use Rattle.sf_strips.proofs.AloneLaws.{count-further}
use Rattle.sf_strips.proofs.cut.alone_len.Goals as goal

pub loop-place-preserved : goal.loop-place-preserved
loop-place-preserved c =
    count-further (column_of c.args.strip.now) c.loop-place.place c.args.edges.now c.args.contacts.now c.args.vertices.now _ c.index-edges-place.result
    (search rules) c.index-edges-place.is (search rules) c.loop-place.invariant
