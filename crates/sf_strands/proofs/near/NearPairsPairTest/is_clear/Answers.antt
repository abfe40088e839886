use Rattle.std.proofs.Common.{◌+◌, ◌-◌, ◌<◌, arith, length}
use Rattle.sf_strands.proofs.NearLaws.{clear-beside}
use Rattle.sf_strands.proofs.near.NearPairsPairTest.is_clear.Goals as goal

pub returns-then-start-end : goal.returns-then-start-end
returns-then-start-end c =
    λ beside.
    let last : c.args.end - 1 + 1 < length c.args.self.now.points.now = (c.requires (c.args.end - 1) (omega (arith, c.if-start-end.true)) (omega (arith, c.if-start-end.true))).2 in
    clear-beside c.args.self.now.points.now c.args.first c.args.start c.args.end (c.requires c.args.start (omega arith) c.if-start-end.true).0 (omega (arith, last, c.if-start-end.true)) (c.is_beside.ensures beside)
