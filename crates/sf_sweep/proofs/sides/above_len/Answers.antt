use Rattle.std.proofs.Common.{rules}
use Rattle.std.proofs.lemmas.List.Sorted.{IsPartitionPoint-from_clause}
use Rattle.sf_sweep.specs.Sides.{is_below_edge}
use Rattle.sf_sweep.proofs.sides.above_len.Goals as goal

pub returns-clause-parted : goal.returns-clause-parted
returns-clause-parted c =
    IsPartitionPoint-from_clause (is_below_edge c.args.p.now) c.args.edges.now c.partition_point.result c.partition_point.ensures.partitioned c.requires.falling (λ a r q k. search rules)
