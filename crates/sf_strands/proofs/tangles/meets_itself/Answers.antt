use Rattle.std.proofs.Common.{arith}
use Rattle.sf_strands.proofs.CountedLaws.{length-made}
use Rattle.sf_strands.proofs.TightLaws.{made-IsTight}
use Rattle.sf_strands.proofs.WalkLaws.{tight-found}
use Rattle.sf_strands.proofs.tangles.meets_itself.Goals as goal

pub does_tight_meet_itself-requires-clause-tight : goal.does_tight_meet_itself-requires-clause-tight
does_tight_meet_itself-requires-clause-tight c =
    made-IsTight c.args.points.now c.in_ok-points.points.items c.as_slice.result.now c.in_ok-points.ensures c.as_slice.ensures.value

pub does_tight_meet_itself-requires-clause-few : goal.does_tight_meet_itself-requires-clause-few
does_tight_meet_itself-requires-clause-few c =
    omega (arith, c.requires, length-made c.args.points.now c.in_ok-points.points.items c.as_slice.result.now c.in_ok-points.ensures c.as_slice.ensures.value)

pub returns : goal.returns
returns c =
    tight-found c.does_tight_meet_itself.result c.args.points.now c.in_ok-points.points.items c.as_slice.result.now c.in_ok-points.ensures c.as_slice.ensures.value
    c.does_tight_meet_itself.ensures
