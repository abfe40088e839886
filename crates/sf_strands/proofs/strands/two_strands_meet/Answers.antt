use Rattle.std.proofs.Common.{arith}
use Rattle.sf_strands.proofs.CountedLaws.{line-walks}
use Rattle.sf_strands.proofs.WalkLaws.{line-alone, line-found}
use Rattle.sf_strands.proofs.strands.two_strands_meet.Goals as goal

pub some_tangle-requires-clause-few : goal.some_tangle-requires-clause-few
some_tangle-requires-clause-few c =
    omega (
      arith,
      c.requires.few,
      (line-walks c.args.points.now c.push_strands.new.strands
          (line-alone c.new-strands.result c.push_strands.new.strands c.args.points.now c.new-strands.ensures c.in_ok-push_strands.ensures)).few,
    )

pub some_tangle-requires-clause-groups_in_range : goal.some_tangle-requires-clause-groups_in_range
some_tangle-requires-clause-groups_in_range c =
    (line-walks c.args.points.now c.push_strands.new.strands (line-alone c.new-strands.result c.push_strands.new.strands c.args.points.now c.new-strands.ensures c.in_ok-push_strands.ensures)).groups_in_range

pub returns : goal.returns
returns c =
    line-found c.some_tangle.result c.args.points.now c.push_strands.new.strands
    (line-alone c.new-strands.result c.push_strands.new.strands c.args.points.now c.new-strands.ensures c.in_ok-push_strands.ensures)
    c.some_tangle.ensures
