use Rattle.std.proofs.Common.{◌∙◌, ap, arith, []}
use Rattle.sf_geometry.specs.Lists.{tight as tight_of}
use Rattle.sf_geometry.proofs.ListLaws.{pushed-more}
use Rattle.sf_strands.specs.Walks.{strands_of}
use Rattle.sf_strands.proofs.CountedLaws.{lines-walk}
use Rattle.sf_strands.proofs.TightLaws.{made-IsTight}
use Rattle.sf_strands.proofs.WalkLaws.{all-pushed, line-pushed, lines-found}
use Rattle.sf_strands.proofs.tangles.are_tangled.Goals as goal

pub push_strands-requires : goal.push_strands-requires
push_strands-requires c = made-IsTight c.as_slice.result.now c.in_ok-points.points.items c.as_slice-in-loop-line.result.now c.in_ok-points.ensures c.as_slice-in-loop-line.ensures.value

pub loop-line-preserved : goal.loop-line-preserved
loop-line-preserved c =
    pushed-more strands_of [] c.loop-line.strands c.push_strands.new.strands c.args.lines.now c.loop-line.line-index c.line-item.result c.loop-line-test.true c.line-item.is c.loop-line.invariant
    (line-pushed c.line-item.result c.in_ok-points.points.items c.as_slice-in-loop-line.result.now c.loop-line.strands c.push_strands.new.strands
    (c.in_ok-points.ensures ∙ ap tight_of c.as_slice.ensures) c.as_slice-in-loop-line.ensures.value c.in_ok-push_strands.ensures)

pub some_tangle-requires-clause-few : goal.some_tangle-requires-clause-few
some_tangle-requires-clause-few c =
    omega (arith, c.requires, (lines-walk c.args.lines.now c.loop-line.strands (all-pushed c.args.lines.now c.loop-line.line-index c.loop-line.strands c.loop-line-test.false c.loop-line.invariant)).few)

pub some_tangle-requires-clause-groups_in_range : goal.some_tangle-requires-clause-groups_in_range
some_tangle-requires-clause-groups_in_range c =
    (lines-walk c.args.lines.now c.loop-line.strands (all-pushed c.args.lines.now c.loop-line.line-index c.loop-line.strands c.loop-line-test.false c.loop-line.invariant)).groups_in_range

pub returns : goal.returns
returns c =
    lines-found c.some_tangle.result c.args.lines.now c.loop-line.strands
    (all-pushed c.args.lines.now c.loop-line.line-index c.loop-line.strands c.loop-line-test.false c.loop-line.invariant)
    c.some_tangle.ensures
