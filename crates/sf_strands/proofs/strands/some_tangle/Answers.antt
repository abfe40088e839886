use Rattle.std.proofs.Common.{[]}
use Rattle.sf_strands.proofs.WalkLaws.{found-as-points}
use Rattle.sf_strands.proofs.strands.some_tangle.Goals as goal

pub returns : goal.returns
returns c = found-as-points [] c.args.strands.now c.walk.new.sink.found c.in_ok-walk.ensures.ok
