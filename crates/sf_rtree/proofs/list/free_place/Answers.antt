use Rattle.std.proofs.Common.{arith}
use Rattle.sf_rtree.proofs.Lists.{put-here, put-last}
use Rattle.sf_rtree.proofs.list.free_place.Goals as goal

pub returns-then-entry-id-clause-put : goal.returns-then-entry-id-clause-put
returns-then-entry-id-clause-put c =
    λ extent. put-here c.args.id extent c.args.boxes.now c.loop-place.place _ c.loop-place-test.true c.if-entry-id.true c.requires c.loop-place.invariant

pub returns-clause-put : goal.returns-clause-put
returns-clause-put c =
    λ extent. put-last c.args.id extent c.args.boxes.now c.loop-place.place (omega arith) c.requires c.loop-place.invariant
