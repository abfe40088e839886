use Rattle.std.proofs.Common.{◌≡◌, arith}
use Rattle.sf_first_meeting.proofs.TableLaws.{count-most, numbered-all, numbered-more, numbering-made}
use Rattle.sf_first_meeting.proofs.vertices.numbered.Goals as goal

pub loop-number-init : goal.loop-number-init
loop-number-init c = c.in_ok-found.ensures.items

pub bounds-points-number : goal.bounds-points-number
bounds-points-number c = count-most c.args.points.now c.args.count c.loop-number.number c.requires c.loop-number-test.true

pub loop-number-preserved : goal.loop-number-preserved
loop-number-preserved c =
    numbered-more c.args.points.now c.loop-number.number _ _ c.index-points-number.result c.loop-number.invariant
    (count-most c.args.points.now c.args.count c.loop-number.number c.requires c.loop-number-test.true) c.index-points-number.is c.in_ok-push.ensures.items

pub returns : goal.returns
returns c =
    let same : c.loop-number.number ≡ c.args.count = omega arith in
    numbering-made c.args.points.now c.args.count _ c.requires (numbered-all c.args.points.now _ c.args.count c.loop-number.number c.loop-number.invariant same)
