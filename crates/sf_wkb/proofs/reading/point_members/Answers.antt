use Rattle.std.proofs.Common.{◌+◌, ◌-◌, sym, ◌∙◌, subst, arith}
use Rattle.std.proofs.lemmas.Result.{err_from_is_err_and}
use Rattle.sf_geometry.specs.declared.kind.Kind.TheVariants as kinds
use Rattle.sf_wkb.specs.Grammar.{items, member, point}
use Rattle.sf_wkb.proofs.Chains.{member_then, member_fault}
use Rattle.sf_wkb.proofs.Loops.{IsUnderWay, more_in_loop, fault_in_loop, exact_fault}
use Rattle.sf_wkb.proofs.Sized.{point_counts, member_counts}
use Rattle.sf_geometry.proofs.Filled.{one}
use Rattle.sf_grid.specs.Plane.{IsOnGrid}
use Rattle.sf_wkb.proofs.reading.point_members.Goals as goal

pub returns-in_err-order : goal.returns-in_err-order
returns-in_err-order c =
    let p = err_from_is_err_and c.from_residual-in_err-order.result c.from_residual-in_err-order.ensures.1 in
    let item = member kinds.Point point in
    rw (p.1, p.2) (exact_fault c.in_err-order.field-0.0 c.member.new.cursor (items item c.args.len c.args.cursor.now)
    (fault_in_loop item c.args.len c.loop.counter c.args.cursor.now c.loop.cursor c.loop.points.items c.in_err-order.field-0.0 c.loop-test.true c.loop.invariant.read (member_fault kinds.Point point c.loop.cursor c.in_err-order.field-0.0 c.in_err-order.ensures)))

pub returns-in_err-point : goal.returns-in_err-point
returns-in_err-point c =
    let p = err_from_is_err_and c.from_residual-in_err-point.result c.from_residual-in_err-point.ensures.1 in
    let item = member kinds.Point point in
    let behind = member_then kinds.Point point c.loop.cursor c.member.new.cursor c.in_ok-order.order c.in_ok-order.ensures in
    rw (p.1, p.2) (exact_fault c.in_err-point.field-0.0 c.point.new.cursor (items item c.args.len c.args.cursor.now)
    (fault_in_loop item c.args.len c.loop.counter c.args.cursor.now c.loop.cursor c.loop.points.items c.in_err-point.field-0.0 c.loop-test.true c.loop.invariant.read (behind ∙ c.in_err-point.ensures)))

pub loop-preserved : goal.loop-preserved
loop-preserved c =
    let item = member kinds.Point point in
    let behind = member_then kinds.Point point c.loop.cursor c.member.new.cursor c.in_ok-order.order c.in_ok-order.ensures in
    let counted = member_counts kinds.Point point one IsOnGrid point_counts c.loop.cursor c.point.new.cursor c.in_ok-point.field-0 (behind ∙ c.in_ok-point.ensures) in
    record {
      read = subst (λ xs. IsUnderWay item c.args.len c.args.cursor.now xs (c.args.len - (c.loop.counter + 1)) c.point.new.cursor) (sym c.in_ok-push.ensures.items)
          (more_in_loop item c.args.len c.loop.counter c.args.cursor.now c.loop.cursor c.point.new.cursor c.loop.points.items c.in_ok-point.field-0 c.loop-test.true c.loop.invariant.read (behind ∙ c.in_ok-point.ensures));
      room = omega (arith, counted.1, c.loop-test.true, c.loop.invariant.room);
    }
