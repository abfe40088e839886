use Rattle.std.proofs.Common.{◌≡◌, ◌-◌, ◌^◌, ◌∙◌, string_bytes, ap, arith}
use Rattle.sf_decimals.proofs.Written.{step, step_small}
use Rattle.sf_decimals.proofs.writing.push_padded.Goals as goal

pub loop-left-preserved : goal.loop-left-preserved
loop-left-preserved c =
    let unit : c.pow-unit.result ≡ 10 ^ (c.loop-left.left - 1) = c.pow-unit.ensures ∙ ap (λ k. 10 ^ k) c.from.ensures in
    record {
      few = omega (arith, c.loop-left.invariant.few);
      small = step_small c.loop-left.left c.loop-left.rest c.pow-unit.result unit;
      whole = step (string_bytes c.loop-left.text) (string_bytes c.write.new.self) _ c.loop-left.left c.loop-left.rest c.pow-unit.result c.loop-left-test.true c.loop-left.invariant.small unit c.in_ok-write.ensures.bytes c.loop-left.invariant.whole;
    }
