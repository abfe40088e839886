use Rattle.std.proofs.Common.{sym, rules, arith}
use Rattle.sf_known.proofs.LetterLaws.{letters-step, letters-whole}
use Rattle.sf_known.proofs.pattern.Pattern.parse.Goals as goal

pub loop-place-preserved : goal.loop-place-preserved
loop-place-preserved c = (
  search rules,
  letters-step c.as_bytes-bytes.result.now c.loop-place.place c.loop-place.letters c.in-Some.letter
      (omega (arith, c.loop-place-test.true, c.if-bytes-ne9.false, c.as_bytes-bytes.ensures.len))
      (omega (arith, c.loop-place-test.true, c.loop-place.invariant.0))
      (sym c.in-Some.ensures) c.loop-place.invariant.1,
)

pub returns : goal.returns
returns c =
    rw (← c.as_bytes-bytes.ensures.value)
    (letters-whole c.as_bytes-bytes.result.now c.loop-place.place c.loop-place.letters
    (omega (arith, c.if-bytes-ne9.false, c.as_bytes-bytes.ensures.len))
    c.loop-place.invariant.0
    (omega (arith, c.loop-place-test.false, c.loop-place.auto.place-end)) c.loop-place.invariant.1)
