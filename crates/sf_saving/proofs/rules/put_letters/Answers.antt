use Rattle.std.proofs.Common.{◌+◌, ◌++◌, [], arith, drop, flat_map, refl}
use Rattle.std.specs.Prelude.{slice_index_or}
use Rattle.sf_saving.specs.Parts.{letter_bytes}
use Rattle.sf_streams.proofs.Putting.{Putting-done, Putting-left, Putting-more, Putting-start, breaks, left-none}
use Rattle.sf_saving.proofs.PartLaws.{next-letter}
use Rattle.sf_saving.proofs.rules.put_letters.Goals as goal

pub loop-letter-init : goal.loop-letter-init
loop-letter-init g c = Putting-start (g.W.Write.contents c.args.writer.now) c.args.output.now (flat_map letter_bytes c.args.letters.now)

pub returns-in_err-put_letter-clause-broken : goal.returns-in_err-put_letter-clause-broken
returns-in_err-put_letter-clause-broken g c =
    let letters = c.args.letters.now in
    let i = c.loop-letter.letter-index in
    let later = flat_map letter_bytes (drop (i + 1) letters) in
    breaks c.from_residual.result (letter_bytes (slice_index_or letters i _)) later refl
    (Putting-left (letter_bytes (slice_index_or letters i _) ++ later) (next-letter letters i _ c.loop-letter-test.true) c.loop-letter.invariant) c.in_err-put_letter.ensures.broken

pub loop-letter-preserved : goal.loop-letter-preserved
loop-letter-preserved g c =
    let letters = c.args.letters.now in
    let i = c.loop-letter.letter-index in
    let later = flat_map letter_bytes (drop (i + 1) letters) in
    Putting-more (letter_bytes (slice_index_or letters i _)) later refl
    (Putting-left (letter_bytes (slice_index_or letters i _) ++ later) (next-letter letters i _ c.loop-letter-test.true) c.loop-letter.invariant) c.in_ok-put_letter.ensures.ok

pub returns-clause-ok : goal.returns-clause-ok
returns-clause-ok g c =
    Putting-done (Putting-left [] (left-none letter_bytes c.args.letters.now c.loop-letter.letter-index (omega (arith, c.loop-letter-test.false))) c.loop-letter.invariant)
