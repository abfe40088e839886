use Rattle.std.proofs.Common.{◌∙◌, ◌++◌, List, ap, flat_map, refl, sym}
use Rattle.byteorder.specs.Endian.{big_bytes}
use Rattle.sf_known.specs.Patterns.{pattern_text}
use Rattle.sf_saving.specs.Parts.{letter_bytes}
use Rattle.sf_streams.proofs.Putting.{Putting-start, Putting-more, breaks, ends-put, ends-broken}
use Rattle.sf_known.specs.declared.letter.Letter.{Letter}
use Rattle.sf_saving.proofs.PartLaws.{text-of-letters}
use Rattle.sf_saving.proofs.rules.put_pattern.Goals as goal

pub returns-in_err-put_u8-clause-broken : goal.returns-in_err-put_u8-clause-broken
returns-in_err-put_u8-clause-broken g c =
    let letters = pattern_text c.args.pattern.now in
    let start = Putting-start (g.W.Write.contents c.args.writer.now) c.args.output.now (big_bytes 1 0 ++ letters) in
    breaks c.from_residual.result (big_bytes 1 0) letters refl start c.in_err-put_u8.ensures.broken

pub returns-clause-ok : goal.returns-clause-ok
returns-clause-ok g c =
    let letters = pattern_text c.args.pattern.now in
    let start = Putting-start (g.W.Write.contents c.args.writer.now) c.args.output.now (big_bytes 1 0 ++ letters) in
    ends-put c.put_letters.result _ _ letters (ap (λ (ls : List Letter). flat_map letter_bytes ls) (c.as_slice.ensures ∙ c.letters.ensures) ∙ sym (text-of-letters c.args.pattern.now)) (Putting-more (big_bytes 1 0) letters refl start c.in_ok-put_u8.ensures.ok) c.put_letters.ensures.ok

pub returns-clause-broken : goal.returns-clause-broken
returns-clause-broken g c =
    let letters = pattern_text c.args.pattern.now in
    let start = Putting-start (g.W.Write.contents c.args.writer.now) c.args.output.now (big_bytes 1 0 ++ letters) in
    ends-broken c.put_letters.result _ letters (ap (λ (ls : List Letter). flat_map letter_bytes ls) (c.as_slice.ensures ∙ c.letters.ensures) ∙ sym (text-of-letters c.args.pattern.now)) (Putting-more (big_bytes 1 0) letters refl start c.in_ok-put_u8.ensures.ok) c.put_letters.ensures.broken
