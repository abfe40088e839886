use Rattle.std.proofs.Common.{◌∙◌, ap, inl, sym}
use Rattle.sf_console.specs.Answers.{line, truth, told_of, simple_text}
use Rattle.sf_console.proofs.SimpleLemmas.{is_simple-told}
use Rattle.sf_console.proofs.answering.simple.Goals as goal

pub returns : goal.returns
returns c =
    let told = is_simple-told c.in_ok-is_simple.field-0 c.in_ok-valid.valid.now c.in_ok-is_simple.ensures in
    inl (ap (λ is. line (truth is)) told ∙ sym (ap (told_of simple_text) c.in_ok-valid.ensures))
