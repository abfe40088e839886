use Rattle.std.proofs.Common.{◌≡◌, ◌+◌, ◌++◌, ◌∙◌, ap, arith, replicate, string_bytes, sym}
use Rattle.std.proofs.lemmas.List.{append-nil}
use Rattle.sf_text_lines.specs.Lines.{line_max}
use Rattle.sf_console.proofs.GroupLaws.{blanks-more}
use Rattle.sf_console.proofs.group_lines.push_too_many_blanks.Goals as goal

pub loop-init : goal.loop-init
loop-init c = sym (append-nil (string_bytes c.args.text.now))

pub loop-preserved : goal.loop-preserved
loop-preserved c = c.in_ok-push_blank.ensures ∙ blanks-more (string_bytes c.args.text.now) (string_bytes c.loop.text) c.loop.counter c.loop.invariant

pub returns : goal.returns
returns c =
    let all : c.loop.counter ≡ line_max + 1 = omega arith in
    c.loop.invariant ∙ ap (λ n. string_bytes c.args.text.now ++ replicate n 32) all
