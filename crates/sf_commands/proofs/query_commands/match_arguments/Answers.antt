use Rattle.std.proofs.Common.{◌∙◌, Ok, Result, ap, subst, sym}
use Rattle.std.specs.Option.{ok_or}
use Rattle.sf_refusals.specs.declared.refusal.Refusal.{Refusal}
use Rattle.sf_refusals.specs.declared.refusal.Refusal.TheVariants.{BadPattern}
use Rattle.sf_known.specs.Patterns.{pattern_of}
use Rattle.sf_wkt.specs.Grammar.{read}
use Rattle.sf_commands.specs.declared.command.Command.{Command}
use Rattle.sf_commands.specs.declared.command.Command.TheVariants.{Match}
use Rattle.sf_commands.specs.Commands.{valid_of, with_geometry, OrMemory}
use Rattle.sf_commands.proofs.AddLemmas.{OrMemory-refused}
use Rattle.sf_commands.proofs.QueryLemmas.{after_two_words-text, pattern-read, pattern-unread, OrMemory-made}
use Rattle.sf_commands.proofs.query_commands.match_arguments.Goals as goal

pub returns-in_err-pattern-2 : goal.returns-in_err-pattern-2
returns-in_err-pattern-2 c =
    let layer = c.in_ok-layer.layer.now in
    let text = c.in_ok-text.text.now in
    OrMemory-refused _ c.from_residual-in_err-pattern-2.result BadPattern
    (after_two_words-text (λ layer word text. with_geometry Match layer (ok_or (pattern_of word) BadPattern) (valid_of (read text))) c.args.words c.next.new.self c.next-2.new.self layer c.in_ok-pattern.pattern.now text
    c.in_ok-layer.ensures.0 c.in_ok-layer.ensures.1 c.in_ok-pattern.ensures.0 c.in_ok-pattern.ensures.1 c.in_ok-text.ensures.0 c.in_ok-text.ensures.1
    ∙ ap (λ x. with_geometry Match layer x (valid_of (read text))) (pattern-unread c.in_ok-pattern.pattern.now _ c.in_err-pattern-2.ensures))
    c.from_residual-in_err-pattern-2.ensures.1

pub returns-in_err-given : goal.returns-in_err-given
returns-in_err-given c =
    let layer = c.in_ok-layer.layer.now in
    let text = c.in_ok-text.text.now in
    let P : Result Command Refusal → Type 0 = λ expected. OrMemory expected c.from_residual-in_err-given.result in
    subst P
    (sym (after_two_words-text (λ layer word text. with_geometry Match layer (ok_or (pattern_of word) BadPattern) (valid_of (read text))) c.args.words c.next.new.self c.next-2.new.self layer c.in_ok-pattern.pattern.now text
    c.in_ok-layer.ensures.0 c.in_ok-layer.ensures.1 c.in_ok-pattern.ensures.0 c.in_ok-pattern.ensures.1 c.in_ok-text.ensures.0 c.in_ok-text.ensures.1
    ∙ ap (λ x. with_geometry Match layer x (valid_of (read text))) (pattern-read c.in_ok-pattern.pattern.now c.in_ok-pattern-2.pattern c.in_ok-pattern-2.ensures)))
    (OrMemory-made (valid_of (read text)) (λ given. Ok (Match layer c.in_ok-pattern-2.pattern given)) _ c.from_residual-in_err-given.result c.in_err-given.ensures c.from_residual-in_err-given.ensures.1)

pub returns : goal.returns
returns c =
    let layer = c.in_ok-layer.layer.now in
    let text = c.in_ok-text.text.now in
    ap (λ l. Ok (Match l c.in_ok-pattern-2.pattern c.in_ok-given.given)) c.in_ok-layer-2.ensures
    ∙ sym (after_two_words-text (λ layer word text. with_geometry Match layer (ok_or (pattern_of word) BadPattern) (valid_of (read text))) c.args.words c.next.new.self c.next-2.new.self layer c.in_ok-pattern.pattern.now text
    c.in_ok-layer.ensures.0 c.in_ok-layer.ensures.1 c.in_ok-pattern.ensures.0 c.in_ok-pattern.ensures.1 c.in_ok-text.ensures.0 c.in_ok-text.ensures.1
    ∙ ap (λ x. with_geometry Match layer x (valid_of (read text))) (pattern-read c.in_ok-pattern.pattern.now c.in_ok-pattern-2.pattern c.in_ok-pattern-2.ensures)
    ∙ ap (with_geometry Match layer (Ok c.in_ok-pattern-2.pattern)) (sym c.in_ok-given.ensures))
