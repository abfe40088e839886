use Rattle.std.proofs.Common.{◌≡◌, ◌∙◌, true, false, ap, subst, sym, rules}
use Rattle.sf_words.specs.Reaches.{is_near}
use Rattle.sf_words.specs.Words.{words, skip_blanks, skip_word}
use Rattle.sf_commands.specs.Commands.{query_asked, query_near, OrMemory}
use Rattle.sf_commands.proofs.QueryLemmas.{after_two_words-text, asked-named, asked-near}
use Rattle.sf_commands.proofs.query_commands.query_arguments.Goals as goal

pub returns-then-is_near : goal.returns-then-is_near
returns-then-is_near c =
    let layer = c.in_ok-layer.layer.now in
    let ask = c.in_ok-ask.ask.now in
    let text = c.in_ok-text.text.now in
    let near : is_near c.in_ok-ask.ask.now ≡ true = search rules in
    subst (λ expected. OrMemory expected c.query_near.result)
    (sym (after_two_words-text query_asked c.args.words c.next.new.self c.next-2.new.self layer ask text
    c.in_ok-layer.ensures.0 c.in_ok-layer.ensures.1 c.in_ok-ask.ensures.0 c.in_ok-ask.ensures.1 c.in_ok-text.ensures.0 c.in_ok-text.ensures.1
    ∙ asked-near layer ask text near
    ∙ ap (λ t. query_near layer (words t) (skip_blanks (skip_word t))) (sym c.new.ensures)))
    c.query_near.ensures

pub returns-else-is_near : goal.returns-else-is_near
returns-else-is_near c =
    let layer = c.in_ok-layer.layer.now in
    let ask = c.in_ok-ask.ask.now in
    let text = c.in_ok-text.text.now in
    let named : is_near c.in_ok-ask.ask.now ≡ false = search rules in
    subst (λ expected. OrMemory expected c.query_named.result)
    (sym (after_two_words-text query_asked c.args.words c.next.new.self c.next-2.new.self layer ask text
    c.in_ok-layer.ensures.0 c.in_ok-layer.ensures.1 c.in_ok-ask.ensures.0 c.in_ok-ask.ensures.1 c.in_ok-text.ensures.0 c.in_ok-text.ensures.1
    ∙ asked-named layer ask text named))
    c.query_named.ensures
