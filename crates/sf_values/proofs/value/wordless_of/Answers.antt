use Rattle.std.proofs.Common.{◌∙◌, ap}
use Rattle.sf_values.specs.Values.{date_of, datetime_of, number_of, or_else}
use Rattle.sf_values.proofs.Letters.{or_else-or_else}
use Rattle.sf_values.proofs.value.wordless_of.Goals as goal

pub returns-in-Some : goal.returns-in-Some
returns-in-Some c =
    let text = c.args.text.now in
    ap (λ o. or_else o (number_of text)) c.in-Some.ensures ∙ or_else-or_else (date_of text) (datetime_of text) (number_of text)

pub returns-in-None : goal.returns-in-None
returns-in-None c =
    let text = c.args.text.now in
    c.number_of.ensures ∙ ap (λ o. or_else o (number_of text)) c.in-None.ensures ∙ or_else-or_else (date_of text) (datetime_of text) (number_of text)
