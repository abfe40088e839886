use Rattle.std.proofs.Common.{◌∙◌, sym}
use Rattle.sf_words.proofs.IdLemmas.{id_of-parsed}
use Rattle.sf_words.proofs.numerals.id_of.Goals as goal

pub returns : goal.returns
returns c =
    c.ok.ensures.value ∙ id_of-parsed c.args.word.now c.parse.result c.parse.ensures.value.0 (sym c.is_short_numeral.ensures ∙ c.if-not-is_short_numeral.false)
