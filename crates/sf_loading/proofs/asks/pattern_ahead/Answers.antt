use Rattle.std.proofs.Common.{◌∙◌, ℕ, List, ap, option_map, sym}
use Rattle.sf_known.specs.Patterns.{pattern_of}
use Rattle.sf_format.specs.Stored.{Matching}
use Rattle.sf_loading.proofs.AskLaws.{no-pattern}
use Rattle.sf_loading.proofs.TextLaws.{not-utf8}
use Rattle.sf_loading.proofs.asks.pattern_ahead.Goals as goal

pub returns-in-Ok : goal.returns-in-Ok
returns-in-Ok c = c.spelled.ensures ∙ ap (λ (text : List ℕ). option_map Matching (pattern_of text)) (c.in-Ok.ensures.cases.0 ∙ c.front.ensures)

pub returns-in-Err : goal.returns-in-Err
returns-in-Err c =
    sym (ap (λ (text : List ℕ). option_map Matching (pattern_of text)) (sym c.front.ensures)
    ∙ ap (option_map Matching) (no-pattern c.front.result.now (not-utf8 c.front.result.now c.in-Err.ensures.cases.0)))
