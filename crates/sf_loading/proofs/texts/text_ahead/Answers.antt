use Rattle.std.proofs.Common.{◌≡◌, ◌∙◌, take, ap, sym}
use Rattle.std.specs.Str.{is_utf8}
use Rattle.std.proofs.lemmas.Str.{is_utf8-from_IsUtf8}
use Rattle.sf_loading.proofs.TextLaws.{not-utf8}
use Rattle.sf_loading.proofs.texts.text_ahead.Goals as goal

pub returns-in_ok-from_str-in-Ok : goal.returns-in_ok-from_str-in-Ok
returns-in_ok-from_str-in-Ok c =
    let found : c.in-Ok.text.now ≡ take c.args.size c.args.window.now.bytes = c.in-Ok.ensures.cases.0 ∙ c.front.ensures in
    let utf8 = is_utf8-from_IsUtf8 c.front.result.now c.in-Ok.ensures.cases.1 in
    (c.from_string.ensures ∙ c.in_ok-from_str-in-Ok.ensures.ok ∙ found, ap is_utf8 (sym c.front.ensures) ∙ utf8)

pub returns-in-Err : goal.returns-in-Err
returns-in-Err c = ap is_utf8 (sym c.front.ensures) ∙ not-utf8 c.front.result.now c.in-Err.ensures.cases.0
