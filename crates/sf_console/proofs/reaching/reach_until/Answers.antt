use Rattle.std.proofs.Common.{◌∙◌, ap, decimal, inl, map, subst, List, ℕ}
use Rattle.std.specs.Prelude.{bytes_eq}
use Rattle.sf_layers.specs.Content.{layer_of}
use Rattle.sf_console.specs.Answers.{reached_until, reply_text, rows}
use Rattle.sf_console.proofs.QueryLemmas.{IsToldAs}
use Rattle.sf_console.proofs.NearLemmas.{until-refused, until-rows}
use Rattle.sf_console.proofs.reaching.reach_until.Goals as goal

pub returns-in_err-ids : goal.returns-in_err-ids
returns-in_err-ids c =
    let store = c.args.store.now in
    let ask = c.args.ask.now in
    let end = c.args.end.now in
    let r = c.from_residual.result in
    let told = λ (name second given : List ℕ). IsToldAs (reached_until (bytes_eq name second) (layer_of store name) ask (layer_of store second) end given) (reply_text r) in
    let first = c.as_str.result.now in
    let other = c.as_str-2.result.now in
    subst (λ name. told name c.args.second.now c.args.given.now) c.as_str.ensures
    (subst (λ name. told first name c.args.given.now) c.as_str-2.ensures
    (subst (told first other) c.as_slice.ensures
    (until-refused (bytes_eq first other) (layer_of store first) (layer_of store other) ask end c.as_slice.result.now _ r c.in_err-ids.ensures c.from_residual.ensures.1)))

pub returns : goal.returns
returns c =
    let store = c.args.store.now in
    let ask = c.args.ask.now in
    let end = c.args.end.now in
    let text = λ (name second given : List ℕ). reached_until (bytes_eq name second) (layer_of store name) ask (layer_of store second) end given in
    let first = c.as_str.result.now in
    let other = c.as_str-2.result.now in
    inl (c.in_ok-id_rows.ensures ∙ ap (λ ids. rows (map decimal ids)) c.as_slice-2.ensures.value
    ∙ until-rows (bytes_eq first other) (layer_of store first) (layer_of store other) ask end c.as_slice.result.now c.in_ok-ids.ids c.in_ok-ids.ensures
    ∙ ap (text first other) c.as_slice.ensures
    ∙ ap (λ name. text first name c.args.given.now) c.as_str-2.ensures
    ∙ ap (λ name. text name c.args.second.now c.args.given.now) c.as_str.ensures)
