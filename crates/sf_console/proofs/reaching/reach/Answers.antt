use Rattle.std.proofs.Common.{◌∙◌, ap, decimal, inl, map, subst, List, ℕ}
use Rattle.sf_layers.specs.Content.{layer_of}
use Rattle.sf_console.specs.Answers.{reached_from, reply_text, rows}
use Rattle.sf_console.proofs.QueryLemmas.{IsToldAs}
use Rattle.sf_console.proofs.NearLemmas.{reach-refused, reach-rows}
use Rattle.sf_console.proofs.reaching.reach.Goals as goal

pub returns-in_err-ids : goal.returns-in_err-ids
returns-in_err-ids c =
    let store = c.args.store.now in
    let ask = c.args.ask.now in
    let r = c.from_residual.result in
    subst (λ name. IsToldAs (reached_from (layer_of store name) ask c.args.given.now) (reply_text r)) c.as_str.ensures
    (subst (λ (given : List ℕ). IsToldAs (reached_from (layer_of store c.as_str.result.now) ask given) (reply_text r)) c.as_slice.ensures
    (reach-refused (layer_of store c.as_str.result.now) ask c.as_slice.result.now _ r c.in_err-ids.ensures c.from_residual.ensures.1))

pub returns : goal.returns
returns c =
    let store = c.args.store.now in
    let ask = c.args.ask.now in
    inl (c.in_ok-id_rows.ensures ∙ ap (λ ids. rows (map decimal ids)) c.as_slice-2.ensures.value
    ∙ reach-rows (layer_of store c.as_str.result.now) ask c.as_slice.result.now c.in_ok-ids.ids c.in_ok-ids.ensures
    ∙ ap (reached_from (layer_of store c.as_str.result.now) ask) c.as_slice.ensures
    ∙ ap (λ name. reached_from (layer_of store name) ask c.args.given.now) c.as_str.ensures)
