use Rattle.std.proofs.Common.{◌∙◌, ℕ, List, ap, is_some, sym}
use Rattle.sf_format.specs.Stored.{Rule, has_rule, place_of_rule}
use Rattle.sf_format.specs.declared.defect.Defect.TheVariants.{RuleExists}
use Rattle.sf_format.specs.Format.{allowed, fresh_rule_name, name}
use Rattle.sf_loading.proofs.StreamLaws.{Gives-ruled}
use Rattle.sf_loading.proofs.TextLaws.{free-test}
use Rattle.sf_loading.proofs.texts.rule_name.Goals as goal

pub returns : goal.returns
returns g c =
    let text = c.in_ok-name.name in
    let rules : List Rule = c.args.rules.now in
    let free = c.is_none-free.result in
    let taken = ap (λ (t : List ℕ). has_rule t rules) (sym c.as_str.ensures) ∙ ap is_some (sym c.place.ensures) ∙ c.is_none-free.ensures in
    Gives-ruled (λ t. t) name (fresh_rule_name rules) text (allowed free RuleExists text) c.place-place.result c.allowed.result _ _ _ _ c.place-place.ensures c.in_ok-name.ensures
    (ap (λ t. allowed t RuleExists text) (free-test free (has_rule text rules) taken)) c.allowed.ensures
