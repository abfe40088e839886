use Rattle.std.proofs.Common.{◌∙◌, ap}
use Rattle.std.specs.List.{list_any}
use Rattle.sf_joins.specs.Joins.{are_distinct, is_pair}
use Rattle.sf_joins.specs.Passed.{Matrix}
use Rattle.sf_reach.specs.Chains.{Stop}
use Rattle.sf_reach.proofs.AddedLaws.{any-asked}
use Rattle.sf_reach.proofs.until.Until.is_end.Goals as goal

pub returns : goal.returns
returns c =
    c.has_distinct.ensures
    ∙ ap (list_any (are_distinct c.self.inside.is_own c.args.id)) (c.as_slice.ensures.value ∙ c.in_ok-found.ensures.ids)
    ∙ any-asked c.self.inside.is_own c.self.inside.ask c.converse.result c.self.inside.layer.now c.args.id c.args.feature.now c.valid.result.now c.converse.ensures.nine c.converse.ensures.turned c.valid.ensures.same
    ∙ ap (λ (s : Stop). list_any (is_pair s.is_own (Matrix s.ask) (c.args.id, c.args.feature.now)) s.layer.features) c.self.view_is
