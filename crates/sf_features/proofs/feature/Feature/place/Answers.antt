use Rattle.std.proofs.Common.{rules, ap, subst, ◌∙◌}
use Rattle.std.proofs.lemmas.List.Sorted.{answers_always}
use Rattle.std.specs.List.Sorted.{IsBinarySearchResult}
use Rattle.std.specs.Ordering.{nat_cmp}
use Rattle.sf_features.proofs.feature.Feature.place.Goals as goal

-- the slice has the feature's values, and the closure gives the number of each
pub returns-clause-found : goal.returns-clause-found
returns-clause-found c =
    subst (λ es. IsBinarySearchResult (λ entry. nat_cmp entry.0 c.args.number) es c.binary_search_by_key.result) (c.deref.ensures.value ∙ ap (λ f. f.values) c.self.view_is)
    (c.binary_search_by_key.ensures.position (λ entry. entry.0) (answers_always _ _ _ (λ f a r g called. search rules)))
