use Rattle.std.proofs.Common.{◌≡◌, IsSomeAnd, Some, rules, subst, sym}
use Rattle.sf_layers.specs.Content.{layer_of}
use Rattle.sf_layers.proofs.Changes.{IsLayer-layer_of}
use Rattle.sf_together.specs.Copies.{HasHeadOf, with_head}
use Rattle.sf_together.proofs.CallLaws.{head-alike}
use Rattle.sf_together.proofs.scratch.show.Goals as goal

pub show_feature-requires-clause-fine : goal.show_feature-requires-clause-fine
show_feature-requires-clause-fine c =
    let found : layer_of c.args.store.now c.layer_name-name.result.now ≡ Some c.in-Some.layer.now = search rules in
    IsLayer-layer_of c.args.store.now c.layer_name-name.result.now c.in-Some.layer.now found c.in-Some.ensures.well_formed.layers

pub show_feature-requires-clause-head : goal.show_feature-requires-clause-head
show_feature-requires-clause-head c =
    let found : layer_of c.args.store.now c.layer_name-name.result.now ≡ Some c.in-Some.layer.now = search rules in
    let made : c.show_head.new.scratch ≡ with_head c.layer_name-name.result.now c.in-Some.layer.now c.args.scratch.now = search rules in
    let name_is : c.as_str-2.result.now ≡ c.layer_name-name.result.now = search rules in
    subst (λ n. IsSomeAnd (layer_of c.show_head.new.scratch n) (λ there. HasHeadOf c.in-Some.layer.now there)) (sym name_is)
    (subst (λ s. IsSomeAnd (layer_of s c.layer_name-name.result.now) (λ there. HasHeadOf c.in-Some.layer.now there)) (sym made)
    (head-alike c.args.store.now c.args.scratch.now c.layer_name-name.result.now c.in-Some.layer.now c.requires found))
