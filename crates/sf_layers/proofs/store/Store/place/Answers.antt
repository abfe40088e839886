use Rattle.std.proofs.Common.{◌≡◌, ◌∙◌, refl, cond, sym, ap, subst, Some, None, IfSome, is_some, nat_eq, bytes_eq}
use Rattle.std.proofs.lemmas.Bool.{lt-ltb}
use Rattle.std.specs.List.{position_or_len}
use Rattle.std.specs.Map.{lookup, keys_of}
use Rattle.sf_layers.specs.Content.{place_of, has_layer}
use Rattle.sf_layers.specs.Numbers.{numbers_of}
use Rattle.sf_layers.proofs.Numbers.{found-numbers_of, place-number}
use Rattle.sf_layers.proofs.store.Store.place.Goals as goal

pub returns-in-None-clause-found : goal.returns-in-None-clause-found
returns-in-None-clause-found c =
    ap is_some (c.in-None.ensures.value ∙ c.self.invariant.found c.args.name.now) ∙ found-numbers_of c.self.inside.layers.entries c.args.name.now
    ∙ ap (λ content. has_layer content c.args.name.now) c.self.view_is

-- the layer's number stands where its name does
at_place : (c : goal.After-get_index_of) → c.get_index_of.result ≡ Some (place_of c.args.self.now c.args.name.now)
at_place c =
    let entries = c.self.inside.layers.entries in
    let n = c.in-Some.number.now in
    let found : lookup (bytes_eq c.args.name.now) (numbers_of entries) ≡ Some n = sym (c.in-Some.ensures.value ∙ c.self.invariant.found c.args.name.now) in
    let placed = place-number entries c.args.name.now n c.get_index_of.ensures.unique found in
    c.get_index_of.ensures.index
    ∙ ap (λ b. cond b (Some (position_or_len (nat_eq n) (keys_of entries))) None) (lt-ltb _ _ placed.1)
    ∙ ap Some placed.0 ∙ ap (λ content. Some (place_of content c.args.name.now)) c.self.view_is

pub returns-in-Some-clause-there : goal.returns-in-Some-clause-there
returns-in-Some-clause-there c = subst (λ r. IfSome r (λ place. place ≡ place_of c.args.self.now c.args.name.now)) (sym (at_place c)) refl

pub returns-in-Some-clause-found : goal.returns-in-Some-clause-found
returns-in-Some-clause-found c =
    ap is_some (at_place c)
    ∙ ap is_some (c.in-Some.ensures.value ∙ c.self.invariant.found c.args.name.now) ∙ found-numbers_of c.self.inside.layers.entries c.args.name.now
    ∙ ap (λ content. has_layer content c.args.name.now) c.self.view_is
