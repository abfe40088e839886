use Rattle.std.proofs.Common.{◌≡◌, ◌∙◌, refl, cond, sym, ap, subst, Some, None, IfSome, is_some, nat_eq, bytes_eq}
use Rattle.std.proofs.lemmas.Bool.{lt-ltb}
use Rattle.std.specs.List.{position_or_len}
use Rattle.std.specs.Map.{lookup, keys_of}
use Rattle.sf_features.specs.Columns.{named, numbers_of, place_named}
use Rattle.sf_features.proofs.Numbers.{found-numbers_of, place-number}
use Rattle.sf_features.proofs.columns.Columns.place.Goals as goal

pub returns-in-None-clause-found : goal.returns-in-None-clause-found
returns-in-None-clause-found c =
    ap is_some (c.in-None.ensures.value ∙ c.self.invariant.found c.args.name.now) ∙ found-numbers_of c.self.inside.columns.entries c.args.name.now
    ∙ ap (λ columns. is_some (named columns c.args.name.now)) c.self.view_is

-- the column's number stands where its name does
at_place : (c : goal.After-get_index_of) → c.get_index_of.result ≡ Some (place_named c.args.self.now c.args.name.now)
at_place c =
    let entries = c.self.inside.columns.entries in
    let n = c.in-Some.number.now in
    let found : lookup (bytes_eq c.args.name.now) (numbers_of entries) ≡ Some n = sym (c.in-Some.ensures.value ∙ c.self.invariant.found c.args.name.now) in
    let placed = place-number entries c.args.name.now n c.get_index_of.ensures.unique found in
    c.get_index_of.ensures.index
    ∙ ap (λ b. cond b (Some (position_or_len (nat_eq n) (keys_of entries))) None) (lt-ltb _ _ placed.1)
    ∙ ap Some placed.0 ∙ ap (λ columns. Some (place_named columns c.args.name.now)) c.self.view_is

pub returns-in-Some-clause-there : goal.returns-in-Some-clause-there
returns-in-Some-clause-there c = subst (λ r. IfSome r (λ place. place ≡ place_named c.args.self.now c.args.name.now)) (sym (at_place c)) refl

pub returns-in-Some-clause-found : goal.returns-in-Some-clause-found
returns-in-Some-clause-found c =
    ap is_some (at_place c)
    ∙ ap is_some (c.in-Some.ensures.value ∙ c.self.invariant.found c.args.name.now) ∙ found-numbers_of c.self.inside.columns.entries c.args.name.now
    ∙ ap (λ columns. is_some (named columns c.args.name.now)) c.self.view_is
