use Rattle.std.proofs.Common.{◌≡◌, ◌<◌, ◌∙◌, [], None, is_some, length, slice_index_or, vec_len, sym, ap, subst, arith, rules}
use Rattle.std.proofs.lemmas.Bool.{false≢true}
use Rattle.sf_features.specs.Features.{with_value}
use Rattle.sf_layers.specs.Moves.{IsTaking}
use Rattle.sf_layers.proofs.ColumnMoves.{IsPutting, IsPutting-end, IsPutting-step, IsSome-putting, IsTaking-putting, feature-given, feature-rewritten, feature-written}
use Rattle.sf_layers.proofs.column_moves.put_all.Goals as goal
use Rattle.sf_layers.proofs.column_moves.put_all.Goals.{After-unwrap}

pub unreachable-requires : goal.unreachable-requires
unreachable-requires c =
    let id = slice_index_or c.args.ids.now c.len.result 0 in
    let none = feature-given c.loop-value.features.entries id None c.in-None.ensures.value in
    let below : c.len.result < length c.args.ids.now = omega (arith, c.len.ensures, c.in-Some.ensures.cases, c.loop-value.invariant.2) in
    absurd (false≢true (ap is_some (sym none)
    ∙ IsSome-putting c.args.number c.args.ids.now c.args.features.now.entries c.args.values.now.items c.loop-value.features.entries c.len.result (vec_len c.loop-value.values) c.loop-value.values.items
    c.requires.there below c.loop-value.invariant.3))

-- where a value could not be put, those that are in their features can be taken out again
taking : (c : After-unwrap) → IsTaking c.args.number c.args.ids.now c.args.features.now.entries c.args.values.now.items (c.get_mut.follows.lender c.put_value-put.new.self).entries (vec_len c.push.new.self) c.push.new.self.items
taking c =
    let kept : c.put_value-put.new.self ≡ c.in-Some-get_mut.feature.now = search rules in
    let len : vec_len c.push.new.self ≡ vec_len c.loop-value.values = search rules in
    let items : c.push.new.self.items ≡ c.loop-value.values.items = search rules in
    IsTaking-putting c.args.number c.args.ids.now c.args.features.now.entries c.args.values.now.items c.loop-value.features.entries (c.get_mut.follows.lender c.put_value-put.new.self).entries
    (vec_len c.loop-value.values) (vec_len c.push.new.self) c.loop-value.values.items c.push.new.self.items
    (feature-rewritten c.loop-value.features.entries (c.get_mut.follows.lender c.put_value-put.new.self).entries (slice_index_or c.args.ids.now c.len.result 0) c.in-Some-get_mut.feature.now c.put_value-put.new.self
    c.in-Some-get_mut.ensures.value (c.get_mut.follows.holds c.put_value-put.new.self).0 kept)
    len items c.requires.rising c.requires.there c.requires.bare c.loop-value.invariant.3

pub take_from-requires-clause-there : goal.take_from-requires-clause-there
take_from-requires-clause-there c = (c.args.features.now.entries, (c.args.values.now.items, taking (goal.at.take_from-requires-clause-there c).After-unwrap))

pub returns-in-Some-err-clause-kept : goal.returns-in-Some-err-clause-kept
returns-in-Some-err-clause-kept c = (c.take_from.ensures.taken c.args.features.now.entries c.args.values.now.items (taking (goal.at.returns-in-Some-err-clause-kept c).After-unwrap)).0

pub returns-in-Some-err-clause-values : goal.returns-in-Some-err-clause-values
returns-in-Some-err-clause-values c = (c.take_from.ensures.taken c.args.features.now.entries c.args.values.now.items (taking (goal.at.returns-in-Some-err-clause-values c).After-unwrap)).1

pub loop-value-preserved : goal.loop-value-preserved
loop-value-preserved c =
    let below : c.len.result < length c.args.ids.now = omega (arith, c.len.ensures, c.in-Some.ensures.cases, c.loop-value.invariant.2) in
    let is : c.put_value-put.new.self ≡ with_value c.args.number c.in-Some.value c.in-Some-get_mut.feature.now = search rules in
    let put = IsPutting-step c.args.number c.args.ids.now c.args.features.now.entries c.args.values.now.items c.loop-value.features.entries (c.get_mut.follows.lender c.put_value-put.new.self).entries
    c.len.result (vec_len c.loop-value.values) c.loop-value.values.items c.pop.new.self.items c.in-Some.value
    below (omega (arith, c.len.ensures, c.in-Some.ensures.cases)) c.in-Some.ensures.items
    (feature-written c.loop-value.features.entries (c.get_mut.follows.lender c.put_value-put.new.self).entries (slice_index_or c.args.ids.now c.len.result 0) c.in-Some-get_mut.feature.now c.put_value-put.new.self (with_value c.args.number c.in-Some.value)
    c.in-Some-get_mut.ensures.value (c.get_mut.follows.holds c.put_value-put.new.self).0 is)
    c.loop-value.invariant.3 in (
      omega (arith, c.pop.ensures.capacity, c.loop-value.invariant.0),
      omega (arith, c.pop.ensures.capacity, c.loop-value.invariant.1),
      omega (arith, c.in-Some.ensures.cases, c.loop-value.invariant.2),
      subst (λ n. IsPutting c.args.number c.args.ids.now c.args.features.now.entries c.args.values.now.items (c.get_mut.follows.lender c.put_value-put.new.self).entries n c.pop.new.self.items) c.len.ensures put,
    )

pub returns-clause-put : goal.returns-clause-put
returns-clause-put c =
    let none : vec_len c.loop-value.values ≡ 0 = search rules in
    let empty : c.loop-value.values.items ≡ [] = search rules in
    IsPutting-end c.args.number c.args.ids.now c.args.features.now.entries c.args.values.now.items c.loop-value.features.entries (vec_len c.loop-value.values) c.loop-value.values.items
    none empty c.loop-value.invariant.3
