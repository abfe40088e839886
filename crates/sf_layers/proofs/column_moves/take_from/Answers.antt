use Rattle.std.proofs.Common.{◌≡◌, ◌∙◌, None, Some, is_some, nat_eq, slice_index_or, vec_len, sym, ap, subst, rules}
use Rattle.std.proofs.lemmas.Bool.{false≢true}
use Rattle.std.specs.BTreeMap.{is_at}
use Rattle.std.specs.Map.{lookup, set_value}
use Rattle.std.specs.Ordering.{nat_cmp}
use Rattle.sf_features.specs.Features.{FeatureContent, value_in}
use Rattle.sf_layers.proofs.ColumnMoves.{IsNext, IsNext-taking, IsTaking-end, IsTaking-step, feature-given}
use Rattle.sf_layers.proofs.column_moves.take_from.Goals as goal
use Rattle.sf_layers.proofs.column_moves.take_from.Goals.{After-get_mut}

-- the next value is in its feature
next : (c : After-get_mut) → IsNext c.args.number c.args.ids.now c.requires.there.0 c.requires.there.1.0 c.loop-values.features.entries (vec_len c.loop-values.values) c.loop-values.values.items
next c =
    let t = c.requires.there in
    IsNext-taking c.args.number c.args.ids.now t.0 t.1.0 c.loop-values.features.entries (vec_len c.loop-values.values) c.loop-values.values.items (search rules) (c.loop-values.invariant.2 t.0 t.1.0 t.1.1)

pub unwrap-value-requires : goal.unwrap-value-requires
unwrap-value-requires c =
    let next = next (goal.at.unwrap-value-requires c).After-get_mut in
    let id = slice_index_or c.args.ids.now c.len-in-loop-values.result 0 in
    let same_id : slice_index_or c.args.ids.now (vec_len c.loop-values.values) 0 ≡ id = ap (λ n. slice_index_or c.args.ids.now n 0) (sym c.len-in-loop-values.ensures) in
    let there : ◌≡◌ {A = _} (Some next.feature) (Some c.in-Some.feature.now) =
    sym next.found ∙ ap (λ k. lookup (nat_eq k) c.loop-values.features.entries) same_id ∙ feature-given c.loop-values.features.entries id (Some c.in-Some.feature.now) c.in-Some.ensures.value in
    let same : ◌≡◌ {A = FeatureContent} next.feature c.in-Some.feature.now = cc in
    ap is_some (c.take_value.ensures.taken ∙ ap (value_in c.args.number) (sym same) ∙ next.held)

pub unreachable-requires : goal.unreachable-requires
unreachable-requires c =
    let next = next (goal.at.unreachable-requires c).After-get_mut in
    let id = slice_index_or c.args.ids.now c.len-in-loop-values.result 0 in
    let same_id : slice_index_or c.args.ids.now (vec_len c.loop-values.values) 0 ≡ id = ap (λ n. slice_index_or c.args.ids.now n 0) (sym c.len-in-loop-values.ensures) in
    let none = feature-given c.loop-values.features.entries id None c.in-None.ensures.value in
    absurd (false≢true (ap is_some (sym none) ∙ ap is_some (ap (λ k. lookup (nat_eq k) c.loop-values.features.entries) (sym same_id) ∙ next.found)))

pub loop-values-preserved : goal.loop-values-preserved
loop-values-preserved c = (
  search rules,
  search rules,
  λ after all t.
      let n = vec_len c.loop-values.values in
      let same : c.len-in-loop-values.result ≡ n = c.len-in-loop-values.ensures in
      IsTaking-step c.args.number c.args.ids.now after all c.loop-values.features.entries (c.get_mut.follows.lender c.take_value.new.self).entries n (vec_len c.push.new.self) c.loop-values.values.items c.push.new.self.items
      c.in-Some.feature.now c.take_value.new.self c.unwrap-value.result (search rules) (c.loop-values.invariant.2 after all t)
      (subst (λ k. Some c.in-Some.feature.now ≡ lookup (is_at (nat_cmp (slice_index_or c.args.ids.now k 0))) c.loop-values.features.entries) same c.in-Some.ensures.value)
      (subst (λ k. (c.get_mut.follows.lender c.take_value.new.self).entries ≡ set_value (is_at (nat_cmp (slice_index_or c.args.ids.now k 0))) c.loop-values.features.entries c.take_value.new.self) same (c.get_mut.follows.holds c.take_value.new.self).0)
      c.take_value.ensures.rest (sym c.take_value.ensures.taken ∙ c.unwrap-value.ensures) (search rules) (search rules),
)

pub returns-clause-taken : goal.returns-clause-taken
returns-clause-taken c = λ after all t.
    let there = c.loop-values.invariant.2 after all t in
    IsTaking-end c.args.number c.args.ids.now after all c.loop-values.features.entries (vec_len c.loop-values.values) c.loop-values.values.items (search rules) there
