use Rattle.std.proofs.Common.{◌≡◌, ◌∙◌, map, length, zip, sym, ap, subst, arith}
use Rattle.std.specs.List.Sorted.{IsStrictlySortedBy}
use Rattle.std.specs.Map.{keys_of, values_of}
use Rattle.std.specs.Ordering.{nat_cmp}
use Rattle.std.specs.Vec.{vec_len}
use Rattle.indexmap.proofs.ReorderLemmas.{zip_of_parts}
use Rattle.sf_layers.specs.Boxes.{boxes_of}
use Rattle.sf_layers.specs.Content.{LayerContent, column_values, without_values}
use Rattle.sf_layers.specs.Moves.{IsTaking, values_in}
use Rattle.sf_layers.proofs.ColumnMoves.{IsTaking-all, length-parts, rising-values_in}
use Rattle.sf_layers.proofs.Boxes.{agrees-on, boxes_of-bare}
use Rattle.sf_layers.proofs.Values.{bare}
use Rattle.sf_layers.proofs.ValuesKept.{noted-bare}
use Rattle.sf_layers.specs.contracts.layer.Layer.{the_view}
use Rattle.sf_layers.proofs.layer.Layer.take_values.Goals as goal
use Rattle.sf_layers.proofs.layer.Layer.take_values.Goals.{After-as_slice, After-take_from}

-- all values are still to be taken
taking : (c : After-as_slice) → IsTaking c.args.number c.as_slice.result.now (map (bare c.args.number) c.self.inside.features.entries) (values_of (values_in c.args.number c.self.inside.features.entries))
    c.self.inside.features.entries (vec_len c.in_ok-values.values) c.in_ok-values.values.items
taking c = IsTaking-all c.args.number c.as_slice.result.now c.self.inside.features.entries (vec_len c.in_ok-values.values) c.in_ok-values.values.items
    (c.as_slice.ensures.value ∙ c.in_ok-ids.ensures.ids) c.in_ok-ids.ensures.rising c.in_ok-values.ensures.len c.in_ok-values.ensures.items

pub take_from-requires-clause-there : goal.take_from-requires-clause-there
take_from-requires-clause-there c =
    let features = c.self.inside.features.entries in
    (map (bare c.args.number) features, (values_of (values_in c.args.number features), taking (goal.at.take_from-requires-clause-there c).After-as_slice))

-- and then they are taken
taken : (c : After-take_from)
    → IsTaking c.args.number c.as_slice.result.now (map (bare c.args.number) c.self.inside.features.entries) (values_of (values_in c.args.number c.self.inside.features.entries)) c.self.inside.features.entries (vec_len c.in_ok-values.values) c.in_ok-values.values.items
    → (c.take_from.new.features.entries ≡ map (bare c.args.number) c.self.inside.features.entries) × (c.take_from.new.values.items ≡ values_of (values_in c.args.number c.self.inside.features.entries))
taken c t =
    let features = c.self.inside.features.entries in
    c.take_from.ensures.taken (map (bare c.args.number) features) (values_of (values_in c.args.number features)) t

pub invariant_of-result : goal.invariant_of-result
invariant_of-result c =
    let at = goal.at.invariant_of-result c in
    let both = taken at.After-take_from (taking at.After-as_slice) in
    let vs = values_in c.args.number c.self.inside.features.entries in (
      omega (arith, c.take_from.new.values.ok.0, c.in_ok-ids.ids.ok.0, ap length both.1, ap length c.in_ok-ids.ensures.ids, length-parts vs),
      omega (arith, c.take_from.ensures.capacity, c.in_ok-values.ensures.capacity, c.len.ensures),
      subst (IsStrictlySortedBy nat_cmp) (sym c.in_ok-ids.ensures.ids) (rising-values_in c.args.number c.self.inside.features.entries c.in_ok-ids.ensures.rising),
    )

pub returns-clause-taken : goal.returns-clause-taken
returns-clause-taken c =
    let at = goal.at.returns-clause-taken c in
    let both = taken at.After-take_from (taking at.After-as_slice) in
    let vs = values_in c.args.number c.self.inside.features.entries in
    ap (λ ids. zip ids c.take_from.new.values.items) c.in_ok-ids.ensures.ids ∙ ap (zip (keys_of vs)) both.1 ∙ zip_of_parts vs ∙ ap (column_values c.args.number) c.self.view_is

pub returns-clause-rest : goal.returns-clause-rest
returns-clause-rest c =
    let at = goal.at.returns-clause-rest c in
    let both = taken at.After-take_from (taking at.After-as_slice) in
    ap (λ fs. let l : LayerContent = record (the_view c.self.inside) { features = fs } in l) both.0 ∙ ap (without_values c.args.number) c.self.view_is

pub invariant_of-self : goal.invariant_of-self
invariant_of-self c =
    let at = goal.at.invariant_of-self c in
    let both = taken at.After-take_from (taking at.After-as_slice) in
    let features = c.self.inside.features.entries in (
      agrees-on c.self.inside.index features c.take_from.new.features.entries c.self.invariant.0 (ap boxes_of both.0 ∙ boxes_of-bare c.args.number features),
      noted-bare c.self.inside.values c.forget.new.self features c.take_from.new.features.entries c.args.number c.forget.ensures.kept c.self.invariant.1 both.0,
    )
