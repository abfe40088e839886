use Rattle.std.proofs.Common.{◌≡◌, ◌∙◌, sym, ap, subst, ℕ, List, remove, None, slice_get, option_map, bytes_eq}
use Rattle.std.proofs.lemmas.Map.Text.{btree_map_updates_text}
use Rattle.std.specs.BTreeMap.{get_by_text}
use Rattle.std.specs.Map.{values_of, update}
use Rattle.sf_features.specs.Columns.{AreNumbered}
use Rattle.sf_features.proofs.Numbers.{AreNumbered-remove}
use Rattle.sf_features.proofs.Orders.{map-remove, slice_get-map}
use Rattle.sf_features.proofs.columns.Columns.take.Goals as goal

pub returns-clause-rest : goal.returns-clause-rest
returns-clause-rest c =
    ap values_of c.shift_remove_index.ensures.entries
    ∙ map-remove (λ e. e.1) c.self.inside.columns.entries c.args.place
    ∙ ap (λ columns. remove columns c.args.place) c.self.view_is

pub returns-clause-taken : goal.returns-clause-taken
returns-clause-taken c =
    ap (λ columns. slice_get columns c.args.place) (sym c.self.view_is)
    ∙ slice_get-map (λ e. e.1) c.self.inside.columns.entries c.args.place
    ∙ ap (option_map (λ e. e.1)) (sym c.shift_remove_index.ensures.entry ∙ c.unwrap-column.ensures)

pub invariant_of-self : goal.invariant_of-self
invariant_of-self c =
    let column = c.unwrap-column.result.1 in
    let old = get_by_text c.self.inside.numbers in
    let new = get_by_text c.remove.new.self in
    let updated : (other : List ℕ) → new other ≡ update bytes_eq old column.name None other =
    subst (λ bytes. (other : List ℕ) → new other ≡ update bytes_eq old bytes None other) c.as_str.ensures
    (btree_map_updates_text c.as_str.result.now c.self.inside.numbers c.remove.new.self None c.remove.ensures.updates) in
    subst (AreNumbered new) (sym c.shift_remove_index.ensures.entries)
    (AreNumbered-remove old new c.self.inside.columns.entries c.args.place c.unwrap-column.result.0 column c.self.invariant (sym c.shift_remove_index.ensures.entry ∙ c.unwrap-column.ensures) updated)
