use Rattle.std.proofs.Common.{◌≡◌, ◌∙◌, sym, ap, subst, ℕ, List, remove, None, slice_get, option_map, bytes_eq}
use Rattle.std.proofs.lemmas.Map.Text.{btree_map_updates_text}
use Rattle.std.specs.BTreeMap.{get_by_text}
use Rattle.std.specs.Map.{values_of, update}
use Rattle.sf_layers.specs.Numbers.{IsNumbered}
use Rattle.sf_layers.proofs.Kept.{IsWellFormed-remove}
use Rattle.sf_layers.proofs.Numbers.{IsNumbered-remove}
use Rattle.sf_layers.proofs.Orders.{map-remove, slice_get-map}
use Rattle.sf_layers.proofs.store.Store.take_layer.Goals as goal

pub returns-clause-rest : goal.returns-clause-rest
returns-clause-rest c =
    ap values_of c.shift_remove_index.ensures.entries
    ∙ map-remove (λ e. e.1) c.self.inside.layers.entries c.args.place
    ∙ ap (λ content. remove content c.args.place) c.self.view_is

pub returns-clause-taken : goal.returns-clause-taken
returns-clause-taken c =
    ap (λ content. slice_get content c.args.place) (sym c.self.view_is)
    ∙ slice_get-map (λ e. e.1) c.self.inside.layers.entries c.args.place
    ∙ ap (option_map (λ e. e.1)) (sym c.shift_remove_index.ensures.entry ∙ c.unwrap-name.ensures)

pub invariant_of-self : goal.invariant_of-self
invariant_of-self c =
    let name = c.unwrap-name.result.1.0 in
    let updated : (other : List ℕ) → get_by_text c.remove.new.self other ≡ update bytes_eq (get_by_text c.self.inside.numbers) name None other =
    subst (λ bytes. (other : List ℕ) → get_by_text c.remove.new.self other ≡ update bytes_eq (get_by_text c.self.inside.numbers) bytes None other) c.as_str.ensures
    (btree_map_updates_text c.as_str.result.now c.self.inside.numbers c.remove.new.self None c.remove.ensures.updates) in
    subst (λ es. IsNumbered (get_by_text c.remove.new.self) es c.self.inside.next_number) (sym c.shift_remove_index.ensures.entries)
    (IsNumbered-remove (get_by_text c.self.inside.numbers) (get_by_text c.remove.new.self) c.self.inside.layers.entries c.self.inside.next_number c.args.place
    c.unwrap-name.result.0 name c.unwrap-name.result.1.1 c.self.invariant (sym c.shift_remove_index.ensures.entry ∙ c.unwrap-name.ensures) updated
    (IsWellFormed-remove (values_of c.self.inside.layers.entries) c.args.place c.self.invariant.well_formed))
