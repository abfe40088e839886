use Rattle.std.proofs.Common.{◌≡◌, ◌∙◌, sym, ap, subst, ℕ, List, None, Some, bytes_eq, string_bytes}
use Rattle.std.proofs.lemmas.Map.Text.{btree_map_updates_text}
use Rattle.std.specs.BTreeMap.{get_by_text}
use Rattle.std.specs.Map.{lookup, values_of, update}
use Rattle.indexmap.specs.IndexMap.{set_value_at}
use Rattle.sf_layers.specs.Content.{layer_of, renamed_at}
use Rattle.sf_layers.specs.WellFormed.{IsWellFormed}
use Rattle.sf_layers.specs.Numbers.{IsNumbered}
use Rattle.sf_layers.proofs.Moved.{IsAt, IsNumbered-renamed, entry-at, values-renamed_at}
use Rattle.sf_layers.proofs.store.Store.rename_layer.Goals as goal

-- the layer stands at its place under its number
at_place : (c : goal.After-remove) → IsAt c.self.inside.layers.entries c.args.place c.in-Some.number.now c.in-Some-get_index_mut.entry.now.0 c.in-Some-get_index_mut.entry.now.1
at_place c = entry-at c.self.inside.layers.entries c.args.place c.in-Some.number.now c.in-Some.field-0-1.now c.in-Some-get_index_mut.entry.now (sym c.in-Some.ensures.entry) (sym c.in-Some-get_index_mut.ensures.value)

pub returns-clause-renamed : goal.returns-clause-renamed
returns-clause-renamed c =
    let entry = c.in-Some-get_index_mut.entry.now in
    ap (λ name. values_of (set_value_at c.self.inside.layers.entries c.args.place (name, entry.1))) c.replace-old.ensures.after
    ∙ values-renamed_at c.self.inside.layers.entries c.args.place c.in-Some.number.now entry.0 c.args.name entry.1 (at_place c)
    ∙ ap (renamed_at c.args.place c.args.name) c.self.view_is

pub invariant_of-self-2 : goal.invariant_of-self-2
invariant_of-self-2 c =
    let entries = c.self.inside.layers.entries in
    let entry = c.in-Some-get_index_mut.entry.now in
    let n = c.in-Some.number.now in
    let old = get_by_text c.self.inside.numbers in
    let between = get_by_text c.insert.new.self in
    let new = get_by_text c.remove.new.self in
    let key : string_bytes c.in-Ok.key ≡ c.args.name = c.in-Ok.ensures.ok ∙ c.as_str.ensures in
    let put : (other : List ℕ) → between other ≡ update bytes_eq old c.args.name (Some n) other =
    subst (λ bytes. (other : List ℕ) → between other ≡ update bytes_eq old bytes (Some n) other) key
    (btree_map_updates_text (string_bytes c.in-Ok.key) c.self.inside.numbers c.insert.new.self (Some n) c.in-Ok-insert.ensures.updates) in
    let taken : (other : List ℕ) → new other ≡ update bytes_eq between entry.0 None other =
    subst (λ bytes. (other : List ℕ) → new other ≡ update bytes_eq between bytes None other) (c.as_str-2.ensures ∙ c.replace-old.ensures.value)
    (btree_map_updates_text c.as_str-2.result.now c.insert.new.self c.remove.new.self None c.remove.ensures.updates) in
    let absent : lookup (bytes_eq c.args.name) (values_of entries) ≡ None =
    ap (λ content. layer_of content c.args.name) c.self.view_is ∙ c.requires.free in
    let fine : IsWellFormed (renamed_at c.args.place c.args.name (values_of entries)) =
    subst (λ content. IsWellFormed (renamed_at c.args.place c.args.name content)) (sym c.self.view_is) c.requires.fits in
    subst (λ name. IsNumbered new (set_value_at entries c.args.place (name, entry.1)) c.self.inside.next_number) (sym c.replace-old.ensures.after)
    (IsNumbered-renamed old between new entries c.self.inside.next_number c.args.place n entry.0 c.args.name entry.1 c.self.invariant (at_place c) absent put taken fine)
