use Rattle.std.proofs.Common.{rules, ◌≡◌, ◌∙◌, sym, ap, subst, ℕ, List, insert, Some, None, is_some, IfOk, string_bytes, bytes_eq, nat_eq}
use Rattle.std.proofs.lemmas.Bool.{false≢true}
use Rattle.std.proofs.lemmas.Map.Text.{btree_map_updates_text}
use Rattle.std.specs.BTreeMap.{get_by_text}
use Rattle.std.specs.List.{position_or_len}
use Rattle.std.specs.Map.{lookup, keys_of, values_of, update}
use Rattle.indexmap.specs.IndexMap.{move_index, insert_entry}
use Rattle.indexmap.proofs.CallerLemmas.{insert_entry-new}
use Rattle.sf_layers.specs.Content.{LayerContent, layer_of}
use Rattle.sf_layers.specs.WellFormed.{IsWellFormed}
use Rattle.sf_layers.specs.Numbers.{IsNumbered}
use Rattle.sf_layers.proofs.Numbers.{IsNumbered-insert, lookup-below}
use Rattle.sf_layers.proofs.Orders.{map-insert, move_index-new}
use Rattle.sf_layers.proofs.store.Store.put_layer.Goals as goal

pub shift_insert-requires-clause-below_len : goal.shift_insert-requires-clause-below_len
shift_insert-requires-clause-below_len c = λ there.
    let absent = lookup-below c.self.inside.layers.entries c.self.inside.next_number c.self.invariant.below in
    absurd (false≢true (sym (ap (λ es. is_some (lookup (nat_eq c.self.inside.next_number) es)) c.reserve.ensures.entries ∙ ap is_some absent) ∙ there))

-- the entries have one more at its place
put : (c : goal.After-self-1) → c.shift_insert.new.self.entries ≡ insert c.self.inside.layers.entries c.args.place (c.self.inside.next_number, (c.args.name, c.args.layer))
put c =
    let entries = c.self.inside.layers.entries in
    let n = c.self.inside.next_number in
    let entry : List ℕ × LayerContent = (c.args.name, c.args.layer) in
    let absent : lookup (nat_eq n) entries ≡ None = lookup-below entries n c.self.invariant.below in
    let moved : c.shift_insert.new.self.entries ≡ move_index (insert_entry nat_eq c.reserve.new.self.entries n entry) (position_or_len (nat_eq n) (keys_of c.reserve.new.self.entries)) c.args.place =
    subst (λ r. IfOk r (λ old. c.shift_insert.new.self.entries ≡ move_index (insert_entry nat_eq c.reserve.new.self.entries n entry) (position_or_len (nat_eq n) (keys_of c.reserve.new.self.entries)) c.args.place)) c.unwrap.ensures c.shift_insert.ensures.entries in
    moved
    ∙ ap (λ es. move_index (insert_entry nat_eq es n entry) (position_or_len (nat_eq n) (keys_of es)) c.args.place) c.reserve.ensures.entries
    ∙ ap (λ es. move_index es (position_or_len (nat_eq n) (keys_of entries)) c.args.place) (insert_entry-new nat_eq c.self.inside.layers n entry absent)
    ∙ move_index-new (nat_eq n) entries (n, entry) c.args.place absent

pub returns-clause-put : goal.returns-clause-put
returns-clause-put c =
    ap values_of (put c)
    ∙ map-insert (λ e. e.1) c.self.inside.layers.entries c.args.place (c.self.inside.next_number, (c.args.name, c.args.layer))
    ∙ ap (λ content. insert content c.args.place (c.args.name, c.args.layer)) c.self.view_is

pub invariant_of-self-2 : goal.invariant_of-self-2
invariant_of-self-2 c =
    let n = c.self.inside.next_number in
    let old = get_by_text c.self.inside.numbers in
    let new = get_by_text c.insert.new.self in
    let key : string_bytes c.in-Ok.key ≡ c.args.name = c.in-Ok.ensures.ok ∙ c.as_str.ensures in
    let updated : (other : List ℕ) → new other ≡ update bytes_eq old c.args.name (Some n) other =
    subst (λ bytes. (other : List ℕ) → new other ≡ update bytes_eq old bytes (Some n) other) key
    (btree_map_updates_text (string_bytes c.in-Ok.key) c.self.inside.numbers c.insert.new.self (Some n) c.in-Ok-insert.ensures.updates) in
    let absent : lookup (bytes_eq c.args.name) (values_of c.self.inside.layers.entries) ≡ None =
    ap (λ content. layer_of content c.args.name) c.self.view_is ∙ c.requires.free in
    let fine : IsWellFormed (insert (values_of c.self.inside.layers.entries) c.args.place (c.args.name, c.args.layer)) =
    subst (λ content. IsWellFormed (insert content c.args.place (c.args.name, c.args.layer))) (sym c.self.view_is) c.requires.fits in
    subst (λ es. IsNumbered new es c.in-Some.next_number) (sym (put c))
    (subst (IsNumbered new (insert c.self.inside.layers.entries c.args.place (n, (c.args.name, c.args.layer)))) (search rules)
    (IsNumbered-insert old new c.self.inside.layers.entries n c.args.place c.args.name c.args.layer c.self.invariant absent updated fine))
