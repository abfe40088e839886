use Rattle.std.proofs.Common.{◌≡◌, ◌∙◌, sym, ap, subst, ℕ, List, insert, Some, None, is_some, IfOk, string_bytes, bytes_eq, nat_eq}
use Rattle.std.proofs.lemmas.Bool.{false≢true}
use Rattle.std.proofs.lemmas.Map.Text.{btree_map_updates_text}
use Rattle.std.specs.BTreeMap.{get_by_text}
use Rattle.std.specs.List.{position_or_len}
use Rattle.std.specs.Map.{lookup, keys_of, values_of, update}
use Rattle.indexmap.specs.IndexMap.{move_index, insert_entry}
use Rattle.indexmap.proofs.CallerLemmas.{insert_entry-new}
use Rattle.sf_features.specs.Columns.{AreNumbered, named, numbered}
use Rattle.sf_features.proofs.Numbers.{AreNumbered-insert, lookup-unused}
use Rattle.sf_features.proofs.Orders.{map-insert, move_index-new}
use Rattle.sf_features.proofs.columns.Columns.put.Goals as goal

pub shift_insert-requires-clause-below_len : goal.shift_insert-requires-clause-below_len
shift_insert-requires-clause-below_len c = λ there.
    let entries = c.self.inside.columns.entries in
    let n = c.args.column.number in
    let absent : lookup (nat_eq n) entries ≡ None = lookup-unused (get_by_text c.self.inside.numbers) entries n c.self.invariant (ap (λ columns. numbered columns n) c.self.view_is ∙ c.requires.unused) in
    absurd (false≢true (sym (ap (λ es. is_some (lookup (nat_eq n) es)) c.reserve.ensures.entries ∙ ap is_some absent) ∙ there))

-- the entries have one more at its place
put : (c : goal.Joined-unwrap) → c.shift_insert.new.self.entries ≡ insert c.self.inside.columns.entries c.args.place (c.args.column.number, c.args.column)
put c =
    let entries = c.self.inside.columns.entries in
    let column = c.args.column in
    let n = column.number in
    let absent : lookup (nat_eq n) entries ≡ None = lookup-unused (get_by_text c.self.inside.numbers) entries n c.self.invariant (ap (λ columns. numbered columns n) c.self.view_is ∙ c.requires.unused) in
    let moved : c.shift_insert.new.self.entries ≡ move_index (insert_entry nat_eq c.reserve.new.self.entries n column) (position_or_len (nat_eq n) (keys_of c.reserve.new.self.entries)) c.args.place =
    subst (λ r. IfOk r (λ old. c.shift_insert.new.self.entries ≡ move_index (insert_entry nat_eq c.reserve.new.self.entries n column) (position_or_len (nat_eq n) (keys_of c.reserve.new.self.entries)) c.args.place)) c.unwrap.ensures c.shift_insert.ensures.entries in
    moved
    ∙ ap (λ es. move_index (insert_entry nat_eq es n column) (position_or_len (nat_eq n) (keys_of es)) c.args.place) c.reserve.ensures.entries
    ∙ ap (λ es. move_index es (position_or_len (nat_eq n) (keys_of entries)) c.args.place) (insert_entry-new nat_eq c.self.inside.columns n column absent)
    ∙ move_index-new (nat_eq n) entries (n, column) c.args.place absent

pub returns-clause-put : goal.returns-clause-put
returns-clause-put c =
    ap values_of (put c)
    ∙ map-insert (λ e. e.1) c.self.inside.columns.entries c.args.place (c.args.column.number, c.args.column)
    ∙ ap (λ columns. insert columns c.args.place c.args.column) c.self.view_is

pub invariant_of-self-2 : goal.invariant_of-self-2
invariant_of-self-2 c =
    let column = c.args.column in
    let n = column.number in
    let old = get_by_text c.self.inside.numbers in
    let new = get_by_text c.insert.new.self in
    let key : string_bytes c.in-Ok.name ≡ column.name = c.in-Ok.ensures.ok ∙ c.as_str.ensures in
    let updated : (other : List ℕ) → new other ≡ update bytes_eq old column.name (Some n) other =
    subst (λ bytes. (other : List ℕ) → new other ≡ update bytes_eq old bytes (Some n) other) key
    (btree_map_updates_text (string_bytes c.in-Ok.name) c.self.inside.numbers c.insert.new.self (Some n) c.in-Ok-insert.ensures.updates) in
    subst (AreNumbered new) (sym (put c))
    (AreNumbered-insert old new c.self.inside.columns.entries c.args.place column c.self.invariant (ap (λ columns. named columns column.name) c.self.view_is ∙ c.requires.free) updated)
