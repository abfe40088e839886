use Rattle.std.proofs.Common.{◌∙◌, ◌||◌, Some, ap, bytes_eq, false, is_some, string_bytes, sym}
use Rattle.std.proofs.lemmas.Map.Text.{btree_map_updates_text}
use Rattle.std.specs.BTreeMap.{get_by_text}
use Rattle.std.specs.Option.{option_map_or}
use Rattle.sf_groups.proofs.Pushed.{noted-put}
use Rattle.sf_groups.proofs.group.note_added.Goals as goal

pub returns-clause-noted : goal.returns-clause-noted
returns-clause-noted c = λ name.
    noted-put (get_by_text c.args.added_to.now) (get_by_text c.insert.new.self) (string_bytes c.in_ok-name.name) c.in-Some.layer.now _ c.in_ok-name.ensures.ok
    (btree_map_updates_text (string_bytes c.in_ok-name.name) c.args.added_to.now c.insert.new.self (Some _) c.in-Ok.ensures.updates) name
    ∙ ap (λ b. is_some (get_by_text c.args.added_to.now name) || b)
    (sym (c.layer_added_to.ensures name ∙ ap (λ o. option_map_or (λ layer. bytes_eq layer.now name) o false) c.in-Some.is))
