-- The inverses of the edits of layers and columns describe the content before.
use Rattle.std.proofs.Common.{◌≡◌, ℕ, List, [], length, None, Some, is_some, ap, ◌∙◌, insert, remove, nat_lt}
use Rattle.std.proofs.lemmas.Bool.{ltb-true}
use Rattle.std.specs.Option.{option_map_or}
use Rattle.sf_layers.specs.Content.{Content, LayerContent, layer_of, has_layer, place_of, change_layer, without_values, without_column, column_values, column_place, number_named}
use Rattle.sf_layers.specs.WellFormed.{IsWellFormed}
use Rattle.sf_layers.proofs.Changes.{change_layer-change_layer, change_layer-at, IsLayer-layer_of}
use Rattle.sf_layers.proofs.Changes.{change_layer-same}
use Rattle.sf_layers.proofs.Places.{insert-remove, entry_at_place, moved-back, place_of-moved, renamed-back}
use Rattle.sf_layers.proofs.Columns.{column-back}
use Rattle.sf_steps.specs.declared.edit.Edit.TheVariants as edits
use Rattle.sf_steps.specs.declared.refusal.Refusal.TheVariants.{NoLayer, BadPlace, NoColumn}
use Rattle.sf_steps.specs.Steps.{first_refusal, checks, effect, drop_column, column_in}
use Rattle.sf_steps.specs.Inverses.{described, inverse_of, taken_back, the_layer, the_column, put_column, dropped_column}
use Rattle.sf_steps.proofs.Passes.{passed, there_from_test, ColumnThere-column_in, column_in-there}

the_layer-found : (content : Content) (name : List ℕ) (layer : LayerContent) → layer_of content name ≡ Some layer → the_layer content name ≡ layer
the_layer-found content name layer found = ap (λ o. option_map_or (λ l. l) o (the_layer [] [])) found

-- a layer that was dropped stands in its place again, with all that it had
pub DropLayer-back : (content : Content) (name : List ℕ) → first_refusal (checks content (edits.DropLayer name)) ≡ None
    → described (effect content (edits.DropLayer name)) (inverse_of content (edits.DropLayer name)) ≡ content
DropLayer-back content name h =
    let there = there_from_test (layer_of content name) (passed (has_layer content name) NoLayer [] h).0 in
    ap (λ l. insert (remove content (place_of content name)) (place_of content name) (name, l)) (the_layer-found content name there.0 there.1)
    ∙ insert-remove content (place_of content name) (name, there.0) (entry_at_place content name there.0 there.1)

pub RenameLayer-back : (content : Content) (name new_name : List ℕ) → first_refusal (checks content (edits.RenameLayer name new_name)) ≡ None
    → described (effect content (edits.RenameLayer name new_name)) (inverse_of content (edits.RenameLayer name new_name)) ≡ content
RenameLayer-back content name new_name h =
    let there = there_from_test (layer_of content name) (passed (has_layer content name) NoLayer _ h).0 in
    renamed-back content (place_of content name) name new_name there.0 (entry_at_place content name there.0 there.1)

pub MoveLayer-back : (content : Content) (name : List ℕ) (place : ℕ) → IsWellFormed content → first_refusal (checks content (edits.MoveLayer name place)) ≡ None
    → described (effect content (edits.MoveLayer name place)) (inverse_of content (edits.MoveLayer name place)) ≡ content
MoveLayer-back content name place fine h =
    let first = passed (has_layer content name) NoLayer _ h in
    let second = passed (nat_lt place (length content)) BadPlace [] first.1 in
    let there = there_from_test (layer_of content name) first.0 in
    moved-back content name there.0 place fine.distinct there.1 (ltb-true place (length content) second.0)

-- and the very edit is taken back: the layer stands at the place that it was moved to
pub MoveLayer-again : (content : Content) (name : List ℕ) (place : ℕ) → IsWellFormed content → first_refusal (checks content (edits.MoveLayer name place)) ≡ None
    → taken_back (effect content (edits.MoveLayer name place)) (inverse_of content (edits.MoveLayer name place)) ≡ edits.MoveLayer name place
MoveLayer-again content name place fine h =
    let first = passed (has_layer content name) NoLayer _ h in
    let second = passed (nat_lt place (length content)) BadPlace [] first.1 in
    let there = there_from_test (layer_of content name) first.0 in
    ap (edits.MoveLayer name) (place_of-moved content name there.0 place fine.distinct there.1 (ltb-true place (length content) second.0))

-- a change of a layer that another one takes back
pub change_layer-back : (content : Content) (name : List ℕ) (layer : LayerContent) (f g : LayerContent → LayerContent) → layer_of content name ≡ Some layer → g (f layer) ≡ layer
    → change_layer (change_layer content name f) name g ≡ content
change_layer-back content name layer f g found back =
    change_layer-change_layer content name f g ∙ change_layer-at content name layer (λ l. g (f l)) (λ l. l) found back ∙ change_layer-same content name

-- a column that was dropped stands in its place again, with its values in their features
pub DropColumn-back : (content : Content) (name column_name : List ℕ) → IsWellFormed content → first_refusal (checks content (edits.DropColumn name column_name)) ≡ None
    → described (effect content (edits.DropColumn name column_name)) (inverse_of content (edits.DropColumn name column_name)) ≡ content
DropColumn-back content name column_name fine h =
    let first = passed (has_layer content name) NoLayer _ h in
    let second = passed (is_some (column_in content name column_name)) NoColumn [] first.1 in
    let t = ColumnThere-column_in content name column_name second.0 in
    let new : Content = change_layer content name (drop_column column_name) in
    let column_is : the_column content name column_name ≡ t.column = ap (λ o. option_map_or (λ c. c) o (the_column [] [] [])) (column_in-there content name column_name t) in
    let layer_is : the_layer content name ≡ t.layer = the_layer-found content name t.layer t.found in
    let number_is : number_named t.layer column_name ≡ t.column.number = ap (λ o. option_map_or (λ c. c.number) o 0) t.named in
    let dropped : drop_column column_name t.layer ≡ without_column (column_place t.layer column_name) (without_values t.column.number t.layer) =
    ap (λ n. without_column (column_place t.layer column_name) (without_values n t.layer)) number_is in
    ap (λ c. described new (dropped_column name column_name c (the_layer content name))) column_is
    ∙ ap (λ l. described new (dropped_column name column_name t.column l)) layer_is
    ∙ change_layer-back content name t.layer (drop_column column_name) (put_column (column_place t.layer column_name) t.column (column_values t.column.number t.layer)) t.found
    (ap (put_column (column_place t.layer column_name) t.column (column_values t.column.number t.layer)) dropped
    ∙ column-back t.layer column_name t.column (IsLayer-layer_of content name t.layer t.found fine.layers) t.named)
