-- The points that the edits of lines and members bring are on the grid.
use Rattle.std.proofs.Common.{◌≡◌, ℕ, ℤ, Bool, true, false, ◌&&◌, nat_le, nat_lt, List, [], ◌∷◌, ◌++◌, length, Option, None, Some, ok_or, Result, Ok, Err, IfOk, if◌then◌else◌, refl, subst}
use Rattle.std.specs.List.{AllByRecursion}
use Rattle.hex.specs.declared.error.FromHexError.{FromHexError}
use Rattle.hex.specs.Hex.{decode_of}
use Rattle.sf_refusals.specs.declared.refusal.Refusal.{Refusal}
use Rattle.sf_refusals.specs.declared.refusal.Refusal.TheVariants.{BadCommand, BadPattern, LineTooLong}
use Rattle.sf_grid.specs.Bounds.{IsCoordinate}
use Rattle.sf_grid.specs.Plane.{Coordinates, IsOnGrid}
use Rattle.sf_geometry.specs.declared.geometry.Geometry.{Geometry}
use Rattle.sf_geometry.specs.Parts.{LiesOnGrid, points_of}
use Rattle.sf_geometry.specs.Size.{IsSized}
use Rattle.sf_measure.specs.declared.measure.Measure.TheVariants.{Area, Length}
use Rattle.sf_known.specs.declared.predicate.Predicate.{Predicate}
use Rattle.sf_known.specs.Patterns.{pattern_of}
use Rattle.sf_text_lines.specs.Lines.{line_max}
use Rattle.sf_wkt.specs.declared.fault.WktFault.{WktFault}
use Rattle.sf_wkt.specs.Grammar.{read}
use Rattle.sf_wkt.specs.Tokens.{coordinate_of}
use Rattle.sf_wkt.proofs.Sized.{read_is_sized}
use Rattle.sf_wkb.specs.declared.fault.WkbFault.{WkbFault}
use Rattle.sf_wkb.specs.declared.grid.Grid.TheVariants.{Bits31}
use Rattle.sf_wkb.specs.Grammar.{read as read_bytes}
use Rattle.sf_wkb.proofs.Sized.{read_is_sized as bytes_are_sized}
use Rattle.sf_rules.specs.Asked.{PairAsk}
use Rattle.sf_rules.specs.declared.rule.Form.{Form}
use Rattle.sf_commands.specs.declared.spelling.DemandWord.{DemandWord}
use Rattle.sf_steps.specs.declared.edit.Edit.TheVariants as edits
use Rattle.sf_steps.specs.Laws.{BringsGridPoints}
use Rattle.sf_groups.specs.declared.member.Member.{Member}
use Rattle.sf_groups.specs.Members.{may_follow}
use Rattle.sf_commands.specs.declared.command.Command.{Command}
use Rattle.sf_commands.specs.declared.command.Command.TheVariants.{Edit, Undo, Redo, Layers, Columns, Rules, Show, Get, Hex, Simple, Extent, Measured, Distance, Nearest, Relate, Match, Query, Near}
use Rattle.sf_commands.specs.declared.group_text.GroupRefusal.{GroupRefusal}
use Rattle.sf_words.specs.declared.naming.Naming.{Naming}
use Rattle.sf_words.specs.declared.naming.Naming.TheVariants.{ById, OrLast}
use Rattle.sf_words.specs.declared.verb.Verb.{Verb}
use Rattle.sf_words.specs.declared.verb.Verb.TheVariants as verbs
use Rattle.sf_words.specs.declared.verb.Action.{Action}
use Rattle.sf_words.specs.declared.verb.Action.TheVariants as actions
use Rattle.sf_words.specs.Reaches.{is_near, reach_of}
use Rattle.sf_words.specs.Words.{words, skip_blanks, skip_word, trimmed_end}
use Rattle.sf_words.specs.Points.{point_by, point_of}
use Rattle.sf_values.specs.Values.{value_of}
use Rattle.sf_words.specs.Verbs.{action_of, verb_of}
use Rattle.sf_words.specs.Naming.{given, id_named, id_of, vertex_place}
use Rattle.sf_words.specs.Editors.{addressed}
use Rattle.sf_values.specs.Kinds.{column_type_of, layer_kind_of, predicate_of}
use Rattle.sf_commands.specs.Commands.{add_arguments, add_column, add_layer, add_rule, addhex_arguments, addressed_command, after_two_words, alone, ask_of, beside_of, by_editor, by_verb, by_words, bytes_command, check_arguments, column_arguments, column_command, command_of, compared_arguments, delete_arguments, demand_by, demand_of, drop_column, drop_layer, drop_rule, feature_arguments, feature_command, feature_named, features_arguments, features_command, few_named, find_arguments, form_of, hex_command, ids_max, ids_of, insert_vertex, join_arguments, join_behind, join_near, layer_arguments, layer_command, layer_rule, Linked, linked_of, made, match_arguments, matrix_ask_of, move_layer, move_vertex, near_ask_of, near_rule, nearest_arguments, of_layer, of_text, query_arguments, query_asked, query_named, query_near, reach_arguments, reach_behind, reach_linked, reach_until, remove_vertex, rename_layer, replace_arguments, rule_arguments, rule_behind, rule_by, rule_command, second_of, set_arguments, sought_of, unset_arguments, valid_of, value_rule, vertex_arguments, vertex_command, with_geometry}
use Rattle.sf_commands.specs.Members.{member_by, member_by_verb, member_by_words, member_of, second_is_last, third_is_last}
use Rattle.sf_words.specs.Parts.{parts_of}
use Rattle.sf_commands.specs.GroupTexts.{and_behind, members_behind, members_in, placed}
use Rattle.sf_commands.specs.Laws.{CommandsBringGridPoints, MembersBringGridPoints}
use Rattle.sf_words.proofs.PointLemmas.{spelled_on_grid}

-- the points that a command brings into the store are on the grid
abbrev BringsOnGrid : Command → Type 0
BringsOnGrid (Edit edit) = BringsGridPoints edit
BringsOnGrid command = Unit {0}

-- the same of a command that was read
abbrev Brings : Result Command Refusal → Type 0
Brings result = IfOk result BringsOnGrid

-- ---- what is made of parts

given_brings : {X : Type 0} (o : Option X) (make : X → Result Command Refusal) → ((x : X) → Brings (make x)) → Brings (given o make)
given_brings None make brings = tt
given_brings (Some x) make brings = brings x

made_brings : {X : Type 0} (r : Result X Refusal) (make : X → Result Command Refusal) → ((x : X) → Brings (make x)) → Brings (made r make)
made_brings (Ok x) make brings = brings x
made_brings (Err refusal) make brings = tt

point_brings : (r : Result Coordinates Refusal) (make : Coordinates → Command) → IfOk r IsOnGrid
    → ((point : Coordinates) → IsOnGrid point → BringsOnGrid (make point)) → Brings (made r (λ point. Ok (make point)))
point_brings (Ok point) make on_grid brings = brings point on_grid
point_brings (Err refusal) make on_grid brings = tt

text_brings : (r : Result Geometry WktFault) (make : Geometry → Command) → IfOk r (λ g. IsSized g × AllByRecursion IsOnGrid (points_of g))
    → ((geometry : Geometry) → LiesOnGrid geometry → BringsOnGrid (make geometry)) → Brings (of_text r make)
text_brings (Ok geometry) make good brings = brings geometry good.1
text_brings (Err fault) make good brings = tt

bytes_bring : (layer : List ℕ) (r : Result Geometry WkbFault) → IfOk r (λ g. IsSized g × AllByRecursion IsOnGrid (points_of g)) → Brings (bytes_command layer r)
bytes_bring layer (Ok geometry) good = good.1
bytes_bring layer (Err fault) good = tt

hex_brings : (layer : List ℕ) (r : Result (List ℕ) FromHexError) → Brings (hex_command layer r)
hex_brings layer (Ok bytes) = bytes_bring layer (read_bytes bytes) (bytes_are_sized Bits31 bytes)
hex_brings layer (Err fault) = tt

by_on_grid : (x y : Option (Result ℤ WktFault)) → ((n : ℤ) → x ≡ Some (Ok n) → IsCoordinate n) → ((n : ℤ) → y ≡ Some (Ok n) → IsCoordinate n) → IfOk (point_by x y) IsOnGrid
by_on_grid (Some (Ok x)) (Some (Ok y)) first second = (first x refl, second y refl)
by_on_grid (Some (Ok x)) (Some (Err fault)) first second = tt
by_on_grid (Some (Err fault)) (Some y) first second = tt
by_on_grid (Some x) None first second = tt
by_on_grid None y first second = tt

-- the point that two words spell is on the grid
point_on_grid : (x y : List ℕ) → IfOk (point_of x y) IsOnGrid
point_on_grid x y = by_on_grid (coordinate_of x) (coordinate_of y) (spelled_on_grid x) (spelled_on_grid y)

-- ---- the words after each verb

add_layer_brings : (arguments : List (List ℕ)) → Brings (add_layer arguments)
add_layer_brings (name ∷ kind ∷ []) = given_brings (layer_kind_of kind) _ (λ kind. tt)
add_layer_brings arguments = tt

drop_layer_brings : (arguments : List (List ℕ)) → Brings (drop_layer arguments)
drop_layer_brings (name ∷ []) = tt
drop_layer_brings arguments = tt

rename_layer_brings : (arguments : List (List ℕ)) → Brings (rename_layer arguments)
rename_layer_brings (name ∷ new_name ∷ []) = tt
rename_layer_brings arguments = tt

move_layer_brings : (arguments : List (List ℕ)) → Brings (move_layer arguments)
move_layer_brings (name ∷ place ∷ []) = given_brings (id_of place) _ (λ place. tt)
move_layer_brings arguments = tt

layer_command_brings : (action : Option Action) (arguments : List (List ℕ)) → Brings (layer_command action arguments)
layer_command_brings (Some actions.Add) arguments = add_layer_brings arguments
layer_command_brings (Some actions.Drop) arguments = drop_layer_brings arguments
layer_command_brings (Some actions.Rename) arguments = rename_layer_brings arguments
layer_command_brings (Some actions.Move) arguments = move_layer_brings arguments
layer_command_brings action arguments = tt

layer_brings : (arguments : List (List ℕ)) → Brings (layer_arguments arguments)
layer_brings [] = tt
layer_brings (action ∷ arguments) = layer_command_brings (action_of action) arguments

add_column_brings : (arguments : List (List ℕ)) → Brings (add_column arguments)
add_column_brings (layer ∷ name ∷ column_type ∷ []) = given_brings (column_type_of column_type) _ (λ column_type. tt)
add_column_brings arguments = tt

drop_column_brings : (arguments : List (List ℕ)) → Brings (drop_column arguments)
drop_column_brings (layer ∷ name ∷ []) = tt
drop_column_brings arguments = tt

column_command_brings : (action : Option Action) (arguments : List (List ℕ)) → Brings (column_command action arguments)
column_command_brings (Some actions.Add) arguments = add_column_brings arguments
column_command_brings (Some actions.Drop) arguments = drop_column_brings arguments
column_command_brings action arguments = tt

column_brings : (arguments : List (List ℕ)) → Brings (column_arguments arguments)
column_brings [] = tt
column_brings (action ∷ arguments) = column_command_brings (action_of action) arguments

insert_vertex_brings : (naming : Naming) (arguments : List (List ℕ)) → Brings (insert_vertex naming arguments)
insert_vertex_brings naming (layer ∷ id ∷ part ∷ ring ∷ index ∷ x ∷ y ∷ []) =
    made_brings (vertex_place naming id part ring index) _ (λ v. point_brings (point_of x y) _ (point_on_grid x y) (λ point on_grid. on_grid))
insert_vertex_brings naming arguments = tt

move_vertex_brings : (naming : Naming) (arguments : List (List ℕ)) → Brings (move_vertex naming arguments)
move_vertex_brings naming (layer ∷ id ∷ part ∷ ring ∷ index ∷ x ∷ y ∷ []) =
    made_brings (vertex_place naming id part ring index) _ (λ v. point_brings (point_of x y) _ (point_on_grid x y) (λ point on_grid. on_grid))
move_vertex_brings naming arguments = tt

remove_vertex_brings : (naming : Naming) (arguments : List (List ℕ)) → Brings (remove_vertex naming arguments)
remove_vertex_brings naming (layer ∷ id ∷ part ∷ ring ∷ index ∷ []) = made_brings (vertex_place naming id part ring index) _ (λ v. tt)
remove_vertex_brings naming arguments = tt

vertex_command_brings : (naming : Naming) (action : Option Action) (arguments : List (List ℕ)) → Brings (vertex_command naming action arguments)
vertex_command_brings naming (Some actions.Insert) arguments = insert_vertex_brings naming arguments
vertex_command_brings naming (Some actions.Move) arguments = move_vertex_brings naming arguments
vertex_command_brings naming (Some actions.Remove) arguments = remove_vertex_brings naming arguments
vertex_command_brings naming action arguments = tt

vertex_brings : (naming : Naming) (arguments : List (List ℕ)) → Brings (vertex_arguments naming arguments)
vertex_brings naming [] = tt
vertex_brings naming (action ∷ arguments) = vertex_command_brings naming (action_of action) arguments

add_brings : (arguments : List (List ℕ)) (text : List ℕ) → Brings (add_arguments arguments text)
add_brings (layer ∷ first ∷ more) text = text_brings (read text) _ (read_is_sized text) (λ geometry on_grid. on_grid)
add_brings arguments text = tt

check_brings : (arguments : List (List ℕ)) (text : List ℕ) → Brings (check_arguments arguments text)
check_brings (layer ∷ first ∷ more) text = text_brings (read text) _ (read_is_sized text) (λ geometry on_grid. tt)
check_brings arguments text = tt

addhex_brings : (arguments : List (List ℕ)) → Brings (addhex_arguments arguments)
addhex_brings (layer ∷ hex ∷ []) = hex_brings layer (decode_of hex)
addhex_brings arguments = tt

-- of commands about a feature that bring no points
about_brings : (command : List ℕ → ℕ → Command) (r : Result (List ℕ × ℕ) Refusal) → ((layer : List ℕ) (id : ℕ) → BringsOnGrid (command layer id)) → Brings (feature_command command r)
about_brings command (Ok feature) brings = brings feature.0 feature.1
about_brings command (Err refusal) brings = tt

feature_brings : (command : List ℕ → ℕ → Command) (arguments : List (List ℕ)) → ((layer : List ℕ) (id : ℕ) → BringsOnGrid (command layer id)) → Brings (feature_arguments command arguments)
feature_brings command arguments brings = about_brings command (feature_named ById arguments) brings

delete_brings : (naming : Naming) (arguments : List (List ℕ)) → Brings (delete_arguments naming arguments)
delete_brings naming arguments = about_brings (λ layer id. Edit (edits.DeleteFeature layer id)) (feature_named naming arguments) (λ layer id. tt)

replace_brings : (naming : Naming) (arguments : List (List ℕ)) (text : List ℕ) → Brings (replace_arguments naming arguments text)
replace_brings naming (layer ∷ id ∷ first ∷ more) text =
    given_brings (id_named naming id) _ (λ id. text_brings (read text) _ (read_is_sized text) (λ geometry on_grid. on_grid))
replace_brings naming arguments text = tt

set_brings : (naming : Naming) (arguments : List (List ℕ)) (text : List ℕ) → Brings (set_arguments naming arguments text)
set_brings naming (layer ∷ id ∷ column ∷ first ∷ more) text =
    given_brings (id_named naming id) _ (λ id. given_brings (value_of (trimmed_end text)) _ (λ value. tt))
set_brings naming arguments text = tt

unset_brings : (naming : Naming) (arguments : List (List ℕ)) → Brings (unset_arguments naming arguments)
unset_brings naming (layer ∷ id ∷ column ∷ []) = given_brings (id_named naming id) _ (λ id. tt)
unset_brings naming arguments = tt

features_brings : (command : List ℕ → List ℕ → Command) (arguments : List (List ℕ)) → ((layer ids : List ℕ) → BringsOnGrid (command layer ids)) → Brings (features_arguments command arguments)
features_brings command [] brings = tt
features_brings command (layer ∷ ids) brings = by (ids_of ids)
  where
    by : (found : Option (List ℕ)) → Brings (features_command command (given found (λ ids. Ok (layer, ids))))
    by None = tt
    by (Some ids) = brings layer ids

find_brings : (arguments : List (List ℕ)) (text : List ℕ) → Brings (find_arguments arguments text)
find_brings [] text = tt
find_brings (layer ∷ []) text = tt
find_brings (layer ∷ column ∷ value) text = made_brings (sought_of value text) _ (λ sought. tt)

join_behind_brings : (first : List ℕ) (ask : Result PairAsk Refusal) (arguments : List (List ℕ)) → Brings (join_behind first ask arguments)
join_behind_brings first ask [] = tt
join_behind_brings first ask (second ∷ beside) = made_brings (beside_of beside) _ (λ beside. made_brings ask _ (λ ask. tt))

join_near_brings : (first : List ℕ) (arguments : List (List ℕ)) → Brings (join_near first arguments)
join_near_brings first [] = tt
join_near_brings first (distance ∷ arguments) = join_behind_brings first (near_ask_of distance) arguments

join_brings : (arguments : List (List ℕ)) → Brings (join_arguments arguments)
join_brings [] = tt
join_brings (first ∷ []) = tt
join_brings (first ∷ ask ∷ arguments) = by (is_near ask)
  where
    by : (near : Bool) → Brings (if near then join_near first arguments else join_behind first (matrix_ask_of ask) arguments)
    by true = join_near_brings first arguments
    by false = join_behind_brings first (matrix_ask_of ask) arguments

reach_until_brings : (layer ask ids : List ℕ) (arguments : List (List ℕ)) → Brings (reach_until layer ask ids arguments)
reach_until_brings layer ask ids [] = tt
reach_until_brings layer ask ids (second ∷ []) = tt
reach_until_brings layer ask ids (second ∷ end ∷ []) = made_brings (ask_of ask) _ (λ ask. made_brings (ask_of end) _ (λ end. tt))
reach_until_brings layer ask ids (second ∷ end ∷ third ∷ more) = tt

reach_behind_brings : (layer ask ids : List ℕ) (words : Option (List (List ℕ))) → Brings (reach_behind layer ask ids words)
reach_behind_brings layer ask ids None = made_brings (ask_of ask) _ (λ ask. tt)
reach_behind_brings layer ask ids (Some words) = reach_until_brings layer ask ids words

reach_linked_brings : (layer ask : List ℕ) (linked : Option Linked) → Brings (reach_linked layer ask linked)
reach_linked_brings layer ask None = tt
reach_linked_brings layer ask (Some linked) = by (nat_lt 0 (length linked.0) && nat_le (length linked.0) ids_max)
  where
    by : (few : Bool) → Brings (if few then reach_behind layer ask linked.0 linked.1 else Err BadCommand)
    by true = reach_behind_brings layer ask linked.0 linked.1
    by false = tt

reach_brings : (arguments : List (List ℕ)) → Brings (reach_arguments arguments)
reach_brings [] = tt
reach_brings (layer ∷ []) = tt
reach_brings (layer ∷ ask ∷ arguments) = reach_linked_brings layer ask (linked_of arguments)

rule_behind_brings : (name : List ℕ) (form : Form) (first : List ℕ) (ask : Result PairAsk Refusal) (arguments : List (List ℕ)) → Brings (rule_behind name form first ask arguments)
rule_behind_brings name form first ask arguments = made_brings (second_of form arguments) _ (λ second. made_brings ask _ (λ ask. tt))

near_rule_brings : (name : List ℕ) (form : Form) (first : List ℕ) (arguments : List (List ℕ)) → Brings (near_rule name form first arguments)
near_rule_brings name form first [] = tt
near_rule_brings name form first (distance ∷ arguments) = rule_behind_brings name form first (near_ask_of distance) arguments

layer_rule_brings : (name : List ℕ) (form : Form) (arguments : List (List ℕ)) → Brings (layer_rule name form arguments)
layer_rule_brings name form [] = tt
layer_rule_brings name form (first ∷ []) = tt
layer_rule_brings name form (first ∷ ask ∷ arguments) = by (is_near ask)
  where
    by : (near : Bool) → Brings (if near then near_rule name form first arguments else rule_behind name form first (matrix_ask_of ask) arguments)
    by true = near_rule_brings name form first arguments
    by false = rule_behind_brings name form first (matrix_ask_of ask) arguments

value_rule_brings : (name : List ℕ) (demand : DemandWord) (arguments : List (List ℕ)) (text : List ℕ) → Brings (value_rule name demand arguments text)
value_rule_brings name demand [] text = tt
value_rule_brings name demand (layer ∷ []) text = tt
value_rule_brings name demand (layer ∷ column ∷ arguments) text = made_brings (demand_by demand arguments text) _ (λ demand. tt)

rule_by_brings : (name : List ℕ) (demand : Option DemandWord) (word : List ℕ) (arguments : List (List ℕ)) (text : List ℕ) → Brings (rule_by name demand word arguments text)
rule_by_brings name (Some demand) word arguments text = value_rule_brings name demand arguments text
rule_by_brings name None word arguments text = given_brings (form_of word) _ (λ form. layer_rule_brings name form arguments)

add_rule_brings : (arguments : List (List ℕ)) (text : List ℕ) → Brings (add_rule arguments text)
add_rule_brings [] text = tt
add_rule_brings (name ∷ []) text = tt
add_rule_brings (name ∷ word ∷ arguments) text = rule_by_brings name (demand_of word) word arguments text

drop_rule_brings : (arguments : List (List ℕ)) → Brings (drop_rule arguments)
drop_rule_brings (name ∷ []) = tt
drop_rule_brings arguments = tt

rule_command_brings : (action : Option Action) (arguments : List (List ℕ)) (text : List ℕ) → Brings (rule_command action arguments text)
rule_command_brings (Some actions.Add) arguments text = add_rule_brings arguments text
rule_command_brings (Some actions.Drop) arguments text = drop_rule_brings arguments
rule_command_brings action arguments text = tt

-- a rule brings no geometry
rule_brings : (arguments : List (List ℕ)) (text : List ℕ) → Brings (rule_arguments arguments text)
rule_brings [] text = tt
rule_brings (action ∷ arguments) text = rule_command_brings (action_of action) arguments text

-- of questions with a geometry of their own
with_geometry_brings : {X : Type 0} (command : List ℕ → X → Geometry → Command) (layer : List ℕ) (spelled : Result X Refusal) (geometry : Result Geometry Refusal)
    → ((x : X) (given : Geometry) → BringsOnGrid (command layer x given)) → Brings (with_geometry command layer spelled geometry)
with_geometry_brings command layer spelled geometry brings = made_brings spelled _ (λ x. made_brings geometry _ (λ given. brings x given))

after_two_words_brings : (make : List ℕ → List ℕ → List ℕ → Result Command Refusal) (arguments : List (List ℕ)) (text : List ℕ)
    → ((layer word text : List ℕ) → Brings (make layer word text)) → Brings (after_two_words make arguments text)
after_two_words_brings make (layer ∷ word ∷ first ∷ more) text brings = brings layer word text
after_two_words_brings make arguments text brings = tt

compared_brings : (command : List ℕ → ℕ → Geometry → Command) (arguments : List (List ℕ)) (text : List ℕ)
    → ((layer : List ℕ) (id : ℕ) (given : Geometry) → BringsOnGrid (command layer id given)) → Brings (compared_arguments command arguments text)
compared_brings command arguments text brings =
    after_two_words_brings _ arguments text (λ layer id text. with_geometry_brings command layer (ok_or (id_of id) BadCommand) (valid_of (read text)) (brings layer))

nearest_brings : (arguments : List (List ℕ)) (text : List ℕ) → Brings (nearest_arguments arguments text)
nearest_brings arguments text =
    after_two_words_brings _ arguments text (λ layer count text. with_geometry_brings Nearest layer (ok_or (few_named count) BadCommand) (valid_of (read text)) (λ count given. tt))

match_brings : (arguments : List (List ℕ)) (text : List ℕ) → Brings (match_arguments arguments text)
match_brings arguments text =
    after_two_words_brings _ arguments text (λ layer pattern text. with_geometry_brings Match layer (ok_or (pattern_of pattern) BadPattern) (valid_of (read text)) (λ pattern given. tt))

near_brings : (layer : List ℕ) (arguments : List (List ℕ)) (text : List ℕ) → Brings (query_near layer arguments text)
near_brings layer (distance ∷ first ∷ more) text = with_geometry_brings Near layer (ok_or (reach_of distance) BadCommand) (valid_of (read text)) (λ reach given. tt)
near_brings layer arguments text = tt

query_asked_brings : (layer ask text : List ℕ) → Brings (query_asked layer ask text)
query_asked_brings layer ask text = by (is_near ask)
  where
    by : (near : Bool) → Brings (if near then query_near layer (words text) (skip_blanks (skip_word text)) else query_named layer ask text)
    by true = near_brings layer (words text) (skip_blanks (skip_word text))
    by false = with_geometry_brings Query layer (ok_or (predicate_of ask) BadCommand) (valid_of (read text)) (λ predicate given. tt)

query_brings : (arguments : List (List ℕ)) (text : List ℕ) → Brings (query_arguments arguments text)
query_brings arguments text = after_two_words_brings query_asked arguments text query_asked_brings

of_layer_brings : (command : List ℕ → Command) (arguments : List (List ℕ)) → ((layer : List ℕ) → BringsOnGrid (command layer)) → Brings (of_layer command arguments)
of_layer_brings command (layer ∷ []) brings = brings layer
of_layer_brings command arguments brings = tt

alone_brings : (command : Command) (arguments : List (List ℕ)) → BringsOnGrid command → Brings (alone command arguments)
alone_brings command [] brings = brings
alone_brings command arguments brings = tt

-- ---- the line

by_verb_brings : (verb : Option Verb) (rest : List ℕ) → Brings (by_verb verb rest)
by_verb_brings (Some verbs.Layer) rest = layer_brings (words rest)
by_verb_brings (Some verbs.Column) rest = column_brings (words rest)
by_verb_brings (Some verbs.Add) rest = add_brings (words rest) (skip_blanks (skip_word rest))
by_verb_brings (Some verbs.AddHex) rest = addhex_brings (words rest)
by_verb_brings (Some verbs.Delete) rest = delete_brings ById (words rest)
by_verb_brings (Some verbs.Replace) rest = replace_brings ById (words rest) (skip_blanks (skip_word (skip_word rest)))
by_verb_brings (Some verbs.Vertex) rest = vertex_brings ById (words rest)
by_verb_brings (Some verbs.Set) rest = set_brings ById (words rest) (skip_blanks (skip_word (skip_word (skip_word rest))))
by_verb_brings (Some verbs.Unset) rest = unset_brings ById (words rest)
by_verb_brings (Some verbs.Rule) rest = rule_brings (words rest) (skip_blanks (skip_word (skip_word (skip_word (skip_word (skip_word rest))))))
by_verb_brings (Some verbs.Undo) rest = alone_brings Undo (words rest) tt
by_verb_brings (Some verbs.Redo) rest = alone_brings Redo (words rest) tt
by_verb_brings (Some verbs.Layers) rest = alone_brings Layers (words rest) tt
by_verb_brings (Some verbs.Columns) rest = of_layer_brings Columns (words rest) (λ layer. tt)
by_verb_brings (Some verbs.Rules) rest = alone_brings Rules (words rest) tt
by_verb_brings (Some verbs.Show) rest = of_layer_brings Show (words rest) (λ layer. tt)
by_verb_brings (Some verbs.Get) rest = features_brings Get (words rest) (λ layer ids. tt)
by_verb_brings (Some verbs.Find) rest = find_brings (words rest) (skip_blanks (skip_word (skip_word rest)))
by_verb_brings (Some verbs.Check) rest = check_brings (words rest) (skip_blanks (skip_word rest))
by_verb_brings (Some verbs.Hex) rest = feature_brings Hex (words rest) (λ layer id. tt)
by_verb_brings (Some verbs.Box) rest = feature_brings Extent (words rest) (λ layer id. tt)
by_verb_brings (Some verbs.Simple) rest = feature_brings Simple (words rest) (λ layer id. tt)
by_verb_brings (Some verbs.Area) rest = features_brings (Measured Area) (words rest) (λ layer ids. tt)
by_verb_brings (Some verbs.Length) rest = features_brings (Measured Length) (words rest) (λ layer ids. tt)
by_verb_brings (Some verbs.Distance) rest = compared_brings Distance (words rest) (skip_blanks (skip_word (skip_word rest))) (λ layer id given. tt)
by_verb_brings (Some verbs.Nearest) rest = nearest_brings (words rest) (skip_blanks (skip_word (skip_word rest)))
by_verb_brings (Some verbs.Reach) rest = reach_brings (words rest)
by_verb_brings (Some verbs.Relate) rest = compared_brings Relate (words rest) (skip_blanks (skip_word (skip_word rest))) (λ layer id given. tt)
by_verb_brings (Some verbs.Match) rest = match_brings (words rest) (skip_blanks (skip_word (skip_word rest)))
by_verb_brings (Some verbs.Query) rest = query_brings (words rest) (skip_blanks (skip_word (skip_word rest)))
by_verb_brings (Some verbs.Join) rest = join_brings (words rest)
by_verb_brings None rest = tt

by_words_brings : (all : List (List ℕ)) (rest : List ℕ) → Brings (by_words all rest)
by_words_brings [] rest = tt
by_words_brings (verb ∷ arguments) rest = by_verb_brings (verb_of verb) rest

-- the same of a command with its editor
abbrev BringsByEditor : Result (ℕ × Command) Refusal → Type 0
BringsByEditor result = IfOk result (λ asked. BringsOnGrid asked.1)

by_editor_brings : (editor : ℕ) (r : Result Command Refusal) → Brings r → BringsByEditor (by_editor editor r)
by_editor_brings editor (Ok command) brings = brings
by_editor_brings editor (Err refusal) brings = tt

addressed_brings : (r : Result (ℕ × List ℕ) Refusal) → BringsByEditor (made r (λ at. by_editor at.0 (by_words (words at.1) (skip_word at.1))))
addressed_brings (Ok at) = by_editor_brings at.0 (by_words (words at.1) (skip_word at.1)) (by_words_brings (words at.1) (skip_word at.1))
addressed_brings (Err refusal) = tt

by_length : (long : Bool) (r : Result (ℕ × Command) Refusal) → BringsByEditor r → BringsByEditor (if long then Err LineTooLong else r)
by_length true r brings = tt
by_length false r brings = brings

command_brings : (line : List ℕ) → BringsByEditor (command_of line)
command_brings line = by_length (nat_lt line_max (length line)) (addressed_command line) (addressed_brings (addressed line))

pub commands_bring_grid_points : CommandsBringGridPoints
commands_bring_grid_points line editor edit is = subst BringsByEditor is (command_brings line)

-- ---- members

-- the points that a member brings are on the grid
abbrev MemberBrings : Member → Type 0
MemberBrings member = BringsGridPoints member.edit

member_by_brings : (of_last : Bool) (r : Result Command Refusal) → Brings r → IfOk (member_by of_last r) MemberBrings
member_by_brings of_last (Ok (Edit edit)) brings = brings
member_by_brings of_last (Ok command) brings = tt
member_by_brings of_last (Err refusal) brings = tt

member_by_verb_brings : (verb : Option Verb) (rest : List ℕ) → IfOk (member_by_verb verb rest) MemberBrings
member_by_verb_brings (Some verbs.Add) rest = member_by_brings false (add_arguments (words rest) (skip_blanks (skip_word rest))) (add_brings (words rest) (skip_blanks (skip_word rest)))
member_by_verb_brings (Some verbs.AddHex) rest = member_by_brings false (addhex_arguments (words rest)) (addhex_brings (words rest))
member_by_verb_brings (Some verbs.Delete) rest =
    member_by_brings (second_is_last (words rest)) (delete_arguments OrLast (words rest)) (delete_brings OrLast (words rest))
member_by_verb_brings (Some verbs.Replace) rest =
    member_by_brings (second_is_last (words rest)) (replace_arguments OrLast (words rest) (skip_blanks (skip_word (skip_word rest))))
    (replace_brings OrLast (words rest) (skip_blanks (skip_word (skip_word rest))))
member_by_verb_brings (Some verbs.Vertex) rest =
    member_by_brings (third_is_last (words rest)) (vertex_arguments OrLast (words rest)) (vertex_brings OrLast (words rest))
member_by_verb_brings (Some verbs.Set) rest =
    member_by_brings (second_is_last (words rest)) (set_arguments OrLast (words rest) (skip_blanks (skip_word (skip_word (skip_word rest)))))
    (set_brings OrLast (words rest) (skip_blanks (skip_word (skip_word (skip_word rest)))))
member_by_verb_brings (Some verbs.Unset) rest =
    member_by_brings (second_is_last (words rest)) (unset_arguments OrLast (words rest)) (unset_brings OrLast (words rest))
member_by_verb_brings verb rest = tt

member_by_words_brings : (all : List (List ℕ)) (rest : List ℕ) → IfOk (member_by_words all rest) MemberBrings
member_by_words_brings [] rest = tt
member_by_words_brings (verb ∷ arguments) rest = member_by_verb_brings (verb_of verb) rest

member_by_length : (long : Bool) (r : Result Member Refusal) → IfOk r MemberBrings → IfOk (if long then Err LineTooLong else r) MemberBrings
member_by_length true r brings = tt
member_by_length false r brings = brings

member_brings : (line : List ℕ) → IfOk (member_of line) MemberBrings
member_brings line = member_by_length (nat_lt line_max (length line)) (member_by_words (words line) (skip_word line)) (member_by_words_brings (words line) (skip_word line))

placed_brings : (earlier : List Member) (r : Result Member Refusal) → IfOk r MemberBrings → IfOk (placed earlier r) MemberBrings
placed_brings earlier (Ok member) brings = by (may_follow earlier member)
  where
    by : (may : Bool) → IfOk (if may then Ok member else Err BadCommand) MemberBrings
    by true = brings
    by false = tt
placed_brings earlier (Err refusal) brings = tt

one_more_brings : (earlier : List Member) (member : Member) → AllByRecursion MemberBrings earlier → MemberBrings member → AllByRecursion MemberBrings (earlier ++ member ∷ [])
one_more_brings [] member all brings = (brings, tt)
one_more_brings (first ∷ earlier) member all brings = (all.0, one_more_brings earlier member all.1 brings)

behind_brings : (earlier : List Member) (r : Result Member Refusal) (behind : List Member → Result (List Member) GroupRefusal)
    → AllByRecursion MemberBrings earlier → IfOk r MemberBrings
    → ((members : List Member) → AllByRecursion MemberBrings members → IfOk (behind members) (AllByRecursion MemberBrings))
    → IfOk (and_behind earlier r behind) (AllByRecursion MemberBrings)
behind_brings earlier (Ok member) behind all brings further = further (earlier ++ member ∷ []) (one_more_brings earlier member all brings)
behind_brings earlier (Err refusal) behind all brings further = tt

members_behind_bring : (texts : List (List ℕ)) (earlier : List Member) → AllByRecursion MemberBrings earlier → IfOk (members_behind earlier texts) (AllByRecursion MemberBrings)
members_behind_bring [] earlier all = all
members_behind_bring (text ∷ texts) earlier all =
    behind_brings earlier (placed earlier (member_of text)) (λ members. members_behind members texts) all (placed_brings earlier (member_of text) (member_brings text))
    (members_behind_bring texts)

members_in_bring : (parts : List (List ℕ)) → IfOk (members_in parts) (AllByRecursion MemberBrings)
members_in_bring [] = tt
members_in_bring (head ∷ texts) = members_behind_bring texts [] tt

pub members_bring_grid_points : MembersBringGridPoints
members_bring_grid_points text members is = subst (λ (r : Result (List Member) GroupRefusal). IfOk r (AllByRecursion MemberBrings)) is (members_in_bring (parts_of text))
