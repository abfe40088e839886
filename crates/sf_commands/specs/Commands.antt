-- The command of a line.
use Rattle.std.specs.Prelude.{◌≡◌, ℕ, Bool, true, false, ◌&&◌, ◌||◌, List, [], ◌∷◌, length, Option, None, Some, is_some, Result, Ok, Err, nat_lt, nat_le, option_and_then, option_map, bytes_eq, codes, if◌then◌else◌}
use Rattle.std.specs.List.{list_all}
use Rattle.std.specs.Map.{lookup}
use Rattle.std.specs.Option.{ok_or}
use Rattle.hex.specs.declared.error.FromHexError.{FromHexError}
use Rattle.hex.specs.Hex.{decode_of}
use Rattle.sf_refusals.specs.declared.refusal.Refusal.{Refusal}
use Rattle.sf_refusals.specs.declared.refusal.Refusal.TheVariants.{Memory, Syntax, BadCommand, BadPattern, LineTooLong}
use Rattle.sf_geometry.specs.declared.geometry.Geometry.{Geometry}
use Rattle.sf_valid_rules.specs.declared.fault.Fault.{Fault}
use Rattle.sf_valid_rules.specs.Faults.{refusal_of as refusal_of_fault}
use Rattle.sf_valid_rules.specs.Verdicts.{first_fault}
use Rattle.sf_measure.specs.declared.measure.Measure.TheVariants.{Area, Length}
use Rattle.sf_known.specs.declared.predicate.Predicate.{Predicate}
use Rattle.sf_known.specs.declared.letter.Letter.{Letter}
use Rattle.sf_known.specs.Patterns.{pattern_of}
use Rattle.sf_text_lines.specs.Lines.{line_max}
use Rattle.sf_wkt.specs.declared.fault.WktFault.{WktFault}
use Rattle.sf_wkt.specs.Faults.{refusal_of}
use Rattle.sf_wkt.specs.Tokens.{is_blank}
use Rattle.sf_wkt.specs.Grammar.{read}
use Rattle.sf_wkb.specs.declared.fault.WkbFault.{WkbFault}
use Rattle.sf_wkb.specs.Faults.{refusal_of as refusal_of_bytes}
use Rattle.sf_wkb.specs.Grammar.{read as read_bytes}
use Rattle.sf_features.specs.declared.attr_value.AttrValue.{AttrValue}
use Rattle.sf_layers.specs.declared.value_range.ValueRange.{ValueRange}
use Rattle.sf_rules.specs.Asked.{Ask}
use Rattle.sf_rules.specs.Asked.{Matching, Named}
use Rattle.sf_rules.specs.Asked.{Matrix, Near as near_ask, PairAsk}
use Rattle.sf_rules.specs.declared.rule.Form.{Form}
use Rattle.sf_rules.specs.declared.rule.Form.TheVariants.{Never, Each}
use Rattle.sf_rules.specs.declared.rule.Says.TheVariants.{OfLayers, OfValues}
use Rattle.sf_rules.specs.declared.rule.Demand.{Demand}
use Rattle.sf_rules.specs.declared.rule.Demand.TheVariants.{InRange, OneOf, Required, Unique}
use Rattle.sf_rules.specs.Rules.{values_max}
use Rattle.sf_steps.specs.declared.edit.Edit.TheVariants as edits
use Rattle.sf_words.specs.declared.verb.Verb.{Verb}
use Rattle.sf_words.specs.declared.verb.Verb.TheVariants as verbs
use Rattle.sf_words.specs.declared.verb.Action.{Action}
use Rattle.sf_words.specs.declared.verb.Action.TheVariants as actions
use Rattle.sf_commands.specs.declared.command.Command.{Command}
use Rattle.sf_commands.specs.declared.command.Sought.{Sought}
use Rattle.sf_commands.specs.declared.command.Sought.TheVariants as soughts
use Rattle.sf_commands.specs.declared.spelling.DemandWord.{DemandWord}
use Rattle.sf_commands.specs.declared.spelling.DemandWord.TheVariants as demand_words
use Rattle.sf_commands.specs.ValueLists.{around_to, listed, trimmed}
use Rattle.sf_commands.specs.declared.command.Command.TheVariants.{Edit, AddRule, DropRule, Undo, Redo, Layers, Columns, Rules, Show, Get, Find, Check, Hex, Simple, Extent, Measured, Distance, Nearest, Reach, ReachUntil, Relate, Match, Query, Near, Join}
use Rattle.sf_words.specs.declared.naming.Naming.{Naming}
use Rattle.sf_words.specs.declared.naming.Naming.TheVariants.{ById}
use Rattle.sf_words.specs.Words.{words, skip_blanks, skip_word, trimmed_end}
use Rattle.sf_words.specs.Editors.{addressed}
use Rattle.sf_words.specs.Naming.{given, id_named, id_of, is_until, vertex_place}
use Rattle.sf_words.specs.Verbs.{action_of, verb_of}
use Rattle.sf_words.specs.Points.{point_of}
use Rattle.sf_words.specs.Reaches.{is_near, reach_of}
use Rattle.sf_values.specs.Kinds.{column_type_of, layer_kind_of, predicate_of}
use Rattle.sf_values.specs.Values.{value_of}

-- what is made of each of a list, where something is made of all of them
abbrev pub each : {X Y : Type 0} → (X → Option Y) → List X → Option (List Y)
each make [] = Some []
each make (x ∷ xs) = option_and_then (λ y. option_map (λ ys. y ∷ ys) (each make xs)) (make x)

-- how many identifiers `get`, `area`, `length` and `reach` take at most, and how many features `nearest` lists
abbrev pub ids_max : ℕ
ids_max = 1000

-- the identifiers that words spell: one to 1,000 of them
abbrev pub ids_of : List (List ℕ) → Option (List ℕ)
ids_of words = if nat_lt 0 (length words) && nat_le (length words) ids_max then each id_of words else None

-- what is made of what words name, or the refusal of them
abbrev pub made : {X Y : Type 0} → Result X Refusal → (X → Result Y Refusal) → Result Y Refusal
made (Ok x) make = make x
made (Err refusal) make = Err refusal

-- what is made of a geometry, if a text could be read as one
abbrev pub of_text : Result Geometry WktFault → (Geometry → Command) → Result Command Refusal
of_text (Ok geometry) make = Ok (make geometry)
of_text (Err fault) make = Err (refusal_of fault)

-- a geometry, or the refusal of its first fault where it has one
abbrev pub faultless : Geometry → Option Fault → Result Geometry Refusal
faultless geometry None = Ok geometry
faultless geometry (Some fault) = Err (refusal_of_fault fault)

-- the valid geometry that a text was read as: the faults of the text come first
abbrev pub valid_of : Result Geometry WktFault → Result Geometry Refusal
valid_of (Ok geometry) = faultless geometry (first_fault geometry)
valid_of (Err fault) = Err (refusal_of fault)

-- the words after `layer add`: a name and a kind
abbrev pub add_layer : List (List ℕ) → Result Command Refusal
add_layer (name ∷ kind ∷ []) = given (layer_kind_of kind) (λ kind. Ok (Edit (edits.AddLayer name kind)))
add_layer arguments = Err BadCommand

-- the words after `layer drop`: a name
abbrev pub drop_layer : List (List ℕ) → Result Command Refusal
drop_layer (name ∷ []) = Ok (Edit (edits.DropLayer name))
drop_layer arguments = Err BadCommand

-- the words after `layer rename`: a name and another
abbrev pub rename_layer : List (List ℕ) → Result Command Refusal
rename_layer (name ∷ new_name ∷ []) = Ok (Edit (edits.RenameLayer name new_name))
rename_layer arguments = Err BadCommand

-- the words after `layer move`: a name and a place
abbrev pub move_layer : List (List ℕ) → Result Command Refusal
move_layer (name ∷ place ∷ []) = given (id_of place) (λ place. Ok (Edit (edits.MoveLayer name place)))
move_layer arguments = Err BadCommand

-- what is done with a layer, and the words after it
abbrev pub layer_command : Option Action → List (List ℕ) → Result Command Refusal
layer_command (Some actions.Add) arguments = add_layer arguments
layer_command (Some actions.Drop) arguments = drop_layer arguments
layer_command (Some actions.Rename) arguments = rename_layer arguments
layer_command (Some actions.Move) arguments = move_layer arguments
layer_command action arguments = Err BadCommand

-- the command of the words after `layer`
abbrev pub layer_arguments : List (List ℕ) → Result Command Refusal
layer_arguments [] = Err BadCommand
layer_arguments (action ∷ arguments) = layer_command (action_of action) arguments

-- the words after `column add`: a layer, a name and a type
abbrev pub add_column : List (List ℕ) → Result Command Refusal
add_column (layer ∷ name ∷ column_type ∷ []) =
    given (column_type_of column_type) (λ column_type. Ok (Edit (edits.AddColumn layer name column_type)))
add_column arguments = Err BadCommand

-- the words after `column drop`: a layer and a name
abbrev pub drop_column : List (List ℕ) → Result Command Refusal
drop_column (layer ∷ name ∷ []) = Ok (Edit (edits.DropColumn layer name))
drop_column arguments = Err BadCommand

-- what is done with a column, and the words after it
abbrev pub column_command : Option Action → List (List ℕ) → Result Command Refusal
column_command (Some actions.Add) arguments = add_column arguments
column_command (Some actions.Drop) arguments = drop_column arguments
column_command action arguments = Err BadCommand

-- the command of the words after `column`
abbrev pub column_arguments : List (List ℕ) → Result Command Refusal
column_arguments [] = Err BadCommand
column_arguments (action ∷ arguments) = column_command (action_of action) arguments

-- the words after `vertex insert`: a layer, the numbers of a vertex, x and y
abbrev pub insert_vertex : Naming → List (List ℕ) → Result Command Refusal
insert_vertex naming (layer ∷ id ∷ part ∷ ring ∷ index ∷ x ∷ y ∷ []) =
    made (vertex_place naming id part ring index) (λ v. made (point_of x y) (λ point. Ok (Edit (edits.InsertVertex layer v.id v.part v.ring v.index point))))
insert_vertex naming arguments = Err BadCommand

-- the words after `vertex move`: the same
abbrev pub move_vertex : Naming → List (List ℕ) → Result Command Refusal
move_vertex naming (layer ∷ id ∷ part ∷ ring ∷ index ∷ x ∷ y ∷ []) =
    made (vertex_place naming id part ring index) (λ v. made (point_of x y) (λ point. Ok (Edit (edits.MoveVertex layer v.id v.part v.ring v.index point))))
move_vertex naming arguments = Err BadCommand

-- the words after `vertex remove`: a layer and the numbers of a vertex
abbrev pub remove_vertex : Naming → List (List ℕ) → Result Command Refusal
remove_vertex naming (layer ∷ id ∷ part ∷ ring ∷ index ∷ []) =
    made (vertex_place naming id part ring index) (λ v. Ok (Edit (edits.RemoveVertex layer v.id v.part v.ring v.index)))
remove_vertex naming arguments = Err BadCommand

-- what is done with a vertex, and the words after it
abbrev pub vertex_command : Naming → Option Action → List (List ℕ) → Result Command Refusal
vertex_command naming (Some actions.Insert) arguments = insert_vertex naming arguments
vertex_command naming (Some actions.Move) arguments = move_vertex naming arguments
vertex_command naming (Some actions.Remove) arguments = remove_vertex naming arguments
vertex_command naming action arguments = Err BadCommand

-- the command of the words after `vertex`
abbrev pub vertex_arguments : Naming → List (List ℕ) → Result Command Refusal
vertex_arguments naming [] = Err BadCommand
vertex_arguments naming (action ∷ arguments) = vertex_command naming (action_of action) arguments

-- `addhex` of what bytes were read as
abbrev pub bytes_command : List ℕ → Result Geometry WkbFault → Result Command Refusal
bytes_command layer (Ok geometry) = Ok (Edit (edits.AddFeature layer geometry))
bytes_command layer (Err fault) = Err (refusal_of_bytes fault)

-- `addhex` of what hexadecimal was decoded to
abbrev pub hex_command : List ℕ → Result (List ℕ) FromHexError → Result Command Refusal
hex_command layer (Ok bytes) = bytes_command layer (read_bytes bytes)
hex_command layer (Err fault) = Err Syntax

-- a layer, and an identifier if it could be read
abbrev pub with_id : List ℕ → Option ℕ → Result (List ℕ × ℕ) Refusal
with_id layer (Some id) = Ok (layer, id)
with_id layer None = Err BadCommand

-- the feature that two words name: its layer and its identifier
abbrev pub feature_named : Naming → List (List ℕ) → Result (List ℕ × ℕ) Refusal
feature_named naming (layer ∷ id ∷ []) = with_id layer (id_named naming id)
feature_named naming arguments = Err BadCommand

-- a command about the feature that was named
abbrev pub feature_command : (List ℕ → ℕ → Command) → Result (List ℕ × ℕ) Refusal → Result Command Refusal
feature_command command (Ok feature) = Ok (command feature.0 feature.1)
feature_command command (Err refusal) = Err refusal

-- a command about a layer and a geometry; the text is the rest of the line from the second of the words on
abbrev pub layer_and_text : (List ℕ → Geometry → Command) → List (List ℕ) → List ℕ → Result Command Refusal
layer_and_text command (layer ∷ first ∷ more) text = of_text (read text) (command layer)
layer_and_text command arguments text = Err BadCommand

-- the command of the words after `add`: a layer and a text
abbrev pub add_arguments : List (List ℕ) → List ℕ → Result Command Refusal
add_arguments arguments text = layer_and_text (λ layer geometry. Edit (edits.AddFeature layer geometry)) arguments text

-- the command of the words after `check`: the same
abbrev pub check_arguments : List (List ℕ) → List ℕ → Result Command Refusal
check_arguments arguments text = layer_and_text Check arguments text

-- the command of the words after `addhex`; the binary is one word
abbrev pub addhex_arguments : List (List ℕ) → Result Command Refusal
addhex_arguments (layer ∷ hex ∷ []) = hex_command layer (decode_of hex)
addhex_arguments arguments = Err BadCommand

-- the command of the words after `hex`, `box` or `simple`: a layer and an identifier
abbrev pub feature_arguments : (List ℕ → ℕ → Command) → List (List ℕ) → Result Command Refusal
feature_arguments command arguments = feature_command command (feature_named ById arguments)

-- the command of the words after `delete`: a layer and an identifier
abbrev pub delete_arguments : Naming → List (List ℕ) → Result Command Refusal
delete_arguments naming arguments = feature_command (λ layer id. Edit (edits.DeleteFeature layer id)) (feature_named naming arguments)

-- the command of the words after `replace`; the text is the rest of the line from the third of them on
abbrev pub replace_arguments : Naming → List (List ℕ) → List ℕ → Result Command Refusal
replace_arguments naming (layer ∷ id ∷ first ∷ more) text =
    given (id_named naming id) (λ id. of_text (read text) (λ geometry. Edit (edits.ReplaceGeometry layer id geometry)))
replace_arguments naming arguments text = Err BadCommand

-- the command of the words after `set`; the value is the rest of the line from the fourth of them on
abbrev pub set_arguments : Naming → List (List ℕ) → List ℕ → Result Command Refusal
set_arguments naming (layer ∷ id ∷ column ∷ first ∷ more) text =
    given (id_named naming id) (λ id. given (value_of (trimmed_end text)) (λ value. Ok (Edit (edits.SetValue layer id column value))))
set_arguments naming arguments text = Err BadCommand

-- the command of the words after `unset`: a layer, an identifier and a column
abbrev pub unset_arguments : Naming → List (List ℕ) → Result Command Refusal
unset_arguments naming (layer ∷ id ∷ column ∷ []) = given (id_named naming id) (λ id. Ok (Edit (edits.ClearValue layer id column)))
unset_arguments naming arguments = Err BadCommand

-- the features that words name: a layer, and identifiers
abbrev pub features_named : List (List ℕ) → Result (List ℕ × List ℕ) Refusal
features_named [] = Err BadCommand
features_named (layer ∷ ids) = given (ids_of ids) (λ ids. Ok (layer, ids))

-- a command about the features that were named
abbrev pub features_command : (List ℕ → List ℕ → Command) → Result (List ℕ × List ℕ) Refusal → Result Command Refusal
features_command command (Ok features) = Ok (command features.0 features.1)
features_command command (Err refusal) = Err refusal

-- the command of the words after `get`, `area` or `length`: a layer and identifiers
abbrev pub features_arguments : (List ℕ → List ℕ → Command) → List (List ℕ) → Result Command Refusal
features_arguments command arguments = features_command command (features_named arguments)

-- the value that a text spells, with blanks around it or without
abbrev pub value_between : List ℕ → Option AttrValue
value_between text = value_of (trimmed text)

-- the values that a text lists between commas: one to 1,000 of them
abbrev pub values_of : List ℕ → Option (List AttrValue)
values_of text = let parts = listed text in if nat_lt 0 (length parts) && nat_le (length parts) values_max then each value_between parts else None

-- the end of a range that a text spells: none where it has blanks alone, or nothing
abbrev pub end_of : List ℕ → Result (Option AttrValue) Refusal
end_of text = if list_all is_blank text then Ok None else given (value_between text) (λ value. Ok (Some value))

-- the range of two ends, of which one is given at least
abbrev pub range_with : Option AttrValue → Option AttrValue → Result ValueRange Refusal
range_with from to = if is_some from || is_some to then Ok (record { from = from; to = to }) else Err BadCommand

-- the range whose ends two texts spell
abbrev pub range_between : List ℕ × List ℕ → Result ValueRange Refusal
range_between ends = made (end_of ends.0) (λ from. made (end_of ends.1) (λ to. range_with from to))

-- what is sought by a text: a range where the word `to` stands in it, and else a value
abbrev pub sought_by : List ℕ → Option (List ℕ × List ℕ) → Result Sought Refusal
sought_by text (Some ends) = made (range_between ends) (λ range. Ok (soughts.Between range))
sought_by text None = given (value_between text) (λ value. Ok (soughts.Value value))

-- what is sought, of the words behind a column; they are the text
abbrev pub sought_of : List (List ℕ) → List ℕ → Result Sought Refusal
sought_of [] text = Ok soughts.Any
sought_of (first ∷ more) text = sought_by text (around_to text)

-- the command of the words after `find`: a layer and a column; a value or a range is the rest of the line from the third of them on
abbrev pub find_arguments : List (List ℕ) → List ℕ → Result Command Refusal
find_arguments (layer ∷ column ∷ value) text = made (sought_of value text) (λ sought. Ok (Find layer column sought))
find_arguments arguments text = Err BadCommand

-- what is made of a layer, the word after it, and the text, the rest of the line from the third word on
abbrev pub after_two_words : (List ℕ → List ℕ → List ℕ → Result Command Refusal) → List (List ℕ) → List ℕ → Result Command Refusal
after_two_words make (layer ∷ word ∷ first ∷ more) text = make layer word text
after_two_words make arguments text = Err BadCommand

-- a command of a layer, of what the next word spells and of a given geometry, in this order where one of them can't be had
abbrev pub with_geometry : {X : Type 0} → (List ℕ → X → Geometry → Command) → List ℕ → Result X Refusal → Result Geometry Refusal → Result Command Refusal
with_geometry command layer spelled geometry = made spelled (λ x. made geometry (λ given. Ok (command layer x given)))

-- a command of the words after its verb: a layer, an identifier and a text
abbrev pub compared_arguments : (List ℕ → ℕ → Geometry → Command) → List (List ℕ) → List ℕ → Result Command Refusal
compared_arguments command arguments text =
    after_two_words (λ layer id text. with_geometry command layer (ok_or (id_of id) BadCommand) (valid_of (read text))) arguments text

-- the command of the words after `distance`
abbrev pub distance_arguments : List (List ℕ) → List ℕ → Result Command Refusal
distance_arguments arguments text = compared_arguments Distance arguments text

-- a number from 1 to 1,000
abbrev pub few_of : Option ℕ → Option ℕ
few_of None = None
few_of (Some n) = if nat_lt 0 n && nat_le n ids_max then Some n else None

-- the number that a word spells
abbrev pub few_named : List ℕ → Option ℕ
few_named word = few_of (id_of word)

-- the command of the words after `nearest`: a layer, how many features, and a text
abbrev pub nearest_arguments : List (List ℕ) → List ℕ → Result Command Refusal
nearest_arguments arguments text =
    after_two_words (λ layer count text. with_geometry Nearest layer (ok_or (few_named count) BadCommand) (valid_of (read text))) arguments text

-- the command of the words after `relate`
abbrev pub relate_arguments : List (List ℕ) → List ℕ → Result Command Refusal
relate_arguments arguments text = compared_arguments Relate arguments text

-- the command of the words after `match`: a layer, a pattern and a text
abbrev pub match_arguments : List (List ℕ) → List ℕ → Result Command Refusal
match_arguments arguments text =
    after_two_words (λ layer pattern text. with_geometry Match layer (ok_or (pattern_of pattern) BadPattern) (valid_of (read text))) arguments text

-- `query` by a predicate
abbrev pub query_named : List ℕ → List ℕ → List ℕ → Result Command Refusal
query_named layer predicate text = with_geometry Query layer (ok_or (predicate_of predicate) BadCommand) (valid_of (read text))

-- `query` by a distance: the word of it, and a text, which is the rest of the line from the second word on
abbrev pub query_near : List ℕ → List (List ℕ) → List ℕ → Result Command Refusal
query_near layer (distance ∷ first ∷ more) text = with_geometry Near layer (ok_or (reach_of distance) BadCommand) (valid_of (read text))
query_near layer arguments text = Err BadCommand

-- `query`, of a layer, of what is asked and of the line behind it
abbrev pub query_asked : List ℕ → List ℕ → List ℕ → Result Command Refusal
query_asked layer ask text = if is_near ask then query_near layer (words text) (skip_blanks (skip_word text)) else query_named layer ask text

-- the command of the words after `query`: a layer, a predicate and a text, or a layer, `near`, a distance and a text
abbrev pub query_arguments : List (List ℕ) → List ℕ → Result Command Refusal
query_arguments arguments text = after_two_words query_asked arguments text

-- the identifier behind the second layer of a join, where there is a word for one
abbrev pub beside_of : List (List ℕ) → Result (Option ℕ) Refusal
beside_of [] = Ok None
beside_of (id ∷ []) = given (id_of id) (λ id. Ok (Some id))
beside_of arguments = Err BadCommand

-- what is asked by a word, which may name a predicate; one that names none is taken as a pattern
abbrev pub ask_by : List ℕ → Option Predicate → Result Ask Refusal
ask_by word (Some predicate) = Ok (Named predicate)
ask_by word None = made (ok_or (pattern_of word) BadPattern) (λ letters. Ok (Matching letters))

-- what a word asks of two features
abbrev pub ask_of : List ℕ → Result Ask Refusal
ask_of word = ask_by word (predicate_of word)

-- the same, of two features by their matrix
abbrev pub matrix_ask_of : List ℕ → Result PairAsk Refusal
matrix_ask_of word = made (ask_of word) (λ ask. Ok (Matrix ask))

-- and by their distance
abbrev pub near_ask_of : List ℕ → Result PairAsk Refusal
near_ask_of distance = made (ok_or (reach_of distance) BadCommand) (λ reach. Ok (near_ask reach))

-- a join of two layers, if what is asked could be read
abbrev pub join_asked : List ℕ → Result PairAsk Refusal → List ℕ → Option ℕ → Result Command Refusal
join_asked first ask second beside = made ask (λ ask. Ok (Join first ask second beside))

-- `join` of what is asked, which could be read or not, and the words behind it: another layer, and an identifier where one is given
abbrev pub join_behind : List ℕ → Result PairAsk Refusal → List (List ℕ) → Result Command Refusal
join_behind first ask (second ∷ beside) = made (beside_of beside) (λ beside. join_asked first ask second beside)
join_behind first ask arguments = Err BadCommand

-- `join` by a distance, which is the next word
abbrev pub join_near : List ℕ → List (List ℕ) → Result Command Refusal
join_near first (distance ∷ arguments) = join_behind first (near_ask_of distance) arguments
join_near first arguments = Err BadCommand

-- the command of the words after `join`: a layer, what is asked, another layer, and an identifier where one is given
abbrev pub join_arguments : List (List ℕ) → Result Command Refusal
join_arguments (first ∷ ask ∷ arguments) = if is_near ask then join_near first arguments else join_behind first (matrix_ask_of ask) arguments
join_arguments arguments = Err BadCommand

-- identifiers, and behind them the words after `until`, where that stands
abbrev pub Linked : Type 0
Linked = List ℕ × Option (List (List ℕ))

-- an identifier in front of others
abbrev pub and_before : Option ℕ → Option Linked → Option Linked
and_before (Some id) (Some linked) = Some (id ∷ linked.0, linked.1)
and_before id linked = None

-- what words say of chains: identifiers up to `until` or the end, and the words after it
abbrev pub linked_of : List (List ℕ) → Option Linked
linked_of [] = Some ([], None)
linked_of (word ∷ words) = if is_until word then Some ([], Some words) else and_before (id_of word) (linked_of words)

-- `reach` with no end of chains
abbrev pub reach_all : List ℕ → List ℕ → List ℕ → Result Command Refusal
reach_all layer ask ids = made (ask_of ask) (λ ask. Ok (Reach layer ask ids))

-- `reach` up to the features that the words after `until` name: a layer, and what is asked
abbrev pub reach_until : List ℕ → List ℕ → List ℕ → List (List ℕ) → Result Command Refusal
reach_until layer ask ids (second ∷ end ∷ []) = made (ask_of ask) (λ ask. made (ask_of end) (λ end. Ok (ReachUntil layer ask ids second end)))
reach_until layer ask ids arguments = Err BadCommand

-- `reach` of what stands behind the identifiers
abbrev pub reach_behind : List ℕ → List ℕ → List ℕ → Option (List (List ℕ)) → Result Command Refusal
reach_behind layer ask ids None = reach_all layer ask ids
reach_behind layer ask ids (Some words) = reach_until layer ask ids words

-- `reach` from one to 1,000 features
abbrev pub reach_linked : List ℕ → List ℕ → Option Linked → Result Command Refusal
reach_linked layer ask None = Err BadCommand
reach_linked layer ask (Some linked) =
    if nat_lt 0 (length linked.0) && nat_le (length linked.0) ids_max then reach_behind layer ask linked.0 linked.1 else Err BadCommand

-- the command of the words after `reach`: a layer, what is asked of each feature with the next, and identifiers; and then `until`, another
-- layer and what is asked of a feature with some feature of that, where chains end
abbrev pub reach_arguments : List (List ℕ) → Result Command Refusal
reach_arguments (layer ∷ ask ∷ arguments) = reach_linked layer ask (linked_of arguments)
reach_arguments arguments = Err BadCommand

-- the form of a rule that a word spells
abbrev pub form_of : List ℕ → Option Form
form_of word = lookup (bytes_eq word) ((codes "never", Never) ∷ (codes "each", Each) ∷ [])

-- the second layer of a rule, of the words behind what is asked: `some` stands before it in a rule for each
abbrev pub second_of : Form → List (List ℕ) → Result (List ℕ) Refusal
second_of Never (second ∷ []) = Ok second
second_of Each (some ∷ second ∷ []) = if bytes_eq some (codes "some") then Ok second else Err BadCommand
second_of form arguments = Err BadCommand

-- a new rule between layers, if what is asked could be read
abbrev pub rule_asked : List ℕ → Form → List ℕ → Result PairAsk Refusal → List ℕ → Result Command Refusal
rule_asked name form first ask second =
    made ask (λ ask. Ok (AddRule (record { name = name; says = OfLayers (record { form = form; first = first; ask = ask; second = second }) })))

-- a rule of what is asked, which could be read or not, and the words behind it: another layer
abbrev pub rule_behind : List ℕ → Form → List ℕ → Result PairAsk Refusal → List (List ℕ) → Result Command Refusal
rule_behind name form first ask arguments = made (second_of form arguments) (λ second. rule_asked name form first ask second)

-- a rule by a distance, which is the next word
abbrev pub near_rule : List ℕ → Form → List ℕ → List (List ℕ) → Result Command Refusal
near_rule name form first (distance ∷ arguments) = rule_behind name form first (near_ask_of distance) arguments
near_rule name form first arguments = Err BadCommand

-- a rule between layers, of the words behind its form: a layer, what is asked, and another layer
abbrev pub layer_rule : List ℕ → Form → List (List ℕ) → Result Command Refusal
layer_rule name form (first ∷ ask ∷ arguments) =
    if is_near ask then near_rule name form first arguments else rule_behind name form first (matrix_ask_of ask) arguments
layer_rule name form arguments = Err BadCommand

-- what a word demands of the values in a column
abbrev pub demand_of : List ℕ → Option DemandWord
demand_of word = lookup (bytes_eq word) ((codes "unique", demand_words.Unique) ∷ (codes "required", demand_words.Required)
    ∷ (codes "one-of", demand_words.OneOf) ∷ (codes "range", demand_words.Range) ∷ [])

-- what is demanded, of a word and the words behind the column, which name values; they are the text
abbrev pub demand_by : DemandWord → List (List ℕ) → List ℕ → Result Demand Refusal
demand_by demand_words.Unique [] text = Ok Unique
demand_by demand_words.Required [] text = Ok Required
demand_by demand_words.OneOf (first ∷ more) text = given (values_of text) (λ values. Ok (OneOf values))
demand_by demand_words.Range (first ∷ more) text = given (around_to text) (λ ends. made (range_between ends) (λ range. Ok (InRange range)))
demand_by demand arguments text = Err BadCommand

-- a new rule on the values in a column
abbrev pub rule_on_values : List ℕ → List ℕ → List ℕ → Demand → Result Command Refusal
rule_on_values name layer column demand = Ok (AddRule (record { name = name; says = OfValues (record { demand = demand; layer = layer; column = column }) }))

-- a rule on values, of the words behind its demand: a layer and a column; the values that it names are the text
abbrev pub value_rule : List ℕ → DemandWord → List (List ℕ) → List ℕ → Result Command Refusal
value_rule name demand (layer ∷ column ∷ arguments) text = made (demand_by demand arguments text) (rule_on_values name layer column)
value_rule name demand arguments text = Err BadCommand

-- a rule of a name, by what it demands of values, or else by its form
abbrev pub rule_by : List ℕ → Option DemandWord → List ℕ → List (List ℕ) → List ℕ → Result Command Refusal
rule_by name (Some demand) word arguments text = value_rule name demand arguments text
rule_by name None word arguments text = given (form_of word) (λ form. layer_rule name form arguments)

-- the words after `rule add`: a name, a demand or a form, and what the rule is about; the text is the rest of the line from the fifth of them on
abbrev pub add_rule : List (List ℕ) → List ℕ → Result Command Refusal
add_rule (name ∷ word ∷ arguments) text = rule_by name (demand_of word) word arguments text
add_rule arguments text = Err BadCommand

-- the words after `rule drop`: a name
abbrev pub drop_rule : List (List ℕ) → Result Command Refusal
drop_rule (name ∷ []) = Ok (DropRule name)
drop_rule arguments = Err BadCommand

-- what is done with a rule, and the words after it
abbrev pub rule_command : Option Action → List (List ℕ) → List ℕ → Result Command Refusal
rule_command (Some actions.Add) arguments text = add_rule arguments text
rule_command (Some actions.Drop) arguments text = drop_rule arguments
rule_command action arguments text = Err BadCommand

-- the command of the words after `rule`; the text is the rest of the line from the sixth of them on
abbrev pub rule_arguments : List (List ℕ) → List ℕ → Result Command Refusal
rule_arguments [] text = Err BadCommand
rule_arguments (action ∷ arguments) text = rule_command (action_of action) arguments text

-- a command with a layer's name alone after its verb
abbrev pub of_layer : (List ℕ → Command) → List (List ℕ) → Result Command Refusal
of_layer command (layer ∷ []) = Ok (command layer)
of_layer command arguments = Err BadCommand

-- a command with no word after its verb
abbrev pub alone : Command → List (List ℕ) → Result Command Refusal
alone command [] = Ok command
alone command arguments = Err BadCommand

-- the command of a verb and the line after it
abbrev pub by_verb : Option Verb → List ℕ → Result Command Refusal
by_verb (Some verbs.Layer) rest = layer_arguments (words rest)
by_verb (Some verbs.Column) rest = column_arguments (words rest)
by_verb (Some verbs.Add) rest = add_arguments (words rest) (skip_blanks (skip_word rest))
by_verb (Some verbs.AddHex) rest = addhex_arguments (words rest)
by_verb (Some verbs.Delete) rest = delete_arguments ById (words rest)
by_verb (Some verbs.Replace) rest = replace_arguments ById (words rest) (skip_blanks (skip_word (skip_word rest)))
by_verb (Some verbs.Vertex) rest = vertex_arguments ById (words rest)
by_verb (Some verbs.Set) rest = set_arguments ById (words rest) (skip_blanks (skip_word (skip_word (skip_word rest))))
by_verb (Some verbs.Unset) rest = unset_arguments ById (words rest)
by_verb (Some verbs.Rule) rest = rule_arguments (words rest) (skip_blanks (skip_word (skip_word (skip_word (skip_word (skip_word rest))))))
by_verb (Some verbs.Undo) rest = alone Undo (words rest)
by_verb (Some verbs.Redo) rest = alone Redo (words rest)
by_verb (Some verbs.Layers) rest = alone Layers (words rest)
by_verb (Some verbs.Columns) rest = of_layer Columns (words rest)
by_verb (Some verbs.Rules) rest = alone Rules (words rest)
by_verb (Some verbs.Show) rest = of_layer Show (words rest)
by_verb (Some verbs.Get) rest = features_arguments Get (words rest)
by_verb (Some verbs.Find) rest = find_arguments (words rest) (skip_blanks (skip_word (skip_word rest)))
by_verb (Some verbs.Check) rest = check_arguments (words rest) (skip_blanks (skip_word rest))
by_verb (Some verbs.Hex) rest = feature_arguments Hex (words rest)
by_verb (Some verbs.Box) rest = feature_arguments Extent (words rest)
by_verb (Some verbs.Simple) rest = feature_arguments Simple (words rest)
by_verb (Some verbs.Area) rest = features_arguments (Measured Area) (words rest)
by_verb (Some verbs.Length) rest = features_arguments (Measured Length) (words rest)
by_verb (Some verbs.Distance) rest = distance_arguments (words rest) (skip_blanks (skip_word (skip_word rest)))
by_verb (Some verbs.Nearest) rest = nearest_arguments (words rest) (skip_blanks (skip_word (skip_word rest)))
by_verb (Some verbs.Reach) rest = reach_arguments (words rest)
by_verb (Some verbs.Relate) rest = relate_arguments (words rest) (skip_blanks (skip_word (skip_word rest)))
by_verb (Some verbs.Match) rest = match_arguments (words rest) (skip_blanks (skip_word (skip_word rest)))
by_verb (Some verbs.Query) rest = query_arguments (words rest) (skip_blanks (skip_word (skip_word rest)))
by_verb (Some verbs.Join) rest = join_arguments (words rest)
by_verb None rest = Err BadCommand

-- the command of the words of a line, and the line after the first of them
abbrev pub by_words : List (List ℕ) → List ℕ → Result Command Refusal
by_words [] rest = Err BadCommand
by_words (verb ∷ arguments) rest = by_verb (verb_of verb) rest

-- a command with the editor who gives it
abbrev pub by_editor : ℕ → Result Command Refusal → Result (ℕ × Command) Refusal
by_editor editor (Ok command) = Ok (editor, command)
by_editor editor (Err refusal) = Err refusal

-- the command of a line that isn't too long, with its editor
abbrev pub addressed_command : List ℕ → Result (ℕ × Command) Refusal
addressed_command line = made (addressed line) (λ at. by_editor at.0 (by_words (words at.1) (skip_word at.1)))

-- the command of a line with its editor, or the refusal that the line alone decides
abbrev pub command_of : List ℕ → Result (ℕ × Command) Refusal
command_of line = if nat_lt line_max (length line) then Err LineTooLong else addressed_command line

-- this result, or out of memory in its place
abbrev pub OrMemory : {T : Type 0} → Result T Refusal → Result T Refusal → Type 0
OrMemory expected (Err Memory) = Unit {0}
OrMemory expected result = result ≡ expected

-- whether memory is taken for a command of this verb: not for what no text is kept of
abbrev pub verb_takes_memory : Option Verb → Bool
verb_takes_memory None = false
verb_takes_memory (Some verbs.Undo) = false
verb_takes_memory (Some verbs.Redo) = false
verb_takes_memory (Some verbs.Layers) = false
verb_takes_memory (Some verbs.Rules) = false
verb_takes_memory (Some verb) = true

-- whether it is taken for the command of these words
abbrev pub words_take_memory : List (List ℕ) → Bool
words_take_memory [] = false
words_take_memory (verb ∷ arguments) = verb_takes_memory (verb_of verb)

-- whether it is taken for the command behind an editor's word, where that names one
abbrev pub addressed_takes_memory : Result (ℕ × List ℕ) Refusal → Bool
addressed_takes_memory (Ok at) = words_take_memory (words at.1)
addressed_takes_memory (Err refusal) = false

-- whether memory is taken for the command of a line: not for one that is too long, that names no editor where it should,
-- that has no verb, or whose verb takes none
abbrev pub takes_memory : List ℕ → Bool
takes_memory line = if nat_lt line_max (length line) then false else addressed_takes_memory (addressed line)

-- this result; or out of memory in its place, where memory is taken
abbrev pub OrMemoryIf : {T : Type 0} → Bool → Result T Refusal → Result T Refusal → Type 0
OrMemoryIf true expected result = OrMemory expected result
OrMemoryIf false expected result = result ≡ expected
