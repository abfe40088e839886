-- Geometries that features are compared with are judged over all points of the plane.
use Rattle.std.proofs.Common.{◌≡◌, ℕ, ℤ, Bool, true, false, ◌&&◌, ◌||◌, is_some, nat_le, nat_lt, bytes_eq, codes, List, [], ◌∷◌, length, Option, None, Some, ok_or, Result, Ok, Err, IfErr, IfOk, if◌then◌else◌, refl, sym, ap, ◌∙◌, subst, true≢false}
use Rattle.std.specs.List.{AllByRecursion, list_all}
use Rattle.hex.specs.declared.error.FromHexError.{FromHexError}
use Rattle.hex.specs.Hex.{decode_of}
use Rattle.sf_refusals.specs.declared.refusal.Refusal.{Refusal}
use Rattle.sf_refusals.specs.declared.refusal.Refusal.TheVariants.{BadCommand, BadPattern, LineTooLong, Syntax}
use Rattle.sf_refusals.specs.declared.refusal.Refusal.TheVariants as refusals
use Rattle.sf_grid.specs.Plane.{IsOnGrid}
use Rattle.sf_geometry.specs.Parts.{points_of}
use Rattle.sf_geometry.specs.declared.geometry.Geometry.{Geometry}
use Rattle.sf_geometry.specs.Size.{IsSized}
use Rattle.sf_valid_rules.specs.declared.fault.Fault.{Fault}
use Rattle.sf_valid_rules.specs.declared.fault.Fault.TheVariants as faults
use Rattle.sf_valid_rules.specs.Faults.{refusal_of as refusal_of_fault}
use Rattle.sf_valid_rules.specs.Validity.{IsFirstFault, IsVerdict}
use Rattle.sf_valid_rules.specs.Verdicts.{first_fault}
use Rattle.sf_valid_rules.proofs.FirstLaws.{first_fault-over_plane}
use Rattle.sf_measure.specs.declared.measure.Measure.TheVariants.{Area, Length}
use Rattle.sf_known.specs.declared.predicate.Predicate.{Predicate}
use Rattle.sf_known.specs.Patterns.{pattern_of}
use Rattle.sf_text_lines.specs.Lines.{line_max}
use Rattle.sf_wkt.specs.declared.fault.WktFault.{WktFault}
use Rattle.sf_wkt.specs.declared.fault.WktFault.TheVariants as texts
use Rattle.sf_wkt.specs.Faults.{refusal_of}
use Rattle.sf_wkt.specs.Grammar.{read}
use Rattle.sf_wkt.specs.Tokens.{coordinate_of, is_blank}
use Rattle.sf_wkt.proofs.Sized.{read_is_sized}
use Rattle.sf_wkb.specs.declared.fault.WkbFault.{WkbFault}
use Rattle.sf_wkb.specs.declared.fault.WkbFault.TheVariants as binaries
use Rattle.sf_wkb.specs.Faults.{refusal_of as refusal_of_bytes}
use Rattle.sf_wkb.specs.Grammar.{read as read_bytes}
use Rattle.sf_rules.specs.Asked.{PairAsk}
use Rattle.sf_rules.specs.declared.rule.Form.{Form}
use Rattle.sf_rules.specs.declared.rule.Form.TheVariants.{Never, Each}
use Rattle.sf_steps.specs.declared.edit.Edit.TheVariants as edits
use Rattle.sf_commands.specs.declared.command.Command.{Command}
use Rattle.sf_commands.specs.declared.spelling.DemandWord.{DemandWord}
use Rattle.sf_commands.specs.declared.spelling.DemandWord.TheVariants as demand_words
use Rattle.sf_commands.specs.ValueLists.{around_to}
use Rattle.sf_commands.specs.declared.command.Command.TheVariants.{Edit, Undo, Redo, Layers, Columns, Rules, Show, Get, Hex, Simple, Extent, Measured, Distance, Nearest, Relate, Match, Query, Near}
use Rattle.sf_words.specs.declared.naming.Naming.TheVariants.{ById}
use Rattle.sf_words.specs.declared.verb.Verb.{Verb}
use Rattle.sf_words.specs.declared.verb.Verb.TheVariants as verbs
use Rattle.sf_words.specs.declared.verb.Action.{Action}
use Rattle.sf_words.specs.declared.verb.Action.TheVariants as actions
use Rattle.sf_words.specs.Reaches.{is_near, reach_of}
use Rattle.sf_words.specs.Words.{words, skip_blanks, skip_word, trimmed_end}
use Rattle.sf_words.specs.Points.{point_by, point_of}
use Rattle.sf_features.specs.declared.attr_value.AttrValue.{AttrValue}
use Rattle.sf_layers.specs.declared.value_range.ValueRange.{ValueRange}
use Rattle.sf_values.specs.Values.{value_of}
use Rattle.sf_words.specs.Verbs.{action_of, verb_of}
use Rattle.sf_words.specs.Naming.{given, id_of, vertex_place}
use Rattle.sf_words.specs.Editors.{addressed, behind_at, by_digits, by_first_word, editor_of}
use Rattle.sf_values.specs.Kinds.{column_type_of, layer_kind_of, predicate_of}
use Rattle.sf_commands.specs.Commands.{add_arguments, add_column, add_layer, add_rule, addhex_arguments, addressed_command, after_two_words, alone, ask_by, ask_of, beside_of, by_editor, by_verb, by_words, bytes_command, check_arguments, column_arguments, column_command, compared_arguments, delete_arguments, demand_by, demand_of, drop_column, drop_layer, drop_rule, end_of, faultless, feature_arguments, feature_command, feature_named, features_arguments, features_command, few_named, find_arguments, form_of, hex_command, ids_max, ids_of, insert_vertex, join_arguments, join_behind, join_near, layer_arguments, layer_command, layer_rule, Linked, linked_of, made, match_arguments, matrix_ask_of, move_layer, move_vertex, near_ask_of, near_rule, nearest_arguments, of_layer, of_text, query_arguments, query_named, query_near, range_between, range_with, reach_arguments, reach_behind, reach_linked, reach_until, remove_vertex, rename_layer, replace_arguments, rule_arguments, rule_behind, rule_by, rule_command, second_of, set_arguments, sought_by, sought_of, unset_arguments, valid_of, value_between, value_rule, values_of, vertex_arguments, vertex_command, with_geometry, with_id}
use Rattle.sf_command_laws.specs.Laws.{GivenGeometriesAreJudgedOverThePlane, HasFaultyGiven, HasJudgedGiven, HasValidGiven, SpellsValid, from_third, given_text, query_text, text_behind, text_by_words}

-- what is said of what was made of a text behind the verb
abbrev Judged : List ℕ → Result Command Refusal → Type 0
Judged t (Ok command) = HasValidGiven t command
Judged t (Err refusal) = HasFaultyGiven t refusal

-- ---- refusals for a fault of shape, and others

abbrev is_of_shape : Refusal → Bool
is_of_shape refusals.ShortLine = true
is_of_shape refusals.OpenRing = true
is_of_shape refusals.ShortRing = true
is_of_shape refusals.RingNotSimple = true
is_of_shape refusals.RingsMeet = true
is_of_shape refusals.HoleOutside = true
is_of_shape refusals.HolesNested = true
is_of_shape refusals.PolygonsOverlap = true
is_of_shape refusal = false

abbrev IsOther : Refusal → Type 0
IsOther refusal = is_of_shape refusal ≡ false

of_shape : (fault : Fault) → is_of_shape (refusal_of_fault fault) ≡ true
of_shape faults.ShortLine = refl
of_shape faults.OpenRing = refl
of_shape faults.ShortRing = refl
of_shape faults.RingNotSimple = refl
of_shape faults.RingsMeet = refl
of_shape faults.HoleOutside = refl
of_shape faults.HolesNested = refl
of_shape faults.PolygonsOverlap = refl

other : (t : List ℕ) (refusal : Refusal) → IsOther refusal → HasFaultyGiven t refusal
other t refusal is_other fault is = absurd (true≢false (sym (ap is_of_shape is ∙ of_shape fault) ∙ is_other))

of_text_fault : (fault : WktFault) → IsOther (refusal_of fault)
of_text_fault texts.Memory = refl
of_text_fault (texts.Syntax place) = refl
of_text_fault texts.OffGrid = refl
of_text_fault texts.OutOfRange = refl
of_text_fault texts.Empty = refl
of_text_fault texts.UnsupportedType = refl
of_text_fault texts.TooManyVertices = refl

of_binary_fault : (fault : WkbFault) → IsOther (refusal_of_bytes fault)
of_binary_fault binaries.Memory = refl
of_binary_fault binaries.OffGrid = refl
of_binary_fault binaries.OutOfRange = refl
of_binary_fault binaries.Empty = refl
of_binary_fault binaries.UnsupportedType = refl
of_binary_fault binaries.Truncated = refl
of_binary_fault binaries.Trailing = refl
of_binary_fault binaries.TooManyVertices = refl

bad : (t : List ℕ) → HasFaultyGiven t BadCommand
bad t = other t BadCommand refl

-- ---- what is made of parts

given_judged : {X : Type 0} (t : List ℕ) (o : Option X) (make : X → Result Command Refusal) → ((x : X) → Judged t (make x)) → Judged t (given o make)
given_judged t None make judged = bad t
given_judged t (Some x) make judged = judged x

made_judged : {X : Type 0} (t : List ℕ) (r : Result X Refusal) (make : X → Result Command Refusal) → IfErr r IsOther → ((x : X) → Judged t (make x)) → Judged t (made r make)
made_judged t (Ok x) make others judged = judged x
made_judged t (Err refusal) make others judged = other t refusal others

text_judged : (t : List ℕ) (r : Result Geometry WktFault) (make : Geometry → Command) → ((geometry : Geometry) → HasValidGiven t (make geometry)) → Judged t (of_text r make)
text_judged t (Ok geometry) make judged = judged geometry
text_judged t (Err fault) make judged = other t (refusal_of fault) (of_text_fault fault)

bytes_judged : (t layer : List ℕ) (r : Result Geometry WkbFault) → Judged t (bytes_command layer r)
bytes_judged t layer (Ok geometry) = tt
bytes_judged t layer (Err fault) = other t (refusal_of_bytes fault) (of_binary_fault fault)

hex_judged : (t layer : List ℕ) (r : Result (List ℕ) FromHexError) → Judged t (hex_command layer r)
hex_judged t layer (Ok bytes) = bytes_judged t layer (read_bytes bytes)
hex_judged t layer (Err fault) = other t Syntax refl

given_other : {X Y : Type 0} (o : Option X) (make : X → Result Y Refusal) → ((x : X) → IfErr (make x) IsOther) → IfErr (given o make) IsOther
given_other None make others = refl
given_other (Some x) make others = others x

made_other : {X Y : Type 0} (r : Result X Refusal) (make : X → Result Y Refusal) → IfErr r IsOther → ((x : X) → IfErr (make x) IsOther) → IfErr (made r make) IsOther
made_other (Ok x) make others further = further x
made_other (Err refusal) make others further = others

place_other : (id part ring index : List ℕ) → IfErr (vertex_place ById id part ring index) IsOther
place_other id part ring index =
    given_other (id_of id) _ (λ id. given_other (id_of part) _ (λ part. given_other (id_of ring) _ (λ ring. given_other (id_of index) _ (λ index. tt))))

point_by_other : (x y : Option (Result ℤ WktFault)) → IfErr (point_by x y) IsOther
point_by_other None y = refl
point_by_other (Some x) None = refl
point_by_other (Some (Err fault)) (Some y) = of_text_fault fault
point_by_other (Some (Ok x)) (Some (Err fault)) = of_text_fault fault
point_by_other (Some (Ok x)) (Some (Ok y)) = tt

spelled_other : {X : Type 0} (o : Option X) (refusal : Refusal) → IsOther refusal → IfErr (ok_or o refusal) IsOther
spelled_other None refusal is_other = is_other
spelled_other (Some x) refusal is_other = tt

-- ---- a given geometry

-- what is said of a geometry that a text gives, or of its refusal
abbrev GivenJudged : List ℕ → Result Geometry Refusal → Type 0
GivenJudged t (Ok given) = SpellsValid t given
GivenJudged t (Err refusal) = HasFaultyGiven t refusal

-- the fault of shape of a refusal; of one that has none, any
abbrev fault_of : Refusal → Fault
fault_of refusals.OpenRing = faults.OpenRing
fault_of refusals.ShortRing = faults.ShortRing
fault_of refusals.RingNotSimple = faults.RingNotSimple
fault_of refusals.RingsMeet = faults.RingsMeet
fault_of refusals.HoleOutside = faults.HoleOutside
fault_of refusals.HolesNested = faults.HolesNested
fault_of refusals.PolygonsOverlap = faults.PolygonsOverlap
fault_of refusal = faults.ShortLine

its_fault : (fault : Fault) → fault_of (refusal_of_fault fault) ≡ fault
its_fault faults.ShortLine = refl
its_fault faults.OpenRing = refl
its_fault faults.ShortRing = refl
its_fault faults.RingNotSimple = refl
its_fault faults.RingsMeet = refl
its_fault faults.HoleOutside = refl
its_fault faults.HolesNested = refl
its_fault faults.PolygonsOverlap = refl

one_fault : (first fault : Fault) → refusal_of_fault first ≡ refusal_of_fault fault → first ≡ fault
one_fault first fault is = sym (its_fault first) ∙ ap fault_of is ∙ its_fault fault

faultless_judged : (t : List ℕ) (geometry : Geometry) (verdict : Option Fault) → read t ≡ Ok geometry → IsVerdict geometry verdict → GivenJudged t (faultless geometry verdict)
faultless_judged t geometry None is valid = (is, valid)
faultless_judged t geometry (Some first) is faulty = λ fault same.
    record { given = geometry; spelled = is; first = subst (IsFirstFault geometry) (one_fault first fault same) faulty }

read_judged : (t : List ℕ) (r : Result Geometry WktFault) → read t ≡ r → IfOk r IsSized → GivenJudged t (valid_of r)
read_judged t (Ok geometry) is sized = faultless_judged t geometry (first_fault geometry) is (first_fault-over_plane geometry sized)
read_judged t (Err fault) is sized = other t (refusal_of fault) (of_text_fault fault)

given_is_judged : (t : List ℕ) → GivenJudged t (valid_of (read t))
given_is_judged t = read_judged t (read t) refl (read_sized (read t) (read_is_sized t))
  where
    read_sized : (r : Result Geometry WktFault) → IfOk r (λ g. IsSized g × AllByRecursion IsOnGrid (points_of g)) → IfOk r IsSized
    read_sized (Ok geometry) good = good.0
    read_sized (Err fault) good = tt

with_geometry_judged : {X : Type 0} (t : List ℕ) (command : List ℕ → X → Geometry → Command) (layer : List ℕ) (spelled : Result X Refusal) (geometry : Result Geometry Refusal)
    → IfErr spelled IsOther → GivenJudged t geometry → ((x : X) (given : Geometry) → SpellsValid t given → HasValidGiven t (command layer x given))
    → Judged t (with_geometry command layer spelled geometry)
with_geometry_judged t command layer (Err refusal) geometry others judged valid = other t refusal others
with_geometry_judged t command layer (Ok x) (Err refusal) others judged valid = judged
with_geometry_judged t command layer (Ok x) (Ok given) others judged valid = valid x given judged

-- ---- the words after each verb

add_layer_judged : (t : List ℕ) (arguments : List (List ℕ)) → Judged t (add_layer arguments)
add_layer_judged t (name ∷ kind ∷ []) = given_judged t (layer_kind_of kind) _ (λ kind. tt)
add_layer_judged t arguments = bad t

drop_layer_judged : (t : List ℕ) (arguments : List (List ℕ)) → Judged t (drop_layer arguments)
drop_layer_judged t (name ∷ []) = tt
drop_layer_judged t arguments = bad t

rename_layer_judged : (t : List ℕ) (arguments : List (List ℕ)) → Judged t (rename_layer arguments)
rename_layer_judged t (name ∷ new_name ∷ []) = tt
rename_layer_judged t arguments = bad t

move_layer_judged : (t : List ℕ) (arguments : List (List ℕ)) → Judged t (move_layer arguments)
move_layer_judged t (name ∷ place ∷ []) = given_judged t (id_of place) _ (λ place. tt)
move_layer_judged t arguments = bad t

layer_command_judged : (t : List ℕ) (action : Option Action) (arguments : List (List ℕ)) → Judged t (layer_command action arguments)
layer_command_judged t (Some actions.Add) arguments = add_layer_judged t arguments
layer_command_judged t (Some actions.Drop) arguments = drop_layer_judged t arguments
layer_command_judged t (Some actions.Rename) arguments = rename_layer_judged t arguments
layer_command_judged t (Some actions.Move) arguments = move_layer_judged t arguments
layer_command_judged t action arguments = bad t

layer_judged : (t : List ℕ) (arguments : List (List ℕ)) → Judged t (layer_arguments arguments)
layer_judged t [] = bad t
layer_judged t (action ∷ arguments) = layer_command_judged t (action_of action) arguments

add_column_judged : (t : List ℕ) (arguments : List (List ℕ)) → Judged t (add_column arguments)
add_column_judged t (layer ∷ name ∷ column_type ∷ []) = given_judged t (column_type_of column_type) _ (λ column_type. tt)
add_column_judged t arguments = bad t

drop_column_judged : (t : List ℕ) (arguments : List (List ℕ)) → Judged t (drop_column arguments)
drop_column_judged t (layer ∷ name ∷ []) = tt
drop_column_judged t arguments = bad t

column_command_judged : (t : List ℕ) (action : Option Action) (arguments : List (List ℕ)) → Judged t (column_command action arguments)
column_command_judged t (Some actions.Add) arguments = add_column_judged t arguments
column_command_judged t (Some actions.Drop) arguments = drop_column_judged t arguments
column_command_judged t action arguments = bad t

column_judged : (t : List ℕ) (arguments : List (List ℕ)) → Judged t (column_arguments arguments)
column_judged t [] = bad t
column_judged t (action ∷ arguments) = column_command_judged t (action_of action) arguments

insert_vertex_judged : (t : List ℕ) (arguments : List (List ℕ)) → Judged t (insert_vertex ById arguments)
insert_vertex_judged t (layer ∷ id ∷ part ∷ ring ∷ index ∷ x ∷ y ∷ []) =
    made_judged t (vertex_place ById id part ring index) _ (place_other id part ring index) (λ v. made_judged t (point_of x y) _ (point_by_other (coordinate_of x) (coordinate_of y)) (λ point. tt))
insert_vertex_judged t arguments = bad t

move_vertex_judged : (t : List ℕ) (arguments : List (List ℕ)) → Judged t (move_vertex ById arguments)
move_vertex_judged t (layer ∷ id ∷ part ∷ ring ∷ index ∷ x ∷ y ∷ []) =
    made_judged t (vertex_place ById id part ring index) _ (place_other id part ring index) (λ v. made_judged t (point_of x y) _ (point_by_other (coordinate_of x) (coordinate_of y)) (λ point. tt))
move_vertex_judged t arguments = bad t

remove_vertex_judged : (t : List ℕ) (arguments : List (List ℕ)) → Judged t (remove_vertex ById arguments)
remove_vertex_judged t (layer ∷ id ∷ part ∷ ring ∷ index ∷ []) = made_judged t (vertex_place ById id part ring index) _ (place_other id part ring index) (λ v. tt)
remove_vertex_judged t arguments = bad t

vertex_command_judged : (t : List ℕ) (action : Option Action) (arguments : List (List ℕ)) → Judged t (vertex_command ById action arguments)
vertex_command_judged t (Some actions.Insert) arguments = insert_vertex_judged t arguments
vertex_command_judged t (Some actions.Move) arguments = move_vertex_judged t arguments
vertex_command_judged t (Some actions.Remove) arguments = remove_vertex_judged t arguments
vertex_command_judged t action arguments = bad t

vertex_judged : (t : List ℕ) (arguments : List (List ℕ)) → Judged t (vertex_arguments ById arguments)
vertex_judged t [] = bad t
vertex_judged t (action ∷ arguments) = vertex_command_judged t (action_of action) arguments

add_judged : (t : List ℕ) (arguments : List (List ℕ)) (text : List ℕ) → Judged t (add_arguments arguments text)
add_judged t (layer ∷ first ∷ more) text = text_judged t (read text) _ (λ geometry. tt)
add_judged t arguments text = bad t

check_judged : (t : List ℕ) (arguments : List (List ℕ)) (text : List ℕ) → Judged t (check_arguments arguments text)
check_judged t (layer ∷ first ∷ more) text = text_judged t (read text) _ (λ geometry. tt)
check_judged t arguments text = bad t

addhex_judged : (t : List ℕ) (arguments : List (List ℕ)) → Judged t (addhex_arguments arguments)
addhex_judged t (layer ∷ hex ∷ []) = hex_judged t layer (decode_of hex)
addhex_judged t arguments = bad t

-- of commands about a feature that compare it with nothing
about_judged : (t : List ℕ) (command : List ℕ → ℕ → Command) (r : Result (List ℕ × ℕ) Refusal) → IfErr r IsOther
    → ((layer : List ℕ) (id : ℕ) → HasValidGiven t (command layer id)) → Judged t (feature_command command r)
about_judged t command (Ok feature) others judged = judged feature.0 feature.1
about_judged t command (Err refusal) others judged = other t refusal others

with_id_other : (layer : List ℕ) (id : Option ℕ) → IfErr (with_id layer id) IsOther
with_id_other layer None = refl
with_id_other layer (Some id) = tt

named_other : (arguments : List (List ℕ)) → IfErr (feature_named ById arguments) IsOther
named_other (layer ∷ id ∷ []) = with_id_other layer (id_of id)
named_other arguments = refl

feature_judged : (t : List ℕ) (command : List ℕ → ℕ → Command) (arguments : List (List ℕ)) → ((layer : List ℕ) (id : ℕ) → HasValidGiven t (command layer id)) → Judged t (feature_arguments command arguments)
feature_judged t command arguments judged = about_judged t command (feature_named ById arguments) (named_other arguments) judged

delete_judged : (t : List ℕ) (arguments : List (List ℕ)) → Judged t (delete_arguments ById arguments)
delete_judged t arguments = feature_judged t (λ layer id. Edit (edits.DeleteFeature layer id)) arguments (λ layer id. tt)

replace_judged : (t : List ℕ) (arguments : List (List ℕ)) (text : List ℕ) → Judged t (replace_arguments ById arguments text)
replace_judged t (layer ∷ id ∷ first ∷ more) text =
    given_judged t (id_of id) _ (λ id. text_judged t (read text) _ (λ geometry. tt))
replace_judged t arguments text = bad t

set_judged : (t : List ℕ) (arguments : List (List ℕ)) (text : List ℕ) → Judged t (set_arguments ById arguments text)
set_judged t (layer ∷ id ∷ column ∷ first ∷ more) text =
    given_judged t (id_of id) _ (λ id. given_judged t (value_of (trimmed_end text)) _ (λ value. tt))
set_judged t arguments text = bad t

unset_judged : (t : List ℕ) (arguments : List (List ℕ)) → Judged t (unset_arguments ById arguments)
unset_judged t (layer ∷ id ∷ column ∷ []) = given_judged t (id_of id) _ (λ id. tt)
unset_judged t arguments = bad t

features_judged : (t : List ℕ) (command : List ℕ → List ℕ → Command) (arguments : List (List ℕ)) → ((layer ids : List ℕ) → HasValidGiven t (command layer ids)) → Judged t (features_arguments command arguments)
features_judged t command [] judged = bad t
features_judged t command (layer ∷ ids) judged = by (ids_of ids)
  where
    by : (found : Option (List ℕ)) → Judged t (features_command command (given found (λ ids. Ok (layer, ids))))
    by None = bad t
    by (Some ids) = judged layer ids

end_other : (text : List ℕ) → IfErr (end_of text) IsOther
end_other text = by (list_all is_blank text)
  where
    by : (is : Bool) → IfErr (if is then Ok None else given (value_between text) (λ value. Ok (Some value))) IsOther
    by true = tt
    by false = given_other (value_between text) _ (λ value. tt)

range_with_other : (from to : Option AttrValue) → IfErr (range_with from to) IsOther
range_with_other from to = by (is_some from || is_some to)
  where
    by : (is : Bool) → IfErr {T = ValueRange} (if is then Ok (record { from = from; to = to }) else Err BadCommand) IsOther
    by true = tt
    by false = refl

range_other : (ends : List ℕ × List ℕ) → IfErr (range_between ends) IsOther
range_other ends = made_other (end_of ends.0) _ (end_other ends.0) (λ from. made_other (end_of ends.1) _ (end_other ends.1) (λ to. range_with_other from to))

sought_by_other : (text : List ℕ) (ends : Option (List ℕ × List ℕ)) → IfErr (sought_by text ends) IsOther
sought_by_other text (Some ends) = made_other (range_between ends) _ (range_other ends) (λ range. tt)
sought_by_other text None = given_other (value_between text) _ (λ value. tt)

sought_other : (value : List (List ℕ)) (text : List ℕ) → IfErr (sought_of value text) IsOther
sought_other [] text = tt
sought_other (first ∷ more) text = sought_by_other text (around_to text)

find_judged : (t : List ℕ) (arguments : List (List ℕ)) (text : List ℕ) → Judged t (find_arguments arguments text)
find_judged t [] text = bad t
find_judged t (layer ∷ []) text = bad t
find_judged t (layer ∷ column ∷ value) text = made_judged t (sought_of value text) _ (sought_other value text) (λ sought. tt)

beside_other : (words : List (List ℕ)) → IfErr (beside_of words) IsOther
beside_other [] = tt
beside_other (id ∷ []) = given_other (id_of id) _ (λ id. tt)
beside_other (id ∷ (word ∷ more)) = refl

ask_by_other : (word : List ℕ) (predicate : Option Predicate) → IfErr (ask_by word predicate) IsOther
ask_by_other word (Some predicate) = tt
ask_by_other word None = made_other (ok_or (pattern_of word) BadPattern) _ (spelled_other (pattern_of word) BadPattern refl) (λ letters. tt)

matrix_ask_other : (word : List ℕ) → IfErr (matrix_ask_of word) IsOther
matrix_ask_other word = made_other (ask_of word) _ (ask_by_other word (predicate_of word)) (λ ask. tt)

near_ask_other : (distance : List ℕ) → IfErr (near_ask_of distance) IsOther
near_ask_other distance = made_other (ok_or (reach_of distance) BadCommand) _ (spelled_other (reach_of distance) BadCommand refl) (λ reach. tt)

join_behind_judged : (t first : List ℕ) (ask : Result PairAsk Refusal) (arguments : List (List ℕ)) → IfErr ask IsOther → Judged t (join_behind first ask arguments)
join_behind_judged t first ask [] other = bad t
join_behind_judged t first ask (second ∷ beside) other = made_judged t (beside_of beside) _ (beside_other beside) (λ beside. made_judged t ask _ other (λ ask. tt))

join_near_judged : (t first : List ℕ) (arguments : List (List ℕ)) → Judged t (join_near first arguments)
join_near_judged t first [] = bad t
join_near_judged t first (distance ∷ arguments) = join_behind_judged t first (near_ask_of distance) arguments (near_ask_other distance)

join_judged : (t : List ℕ) (arguments : List (List ℕ)) → Judged t (join_arguments arguments)
join_judged t [] = bad t
join_judged t (first ∷ []) = bad t
join_judged t (first ∷ ask ∷ arguments) = by (is_near ask)
  where
    by : (near : Bool) → Judged t (if near then join_near first arguments else join_behind first (matrix_ask_of ask) arguments)
    by true = join_near_judged t first arguments
    by false = join_behind_judged t first (matrix_ask_of ask) arguments (matrix_ask_other ask)

reach_until_judged : (t layer ask ids : List ℕ) (arguments : List (List ℕ)) → Judged t (reach_until layer ask ids arguments)
reach_until_judged t layer ask ids [] = bad t
reach_until_judged t layer ask ids (second ∷ []) = bad t
reach_until_judged t layer ask ids (second ∷ end ∷ []) =
    made_judged t (ask_of ask) _ (ask_by_other ask (predicate_of ask)) (λ ask. made_judged t (ask_of end) _ (ask_by_other end (predicate_of end)) (λ end. tt))
reach_until_judged t layer ask ids (second ∷ end ∷ third ∷ more) = bad t

reach_behind_judged : (t layer ask ids : List ℕ) (words : Option (List (List ℕ))) → Judged t (reach_behind layer ask ids words)
reach_behind_judged t layer ask ids None = made_judged t (ask_of ask) _ (ask_by_other ask (predicate_of ask)) (λ ask. tt)
reach_behind_judged t layer ask ids (Some words) = reach_until_judged t layer ask ids words

reach_linked_judged : (t layer ask : List ℕ) (linked : Option Linked) → Judged t (reach_linked layer ask linked)
reach_linked_judged t layer ask None = bad t
reach_linked_judged t layer ask (Some linked) = by (nat_lt 0 (length linked.0) && nat_le (length linked.0) ids_max)
  where
    by : (few : Bool) → Judged t (if few then reach_behind layer ask linked.0 linked.1 else Err BadCommand)
    by true = reach_behind_judged t layer ask linked.0 linked.1
    by false = bad t

reach_judged : (t : List ℕ) (arguments : List (List ℕ)) → Judged t (reach_arguments arguments)
reach_judged t [] = bad t
reach_judged t (layer ∷ []) = bad t
reach_judged t (layer ∷ ask ∷ arguments) = reach_linked_judged t layer ask (linked_of arguments)

some_other : (is : Bool) (second : List ℕ) → IfErr (if is then Ok second else Err BadCommand) IsOther
some_other true second = tt
some_other false second = refl

second_other : (form : Form) (arguments : List (List ℕ)) → IfErr (second_of form arguments) IsOther
second_other Never [] = refl
second_other Never (second ∷ []) = tt
second_other Never (second ∷ word ∷ more) = refl
second_other Each [] = refl
second_other Each (some ∷ []) = refl
second_other Each (some ∷ second ∷ []) = some_other (bytes_eq some (codes "some")) second
second_other Each (some ∷ second ∷ word ∷ more) = refl

rule_behind_judged : (t name : List ℕ) (form : Form) (first : List ℕ) (ask : Result PairAsk Refusal) (arguments : List (List ℕ)) → IfErr ask IsOther → Judged t (rule_behind name form first ask arguments)
rule_behind_judged t name form first ask arguments other = made_judged t (second_of form arguments) _ (second_other form arguments) (λ second. made_judged t ask _ other (λ ask. tt))

near_rule_judged : (t name : List ℕ) (form : Form) (first : List ℕ) (arguments : List (List ℕ)) → Judged t (near_rule name form first arguments)
near_rule_judged t name form first [] = bad t
near_rule_judged t name form first (distance ∷ arguments) = rule_behind_judged t name form first (near_ask_of distance) arguments (near_ask_other distance)

layer_rule_judged : (t name : List ℕ) (form : Form) (arguments : List (List ℕ)) → Judged t (layer_rule name form arguments)
layer_rule_judged t name form [] = bad t
layer_rule_judged t name form (first ∷ []) = bad t
layer_rule_judged t name form (first ∷ ask ∷ arguments) = by (is_near ask)
  where
    by : (near : Bool) → Judged t (if near then near_rule name form first arguments else rule_behind name form first (matrix_ask_of ask) arguments)
    by true = near_rule_judged t name form first arguments
    by false = rule_behind_judged t name form first (matrix_ask_of ask) arguments (matrix_ask_other ask)

demand_other : (demand : DemandWord) (arguments : List (List ℕ)) (text : List ℕ) → IfErr (demand_by demand arguments text) IsOther
demand_other demand_words.Unique [] text = tt
demand_other demand_words.Unique (first ∷ more) text = refl
demand_other demand_words.Required [] text = tt
demand_other demand_words.Required (first ∷ more) text = refl
demand_other demand_words.OneOf [] text = refl
demand_other demand_words.OneOf (first ∷ more) text = given_other (values_of text) _ (λ values. tt)
demand_other demand_words.Range [] text = refl
demand_other demand_words.Range (first ∷ more) text = given_other (around_to text) _ (λ ends. made_other (range_between ends) _ (range_other ends) (λ range. tt))

value_rule_judged : (t name : List ℕ) (demand : DemandWord) (arguments : List (List ℕ)) (text : List ℕ) → Judged t (value_rule name demand arguments text)
value_rule_judged t name demand [] text = bad t
value_rule_judged t name demand (layer ∷ []) text = bad t
value_rule_judged t name demand (layer ∷ column ∷ arguments) text = made_judged t (demand_by demand arguments text) _ (demand_other demand arguments text) (λ demand. tt)

rule_by_judged : (t name : List ℕ) (demand : Option DemandWord) (word : List ℕ) (arguments : List (List ℕ)) (text : List ℕ) → Judged t (rule_by name demand word arguments text)
rule_by_judged t name (Some demand) word arguments text = value_rule_judged t name demand arguments text
rule_by_judged t name None word arguments text = given_judged t (form_of word) _ (λ form. layer_rule_judged t name form arguments)

add_rule_judged : (t : List ℕ) (arguments : List (List ℕ)) (text : List ℕ) → Judged t (add_rule arguments text)
add_rule_judged t [] text = bad t
add_rule_judged t (name ∷ []) text = bad t
add_rule_judged t (name ∷ word ∷ arguments) text = rule_by_judged t name (demand_of word) word arguments text

drop_rule_judged : (t : List ℕ) (arguments : List (List ℕ)) → Judged t (drop_rule arguments)
drop_rule_judged t (name ∷ []) = tt
drop_rule_judged t arguments = bad t

rule_command_judged : (t : List ℕ) (action : Option Action) (arguments : List (List ℕ)) (text : List ℕ) → Judged t (rule_command action arguments text)
rule_command_judged t (Some actions.Add) arguments text = add_rule_judged t arguments text
rule_command_judged t (Some actions.Drop) arguments text = drop_rule_judged t arguments
rule_command_judged t action arguments text = bad t

rule_judged : (t : List ℕ) (arguments : List (List ℕ)) (text : List ℕ) → Judged t (rule_arguments arguments text)
rule_judged t [] text = bad t
rule_judged t (action ∷ arguments) text = rule_command_judged t (action_of action) arguments text

after_two_words_judged : (t : List ℕ) (make : List ℕ → List ℕ → List ℕ → Result Command Refusal) (arguments : List (List ℕ)) → ((layer word : List ℕ) → Judged t (make layer word t))
    → Judged t (after_two_words make arguments t)
after_two_words_judged t make (layer ∷ word ∷ first ∷ more) judged = judged layer word
after_two_words_judged t make arguments judged = bad t

compared_judged : (t : List ℕ) (command : List ℕ → ℕ → Geometry → Command) (arguments : List (List ℕ))
    → ((layer : List ℕ) (id : ℕ) (given : Geometry) → SpellsValid t given → HasValidGiven t (command layer id given)) → Judged t (compared_arguments command arguments t)
compared_judged t command arguments judged = after_two_words_judged t _ arguments (λ layer id.
    with_geometry_judged t command layer (ok_or (id_of id) BadCommand) (valid_of (read t)) (spelled_other (id_of id) BadCommand refl) (given_is_judged t) (judged layer))

nearest_judged : (t : List ℕ) (arguments : List (List ℕ)) → Judged t (nearest_arguments arguments t)
nearest_judged t arguments = after_two_words_judged t _ arguments (λ layer count.
    with_geometry_judged t Nearest layer (ok_or (few_named count) BadCommand) (valid_of (read t)) (spelled_other (few_named count) BadCommand refl) (given_is_judged t) (λ count given valid. valid))

match_judged : (t : List ℕ) (arguments : List (List ℕ)) → Judged t (match_arguments arguments t)
match_judged t arguments = after_two_words_judged t _ arguments (λ layer pattern.
    with_geometry_judged t Match layer (ok_or (pattern_of pattern) BadPattern) (valid_of (read t)) (spelled_other (pattern_of pattern) BadPattern refl) (given_is_judged t) (λ pattern given valid. valid))

near_judged : (t layer : List ℕ) (arguments : List (List ℕ)) → Judged t (query_near layer arguments t)
near_judged t layer (distance ∷ first ∷ more) =
    with_geometry_judged t Near layer (ok_or (reach_of distance) BadCommand) (valid_of (read t)) (spelled_other (reach_of distance) BadCommand refl) (given_is_judged t) (λ reach given valid. valid)
near_judged t layer arguments = bad t

query_judged : (arguments : List (List ℕ)) (text : List ℕ) → Judged (query_text arguments text) (query_arguments arguments text)
query_judged (layer ∷ ask ∷ first ∷ more) text = by (is_near ask)
  where
    by : (near : Bool) → Judged (if near then skip_blanks (skip_word text) else text)
        (if near then query_near layer (words text) (skip_blanks (skip_word text)) else query_named layer ask text)
    by true = near_judged (skip_blanks (skip_word text)) layer (words text)
    by false =
        with_geometry_judged text Query layer (ok_or (predicate_of ask) BadCommand) (valid_of (read text)) (spelled_other (predicate_of ask) BadCommand refl) (given_is_judged text)
        (λ predicate given valid. valid)
query_judged (layer ∷ ask ∷ []) text = bad (query_text (layer ∷ ask ∷ []) text)
query_judged (layer ∷ []) text = bad text
query_judged [] text = bad text

of_layer_judged : (t : List ℕ) (command : List ℕ → Command) (arguments : List (List ℕ)) → ((layer : List ℕ) → HasValidGiven t (command layer)) → Judged t (of_layer command arguments)
of_layer_judged t command (layer ∷ []) judged = judged layer
of_layer_judged t command arguments judged = bad t

alone_judged : (t : List ℕ) (command : Command) (arguments : List (List ℕ)) → HasValidGiven t command → Judged t (alone command arguments)
alone_judged t command [] judged = judged
alone_judged t command arguments judged = bad t

-- ---- the line

-- the text that a given geometry has behind a verb and the line after it
abbrev behind : List ℕ → List ℕ
behind rest = from_third rest

by_verb_judged : (verb : Option Verb) (rest : List ℕ) → Judged (text_behind verb rest) (by_verb verb rest)
by_verb_judged (Some verbs.Layer) rest = layer_judged (behind rest) (words rest)
by_verb_judged (Some verbs.Column) rest = column_judged (behind rest) (words rest)
by_verb_judged (Some verbs.Add) rest = add_judged (behind rest) (words rest) (skip_blanks (skip_word rest))
by_verb_judged (Some verbs.AddHex) rest = addhex_judged (behind rest) (words rest)
by_verb_judged (Some verbs.Delete) rest = delete_judged (behind rest) (words rest)
by_verb_judged (Some verbs.Replace) rest = replace_judged (behind rest) (words rest) (behind rest)
by_verb_judged (Some verbs.Vertex) rest = vertex_judged (behind rest) (words rest)
by_verb_judged (Some verbs.Set) rest = set_judged (behind rest) (words rest) (skip_blanks (skip_word (skip_word (skip_word rest))))
by_verb_judged (Some verbs.Unset) rest = unset_judged (behind rest) (words rest)
by_verb_judged (Some verbs.Rule) rest = rule_judged (behind rest) (words rest) (skip_blanks (skip_word (skip_word (skip_word (skip_word (skip_word rest))))))
by_verb_judged (Some verbs.Undo) rest = alone_judged (behind rest) Undo (words rest) tt
by_verb_judged (Some verbs.Redo) rest = alone_judged (behind rest) Redo (words rest) tt
by_verb_judged (Some verbs.Layers) rest = alone_judged (behind rest) Layers (words rest) tt
by_verb_judged (Some verbs.Columns) rest = of_layer_judged (behind rest) Columns (words rest) (λ layer. tt)
by_verb_judged (Some verbs.Rules) rest = alone_judged (behind rest) Rules (words rest) tt
by_verb_judged (Some verbs.Show) rest = of_layer_judged (behind rest) Show (words rest) (λ layer. tt)
by_verb_judged (Some verbs.Get) rest = features_judged (behind rest) Get (words rest) (λ layer ids. tt)
by_verb_judged (Some verbs.Find) rest = find_judged (behind rest) (words rest) (behind rest)
by_verb_judged (Some verbs.Check) rest = check_judged (behind rest) (words rest) (skip_blanks (skip_word rest))
by_verb_judged (Some verbs.Hex) rest = feature_judged (behind rest) Hex (words rest) (λ layer id. tt)
by_verb_judged (Some verbs.Box) rest = feature_judged (behind rest) Extent (words rest) (λ layer id. tt)
by_verb_judged (Some verbs.Simple) rest = feature_judged (behind rest) Simple (words rest) (λ layer id. tt)
by_verb_judged (Some verbs.Area) rest = features_judged (behind rest) (Measured Area) (words rest) (λ layer ids. tt)
by_verb_judged (Some verbs.Length) rest = features_judged (behind rest) (Measured Length) (words rest) (λ layer ids. tt)
by_verb_judged (Some verbs.Distance) rest = compared_judged (behind rest) Distance (words rest) (λ layer id given valid. valid)
by_verb_judged (Some verbs.Nearest) rest = nearest_judged (behind rest) (words rest)
by_verb_judged (Some verbs.Reach) rest = reach_judged (behind rest) (words rest)
by_verb_judged (Some verbs.Relate) rest = compared_judged (behind rest) Relate (words rest) (λ layer id given valid. valid)
by_verb_judged (Some verbs.Match) rest = match_judged (behind rest) (words rest)
by_verb_judged (Some verbs.Query) rest = query_judged (words rest) (behind rest)
by_verb_judged (Some verbs.Join) rest = join_judged (behind rest) (words rest)
by_verb_judged None rest = bad (behind rest)

by_words_judged : (all : List (List ℕ)) (rest : List ℕ) → Judged (text_by_words all rest) (by_words all rest)
by_words_judged [] rest = bad (behind rest)
by_words_judged (verb ∷ arguments) rest = by_verb_judged (verb_of verb) rest

by_editor_judged : (t : List ℕ) (editor : ℕ) (r : Result Command Refusal) → Judged t r → HasJudgedGiven t (by_editor editor r)
by_editor_judged t editor (Ok command) judged = judged
by_editor_judged t editor (Err refusal) judged = judged

digits_other : (digits : Option (List ℕ)) (rest line : List ℕ) → IfErr (by_digits digits rest line) IsOther
digits_other None rest line = tt
digits_other (Some digits) rest line = given_other (editor_of digits) _ (λ editor. tt)

first_word_other : (all : List (List ℕ)) (line : List ℕ) → IfErr (by_first_word all line) IsOther
first_word_other [] line = refl
first_word_other (word ∷ more) line = digits_other (behind_at word) (skip_word line) line

addressed_judged : (r : Result (ℕ × List ℕ) Refusal) → IfErr r IsOther → HasJudgedGiven (given_text r) (made r (λ at. by_editor at.0 (by_words (words at.1) (skip_word at.1))))
addressed_judged (Ok at) others = by_editor_judged (text_by_words (words at.1) (skip_word at.1)) at.0 (by_words (words at.1) (skip_word at.1)) (by_words_judged (words at.1) (skip_word at.1))
addressed_judged (Err refusal) others = other [] refusal others

by_length : (t : List ℕ) (long : Bool) (r : Result (ℕ × Command) Refusal) → HasJudgedGiven t r → HasJudgedGiven t (if long then Err LineTooLong else r)
by_length t true r judged = other t LineTooLong refl
by_length t false r judged = judged

pub given_geometries_are_judged_over_the_plane : GivenGeometriesAreJudgedOverThePlane
given_geometries_are_judged_over_the_plane line =
    by_length (given_text (addressed line)) (nat_lt line_max (length line)) (addressed_command line)
    (addressed_judged (addressed line) (first_word_other (words line) line))
