-- Commands of lines, computed from the definitions alone.
use Rattle.std.proofs.Common.{◌≡◌, pos, negsuc, Ok, Err, None, Some, true, [], ◌∷◌, codes, refl}
use Rattle.sf_refusals.specs.declared.refusal.Refusal.TheVariants.{Syntax, OffGrid, OutOfRange, BadCommand, BadPattern}
use Rattle.sf_geometry.specs.declared.geometry.Geometry.TheVariants as geometries
use Rattle.sf_geometry.specs.declared.kind.Kind.TheVariants as kinds
use Rattle.sf_known.specs.declared.letter.Letter.TheVariants.{Any, Empty, Filled}
use Rattle.sf_known.specs.declared.predicate.Predicate.TheVariants as predicates
use Rattle.sf_layers.specs.declared.layer_kind.LayerKind.TheVariants.{Only}
use Rattle.sf_features.specs.declared.attr_value.AttrValue.TheVariants as values
use Rattle.sf_features.specs.declared.column_type.ColumnType.TheVariants as types
use Rattle.sf_rules.specs.Asked.{Matching, Named}
use Rattle.sf_rules.specs.Asked.{Matrix, Near}
use Rattle.sf_rules.specs.declared.rule.Demand.TheVariants.{InRange, OneOf, Required, Unique}
use Rattle.sf_rules.specs.declared.rule.Says.TheVariants.{OfLayers, OfValues}
use Rattle.sf_rules.specs.declared.rule.Form.TheVariants.{Never, Each}
use Rattle.sf_steps.specs.declared.edit.Edit.TheVariants as edits
use Rattle.sf_measure.specs.declared.measure.Measure.TheVariants.{Area, Length}
use Rattle.sf_commands.specs.declared.command.Command.TheVariants.{Edit, AddRule, DropRule, Undo, Redo, Layers, Columns, Rules, Show, Get, Find, Hex, Simple, Extent, Measured, Join}
use Rattle.sf_commands.specs.declared.command.Sought.TheVariants.{Between, Value}
use Rattle.sf_commands.specs.declared.command.Sought.TheVariants as soughts
use Rattle.sf_commands.specs.Commands.{command_of}

layer_added : command_of (codes "layer add wells multipolygon") ≡ Ok (0, Edit (edits.AddLayer (codes "wells") (Only kinds.MultiPolygon)))
layer_added = refl

layer_dropped : command_of (codes "  layer drop wells ") ≡ Ok (0, Edit (edits.DropLayer (codes "wells")))
layer_dropped = refl

layer_renamed : command_of (codes "layer rename wells 9") ≡ Ok (0, Edit (edits.RenameLayer (codes "wells") (codes "9")))
layer_renamed = refl

layer_moved : command_of (codes "layer move wells 0000000012") ≡ Ok (0, Edit (edits.MoveLayer (codes "wells") 12))
layer_moved = refl

column_added : command_of (codes "column add wells depth int") ≡ Ok (0, Edit (edits.AddColumn (codes "wells") (codes "depth") types.Int))
column_added = refl

column_dropped : command_of (codes "column drop wells depth") ≡ Ok (0, Edit (edits.DropColumn (codes "wells") (codes "depth")))
column_dropped = refl

feature_deleted : command_of (codes "delete wells 7") ≡ Ok (0, Edit (edits.DeleteFeature (codes "wells") 7))
feature_deleted = refl

geometry_replaced : command_of (codes "replace wells 7  POINT (1 -2)") ≡ Ok (0, Edit (edits.ReplaceGeometry (codes "wells") 7 (geometries.Point (record { x = pos 1; y = negsuc 1 }))))
geometry_replaced = refl

value_set : (command_of (codes "set wells 7 depth -0012 ") ≡ Ok (0, Edit (edits.SetValue (codes "wells") 7 (codes "depth") (values.Int (negsuc 11)))))
    × (command_of (codes "set wells 7 depth +9223372036854775807") ≡ Ok (0, Edit (edits.SetValue (codes "wells") 7 (codes "depth") (values.Int (pos 9223372036854775807)))))
    × (command_of (codes "set wells 7 depth -9223372036854775808") ≡ Ok (0, Edit (edits.SetValue (codes "wells") 7 (codes "depth") (values.Int (negsuc 9223372036854775807)))))
    × (command_of (codes "set wells 7 depth 1.0") ≡ Ok (0, Edit (edits.SetValue (codes "wells") 7 (codes "depth") (values.Int (pos 1)))))
    × (command_of (codes "set wells 7 depth true") ≡ Ok (0, Edit (edits.SetValue (codes "wells") 7 (codes "depth") (values.Bool true))))
value_set = (refl, refl, refl, refl, refl)

text_set : (command_of (codes "set wells 7 label 'it''s  old' ") ≡ Ok (0, Edit (edits.SetValue (codes "wells") 7 (codes "label") (values.Text (codes "it's  old")))))
    × (command_of (codes "set wells 7 label ''") ≡ Ok (0, Edit (edits.SetValue (codes "wells") 7 (codes "label") (values.Text []))))
    × (command_of (codes "set wells 7 label ''''") ≡ Ok (0, Edit (edits.SetValue (codes "wells") 7 (codes "label") (values.Text (codes "'")))))
    × (command_of (codes "set wells 7 label 'a'''") ≡ Ok (0, Edit (edits.SetValue (codes "wells") 7 (codes "label") (values.Text (codes "a'")))))
text_set = (refl, refl, refl, refl)

-- what spells no number
no_numbers : (command_of (codes "set wells 7 depth") ≡ Err BadCommand) × (command_of (codes "set wells 7 depth 1 2") ≡ Err BadCommand)
    × (command_of (codes "set wells 7 depth -") ≡ Err BadCommand) × (command_of (codes "set wells 7 depth 9223372036854775808") ≡ Err BadCommand)
    × (command_of (codes "set wells 7 depth 1.") ≡ Err BadCommand) × (command_of (codes "set wells x depth 1") ≡ Err BadCommand)
no_numbers = (refl, refl, refl, refl, refl, refl)

-- what is no text in quotes
no_texts : (command_of (codes "set wells 7 label '") ≡ Err BadCommand) × (command_of (codes "set wells 7 label 'a'b'") ≡ Err BadCommand)
    × (command_of (codes "set wells 7 label 'a' b") ≡ Err BadCommand) × (command_of (codes "set wells 7 label 'a''") ≡ Err BadCommand)
    × (command_of (codes "set wells 7 label '''") ≡ Err BadCommand) × (command_of (codes "set wells 7 label a") ≡ Err BadCommand)
no_texts = (refl, refl, refl, refl, refl, refl)

value_cleared : command_of (codes "unset wells 7 depth") ≡ Ok (0, Edit (edits.ClearValue (codes "wells") 7 (codes "depth")))
value_cleared = refl

vertex_inserted : command_of (codes "vertex insert wells 1 2 3 4294967295 +1.00 -0") ≡ Ok (0, Edit (edits.InsertVertex (codes "wells") 1 2 3 4294967295 (record { x = pos 1; y = pos 0 })))
vertex_inserted = refl

vertex_moved : command_of (codes "vertex move wells 1 0 0 2 -1073741824 1073741823.") ≡ Ok (0, Edit (edits.MoveVertex (codes "wells") 1 0 0 2 (record { x = negsuc 1073741823; y = pos 1073741823 })))
vertex_moved = refl

vertex_removed : command_of (codes "vertex remove wells 1 0 0 2") ≡ Ok (0, Edit (edits.RemoveVertex (codes "wells") 1 0 0 2))
vertex_removed = refl

steps : (command_of (codes "undo") ≡ Ok (0, Undo)) × (command_of (codes "redo") ≡ Ok (0, Redo))
steps = (refl, refl)

lists : (command_of (codes "layers") ≡ Ok (0, Layers)) × (command_of (codes "columns wells") ≡ Ok (0, Columns (codes "wells"))) × (command_of (codes "show wells") ≡ Ok (0, Show (codes "wells")))
lists = (refl, refl, refl)

features_asked : (command_of (codes "get wells 7") ≡ Ok (0, Get (codes "wells") (7 ∷ []))) × (command_of (codes "@3 get wells 3 1  0003 ") ≡ Ok (3, Get (codes "wells") (3 ∷ 1 ∷ 3 ∷ [])))
features_asked = (refl, refl)

features_not_asked : (command_of (codes "get") ≡ Err BadCommand) × (command_of (codes "get wells") ≡ Err BadCommand) × (command_of (codes "get wells 1 x") ≡ Err BadCommand) × (command_of (codes "get wells 4294967296") ≡ Err BadCommand)
features_not_asked = (refl, refl, refl, refl)

measures_asked : (command_of (codes "area wells 7") ≡ Ok (0, Measured Area (codes "wells") (7 ∷ []))) × (command_of (codes "@3 length wells 3 1  0003 ") ≡ Ok (3, Measured Length (codes "wells") (3 ∷ 1 ∷ 3 ∷ [])))
    × (command_of (codes "area wells") ≡ Err BadCommand) × (command_of (codes "length wells x") ≡ Err BadCommand)
measures_asked = (refl, refl, refl, refl)

values_sought : (command_of (codes "find wells depth -12 ") ≡ Ok (0, Find (codes "wells") (codes "depth") (Value (values.Int (negsuc 11)))))
    × (command_of (codes "find wells label 'it''s old'") ≡ Ok (0, Find (codes "wells") (codes "label") (Value (values.Text (codes "it's old"))))) × (command_of (codes "find wells label ") ≡ Ok (0, Find (codes "wells") (codes "label") soughts.Any))
values_sought = (refl, refl, refl)

values_not_sought : (command_of (codes "find") ≡ Err BadCommand) × (command_of (codes "find wells") ≡ Err BadCommand) × (command_of (codes "find wells label old") ≡ Err BadCommand) × (command_of (codes "find wells depth 1 2") ≡ Err BadCommand)
values_not_sought = (refl, refl, refl, refl)

-- a range of values: with both ends, with one, and the least one behind the greatest
ranges_sought : (command_of (codes "find wells depth -1 to  12 ") ≡ Ok (0, Find (codes "wells") (codes "depth") (Between (record { from = Some (values.Int (negsuc 0)); to = Some (values.Int (pos 12)) }))))
    × (command_of (codes "@2 find wells depth 5 to ") ≡ Ok (2, Find (codes "wells") (codes "depth") (Between (record { from = Some (values.Int (pos 5)); to = None }))))
    × (command_of (codes "find wells depth to 5") ≡ Ok (0, Find (codes "wells") (codes "depth") (Between (record { from = None; to = Some (values.Int (pos 5)) }))))
    × (command_of (codes "find wells depth 5 to 1") ≡ Ok (0, Find (codes "wells") (codes "depth") (Between (record { from = Some (values.Int (pos 5)); to = Some (values.Int (pos 1)) }))))
ranges_sought = (refl, refl, refl, refl)

-- a word `to` in quotes parts nothing, also behind two quotes that stand for one
ranges_of_texts_sought : (command_of (codes "find wells label 'a to b' to 'it''s to'") ≡ Ok (0, Find (codes "wells") (codes "label") (Between (record { from = Some (values.Text (codes "a to b")); to = Some (values.Text (codes "it's to")) }))))
    × (command_of (codes "find wells label ' to '") ≡ Ok (0, Find (codes "wells") (codes "label") (Value (values.Text (codes " to ")))))
    × (command_of (codes "find wells label 'it''s to '") ≡ Ok (0, Find (codes "wells") (codes "label") (Value (values.Text (codes "it's to ")))))
    × (command_of (codes "find wells label '''' to ''") ≡ Ok (0, Find (codes "wells") (codes "label") (Between (record { from = Some (values.Text (codes "'")); to = Some (values.Text []) }))))
ranges_of_texts_sought = (refl, refl, refl, refl)

-- neither end, more than two, an end that spells no value, and `to` that is no word by itself
ranges_not_sought : (command_of (codes "find wells depth to") ≡ Err BadCommand) × (command_of (codes "find wells depth  to  ") ≡ Err BadCommand) × (command_of (codes "find wells depth 1 to 2 to 3") ≡ Err BadCommand)
    × (command_of (codes "find wells depth 1 to b") ≡ Err BadCommand) × (command_of (codes "find wells depth 1to 2") ≡ Err BadCommand) × (command_of (codes "find wells depth 1 to2") ≡ Err BadCommand)
    × (command_of (codes "find wells depth 1 TO 2") ≡ Err BadCommand) × (command_of (codes "find wells label 'a'to 'b'") ≡ Err BadCommand) × (command_of (codes "find wells label 'a to 'b'") ≡ Err BadCommand)
ranges_not_sought = (refl, refl, refl, refl, refl, refl, refl, refl, refl)

pairs_asked : (command_of (codes "join wells within parcels") ≡ Ok (0, Join (codes "wells") (Matrix (Named predicates.Within)) (codes "parcels") None))
    × (command_of (codes "@2 join wells overlaps wells 7 ") ≡ Ok (2, Join (codes "wells") (Matrix (Named predicates.Overlaps)) (codes "wells") (Some 7)))
    × (command_of (codes "join wells T*F**F*** parcels 12") ≡ Ok (0, Join (codes "wells") (Matrix (Matching (Filled ∷ Any ∷ Empty ∷ Any ∷ Any ∷ Empty ∷ Any ∷ Any ∷ Any ∷ []))) (codes "parcels") (Some 12)))
pairs_asked = (refl, refl, refl)

-- by a distance
pairs_near_asked : (command_of (codes "join wells near 2.5 parcels") ≡ Ok (0, Join (codes "wells") (Near 2500) (codes "parcels") None))
    × (command_of (codes "join wells near 0 wells 7") ≡ Ok (0, Join (codes "wells") (Near 0) (codes "wells") (Some 7)))
    × (command_of (codes "join wells near parcels") ≡ Err BadCommand) × (command_of (codes "join wells near parcels 7") ≡ Err BadCommand) × (command_of (codes "join wells near -1 parcels") ≡ Err BadCommand)
    × (command_of (codes "join wells near 0.0001 parcels") ≡ Err BadCommand) × (command_of (codes "join wells near 1 parcels 7 8") ≡ Err BadCommand) × (command_of (codes "join wells near 4294967296 parcels") ≡ Err BadCommand)
pairs_near_asked = (refl, refl, refl, refl, refl, refl, refl, refl)

rules_near_added : (command_of (codes "rule add apart never pipes near 2000 cables") ≡ Ok (0, AddRule (record { name = codes "apart"; says = OfLayers (record { form = Never; first = codes "pipes"; ask = Near 2000000; second = codes "cables" }) })))
    × (command_of (codes "rule add served each houses near 150.25 some hydrants") ≡ Ok (0, AddRule (record { name = codes "served"; says = OfLayers (record { form = Each; first = codes "houses"; ask = Near 150250; second = codes "hydrants" }) })))
    × (command_of (codes "rule add apart never pipes near cables") ≡ Err BadCommand) × (command_of (codes "rule add served each houses near 150 hydrants") ≡ Err BadCommand) × (command_of (codes "rule add apart never pipes near 1x cables") ≡ Err BadCommand)
rules_near_added = (refl, refl, refl, refl, refl)

-- a wrong number of words and a wrong identifier come before a wrong pattern
pairs_not_asked : (command_of (codes "join") ≡ Err BadCommand) × (command_of (codes "join wells within") ≡ Err BadCommand) × (command_of (codes "join wells nearby parcels x") ≡ Err BadCommand)
    × (command_of (codes "join wells nearby parcels 1 2") ≡ Err BadCommand) × (command_of (codes "join wells nearby parcels 4294967296") ≡ Err BadCommand) × (command_of (codes "join wells nearby parcels") ≡ Err BadPattern) × (command_of (codes "join wells T*T parcels 1") ≡ Err BadPattern)
pairs_not_asked = (refl, refl, refl, refl, refl, refl, refl)

rules_added : (command_of (codes "rule add apart never parcels overlaps parcels") ≡ Ok (0, AddRule (record { name = codes "apart"; says = OfLayers (record { form = Never; first = codes "parcels"; ask = Matrix (Named predicates.Overlaps); second = codes "parcels" }) })))
    × (command_of (codes "@2  rule add inside each parcels within some districts ") ≡ Ok (2, AddRule (record { name = codes "inside"; says = OfLayers (record { form = Each; first = codes "parcels"; ask = Matrix (Named predicates.Within); second = codes "districts" }) })))
    × (command_of (codes "rule add 9 never wells t*F**F*** parcels") ≡ Ok (0, AddRule (record { name = codes "9"; says = OfLayers (record { form = Never; first = codes "wells"; ask = Matrix (Matching (Filled ∷ Any ∷ Empty ∷ Any ∷ Any ∷ Empty ∷ Any ∷ Any ∷ Any ∷ [])); second = codes "parcels" }) })))
    × (command_of (codes "rule add never each some T******** some some") ≡ Ok (0, AddRule (record { name = codes "never"; says = OfLayers (record { form = Each; first = codes "some"; ask = Matrix (Matching (Filled ∷ Any ∷ Any ∷ Any ∷ Any ∷ Any ∷ Any ∷ Any ∷ Any ∷ [])); second = codes "some" }) })))
rules_added = (refl, refl, refl, refl)

rules_on_values : (command_of (codes "rule add numbers unique parcels number") ≡ Ok (0, AddRule (record { name = codes "numbers"; says = OfValues (record { demand = Unique; layer = codes "parcels"; column = codes "number" }) })))
    × (command_of (codes "@2 rule  add numbered required parcels number ") ≡ Ok (2, AddRule (record { name = codes "numbered"; says = OfValues (record { demand = Required; layer = codes "parcels"; column = codes "number" }) })))
    × (command_of (codes "rule add unique never unique overlaps required") ≡ Ok (0, AddRule (record { name = codes "unique"; says = OfLayers (record { form = Never; first = codes "unique"; ask = Matrix (Named predicates.Overlaps); second = codes "required" }) })))
rules_on_values = (refl, refl, refl)

-- a word too few or too many, and a word in capitals
no_rules_on_values : (command_of (codes "rule add numbers unique parcels") ≡ Err BadCommand) × (command_of (codes "rule add numbers unique") ≡ Err BadCommand)
    × (command_of (codes "rule add numbers unique parcels number number") ≡ Err BadCommand) × (command_of (codes "rule add numbers UNIQUE parcels number") ≡ Err BadCommand)
no_rules_on_values = (refl, refl, refl, refl)

-- rules that name values, with blanks around them or without; a comma in quotes parts nothing
rules_on_named_values : (command_of (codes "rule add kinds one-of parcels kind 'house', 'barn'") ≡ Ok (0, AddRule (record { name = codes "kinds"; says = OfValues (record { demand = OneOf (values.Text (codes "house") ∷ values.Text (codes "barn") ∷ []); layer = codes "parcels"; column = codes "kind" }) })))
    × (command_of (codes "@2  rule add n one-of parcels number 1,-2 , 1 ") ≡ Ok (2, AddRule (record { name = codes "n"; says = OfValues (record { demand = OneOf (values.Int (pos 1) ∷ values.Int (negsuc 1) ∷ values.Int (pos 1) ∷ []); layer = codes "parcels"; column = codes "number" }) })))
    × (command_of (codes "rule add n one-of parcels kind 'a, b','it''s, c'") ≡ Ok (0, AddRule (record { name = codes "n"; says = OfValues (record { demand = OneOf (values.Text (codes "a, b") ∷ values.Text (codes "it's, c") ∷ []); layer = codes "parcels"; column = codes "kind" }) })))
    × (command_of (codes "rule add n one-of parcels kind 7") ≡ Ok (0, AddRule (record { name = codes "n"; says = OfValues (record { demand = OneOf (values.Int (pos 7) ∷ []); layer = codes "parcels"; column = codes "kind" }) })))
    × (command_of (codes "rule add to one-of to one-of 'to', ''") ≡ Ok (0, AddRule (record { name = codes "to"; says = OfValues (record { demand = OneOf (values.Text (codes "to") ∷ values.Text [] ∷ []); layer = codes "to"; column = codes "one-of" }) })))
rules_on_named_values = (refl, refl, refl, refl, refl)

-- no value, an empty part, a part that spells no value, and a quote that is not closed
no_rules_on_named_values : (command_of (codes "rule add n one-of parcels kind") ≡ Err BadCommand) × (command_of (codes "rule add n one-of parcels kind ") ≡ Err BadCommand) × (command_of (codes "rule add n one-of parcels kind ,") ≡ Err BadCommand)
    × (command_of (codes "rule add n one-of parcels kind 1,,2") ≡ Err BadCommand) × (command_of (codes "rule add n one-of parcels kind 1, 2,") ≡ Err BadCommand) × (command_of (codes "rule add n one-of parcels kind 1 2") ≡ Err BadCommand)
    × (command_of (codes "rule add n one-of parcels kind house") ≡ Err BadCommand) × (command_of (codes "rule add n one-of parcels kind 'a, 'b'") ≡ Err BadCommand) × (command_of (codes "rule add n one-of parcels") ≡ Err BadCommand)
    × (command_of (codes "rule add n one-Of parcels kind 1") ≡ Err BadCommand)
no_rules_on_named_values = (refl, refl, refl, refl, refl, refl, refl, refl, refl, refl)

rules_on_ranges : (command_of (codes "rule add n range parcels number 1 to 9") ≡ Ok (0, AddRule (record { name = codes "n"; says = OfValues (record { demand = InRange (record { from = Some (values.Int (pos 1)); to = Some (values.Int (pos 9)) }); layer = codes "parcels"; column = codes "number" }) })))
    × (command_of (codes "rule add n range parcels number  1  to ") ≡ Ok (0, AddRule (record { name = codes "n"; says = OfValues (record { demand = InRange (record { from = Some (values.Int (pos 1)); to = None }); layer = codes "parcels"; column = codes "number" }) })))
    × (command_of (codes "@9 rule add range range parcels number to 9") ≡ Ok (9, AddRule (record { name = codes "range"; says = OfValues (record { demand = InRange (record { from = None; to = Some (values.Int (pos 9)) }); layer = codes "parcels"; column = codes "number" }) })))
    × (command_of (codes "rule add n range parcels kind 'a to b' to 'to'") ≡ Ok (0, AddRule (record { name = codes "n"; says = OfValues (record { demand = InRange (record { from = Some (values.Text (codes "a to b")); to = Some (values.Text (codes "to")) }); layer = codes "parcels"; column = codes "kind" }) })))
rules_on_ranges = (refl, refl, refl, refl)

no_rules_on_ranges : (command_of (codes "rule add n range parcels number") ≡ Err BadCommand) × (command_of (codes "rule add n range parcels number to") ≡ Err BadCommand) × (command_of (codes "rule add n range parcels number 1") ≡ Err BadCommand)
    × (command_of (codes "rule add n range parcels number 1 9") ≡ Err BadCommand) × (command_of (codes "rule add n range parcels to 9") ≡ Err BadCommand) × (command_of (codes "rule add n range parcels number 1, 2 to 9") ≡ Err BadCommand)
no_rules_on_ranges = (refl, refl, refl, refl, refl, refl)

rules_dropped : (command_of (codes "rule drop apart") ≡ Ok (0, DropRule (codes "apart"))) × (command_of (codes "@3 rule  drop 9 ") ≡ Ok (3, DropRule (codes "9")))
rules_dropped = (refl, refl)

rules_listed : (command_of (codes "rules") ≡ Ok (0, Rules)) × (command_of (codes "@3 rules ") ≡ Ok (3, Rules)) × (command_of (codes "rules apart") ≡ Err BadCommand)
rules_listed = (refl, refl, refl)

-- no form, no action, or a wrong number of words; all of them come before a wrong pattern
no_rules : (command_of (codes "rule") ≡ Err BadCommand) × (command_of (codes "rule rename apart asunder") ≡ Err BadCommand) × (command_of (codes "rule Add r never p overlaps p") ≡ Err BadCommand)
    × (command_of (codes "Rule add r never p overlaps p") ≡ Err BadCommand) × (command_of (codes "rule add") ≡ Err BadCommand) × (command_of (codes "rule add r") ≡ Err BadCommand)
    × (command_of (codes "rule add r never") ≡ Err BadCommand) × (command_of (codes "rule add r never p") ≡ Err BadCommand) × (command_of (codes "rule add r never p nearby") ≡ Err BadCommand)
    × (command_of (codes "rule add r always p nearby p") ≡ Err BadCommand) × (command_of (codes "rule add r Never p nearby p") ≡ Err BadCommand) × (command_of (codes "rule add r never p nearby p p") ≡ Err BadCommand)
    × (command_of (codes "rule add r never p nearby some d") ≡ Err BadCommand) × (command_of (codes "rule drop") ≡ Err BadCommand) × (command_of (codes "rule drop r r") ≡ Err BadCommand)
no_rules = (refl, refl, refl, refl, refl, refl, refl, refl, refl, refl, refl, refl, refl, refl, refl)

no_rules_for_each : (command_of (codes "rule add r each p nearby") ≡ Err BadCommand) × (command_of (codes "rule add r each p nearby d") ≡ Err BadCommand) × (command_of (codes "rule add r each p nearby some") ≡ Err BadCommand)
    × (command_of (codes "rule add r each p nearby any d") ≡ Err BadCommand) × (command_of (codes "rule add r each p nearby Some d") ≡ Err BadCommand) × (command_of (codes "rule add r each p nearby some d d") ≡ Err BadCommand)
no_rules_for_each = (refl, refl, refl, refl, refl, refl)

-- a word that is neither a predicate nor a pattern
rules_without_pattern : (command_of (codes "rule add r never p nearby p") ≡ Err BadPattern) × (command_of (codes "rule add r never p Overlaps p") ≡ Err BadPattern)
    × (command_of (codes "rule add r each p T*T some d") ≡ Err BadPattern) × (command_of (codes "rule add r each p T*F**F**3 some d") ≡ Err BadPattern)
rules_without_pattern = (refl, refl, refl, refl)

geometries_asked : (command_of (codes "hex wells 7") ≡ Ok (0, Hex (codes "wells") 7)) × (command_of (codes "box wells 7") ≡ Ok (0, Extent (codes "wells") 7))
    × (command_of (codes "simple wells 7") ≡ Ok (0, Simple (codes "wells") 7))
geometries_asked = (refl, refl, refl)

-- wrong words come before a wrong text, and the form of both coordinates before the fault of either
faults_of_words : (command_of (codes "replace wells x POINT") ≡ Err BadCommand) × (command_of (codes "replace wells 7 POINT") ≡ Err Syntax)
    × (command_of (codes "vertex move wells 1 0 0 0 1.5 x") ≡ Err BadCommand) × (command_of (codes "vertex move wells 4294967296 0 0 0 1.5 1") ≡ Err BadCommand)
    × (command_of (codes "vertex move wells 1 0 0 0 1.5 1073741824") ≡ Err OffGrid) × (command_of (codes "vertex move wells 1 0 0 0 1073741824 1.5") ≡ Err OutOfRange)
    × (command_of (codes "vertex drop wells 1 0 0 0") ≡ Err BadCommand) × (command_of (codes "layers wells") ≡ Err BadCommand) × (command_of (codes "column add wells depth real") ≡ Err BadCommand)
faults_of_words = (refl, refl, refl, refl, refl, refl, refl, refl, refl)

-- a first word that names an editor
editors : (command_of (codes "@1 undo") ≡ Ok (1, Undo)) × (command_of (codes " @255  redo ") ≡ Ok (255, Redo)) × (command_of (codes "@001\tlayers") ≡ Ok (1, Layers))
    × (command_of (codes "@20 layer drop @3") ≡ Ok (20, Edit (edits.DropLayer (codes "@3"))))
editors = (refl, refl, refl, refl)

-- what names none, or has no command behind it, comes before any other fault
no_editors : (command_of (codes "@0 undo") ≡ Err BadCommand) × (command_of (codes "@256 undo") ≡ Err BadCommand) × (command_of (codes "@ undo") ≡ Err BadCommand)
    × (command_of (codes "@1") ≡ Err BadCommand) × (command_of (codes "@1 \t") ≡ Err BadCommand) × (command_of (codes "@0001 undo") ≡ Err BadCommand)
    × (command_of (codes "@+1 undo") ≡ Err BadCommand) × (command_of (codes "@1undo") ≡ Err BadCommand) × (command_of (codes "@1 @2 undo") ≡ Err BadCommand)
    × (command_of (codes "undo @1") ≡ Err BadCommand) × (command_of (codes "@x vertex move wells 1 0 0 0 1.5 1") ≡ Err BadCommand)
    × (command_of (codes "@2 vertex move wells 1 0 0 0 1.5 1") ≡ Err OffGrid)
no_editors = (refl, refl, refl, refl, refl, refl, refl, refl, refl, refl, refl, refl)
