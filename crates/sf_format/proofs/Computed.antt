-- Worked files, computed from the definitions alone.
use Rattle.std.proofs.Common.{◌≡◌, ℕ, Bool, true, false, ◌&&◌, ℤ, pos, negsuc, List, [], ◌∷◌, ◌++◌, length, take, drop, Result, Ok, Err, codes, refl, nat_eq, suc, zero}
use Rattle.sf_geometry.specs.declared.geometry.Geometry.TheVariants.{LineString, Point}
use Rattle.sf_geometry.specs.declared.kind.Kind.TheVariants as kinds
use Rattle.std.specs.Str.{is_utf8, chars}
use lib.Utf8.{encode}
use Rattle.sf_features.specs.Features.{FeatureContent, plain_feature}
use Rattle.sf_layers.specs.Content.{Content}
use Rattle.sf_features.specs.declared.column.Column.{Column}
use Rattle.sf_features.specs.declared.column_type.ColumnType.TheVariants as types
use Rattle.sf_features.specs.declared.attr_value.AttrValue.{AttrValue}
use Rattle.sf_features.specs.declared.attr_value.AttrValue.TheVariants as values
use Rattle.sf_layers.specs.declared.layer_kind.LayerKind.TheVariants.{Any, Only}
use Rattle.sf_format.specs.Defects.{number_of}
use Rattle.sf_format.specs.Readings.{Fault}
use Rattle.sf_format.specs.Format.{content_of}
use Rattle.sf_format.specs.Canonical.{canonical, first_canonical, second_canonical}

-- a content, or the place and the number of the first fault
abbrev answer : Result Content Fault → Result Content (ℕ × ℕ)
answer (Ok content) = Ok content
answer (Err fault) = Err (fault.place, number_of fault.defect)

abbrev load : List ℕ → Result Content (ℕ × ℕ)
load text = answer (content_of text)

-- ---- a layer whose identifiers are used up

abbrev full_layer : ℕ → ℕ → ℕ → List ℕ
full_layer layers kind features = codes "SFSTORE1" ++ 0 ∷ 0 ∷ 0 ∷ layers ∷ 1 ∷ 119 ∷ kind ∷ 255 ∷ 255 ∷ 255 ∷ 255 ∷ 0 ∷ 1 ∷ 0 ∷ 0 ∷ 0 ∷ 0 ∷ 0 ∷ features ∷ []

pub exhausted_layer : load (full_layer 1 1 0) ≡ Ok ((codes "w", record { kind = Only kinds.Point; next_id = 4294967295; next_column = 1; columns = []; features = [] }) ∷ [])
exhausted_layer = refl

pub exhausted_layer_cut : load (take 26 (full_layer 1 1 0)) ≡ Err (26, 7)
exhausted_layer_cut = refl

pub exhausted_layer_and_a_byte : load (full_layer 1 1 0 ++ 0 ∷ []) ≡ Err (27, 8)
exhausted_layer_and_a_byte = refl

pub unknown_kind : load (full_layer 1 7 0) ≡ Err (14, 26)
unknown_kind = refl

pub second_layer_missing : load (full_layer 2 1 0) ≡ Err (27, 7)
second_layer_missing = refl

pub more_features_than_identifiers : load (take 15 (full_layer 1 1 0) ++ 0 ∷ 0 ∷ 0 ∷ 1 ∷ 0 ∷ 1 ∷ 0 ∷ 0 ∷ 0 ∷ 0 ∷ 0 ∷ 1 ∷ []) ≡ Err (23, 27)
more_features_than_identifiers = refl

-- ---- a layer with a point

abbrev wells : Content
wells = (codes "wells", record { kind = Only kinds.Point; next_id = 2; next_column = 1; columns = []; features = (1, plain_feature (Point (record { x = pos 3; y = pos 4 }))) ∷ [] }) ∷ []

-- its bytes in the first version, but for the identifier, the length of the geometry and the code in it
abbrev wells_bytes : ℕ → ℕ → ℕ → ℕ → List ℕ
wells_bytes front id size code = front ∷ codes "FSTORE1" ++ 0 ∷ 0 ∷ 0 ∷ 1 ∷ 5 ∷ codes "wells" ++ 1 ∷ 0 ∷ 0 ∷ 0 ∷ 2 ∷ 0 ∷ 1 ∷ 0 ∷ 0 ∷ 0 ∷ 0 ∷ 0 ∷ 1
    ∷ 0 ∷ 0 ∷ 0 ∷ id ∷ 0 ∷ 0 ∷ 0 ∷ size ∷ 1 ∷ code ∷ 0 ∷ 0 ∷ 0 ∷ 0 ∷ 0 ∷ 0 ∷ 0 ∷ 0 ∷ 0 ∷ 8 ∷ 64 ∷ 0 ∷ 0 ∷ 0 ∷ 0 ∷ 0 ∷ 0 ∷ 16 ∷ 64 ∷ 0 ∷ 0 ∷ []

abbrev saved : List ℕ
saved = wells_bytes 83 1 21 1

pub saved_length : length saved ≡ 62
saved_length = refl

-- the same bytes behind the front of the second version
abbrev second_of : List ℕ → List ℕ
second_of text = codes "SFSTORE2" ++ 24 ∷ drop 8 text

pub first_bytes : first_canonical wells ≡ saved
first_bytes = refl

-- the same bytes behind the front of the fourth version, and no rules
abbrev fourth_of : List ℕ → List ℕ
fourth_of text = codes "SFSTORE4" ++ 31 ∷ (drop 8 text ++ 0 ∷ 0 ∷ [])

pub second_bytes : second_canonical wells ≡ second_of saved
second_bytes = refl

pub saved_bytes : canonical wells ≡ fourth_of saved
saved_bytes = refl

pub fourth_length : length (canonical wells) ≡ 65
fourth_length = refl

pub fourth_loads : load (fourth_of saved) ≡ Ok wells
fourth_loads = refl

pub fourth_without_rules : load (codes "SFSTORE4" ++ 31 ∷ drop 8 saved) ≡ Err (63, 7)
fourth_without_rules = refl

pub second_loads : load (second_of saved) ≡ Ok wells
second_loads = refl

pub saved_bytes_load : load saved ≡ Ok wells
saved_bytes_load = refl

pub new_store : canonical [] ≡ codes "SFSTORE4" ++ 31 ∷ 0 ∷ 0 ∷ 0 ∷ 0 ∷ 0 ∷ 0 ∷ []
new_store = refl

-- ---- the versions

pub second_exhausted_length : length (second_of (full_layer 1 1 0)) ≡ 28
second_exhausted_length = refl

pub second_exhausted_layer : load (second_of (full_layer 1 1 0)) ≡ load (full_layer 1 1 0)
second_exhausted_layer = refl

pub second_exhausted_layer_cut : load (take 27 (second_of (full_layer 1 1 0))) ≡ Err (27, 7)
second_exhausted_layer_cut = refl

pub other_grid : load (codes "SFSTORE2" ++ 20 ∷ drop 8 saved) ≡ Err (8, 34)
other_grid = refl

pub grid_missing : load (codes "SFSTORE2") ≡ Err (8, 7)
grid_missing = refl

pub grid_of_the_second_version : load (codes "SFSTORE4" ++ 24 ∷ drop 8 saved) ≡ Err (8, 34)
grid_of_the_second_version = refl

pub grid_of_the_fourth_version : load (codes "SFSTORE2" ++ 31 ∷ drop 8 saved) ≡ Err (8, 34)
grid_of_the_fourth_version = refl

pub no_version : load (codes "SFSTORE5" ++ 31 ∷ drop 8 saved) ≡ Err (0, 34)
no_version = refl

-- the file with the x 524288
abbrev far_saved : List ℕ
far_saved = take 44 saved ++ 0 ∷ 0 ∷ 0 ∷ 0 ∷ 0 ∷ 0 ∷ 32 ∷ 65 ∷ drop 52 saved

pub far_in_first : load far_saved ≡ Err (39, 4)
far_in_first = refl

pub far_in_second : load (second_of far_saved)
    ≡ Ok ((codes "wells", record { kind = Only kinds.Point; next_id = 2; next_column = 1; columns = []; features = (1, plain_feature (Point (record { x = pos 524288; y = pos 4 }))) ∷ [] }) ∷ [])
far_in_second = refl

-- the file with the x 8388608, which has more than 24 bits
abbrev farther_saved : List ℕ
farther_saved = take 44 saved ++ 0 ∷ 0 ∷ 0 ∷ 0 ∷ 0 ∷ 0 ∷ 96 ∷ 65 ∷ drop 52 saved

pub farther_in_second : load (second_of farther_saved) ≡ Err (40, 4)
farther_in_second = refl

pub farther_in_fourth : load (fourth_of farther_saved)
    ≡ Ok ((codes "wells", record { kind = Only kinds.Point; next_id = 2; next_column = 1; columns = []; features = (1, plain_feature (Point (record { x = pos 8388608; y = pos 4 }))) ∷ [] }) ∷ [])
farther_in_fourth = refl

-- each front of the bytes ends within a field
abbrev is_cut_at : ℕ → Result Content Fault → Bool
is_cut_at len (Err fault) = nat_eq fault.place len && nat_eq (number_of fault.defect) 7
is_cut_at len (Ok content) = false

abbrev fronts_are_cut : ℕ → List ℕ → Bool
fronts_are_cut zero text = true
fronts_are_cut (suc n) text = is_cut_at n (content_of (take n text)) && fronts_are_cut n text

pub every_front_is_cut : fronts_are_cut 62 saved ≡ true
every_front_is_cut = refl

pub every_front_of_second_is_cut : fronts_are_cut 63 (second_of saved) ≡ true
every_front_of_second_is_cut = refl

pub every_front_of_fourth_is_cut : fronts_are_cut 65 (fourth_of saved) ≡ true
every_front_of_fourth_is_cut = refl

pub other_first_byte : load (wells_bytes 84 1 21 1) ≡ Err (0, 34)
other_first_byte = refl

pub identifier_past_counter : load (wells_bytes 83 2 21 1) ≡ Err (31, 27)
identifier_past_counter = refl

pub length_one_less : load (wells_bytes 83 1 20 1) ≡ Err (39, 7)
length_one_less = refl

pub length_one_more : load (wells_bytes 83 1 22 1) ≡ Err (39, 8)
length_one_more = refl

pub unknown_code : load (wells_bytes 83 1 21 7) ≡ Err (39, 6)
unknown_code = refl

-- ---- columns and values

abbrev column_int : Column
column_int = record { number = 1; name = codes "depth"; column_type = types.Int }

abbrev column_text : Column
column_text = record { number = 2; name = codes "label"; column_type = types.Text }

abbrev point_at : ℤ → ℤ → List (ℕ × AttrValue) → FeatureContent
point_at x y given = record { geometry = Point (record { x = x; y = y }); values = given }

-- a layer with two columns, and another one
abbrev surveyed : Content
surveyed = (
  codes "w",
  record {
    kind = Any;
    next_id = 4;
    next_column = 3;
    columns = column_int ∷ column_text ∷ [];
    features = (1, point_at (pos 1) (pos 1) ((1, values.Int (pos 12)) ∷ (2, values.Text (codes "it's old")) ∷ []))
        ∷ (2, point_at (pos 2) (pos 2) [])
        ∷ (3, point_at (negsuc 2) (pos 3) ((1, values.Int (negsuc 6)) ∷ [])) ∷ [];
  },
)
    ∷ (codes "W2_", record { kind = Only kinds.Polygon; next_id = 1; next_column = 65535; columns = []; features = [] }) ∷ []

pub surveyed_loads : load (canonical surveyed) ≡ Ok surveyed
unfolding is_utf8 chars encode
surveyed_loads = refl

-- a layer `w` of any kind with these counters, and what comes after them
abbrev layer_front : ℕ → ℕ → List ℕ → List ℕ
layer_front next_id next_column rest = codes "SFSTORE1" ++ 0 ∷ 0 ∷ 0 ∷ 1 ∷ 1 ∷ 119 ∷ 0 ∷ 0 ∷ 0 ∷ 0 ∷ next_id ∷ 0 ∷ next_column ∷ rest

pub no_next_identifier : load (layer_front 0 1 []) ≡ Err (15, 27)
no_next_identifier = refl

pub no_next_column : load (layer_front 1 0 []) ≡ Err (19, 28)
no_next_column = refl

pub as_many_columns_as_the_counter : load (layer_front 1 2 (0 ∷ 2 ∷ [])) ≡ Err (21, 28)
as_many_columns_as_the_counter = refl

pub column_number_zero : load (layer_front 1 2 (0 ∷ 1 ∷ 0 ∷ 0 ∷ [])) ≡ Err (23, 28)
column_number_zero = refl

pub column_number_at_counter : load (layer_front 1 2 (0 ∷ 1 ∷ 0 ∷ 2 ∷ [])) ≡ Err (23, 28)
column_number_at_counter = refl

pub column_number_twice : load (layer_front 1 3 (0 ∷ 2 ∷ 0 ∷ 1 ∷ 1 ∷ 1 ∷ 97 ∷ 0 ∷ 1 ∷ [])) ≡ Err (28, 28)
column_number_twice = refl

pub column_numbers_fall : load (layer_front 1 3 (0 ∷ 2 ∷ 0 ∷ 2 ∷ 1 ∷ 1 ∷ 97 ∷ 0 ∷ 1 ∷ 2 ∷ 1 ∷ 98 ∷ 0 ∷ 0 ∷ 0 ∷ 0 ∷ [])) ≡ Ok ((
  codes "w",
  record {
    kind = Any;
    next_id = 1;
    next_column = 3;
    columns = record { number = 2; name = codes "a"; column_type = types.Int } ∷ record { number = 1; name = codes "b"; column_type = types.Text } ∷ [];
    features = [];
  },
) ∷ [])
column_numbers_fall = refl

pub unknown_type : load (layer_front 1 3 (0 ∷ 1 ∷ 0 ∷ 1 ∷ 7 ∷ [])) ≡ Err (25, 24)
unknown_type = refl

pub column_name_of_no_byte : load (layer_front 1 3 (0 ∷ 1 ∷ 0 ∷ 1 ∷ 1 ∷ 0 ∷ [])) ≡ Err (26, 20)
column_name_of_no_byte = refl

pub column_name_of_33_bytes : load (layer_front 1 3 (0 ∷ 1 ∷ 0 ∷ 1 ∷ 1 ∷ 33 ∷ [])) ≡ Err (26, 20)
column_name_of_33_bytes = refl

pub column_name_cut_off : load (layer_front 1 3 (0 ∷ 1 ∷ 0 ∷ 1 ∷ 1 ∷ 3 ∷ 97 ∷ [])) ≡ Err (28, 7)
column_name_cut_off = refl

pub column_name_with_a_digit_first : load (layer_front 1 3 (0 ∷ 1 ∷ 0 ∷ 1 ∷ 1 ∷ 1 ∷ 57 ∷ [])) ≡ Err (26, 20)
column_name_with_a_digit_first = refl

pub column_name_twice : load (layer_front 1 3 (0 ∷ 2 ∷ 0 ∷ 1 ∷ 1 ∷ 1 ∷ 97 ∷ 0 ∷ 2 ∷ 1 ∷ 1 ∷ 97 ∷ [])) ≡ Err (31, 23)
column_name_twice = refl

-- a layer with a column `a` of a type and a feature at 0 0, and what comes after its geometry
abbrev feature_front : ℕ → List ℕ → List ℕ
feature_front type_byte rest = layer_front 3 2 (0 ∷ 1 ∷ 0 ∷ 1 ∷ type_byte ∷ 1 ∷ 97 ∷ 0 ∷ 0 ∷ 0 ∷ 2 ∷ 0 ∷ 0 ∷ 0 ∷ 1 ∷ 0 ∷ 0 ∷ 0 ∷ 21 ∷ 1 ∷ 1 ∷ 0 ∷ 0 ∷ 0
    ∷ 0 ∷ 0 ∷ 0 ∷ 0 ∷ 0 ∷ 0 ∷ 0 ∷ 0 ∷ 0 ∷ 0 ∷ 0 ∷ 0 ∷ 0 ∷ 0 ∷ 0 ∷ 0 ∷ rest)

pub feature_front_length : length (feature_front 1 []) ≡ 61
feature_front_length = refl

pub more_values_than_columns : load (feature_front 1 (0 ∷ 2 ∷ [])) ≡ Err (61, 22)
more_values_than_columns = refl

pub value_of_no_column : load (feature_front 1 (0 ∷ 1 ∷ 0 ∷ 2 ∷ [])) ≡ Err (63, 22)
value_of_no_column = refl

pub value_of_column_zero : load (feature_front 1 (0 ∷ 1 ∷ 0 ∷ 0 ∷ [])) ≡ Err (63, 22)
value_of_column_zero = refl

pub int_cut_off : load (feature_front 1 (0 ∷ 1 ∷ 0 ∷ 1 ∷ 0 ∷ 0 ∷ 0 ∷ 0 ∷ 0 ∷ 0 ∷ 0 ∷ [])) ≡ Err (72, 7)
int_cut_off = refl

pub text_of_256_bytes_cut_off : load (feature_front 2 (0 ∷ 1 ∷ 0 ∷ 1 ∷ 1 ∷ 0 ∷ [])) ≡ Err (67, 7)
text_of_256_bytes_cut_off = refl

pub text_cut_off : load (feature_front 2 (0 ∷ 1 ∷ 0 ∷ 1 ∷ 0 ∷ 255 ∷ 97 ∷ [])) ≡ Err (68, 7)
text_cut_off = refl

pub text_with_a_zero : load (feature_front 2 (0 ∷ 1 ∷ 0 ∷ 1 ∷ 0 ∷ 1 ∷ 0 ∷ [])) ≡ Err (65, 24)
unfolding is_utf8 chars encode
text_with_a_zero = refl

pub text_not_utf8 : load (feature_front 2 (0 ∷ 1 ∷ 0 ∷ 1 ∷ 0 ∷ 1 ∷ 255 ∷ [])) ≡ Err (65, 24)
unfolding is_utf8 chars encode
text_not_utf8 = refl

pub identifier_again : load (feature_front 1 (0 ∷ 0 ∷ 0 ∷ 0 ∷ 0 ∷ 1 ∷ [])) ≡ Err (63, 27)
identifier_again = refl

pub second_layer_of_the_name : load (codes "SFSTORE1" ++ 0 ∷ 0 ∷ 0 ∷ 2 ∷ 1 ∷ 119 ∷ 0 ∷ 0 ∷ 0 ∷ 0 ∷ 1 ∷ 0 ∷ 1 ∷ 0 ∷ 0 ∷ 0 ∷ 0 ∷ 0 ∷ 0 ∷ 1 ∷ 119 ∷ []) ≡ Err (27, 19)
second_layer_of_the_name = refl

pub too_many_layers : load (codes "SFSTORE1" ++ 0 ∷ 1 ∷ 0 ∷ 0 ∷ []) ≡ Err (8, 27)
too_many_layers = refl

-- a point in a layer of another kind, and before it a geometry that cannot be read there
pub point_among_lines : load (take 18 saved ++ 2 ∷ drop 19 saved) ≡ Err (39, 26)
point_among_lines = refl

pub unreadable_among_lines : load (take 18 (wells_bytes 83 1 21 7) ++ 2 ∷ drop 19 (wells_bytes 83 1 21 7)) ≡ Err (39, 6)
unreadable_among_lines = refl

pub longest_geometry_and_more : load (take 35 saved ++ 0 ∷ 32 ∷ 0 ∷ 1 ∷ []) ≡ Err (35, 9)
longest_geometry_and_more = refl

pub longest_geometry_cut_off : load (take 35 saved ++ 0 ∷ 32 ∷ 0 ∷ 0 ∷ []) ≡ Err (39, 7)
longest_geometry_cut_off = refl

-- a geometry with the other order of bytes is read, and written in the canonical one
pub other_order_loads : load (take 39 saved ++ 0 ∷ 0 ∷ 0 ∷ 0 ∷ 1 ∷ 64 ∷ 8 ∷ 0 ∷ 0 ∷ 0 ∷ 0 ∷ 0 ∷ 0 ∷ 64 ∷ 16 ∷ 0 ∷ 0 ∷ 0 ∷ 0 ∷ 0 ∷ 0 ∷ 0 ∷ 0 ∷ []) ≡ Ok wells
other_order_loads = refl

-- ---- geometries of other kinds

abbrev zeros : ℕ → List ℕ
zeros zero = []
zeros (suc n) = 0 ∷ zeros n

-- the word of 1
abbrev one : List ℕ
one = zeros 6 ++ 240 ∷ 63 ∷ []

-- a layer of any kind with one feature, of these binary bytes
abbrev with_row : List ℕ → List ℕ
with_row row = layer_front 2 1 (0 ∷ 0 ∷ 0 ∷ 0 ∷ 0 ∷ 1 ∷ 0 ∷ 0 ∷ 0 ∷ 1 ∷ 0 ∷ 0 ∷ 0 ∷ length row ∷ row ++ 0 ∷ 0 ∷ [])

abbrev line_row : List ℕ → List ℕ
line_row last_x = 1 ∷ 2 ∷ 0 ∷ 0 ∷ 0 ∷ 2 ∷ 0 ∷ 0 ∷ 0 ∷ zeros 16 ++ last_x ++ zeros 8

pub line_loads : load (with_row (line_row one)) ≡ Ok ((
  codes "w",
  record {
    kind = Any;
    next_id = 2;
    next_column = 1;
    columns = [];
    features = (1, plain_feature (LineString (record { x = pos 0; y = pos 0 } ∷ record { x = pos 1; y = pos 0 } ∷ []))) ∷ [];
  },
) ∷ [])
line_loads = refl

pub line_of_one_point : load (with_row (line_row (zeros 8))) ≡ Err (35, 10)
line_of_one_point = refl

-- a ring from 0 0 over 1 0 to 1 1
pub open_ring : load (with_row (1 ∷ 3 ∷ 0 ∷ 0 ∷ 0 ∷ 1 ∷ 0 ∷ 0 ∷ 0 ∷ 3 ∷ 0 ∷ 0 ∷ 0 ∷ zeros 16 ++ one ++ zeros 8 ++ one ++ one)) ≡ Err (35, 11)
open_ring = refl

-- the second of two points ends too early
pub line_cut_off : load (with_row (take 40 (line_row one))) ≡ Err (35, 7)
line_cut_off = refl
