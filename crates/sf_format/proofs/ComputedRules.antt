-- Worked files with rules, computed from the definitions alone.
use Rattle.std.proofs.Common.{◌≡◌, ℕ, true, pos, negsuc, List, [], ◌∷◌, ◌++◌, ◌+◌, ◌-◌, length, drop, take, None, Some, Result, Ok, Err, codes, refl}
use Rattle.std.specs.Str.{is_utf8, chars}
use lib.Utf8.{encode}
use Rattle.sf_geometry.specs.declared.geometry.Geometry.TheVariants.{Point}
use Rattle.sf_geometry.specs.declared.kind.Kind.TheVariants as kinds
use Rattle.sf_known.specs.declared.letter.Letter.TheVariants.{Any, Filled, Empty, Zero, One, Two}
use Rattle.sf_known.specs.declared.predicate.Predicate.TheVariants.{Within}
use Rattle.sf_ruled_store.specs.Ruling.{Matching, Matrix, Named, Near}
use Rattle.sf_layers.specs.declared.layer_kind.LayerKind.TheVariants.{Only}
use Rattle.sf_features.specs.Features.{plain_feature}
use Rattle.sf_layers.specs.Content.{Content}
use Rattle.sf_features.specs.declared.attr_value.AttrValue.{AttrValue}
use Rattle.sf_features.specs.declared.attr_value.AttrValue.TheVariants as values
use Rattle.sf_features.specs.declared.column_type.ColumnType.TheVariants as types
use Rattle.sf_ruled_store.specs.Ruling.{Rule, OfLayers, OfValues}
use Rattle.sf_ruled_store.specs.Ruling.{Demand, InRange, OneOf, Required, Unique}
use Rattle.sf_ruled_store.specs.Ruling.{Each, Never}
use Rattle.sf_ruled_store.specs.Ruled.{Ruled}
use Rattle.sf_format.specs.Defects.{number_of}
use Rattle.sf_format.specs.Readings.{Fault}
use Rattle.sf_format.specs.Format.{ruled_content_of}
use Rattle.sf_format.specs.Canonical.{canonical, canonical_ruled, named_bytes, rule_bytes, third_canonical}

-- a content with rules, or the place and the number of the first fault
abbrev answer : Result Ruled Fault → Result Ruled (ℕ × ℕ)
answer (Ok ruled) = Ok ruled
answer (Err fault) = Err (fault.place, number_of fault.defect)

abbrev load : List ℕ → Result Ruled (ℕ × ℕ)
load text = answer (ruled_content_of text)

-- two layers, one of them with a point
abbrev wells : Content
wells = (codes "a", record { kind = Only kinds.Point; next_id = 2; next_column = 1; columns = []; features = (1, plain_feature (Point (record { x = pos 3; y = pos 4 }))) ∷ [] })
    ∷ (codes "b", record { kind = Only kinds.Point; next_id = 1; next_column = 1; columns = []; features = [] }) ∷ []

abbrev apart : Rule
apart = record {
  name = codes "apart";
  says = OfLayers (record { form = Never; first = codes "a"; ask = Matrix (Matching (Any ∷ Filled ∷ Empty ∷ Zero ∷ One ∷ Two ∷ Any ∷ Any ∷ Any ∷ [])); second = codes "b" });
}

abbrev inside : Rule
inside = record { name = codes "in"; says = OfLayers (record { form = Each; first = codes "b"; ask = Matrix (Named Within); second = codes "a" }) }

abbrev kept : Ruled
kept = record { content = wells; rules = apart ∷ inside ∷ [] }

pub apart_bytes : rule_bytes apart ≡ 5 ∷ codes "apart" ++ 1 ∷ 1 ∷ 97 ∷ 0 ∷ codes "*TF012***" ++ 1 ∷ 98 ∷ []
apart_bytes = refl

pub inside_bytes : rule_bytes inside ≡ 2 ∷ codes "in" ++ 2 ∷ 1 ∷ 98 ∷ 5 ∷ 1 ∷ 97 ∷ []
inside_bytes = refl

-- not nearer than two steps and a half
abbrev distant : Rule
distant = record { name = codes "far"; says = OfLayers (record { form = Never; first = codes "a"; ask = Near 2500; second = codes "b" }) }

pub distant_bytes : rule_bytes distant ≡ 3 ∷ codes "far" ++ 7 ∷ 1 ∷ 97 ∷ 0 ∷ 0 ∷ 0 ∷ 0 ∷ 0 ∷ 0 ∷ 9 ∷ 196 ∷ 1 ∷ 98 ∷ []
distant_bytes = refl

pub distant_loads : load (canonical_ruled (record { content = wells; rules = distant ∷ [] })) ≡ Ok (record { content = wells; rules = distant ∷ [] })
distant_loads = refl

pub without_rules_as_content : canonical_ruled (record { content = wells; rules = [] }) ≡ canonical wells
without_rules_as_content = refl

-- the bytes up to the number of rules
abbrev layers_part : List ℕ
layers_part = take 74 (canonical wells)

-- the same of the third version
abbrev third_part : List ℕ
third_part = codes "SFSTORE3" ++ 24 ∷ drop 9 layers_part

pub layers_length : length layers_part ≡ 74
layers_length = refl

pub kept_bytes : canonical_ruled kept ≡ layers_part ++ 0 ∷ 2 ∷ (rule_bytes apart ++ rule_bytes inside)
kept_bytes = refl

pub kept_loads : load (canonical_ruled kept) ≡ Ok kept
kept_loads = refl

pub third_bytes : third_canonical kept ≡ third_part ++ 0 ∷ 2 ∷ (rule_bytes apart ++ rule_bytes inside)
third_bytes = refl

pub third_loads : load (third_canonical kept) ≡ Ok kept
third_loads = refl

-- a file with these bytes behind the layers
abbrev with_rules : List ℕ → List ℕ
with_rules rest = layers_part ++ rest

pub no_rule : load (with_rules (0 ∷ 0 ∷ [])) ≡ Ok (record { content = wells; rules = [] })
no_rule = refl

pub count_missing : load (with_rules (0 ∷ [])) ≡ Err (75, 7)
count_missing = refl

pub more_behind : load (with_rules (0 ∷ 0 ∷ 0 ∷ [])) ≡ Err (76, 8)
more_behind = refl

-- small letters are read too
pub small_letters : load (with_rules (0 ∷ 1 ∷ 5 ∷ codes "apart" ++ 1 ∷ 1 ∷ 97 ∷ 0 ∷ codes "*tf012***" ++ 1 ∷ 98 ∷ [])) ≡ Ok (record { content = wells; rules = apart ∷ [] })
small_letters = refl

-- a rule of this name, and what comes after the name
abbrev named : List ℕ → List ℕ
named rest = with_rules (0 ∷ 1 ∷ 1 ∷ 114 ∷ rest)

pub name_of_no_byte : load (with_rules (0 ∷ 1 ∷ 0 ∷ [])) ≡ Err (76, 20)
name_of_no_byte = refl

pub name_with_a_digit_first : load (with_rules (0 ∷ 1 ∷ 1 ∷ 57 ∷ [])) ≡ Err (76, 20)
name_with_a_digit_first = refl

pub name_twice : load (with_rules (0 ∷ 2 ∷ (rule_bytes inside ++ rule_bytes inside))) ≡ Err (85, 40)
name_twice = refl

pub no_form : load (named (0 ∷ [])) ≡ Err (78, 34)
no_form = refl

pub form_nine : load (named (9 ∷ [])) ≡ Err (78, 34)
form_nine = refl

pub no_first_layer : load (named (1 ∷ 1 ∷ 99 ∷ [])) ≡ Err (79, 18)
no_first_layer = refl

pub first_layer_no_name : load (named (1 ∷ 1 ∷ 32 ∷ [])) ≡ Err (79, 20)
first_layer_no_name = refl

pub ask_nine : load (named (1 ∷ 1 ∷ 97 ∷ 9 ∷ [])) ≡ Err (81, 32)
ask_nine = refl

pub no_pattern : load (named (1 ∷ 1 ∷ 97 ∷ 0 ∷ codes "*TF013***")) ≡ Err (81, 32)
no_pattern = refl

pub pattern_cut_off : load (named (1 ∷ 1 ∷ 97 ∷ 0 ∷ codes "*TF012**")) ≡ Err (90, 7)
pattern_cut_off = refl

-- a distance of 2 ^ 32 steps is beyond the limit
pub distance_beyond : load (named (7 ∷ 1 ∷ 97 ∷ 0 ∷ 0 ∷ 3 ∷ 232 ∷ 0 ∷ 0 ∷ 0 ∷ 0 ∷ [])) ≡ Err (81, 34)
distance_beyond = refl

pub no_second_layer : load (named (1 ∷ 1 ∷ 97 ∷ 5 ∷ 1 ∷ 99 ∷ [])) ≡ Err (82, 18)
no_second_layer = refl

-- the point of the first layer is within none of the second; the place is that of the rule, also where more is wrong behind it
pub broken : load (with_rules (0 ∷ 2 ∷ (rule_bytes inside ++ (1 ∷ 114 ∷ 2 ∷ 1 ∷ 97 ∷ 5 ∷ 1 ∷ 98 ∷ 0 ∷ [])))) ≡ Err (85, 37)
broken = refl

-- ---- rules on values

-- a layer with three columns and two points: no value of n is there twice, that of m is, and the second point has none of o
abbrev measured : Content
measured = (
  codes "a",
  record {
    kind = Only kinds.Point;
    next_id = 3;
    next_column = 4;
    columns = record { number = 1; name = codes "n"; column_type = types.Int } ∷ record { number = 2; name = codes "m"; column_type = types.Int }
        ∷ record { number = 3; name = codes "o"; column_type = types.Int } ∷ [];
    features = (1, record { geometry = Point (record { x = pos 3; y = pos 4 }); values = (1, values.Int (pos 5)) ∷ (2, values.Int (pos 6)) ∷ (3, values.Int (pos 6)) ∷ [] })
        ∷ (2, record { geometry = Point (record { x = pos 3; y = pos 4 }); values = (1, values.Int (pos 7)) ∷ (2, values.Int (pos 6)) ∷ [] }) ∷ [];
  },
) ∷ []

-- a rule that demands something of the values in a column of the layer
abbrev demanding : List ℕ → Demand → List ℕ → Rule
demanding title demand column = record { name = title; says = OfValues (record { demand = demand; layer = codes "a"; column = column }) }

abbrev once : Rule
once = demanding (codes "once") Unique (codes "n")

abbrev known : Rule
known = demanding (codes "all") Required (codes "n")

abbrev valued : Ruled
valued = record { content = measured; rules = once ∷ known ∷ demanding (codes "o") Unique (codes "o") ∷ [] }

pub once_bytes : rule_bytes once ≡ 4 ∷ codes "once" ++ 3 ∷ 1 ∷ 97 ∷ 1 ∷ 110 ∷ []
once_bytes = refl

pub known_bytes : rule_bytes known ≡ 3 ∷ codes "all" ++ 4 ∷ 1 ∷ 97 ∷ 1 ∷ 110 ∷ []
known_bytes = refl

-- the bytes up to the number of rules
abbrev measured_part : List ℕ
measured_part = take 155 (canonical measured)

pub measured_length : length measured_part ≡ 155
measured_length = refl

pub valued_bytes : canonical_ruled valued ≡ measured_part ++ 0 ∷ 3 ∷ (4 ∷ codes "once" ++ 3 ∷ 1 ∷ 97 ∷ 1 ∷ 110 ∷ 3 ∷ codes "all" ++ 4 ∷ 1 ∷ 97 ∷ 1 ∷ 110 ∷ 1 ∷ 111 ∷ 3 ∷ 1 ∷ 97 ∷ 1 ∷ 111 ∷ [])
valued_bytes = refl

pub valued_loads : load (canonical_ruled valued) ≡ Ok valued
valued_loads = refl

-- a rule of the name r behind the layer, and what comes after its name
abbrev of_measured : List ℕ → List ℕ
of_measured rest = measured_part ++ 0 ∷ 1 ∷ 1 ∷ 114 ∷ rest

-- the same of the third version
abbrev third_of_measured : List ℕ → List ℕ
third_of_measured rest = codes "SFSTORE3" ++ 24 ∷ drop 9 (of_measured rest)

pub unknown_form : load (of_measured (9 ∷ 1 ∷ 97 ∷ 1 ∷ 110 ∷ [])) ≡ Err (159, 34)
unknown_form = refl

pub no_layer : load (of_measured (3 ∷ 1 ∷ 99 ∷ 1 ∷ 110 ∷ [])) ≡ Err (160, 18)
no_layer = refl

pub no_column : load (of_measured (3 ∷ 1 ∷ 97 ∷ 1 ∷ 112 ∷ [])) ≡ Err (162, 22)
no_column = refl

pub column_no_name : load (of_measured (4 ∷ 1 ∷ 97 ∷ 1 ∷ 32 ∷ [])) ≡ Err (162, 20)
column_no_name = refl

pub column_cut_off : load (of_measured (4 ∷ 1 ∷ 97 ∷ 1 ∷ [])) ≡ Err (163, 7)
column_cut_off = refl

-- two points have the same value of m
pub value_twice : load (of_measured (3 ∷ 1 ∷ 97 ∷ 1 ∷ 109 ∷ [])) ≡ Err (157, 37)
value_twice = refl

-- a point has no value of o
pub value_missing : load (of_measured (4 ∷ 1 ∷ 97 ∷ 1 ∷ 111 ∷ [])) ≡ Err (157, 37)
value_missing = refl

-- the third version has no rules on values
pub third_unique : load (third_of_measured (3 ∷ 1 ∷ 97 ∷ 1 ∷ 110 ∷ [])) ≡ Err (159, 34)
third_unique = refl

pub third_required : load (third_of_measured (4 ∷ 1 ∷ 97 ∷ 1 ∷ 110 ∷ [])) ≡ Err (159, 34)
third_required = refl

-- ---- rules that name values

-- a whole number of eight bytes
abbrev eight : ℕ → List ℕ
eight n = 0 ∷ 0 ∷ 0 ∷ 0 ∷ 0 ∷ 0 ∷ 0 ∷ n ∷ []

pub int_bytes : named_bytes (values.Int (negsuc 0)) ≡ 1 ∷ 255 ∷ 255 ∷ 255 ∷ 255 ∷ 255 ∷ 255 ∷ 255 ∷ 255 ∷ []
int_bytes = refl

pub text_bytes : named_bytes (values.Text (codes "red")) ≡ 2 ∷ 0 ∷ 3 ∷ codes "red"
text_bytes = refl

-- 1.5
abbrev one_and_a_half : AttrValue
one_and_a_half = values.Decimal (record { mantissa = pos 15; places = 1 })

pub decimal_bytes : named_bytes one_and_a_half ≡ 3 ∷ (eight 15 ++ 1 ∷ [])
decimal_bytes = refl

pub bool_bytes : named_bytes (values.Bool true) ≡ 4 ∷ 1 ∷ []
bool_bytes = refl

-- 29 February 2024, and half a second before its end
abbrev leap_day : AttrValue
leap_day = values.Date (record { year = 2024; month = 2; day = 29 })

abbrev late : AttrValue
late = values.DateTime (record { date = record { year = 2024; month = 2; day = 29 }; millisecond = 86399500 })

pub date_bytes : named_bytes leap_day ≡ 5 ∷ 7 ∷ 232 ∷ 2 ∷ 29 ∷ []
date_bytes = refl

pub moment_bytes : named_bytes late ≡ 6 ∷ 7 ∷ 232 ∷ 2 ∷ 29 ∷ 5 ∷ 38 ∷ 90 ∷ 12 ∷ []
moment_bytes = refl

abbrev few : Rule
few = demanding (codes "few") (OneOf (values.Int (pos 5) ∷ values.Int (pos 7) ∷ [])) (codes "n")

abbrev between : Rule
between = demanding (codes "mid") (InRange (record { from = Some (values.Int (pos 5)); to = Some (values.Int (pos 7)) })) (codes "n")

-- each has an end, and the feature without a value of o breaks none
abbrev low : Rule
low = demanding (codes "low") (InRange (record { from = None; to = Some (values.Int (pos 6)) })) (codes "o")

abbrev high : Rule
high = demanding (codes "high") (InRange (record { from = Some (values.Int (pos 6)); to = None })) (codes "o")

pub few_bytes : rule_bytes few ≡ 3 ∷ codes "few" ++ 5 ∷ 1 ∷ 97 ∷ 1 ∷ 110 ∷ 0 ∷ 2 ∷ (1 ∷ eight 5 ++ 1 ∷ eight 7)
few_bytes = refl

pub between_bytes : rule_bytes between ≡ 3 ∷ codes "mid" ++ 6 ∷ 1 ∷ 97 ∷ 1 ∷ 110 ∷ 3 ∷ (1 ∷ eight 5 ++ 1 ∷ eight 7)
between_bytes = refl

pub low_bytes : rule_bytes low ≡ 3 ∷ codes "low" ++ 6 ∷ 1 ∷ 97 ∷ 1 ∷ 111 ∷ 2 ∷ 1 ∷ eight 6
low_bytes = refl

pub high_bytes : rule_bytes high ≡ 4 ∷ codes "high" ++ 6 ∷ 1 ∷ 97 ∷ 1 ∷ 111 ∷ 1 ∷ 1 ∷ eight 6
high_bytes = refl

abbrev listed : Ruled
listed = record { content = measured; rules = few ∷ between ∷ low ∷ high ∷ [] }

pub listed_loads : load (canonical_ruled listed) ≡ Ok listed
listed_loads = refl

-- a layer with a column of each type that has more than numbers of 64 bits, and no feature
abbrev typed : Content
typed = (
  codes "a",
  record {
    kind = Only kinds.Point;
    next_id = 1;
    next_column = 6;
    columns = record { number = 1; name = codes "t"; column_type = types.Text } ∷ record { number = 2; name = codes "d"; column_type = types.Decimal }
        ∷ record { number = 3; name = codes "b"; column_type = types.Bool } ∷ record { number = 4; name = codes "y"; column_type = types.Date }
        ∷ record { number = 5; name = codes "m"; column_type = types.DateTime } ∷ [];
    features = [];
  },
) ∷ []

-- a column of decimals has whole numbers too, and these are written as such
abbrev named_of_each : Ruled
named_of_each = record {
  content = typed;
  rules = demanding (codes "t") (OneOf (values.Text (codes "red") ∷ values.Text [] ∷ [])) (codes "t") ∷ demanding (codes "d") (OneOf (values.Int (pos 2) ∷ one_and_a_half ∷ [])) (codes "d")
      ∷ demanding (codes "e") (InRange (record { from = Some one_and_a_half; to = Some (values.Int (pos 2)) })) (codes "d") ∷ demanding (codes "b") (OneOf (values.Bool true ∷ [])) (codes "b")
      ∷ demanding (codes "y") (InRange (record { from = Some leap_day; to = None })) (codes "y") ∷ demanding (codes "m") (InRange (record { from = None; to = Some late })) (codes "m") ∷ [];
}

pub named_of_each_loads : load (canonical_ruled named_of_each) ≡ Ok named_of_each
unfolding is_utf8 chars encode
named_of_each_loads = refl

-- a rule on n that demands one of several values, or a range, behind the form, the layer and the column
abbrev of_few : List ℕ → List ℕ
of_few rest = of_measured (5 ∷ 1 ∷ 97 ∷ 1 ∷ 110 ∷ rest)

abbrev of_range : List ℕ → List ℕ
of_range rest = of_measured (6 ∷ 1 ∷ 97 ∷ 1 ∷ 110 ∷ rest)

pub no_value : load (of_few (0 ∷ 0 ∷ [])) ≡ Err (164, 24)
no_value = refl

pub too_many_values : load (of_few (3 ∷ 233 ∷ [])) ≡ Err (164, 24)
too_many_values = refl

pub count_cut_off : load (of_few (0 ∷ [])) ≡ Err (165, 7)
count_cut_off = refl

pub most_values_cut_off : load (of_few (3 ∷ 232 ∷ [])) ≡ Err (166, 7)
most_values_cut_off = refl

pub value_of_no_type : load (of_few (0 ∷ 1 ∷ 7 ∷ [])) ≡ Err (166, 24)
value_of_no_type = refl

pub value_cut_off : load (of_few (0 ∷ 1 ∷ 1 ∷ 0 ∷ [])) ≡ Err (168, 7)
value_cut_off = refl

-- a text has no place in a column of whole numbers, nor has a number with places
pub text_of_numbers : load (of_few (0 ∷ 1 ∷ 2 ∷ 0 ∷ 1 ∷ 97 ∷ [])) ≡ Err (166, 24)
unfolding is_utf8 chars encode
text_of_numbers = refl

pub fraction_of_numbers : load (of_few (0 ∷ 1 ∷ 3 ∷ (eight 15 ++ 1 ∷ []))) ≡ Err (166, 24)
fraction_of_numbers = refl

pub second_of_numbers : load (of_few (0 ∷ 2 ∷ 1 ∷ (eight 5 ++ 4 ∷ 1 ∷ []))) ≡ Err (175, 24)
second_of_numbers = refl

-- a text with the byte 0, a truth value of no byte, a day that there is not, a number that isn't in its one form
pub damaged_text : load (of_few (0 ∷ 1 ∷ 2 ∷ 0 ∷ 1 ∷ 0 ∷ [])) ≡ Err (167, 24)
unfolding is_utf8 chars encode
damaged_text = refl

pub damaged_bool : load (of_few (0 ∷ 1 ∷ 4 ∷ 2 ∷ [])) ≡ Err (167, 24)
damaged_bool = refl

pub damaged_date : load (of_few (0 ∷ 1 ∷ 5 ∷ 7 ∷ 231 ∷ 2 ∷ 29 ∷ [])) ≡ Err (167, 24)
damaged_date = refl

pub damaged_decimal : load (of_few (0 ∷ 1 ∷ 3 ∷ (eight 150 ++ 2 ∷ []))) ≡ Err (167, 24)
damaged_decimal = refl

-- a whole number that is written as a decimal, also in a column of decimals
pub whole_decimal : load (of_few (0 ∷ 1 ∷ 3 ∷ (eight 5 ++ 0 ∷ []))) ≡ Err (167, 24)
whole_decimal = refl

-- the same behind the layer with a column of each type
abbrev typed_part : List ℕ
typed_part = take (length (canonical typed) - 2) (canonical typed)

pub whole_among_decimals : load (typed_part ++ 0 ∷ 1 ∷ 1 ∷ 114 ∷ 5 ∷ 1 ∷ 97 ∷ 1 ∷ 100 ∷ 0 ∷ 1 ∷ 3 ∷ (eight 5 ++ 0 ∷ [])) ≡ Err (length typed_part + 12, 24)
whole_among_decimals = refl

-- one of the points has the value 7
pub value_of_none : load (of_few (0 ∷ 1 ∷ 1 ∷ eight 5)) ≡ Err (157, 37)
value_of_none = refl

pub no_end : load (of_range (0 ∷ [])) ≡ Err (164, 34)
no_end = refl

pub ends_of_no_byte : load (of_range (4 ∷ 1 ∷ eight 5)) ≡ Err (164, 34)
ends_of_no_byte = refl

pub ends_cut_off : load (of_range []) ≡ Err (164, 7)
ends_cut_off = refl

pub last_end_cut_off : load (of_range (3 ∷ 1 ∷ eight 5)) ≡ Err (174, 7)
last_end_cut_off = refl

pub end_of_text : load (of_range (3 ∷ 1 ∷ (eight 5 ++ 2 ∷ 0 ∷ 0 ∷ []))) ≡ Err (174, 24)
unfolding is_utf8 chars encode
end_of_text = refl

-- a range may be of one value, and the first end is not behind the second
pub range_of_one : load (of_range (3 ∷ 1 ∷ (eight 5 ++ 1 ∷ eight 5))) ≡ Err (157, 37)
range_of_one = refl

pub ends_turned : load (of_range (3 ∷ 1 ∷ (eight 7 ++ 1 ∷ eight 5))) ≡ Err (164, 24)
ends_turned = refl

pub value_behind : load (of_range (2 ∷ 1 ∷ eight 6)) ≡ Err (157, 37)
value_behind = refl

-- the third version has none of these
pub third_few : load (third_of_measured (5 ∷ 1 ∷ 97 ∷ 1 ∷ 110 ∷ 0 ∷ 1 ∷ 1 ∷ eight 5)) ≡ Err (159, 34)
third_few = refl

pub third_range : load (third_of_measured (6 ∷ 1 ∷ 97 ∷ 1 ∷ 110 ∷ 2 ∷ 1 ∷ eight 6)) ≡ Err (159, 34)
third_range = refl

-- ---- the file that the pages show

abbrev shown : Ruled
shown = record {
  content = (
    codes "wells",
    record {
      kind = Only kinds.Point;
      next_id = 1;
      next_column = 3;
      columns = record { number = 1; name = codes "kind"; column_type = types.Text } ∷ record { number = 2; name = codes "depth"; column_type = types.Decimal } ∷ [];
      features = [];
    },
  ) ∷ [];
  rules = record {
    name = codes "kinds";
    says = OfValues (record { demand = OneOf (values.Text (codes "dug") ∷ values.Text (codes "bored") ∷ []); layer = codes "wells"; column = codes "kind" });
  } ∷ record {
    name = codes "deep";
    says = OfValues (record {
      demand = InRange (record { from = Some (values.Decimal (record { mantissa = pos 5; places = 1 })); to = Some (values.Int (pos 300)) });
      layer = codes "wells";
      column = codes "depth";
    });
  } ∷ [];
}

pub shown_bytes : canonical_ruled shown ≡ codes "SFSTORE4" ++ 31 ∷ 0 ∷ 0 ∷ 0 ∷ 1 ∷ 5 ∷ codes "wells" ++ 1 ∷ 0 ∷ 0 ∷ 0 ∷ 1 ∷ 0 ∷ 3 ∷ 0 ∷ 2 ∷ 0 ∷ 1 ∷ 2 ∷ 4 ∷ codes "kind" ++ 0 ∷ 2 ∷ 3 ∷ 5 ∷ codes "depth"
    ++ 0 ∷ 0 ∷ 0 ∷ 0 ∷ 0 ∷ 2 ∷ 5 ∷ codes "kinds" ++ 5 ∷ 5 ∷ codes "wells" ++ 4 ∷ codes "kind" ++ 0 ∷ 2 ∷ 2 ∷ 0 ∷ 3 ∷ codes "dug" ++ 2 ∷ 0 ∷ 5 ∷ codes "bored"
    ++ 4 ∷ codes "deep" ++ 6 ∷ 5 ∷ codes "wells" ++ 5 ∷ codes "depth" ++ 3 ∷ 3 ∷ 0 ∷ 0 ∷ 0 ∷ 0 ∷ 0 ∷ 0 ∷ 0 ∷ 5 ∷ 1 ∷ 1 ∷ 0 ∷ 0 ∷ 0 ∷ 0 ∷ 0 ∷ 0 ∷ 1 ∷ 44 ∷ []
shown_bytes = refl

pub shown_loads : load (canonical_ruled shown) ≡ Ok shown
unfolding is_utf8 chars encode
shown_loads = refl
