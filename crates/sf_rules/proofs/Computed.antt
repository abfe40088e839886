-- Rules computed, of squares and wells.
use Rattle.std.proofs.Common.{◌≡◌, ℕ, true, false, List, [], ◌∷◌, pos, Some, None, codes, refl}
use Rattle.sf_grid.specs.Plane.{Coordinates}
use Rattle.sf_geometry.specs.declared.geometry.Geometry.TheVariants.{Point, Polygon}
use Rattle.sf_features.specs.Features.{FeatureContent}
use Rattle.sf_layers.specs.Content.{Content, LayerContent}
use Rattle.sf_layers.specs.declared.layer_kind.LayerKind.TheVariants.{Any}
use Rattle.sf_known.specs.declared.predicate.Predicate.TheVariants.{Intersects}
use Rattle.sf_known.specs.declared.letter.Letter.TheVariants as letters
use Rattle.sf_joins.specs.Passed.{PairAsk}
use Rattle.sf_joins.specs.Passed.{Matrix}
use Rattle.sf_joins.specs.Passed.{Matching, Named}
use Rattle.sf_rules.specs.declared.breaks.Break.TheVariants.{Alone, Pair}
use Rattle.sf_rules.specs.declared.rule.Form.TheVariants.{Each, Never}
use Rattle.sf_rules.specs.declared.rule.Rule.{Rule}
use Rattle.sf_rules.specs.declared.rule.Demand.{Demand}
use Rattle.sf_rules.specs.declared.rule.Demand.TheVariants.{InRange, OneOf, Required, Unique}
use Rattle.sf_rules.specs.declared.rule.Says.TheVariants.{OfLayers, OfValues}
use Rattle.sf_features.specs.declared.attr_value.AttrValue.{AttrValue}
use Rattle.sf_features.specs.declared.attr_value.AttrValue.TheVariants as values
use Rattle.sf_features.specs.declared.column.Column.{Column}
use Rattle.sf_features.specs.declared.column_type.ColumnType.TheVariants as types
use Rattle.sf_layers.specs.declared.value_range.ValueRange.{ValueRange}
use Rattle.sf_rules.specs.Rules.{break_of, first_broken, fits_type}

abbrev at : ℕ → ℕ → Coordinates
at x y = record { x = pos x; y = pos y }

-- a square from a west to an east side, from 0 to 10
abbrev square : ℕ → ℕ → FeatureContent
square west east = record { geometry = Polygon ((at west 0 ∷ at east 0 ∷ at east 10 ∷ at west 10 ∷ at west 0 ∷ []) ∷ []); values = [] }

abbrev well : ℕ → ℕ → FeatureContent
well x y = record { geometry = Point (at x y); values = [] }

abbrev layer : List (ℕ × FeatureContent) → LayerContent
layer features = record { kind = Any; next_id = 9; next_column = 1; columns = []; features = features }

abbrev map_with : List (ℕ × FeatureContent) → List (ℕ × FeatureContent) → Content
map_with parcels wells = (codes "parcels", layer parcels) ∷ (codes "wells", layer wells) ∷ []

-- interiors that meet
abbrev overlapping : PairAsk
overlapping = Matrix (Matching (letters.Filled ∷ letters.Any ∷ letters.Any ∷ letters.Any ∷ letters.Any ∷ letters.Any ∷ letters.Any ∷ letters.Any ∷ letters.Any ∷ []))

-- no two parcels overlap
abbrev apart : Rule
apart = record { name = codes "apart"; says = OfLayers (record { form = Never; first = codes "parcels"; ask = overlapping; second = codes "parcels" }) }

-- each well is in some parcel, or on its boundary
abbrev reached : Rule
reached = record { name = codes "reached"; says = OfLayers (record { form = Each; first = codes "wells"; ask = Matrix (Named Intersects); second = codes "parcels" }) }

abbrev two : List (ℕ × FeatureContent)
two = (1, square 0 10) ∷ (2, square 10 20) ∷ []

abbrev three : List (ℕ × FeatureContent)
three = (1, square 0 10) ∷ (2, square 10 20) ∷ (3, square 5 15) ∷ []

touching_is_fine : break_of (map_with two []) apart ≡ None
touching_is_fine = refl

overlap_breaks : break_of (map_with three []) apart ≡ Some (Pair 1 3)
overlap_breaks = refl

on_the_boundary : break_of (map_with two ((1, well 10 5) ∷ [])) reached ≡ None
on_the_boundary = refl

outside : break_of (map_with two ((1, well 10 5) ∷ (2, well 50 50) ∷ [])) reached ≡ Some (Alone 2)
outside = refl

first_of_both : first_broken (map_with three ((2, well 50 50) ∷ [])) (reached ∷ apart ∷ []) ≡ Some (record { place = 0; least = Alone 2 })
first_of_both = refl

second_of_both : first_broken (map_with three ((2, well 5 5) ∷ [])) (reached ∷ apart ∷ []) ≡ Some (record { place = 1; least = Pair 1 3 })
second_of_both = refl

layer_that_is_not_there : break_of ((codes "wells", layer []) ∷ []) reached ≡ None
layer_that_is_not_there = refl

-- ---- values

abbrev numbers : Column
numbers = record { number = 3; name = codes "number"; column_type = types.Text }

abbrev parcel : List (ℕ × AttrValue) → FeatureContent
parcel values = record { geometry = Point (at 0 0); values = values }

abbrev register : List (ℕ × FeatureContent) → Content
register features = (codes "parcels", record { kind = Any; next_id = 9; next_column = 4; columns = numbers ∷ []; features = features }) ∷ []

abbrev numbered : Demand → Rule
numbered demand = record { name = codes "numbered"; says = OfValues (record { demand = demand; layer = codes "parcels"; column = codes "number" }) }

abbrev some : List (ℕ × FeatureContent)
some = (1, parcel ((3, values.Text (codes "17/4")) ∷ [])) ∷ (2, parcel []) ∷ (5, parcel ((3, values.Text (codes "17/5")) ∷ [])) ∷ (7, parcel []) ∷ []

abbrev twice : List (ℕ × FeatureContent)
twice = (1, parcel ((3, values.Text (codes "17/4")) ∷ [])) ∷ (2, parcel []) ∷ (5, parcel ((3, values.Text (codes "17/4")) ∷ [])) ∷ []

no_value_is_no_conflict : break_of (register some) (numbered Unique) ≡ None
no_value_is_no_conflict = refl

one_value_twice : break_of (register twice) (numbered Unique) ≡ Some (Pair 1 5)
one_value_twice = refl

without_a_value : break_of (register some) (numbered Required) ≡ Some (Alone 2)
without_a_value = refl

-- a text is one of these
abbrev lots : Demand
lots = OneOf (values.Text (codes "17/4") ∷ values.Text (codes "17/6") ∷ [])

one_of_them : break_of (register twice) (numbered lots) ≡ None
one_of_them = refl

none_of_them : break_of (register some) (numbered lots) ≡ Some (Alone 5)
none_of_them = refl

abbrev measured : List (ℕ × FeatureContent)
measured = (1, parcel ((3, values.Int (pos 5)) ∷ [])) ∷ (2, parcel []) ∷ (5, parcel ((3, values.Int (pos 9)) ∷ [])) ∷ []

abbrev from_5_to : ℕ → Demand
from_5_to n = InRange (record { from = Some (values.Int (pos 5)); to = Some (values.Int (pos n)) })

-- the ends belong to it
from_end_to_end : break_of (register measured) (numbered (from_5_to 9)) ≡ None
from_end_to_end = refl

above_the_range : break_of (register measured) (numbered (from_5_to 8)) ≡ Some (Alone 5)
above_the_range = refl

below_the_range : break_of (register measured) (numbered (InRange (record { from = Some (values.Int (pos 6)); to = None }))) ≡ Some (Alone 1)
below_the_range = refl

without_a_first_end : break_of (register measured) (numbered (InRange (record { from = None; to = Some (values.Int (pos 9)) }))) ≡ None
without_a_first_end = refl

-- what may be demanded of a column of a type
abbrev sizes : Demand
sizes = OneOf (values.Int (pos 5) ∷ values.Int (pos 9) ∷ [])

numbers_fit : fits_type types.Decimal sizes ≡ true
numbers_fit = refl

numbers_are_no_texts : fits_type types.Text sizes ≡ false
numbers_are_no_texts = refl

texts_are_no_numbers : fits_type types.Int lots ≡ false
texts_are_no_numbers = refl

no_value_is_too_few : fits_type types.Text (OneOf []) ≡ false
no_value_is_too_few = refl

range_fits : fits_type types.Decimal (from_5_to 9) ≡ true
range_fits = refl

range_with_nothing_in_it : fits_type types.Int (from_5_to 4) ≡ false
range_with_nothing_in_it = refl

range_without_an_end : fits_type types.Int (InRange (record { from = None; to = None })) ≡ false
range_without_an_end = refl

another_column_says_nothing : break_of (register ((1, parcel ((2, values.Int (pos 7)) ∷ [])) ∷ (2, parcel ((2, values.Int (pos 7)) ∷ [])) ∷ [])) (numbered Unique) ≡ None
another_column_says_nothing = refl

column_that_is_not_there : break_of ((codes "parcels", layer twice) ∷ []) (numbered Unique) ≡ None
column_that_is_not_there = refl
