-- Which features of a layer have a value that is asked for: one value, or any between two ends.
use Rattle.std.specs.Prelude.{ℕ, Bool, true, false, ◌&&◌, List, filter, Option, Some}
use Rattle.std.specs.Map.{keys_of}
use Rattle.std.specs.Option.{option_map_or}
use Rattle.std.specs.Ordering.{is_gt, is_le}
use Rattle.sf_features.specs.declared.attr_value.AttrValue.{AttrValue}
use Rattle.sf_features.specs.Features.{FeatureContent, value_in}
use Rattle.sf_features.specs.Order.{value_cmp}
use Rattle.sf_features.specs.Values.{same_value}
use Rattle.sf_layers.specs.Content.{LayerContent}

-- whether a feature has a value in the column of a number that passes a test
abbrev pub has_value_that : (AttrValue → Bool) → ℕ → FeatureContent → Bool
has_value_that test number feature = option_map_or test (value_in number feature) false

-- the identifiers of the features that have such a value, rising as those of the layer do
abbrev pub ids_where : (AttrValue → Bool) → ℕ → LayerContent → List ℕ
ids_where test number layer = keys_of (filter (λ entry. has_value_that test number entry.1) layer.features)

-- the identifiers of the features that have this value in the column of a number
abbrev pub ids_with_value : ℕ → AttrValue → LayerContent → List ℕ
ids_with_value number value layer = ids_where (same_value value) number layer

-- whether a value is at an end or behind it; where no end is given each is
abbrev pub is_from : Option AttrValue → AttrValue → Bool
is_from from value = option_map_or (λ end. is_le (value_cmp end value)) from true

-- whether a value is at an end or before it; where no end is given each is
abbrev pub is_up_to : Option AttrValue → AttrValue → Bool
is_up_to to value = option_map_or (λ end. is_le (value_cmp value end)) to true

-- whether a value is between two ends, or at one of them, in the order of values
abbrev pub is_between : Option AttrValue → Option AttrValue → AttrValue → Bool
is_between from to value = is_from from value && is_up_to to value

-- the identifiers of the features that have a value between two ends in the column of a number
abbrev pub ids_between : ℕ → Option AttrValue → Option AttrValue → LayerContent → List ℕ
ids_between number from to layer = ids_where (is_between from to) number layer

-- whether nothing is between two ends, as the first is behind the second
abbrev pub are_apart : Option AttrValue → Option AttrValue → Bool
are_apart (Some from) (Some to) = is_gt (value_cmp from to)
are_apart from to = false
