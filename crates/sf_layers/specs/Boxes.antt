-- Internal: who wants to trust the program need not read this file.
-- The boxes of a layer's features, by identifier: what its index has, where it has one.
use Rattle.std.specs.Prelude.{◌≡◌, ℕ, List, map, Option, IfSome}
use Rattle.sf_geometry.specs.declared.extent.Extent.{Extent}
use Rattle.sf_geometry.specs.Envelope.{envelope_of}
use Rattle.sf_features.specs.Features.{FeatureContent}
use Rattle.sf_rtree.specs.Indexes.{Boxes}

-- the identifier of a feature with its box
abbrev pub box_entry : ℕ × FeatureContent → ℕ × Extent
box_entry entry = (entry.0, envelope_of entry.1.geometry)

-- the boxes of features
abbrev pub boxes_of : List (ℕ × FeatureContent) → Boxes
boxes_of features = map box_entry features

-- an index, where there is one, has just the boxes of the features
abbrev pub Agrees : Option Boxes → List (ℕ × FeatureContent) → Type 0
Agrees index features = IfSome index (λ boxes. boxes ≡ boxes_of features)
