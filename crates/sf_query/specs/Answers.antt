-- What a query answers: the features of a layer whose matrix with the given geometry is as it asks.
use Rattle.std.specs.Prelude.{◌≡◌, ℕ, Bool, true, false, List, filter, length, if◌then◌else◌}
use Rattle.std.specs.Map.{keys_of}
use Rattle.std.specs.Option.{option_map_or}
use Rattle.sf_geometry.specs.declared.geometry.Geometry.{Geometry}
use Rattle.sf_geometry.specs.Envelope.{envelope_of, extents_meet}
use Rattle.sf_geometry.specs.Kinds.{dimension_of, kind_of}
use Rattle.sf_features.specs.Features.{FeatureContent}
use Rattle.sf_layers.specs.Content.{LayerContent, feature_of}
use Rattle.sf_plane.specs.declared.dim.Dim.{Dim}
use Rattle.sf_plane.specs.Unions.{dim_of}
use Rattle.sf_relate.specs.Matrices.{matrix_of}
use Rattle.sf_known.specs.Patterns.{asks_contact, matches}
use Rattle.sf_known.specs.declared.predicate.Predicate.TheVariants.{Disjoint, Intersects}
use Rattle.sf_known.specs.Predicates.{holds, predicate_asks_contact}
use Rattle.sf_query.specs.declared.ask.Ask.{Ask}
use Rattle.sf_query.specs.declared.ask.Ask.TheVariants.{Matching, Named}
use Rattle.sf_query.specs.declared.found.Found.{Found}

-- the dimension of a geometry's kind
abbrev pub dim_of_geometry : Geometry → Dim
dim_of_geometry a = dim_of (dimension_of (kind_of a))

-- a matrix with these entries, of a feature's geometry a with the given b, is as asked
abbrev pub is_answered : Ask → Geometry → Geometry → List Dim → Bool
is_answered (Matching letters) a b entries = matches letters entries
is_answered (Named predicate) a b entries = holds predicate (dim_of_geometry a) (dim_of_geometry b) entries

-- the feature's geometry a and the given b are as asked, by the matrix that is computed
abbrev pub is_asked : Ask → Geometry → Geometry → Bool
is_asked ask a b = is_answered ask a b (matrix_of a b)

-- the ask needs geometries that share a point
abbrev pub needs_contact : Ask → Bool
needs_contact (Matching letters) = asks_contact letters
needs_contact (Named predicate) = predicate_asks_contact predicate

-- it names contact, or its absence
abbrev pub is_of_contact : Ask → Bool
is_of_contact (Named Intersects) = true
is_of_contact (Named Disjoint) = true
is_of_contact ask = false

-- computes the identifiers of the features that answer (AreFound), as the law AnswersAreOverThePlane says; rising
abbrev pub ids_found : LayerContent → Ask → Geometry → List ℕ
ids_found layer ask b = keys_of (filter (λ entry. is_asked ask entry.1.geometry b) layer.features)

-- so is the feature under an identifier, which is there
abbrev pub is_asked_at : LayerContent → Ask → Geometry → ℕ → Bool
is_asked_at layer ask b id = option_map_or (λ feature. is_asked ask feature.geometry b) (feature_of layer id) false

-- the boxes of the feature and of the given geometry share a point
abbrev pub is_near : Geometry → ℕ × FeatureContent → Bool
is_near b entry = extents_meet (envelope_of entry.1.geometry) (envelope_of b)

-- how many features have to be looked at: those that are near where contact is needed, else all
abbrev pub looked_at : LayerContent → Ask → Geometry → ℕ
looked_at layer ask b =
    length (if needs_contact ask then filter (is_near b) layer.features else layer.features)

-- the answer of a query
pub record IsAnswer (layer : LayerContent) (ask : Ask) (b : Geometry) (found : Found) : Type 0 where
  pub ids : found.ids.items ≡ ids_found layer ask b
  pub looked : found.looked ≡ looked_at layer ask b
