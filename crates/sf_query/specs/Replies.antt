-- What the calls of queries answer: as it is computed, and over all points of the plane.
use Rattle.std.specs.Prelude.{◌≡◌, ◌↔◌, ℕ, List, Option, Some, None, Result, Ok, Err, Contains, IsTrue}
use Rattle.std.specs.List.Sorted.{IsStrictlySortedBy}
use Rattle.std.specs.Map.{keys_of}
use Rattle.std.specs.Ordering.{nat_cmp}
use Rattle.sf_geometry.specs.declared.geometry.Geometry.{Geometry}
use Rattle.sf_features.specs.Features.{FeatureContent}
use Rattle.sf_layers.specs.Content.{LayerContent, feature_of}
use Rattle.sf_plane.specs.declared.dim.Dim.{Dim}
use Rattle.sf_known.specs.declared.matrix.Matrix.{Matrix}
use Rattle.sf_relate.specs.Matrices.{IsMatrix, matrix_of}
use Rattle.sf_query.specs.declared.ask.Ask.{Ask}
use Rattle.sf_query.specs.declared.found.Found.{Found}
use Rattle.sf_query.specs.declared.refusal.Refusal.{Refusal}
use Rattle.sf_query.specs.declared.refusal.Refusal.TheVariants.{Memory, NoLayer, NoFeature}
use Rattle.sf_query.specs.Answers.{IsAnswer, ids_found, is_answered}

-- just the features whose matrix over the plane is as asked are listed, rising
pub record AreFound (layer : LayerContent) (ask : Ask) (b : Geometry) (ids : List ℕ) : Type 0 where
  pub rising : IsStrictlySortedBy nat_cmp ids
  pub just : (id : ℕ) → Contains ids id
      ↔ ((feature : FeatureContent) × (entries : List Dim) × (feature_of layer id ≡ Some feature)
      × IsMatrix feature.geometry b entries × IsTrue (is_answered ask feature.geometry b entries))

-- of any layer whose identifiers rise what is computed are just those
abbrev pub AnswersAreOverThePlane : Type 0
AnswersAreOverThePlane =
    (layer : LayerContent) (ask : Ask) (b : Geometry) → IsStrictlySortedBy nat_cmp (keys_of layer.features)
    → AreFound layer ask b (ids_found layer ask b)

-- of a query
abbrev pub IsQueried : Option LayerContent → Ask → Geometry → Result Found Refusal → Type 0
IsQueried None ask b result = result ≡ Err NoLayer
IsQueried (Some layer) ask b (Ok found) = IsAnswer layer ask b found × AreFound layer ask b found.ids.items
IsQueried (Some layer) ask b (Err refusal) = refusal ≡ Memory

-- of a single feature
abbrev pub IsRelatedTo : Option FeatureContent → Geometry → Result Matrix Refusal → Type 0
IsRelatedTo None b result = result ≡ Err NoFeature
IsRelatedTo (Some feature) b (Ok matrix) = (matrix.0 ≡ matrix_of feature.geometry b) × IsMatrix feature.geometry b matrix.0
IsRelatedTo (Some feature) b (Err refusal) = refusal ≡ Memory

abbrev pub IsRelated : Option LayerContent → ℕ → Geometry → Result Matrix Refusal → Type 0
IsRelated None id b result = result ≡ Err NoLayer
IsRelated (Some layer) id b result = IsRelatedTo (feature_of layer id) b result
