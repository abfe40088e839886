-- What is asked of two features: their matrix, or how far apart they are.
use Rattle.std.specs.Prelude.{◌↔◌, ℕ, Bool, false, List, IsTrue, filter}
use Rattle.std.specs.Map.{keys_of}
use Rattle.sf_geometry.specs.declared.geometry.Geometry.{Geometry}
use Rattle.sf_valid_rules.specs.Validity.{IsValid}
use Rattle.sf_plane.specs.declared.dim.Dim.{Dim}
use Rattle.sf_relate.specs.Matrices.{IsMatrix}
use Rattle.sf_distance.specs.Reaches.{square_of_reach}
use Rattle.sf_distance.specs.Squares.{IsWithin}
use Rattle.sf_nearness.specs.Sets.{IsOf}
use Rattle.sf_layers.specs.Content.{LayerContent}
use Rattle.sf_query.specs.Answers.{is_answered, is_asked, needs_contact}
use Rattle.sf_near.specs.Answers.{is_within_of}
use Rattle.sf_near.specs.declared.pair_ask.PairAsk.{PairAsk}
use Rattle.sf_near.specs.declared.pair_ask.PairAsk.TheVariants.{Matrix, Near}

-- whether two geometries are as asked, as it is computed
abbrev pub are_asked : PairAsk → Geometry → Geometry → Bool
are_asked (Matrix ask) a b = is_asked ask a b
are_asked (Near reach) a b = is_within_of (square_of_reach reach) a b

-- two geometries are as asked, over all points of the plane
abbrev pub AreAsked : PairAsk → Geometry → Geometry → Type 0
AreAsked (Matrix ask) a b = (entries : List Dim) × IsMatrix a b entries × IsTrue (is_answered ask a b entries)
AreAsked (Near reach) a b = IsWithin (IsOf a) (IsOf b) (square_of_reach reach)

-- of valid geometries what is computed is just that
abbrev pub AsksAreOverThePlane : Type 0
AsksAreOverThePlane = (ask : PairAsk) (a b : Geometry) → IsValid a → IsValid b → IsTrue (are_asked ask a b) ↔ AreAsked ask a b

-- whether only geometries that share a point are as asked
abbrev pub pair_needs_contact : PairAsk → Bool
pair_needs_contact (Matrix ask) = needs_contact ask
pair_needs_contact (Near reach) = false

-- computes the identifiers of the features of a layer that are as asked with a geometry; rising
abbrev pub ids_asked : LayerContent → PairAsk → Geometry → List ℕ
ids_asked layer ask b = keys_of (filter (λ entry. are_asked ask entry.1.geometry b) layer.features)
