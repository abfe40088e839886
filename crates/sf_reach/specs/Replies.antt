-- What the calls answer: as it is computed, and over all points of the plane.
use Rattle.std.specs.Prelude.{◌≡◌, ◌↔◌, ℕ, Bool, List, Option, Some, None, Result, Ok, Err, Contains, IsSome}
use Rattle.std.specs.Global.{Vec}
use Rattle.std.specs.List.Sorted.{IsStrictlySortedBy}
use Rattle.std.specs.List.{AllByRecursion}
use Rattle.std.specs.Map.{keys_of}
use Rattle.std.specs.Ordering.{nat_cmp}
use Rattle.sf_layers.specs.Content.{LayerContent, feature_of}
use Rattle.sf_query.specs.declared.ask.Ask.{Ask}
use Rattle.sf_query.specs.declared.refusal.Refusal.{Refusal}
use Rattle.sf_query.specs.declared.refusal.Refusal.TheVariants.{Memory, NoLayer, NoFeature}
use Rattle.sf_reach.specs.Chains.{IsReached, Stop}
use Rattle.sf_reach.specs.Answers.{ids_reached}

-- just the features are listed that chains lead to from the given ones, rising
pub record AreReached (layer : LayerContent) (ask : Ask) (stop : Option Stop) (given ids : List ℕ) : Type 0 where
  pub rising : IsStrictlySortedBy nat_cmp ids
  pub just : (id : ℕ) → Contains ids id ↔ IsReached layer ask stop given id

-- all the given identifiers are of features of the layer
abbrev pub AreThere : LayerContent → List ℕ → Type 0
AreThere layer given = AllByRecursion (λ id. IsSome (feature_of layer id)) given

-- where chains end by a layer, its identifiers rise
abbrev pub StopRises : Option Stop → Type 0
StopRises None = Unit {0}
StopRises (Some stop) = IsStrictlySortedBy nat_cmp (keys_of stop.layer.features)

-- of layers whose identifiers rise what is computed are just those
abbrev pub ReachedIsOverThePlane : Type 0
ReachedIsOverThePlane =
    (layer : LayerContent) (ask : Ask) (stop : Option Stop) (given : List ℕ) → IsStrictlySortedBy nat_cmp (keys_of layer.features)
    → StopRises stop → AreThere layer given → AreReached layer ask stop given (ids_reached layer ask stop given)

-- of layers that are there: NoFeature where a given one is none of the layer, else out of memory in the place of an answer alone
abbrev pub IsReachOf : LayerContent → Ask → Option Stop → List ℕ → Result (Vec ℕ) Refusal → Type 0
IsReachOf layer ask stop given (Ok ids) =
    AreThere layer given × (ids.items ≡ ids_reached layer ask stop given) × AreReached layer ask stop given ids.items
IsReachOf layer ask stop given (Err NoFeature) = ¬ AreThere layer given
IsReachOf layer ask stop given (Err Memory) = AreThere layer given
IsReachOf layer ask stop given (Err NoLayer) = ⊥

-- of a name: NoLayer where the layer is missing
abbrev pub IsReach : Option LayerContent → Ask → List ℕ → Result (Vec ℕ) Refusal → Type 0
IsReach None ask given result = result ≡ Err NoLayer
IsReach (Some layer) ask given result = IsReachOf layer ask None given result

-- of two names: NoLayer where a layer is missing; chains end by the second, which is the own one where `one` says so
abbrev pub IsReachUntil : Bool → Option LayerContent → Ask → Option LayerContent → Ask → List ℕ → Result (Vec ℕ) Refusal → Type 0
IsReachUntil one None ask until end_ask given result = result ≡ Err NoLayer
IsReachUntil one (Some layer) ask None end_ask given result = result ≡ Err NoLayer
IsReachUntil one (Some layer) ask (Some until) end_ask given result =
    IsReachOf layer ask (Some (record { is_own = one; layer = until; ask = end_ask })) given result
