-- Chains of features of a layer: each is as asked with the next. As pipes that touch one another, up to a valve.
use Rattle.std.specs.Prelude.{◌≡◌, ℕ, Bool, true, List, [], ◌∷◌, Option, None, Some, Contains}
use Rattle.sf_layers.specs.Content.{LayerContent}
use Rattle.sf_query.specs.declared.ask.Ask.{Ask}
use Rattle.sf_joins.specs.Joins.{IsJoined}
use Rattle.sf_joins.specs.Passed.{Matrix}

-- where chains end: at a feature that is as asked with some feature of this layer, which may be the own one
pub record Stop : Type 0 where
  pub is_own : Bool
  pub layer : LayerContent
  pub ask : Ask

-- the feature under this identifier of the layer ends the chains that lead to it
abbrev pub IsEnd : LayerContent → Option Stop → ℕ → Type 0
IsEnd layer None i = ⊥
IsEnd layer (Some stop) i = (j : ℕ) × IsJoined stop.is_own layer (Matrix stop.ask) stop.layer i j

-- of two features of the layer the first is as asked with the second, over all points of the plane, and no end
pub record IsStep (layer : LayerContent) (ask : Ask) (stop : Option Stop) (i j : ℕ) : Type 0 where
  pub goes_on : ¬ IsEnd layer stop i
  pub joined : IsJoined true layer (Matrix ask) layer i j

-- a chain leads from the first to the last, by steps over those between
abbrev pub IsChain : LayerContent → Ask → Option Stop → ℕ → List ℕ → ℕ → Type 0
IsChain layer ask stop i [] k = i ≡ k
IsChain layer ask stop i (j ∷ rest) k = IsStep layer ask stop i j × IsChain layer ask stop j rest k

-- a chain leads from one of the given features to this one; given ones are reached by no step
pub record IsReached (layer : LayerContent) (ask : Ask) (stop : Option Stop) (given : List ℕ) (k : ℕ) : Type 0 where
  pub first : ℕ
  pub rest : List ℕ
  pub is_given : Contains given first
  pub chain : IsChain layer ask stop first rest k
