-- What the calls answer.
use Rattle.std.proofs.Common.{◌≡◌, ◌↔◌, ℕ, true, List, [], ◌∷◌, Option, Result, Ok, Err, IsErrAnd, is_some, refl, sym, subst}
use Rattle.std.specs.Global.{Vec}
use Rattle.std.specs.List.{Contains, list_all}
use Rattle.std.specs.List.Sorted.{IsStrictlySortedBy}
use Rattle.std.specs.Map.{keys_of}
use Rattle.std.specs.Ordering.{nat_cmp}
use Rattle.std.proofs.lemmas.Bool.{and_from, and_parts}
use Rattle.sf_layers.specs.Content.{LayerContent, feature_of}
use Rattle.sf_query.specs.declared.ask.Ask.{Ask}
use Rattle.sf_query.specs.declared.refusal.Refusal.{Refusal}
use Rattle.sf_query.specs.declared.refusal.Refusal.TheVariants.{Memory}
use Rattle.sf_reach.specs.Chains.{IsReached, Stop}
use Rattle.sf_reach.specs.Answers.{ids_reached}
use Rattle.sf_reach.specs.Found.{AreRising}
use Rattle.sf_reach.specs.Replies.{AreReached, AreThere, StopRises, IsReachOf}
use Rattle.sf_reach.proofs.ListLaws.{same-members}
use Rattle.sf_reach.proofs.RoundLaws.{reached_is_over_the_plane}

-- ---- whether the given ones are there

pub all-there : (layer : LayerContent) (ids : List ℕ) → list_all (λ id. is_some (feature_of layer id)) ids ≡ true → AreThere layer ids
all-there layer [] h = tt
all-there layer (id ∷ ids) h =
    let parts = and_parts (is_some (feature_of layer id)) (list_all (λ i. is_some (feature_of layer i)) ids) h in
    (parts.0, all-there layer ids parts.1)

pub there-all : (layer : LayerContent) (ids : List ℕ) → AreThere layer ids → list_all (λ id. is_some (feature_of layer id)) ids ≡ true
there-all layer [] h = refl
there-all layer (id ∷ ids) h = and_from (is_some (feature_of layer id)) (list_all (λ i. is_some (feature_of layer i)) ids) h.0 (there-all layer ids h.1)

-- ---- what was found, rising

pub rising-reached : (layer : LayerContent) (ask : Ask) (stop : Option Stop) (given found ids : List ℕ) → ((id : ℕ) → Contains found id ↔ IsReached layer ask stop given id)
    → AreRising found ids → AreReached layer ask stop given ids
rising-reached layer ask stop given found ids just rise = record {
  rising = rise.rising;
  just = λ id. (λ c. (just id).0 ((rise.just id).0 c), λ reached. (rise.just id).1 ((just id).1 reached));
}

-- only one list of identifiers is that
pub reached-same : (layer : LayerContent) (ask : Ask) (stop : Option Stop) (given ids : List ℕ) → IsStrictlySortedBy nat_cmp (keys_of layer.features) → StopRises stop → AreThere layer given
    → AreReached layer ask stop given ids → ids ≡ ids_reached layer ask stop given
reached-same layer ask stop given ids rises stop_rises given_there are =
    let law = reached_is_over_the_plane layer ask stop given rises stop_rises given_there in
    same-members ids (ids_reached layer ask stop given) are.rising law.rising
    (λ id c. (law.just id).1 ((are.just id).0 c)) (λ id c. (are.just id).1 ((law.just id).0 c))

-- out of memory in the place of an answer
pub out-of-memory : (layer : LayerContent) (ask : Ask) (stop : Option Stop) (given : List ℕ) (result : Result (Vec ℕ) Refusal) → AreThere layer given
    → IsErrAnd result (λ refusal. refusal ≡ Memory) → IsReachOf layer ask stop given result
out-of-memory layer ask stop given (Ok ids) given_there err = absurd err
out-of-memory layer ask stop given (Err refusal) given_there err = subst (λ r. IsReachOf layer ask stop given (Err r)) (sym err) given_there
