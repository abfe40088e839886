-- Steps and ends that are computed are those over the plane.
use Rattle.std.proofs.Common.{◌≡◌, ◌∙◌, ℕ, Bool, true, false, not, Option, None, Some, refl, ap, sym, subst}
use Rattle.std.specs.List.{Contains}
use Rattle.std.specs.List.Sorted.{IsStrictlySortedBy}
use Rattle.std.specs.Map.{keys_of}
use Rattle.std.specs.Ordering.{nat_cmp}
use Rattle.std.proofs.lemmas.Bool.{and_from, and_parts, eqb-true, false≢true}
use Rattle.std.proofs.lemmas.List.Elements.{All-contains, All-from_recursion}
use Rattle.std.proofs.lemmas.Map.Views.{Contains-from_lookup}
use Rattle.std.specs.Prelude.{nat_eq}
use Rattle.sf_features.specs.Features.{FeatureContent}
use Rattle.sf_layers.specs.Content.{LayerContent, feature_of}
use Rattle.sf_relate.specs.Matrices.{matrix_of}
use Rattle.sf_relate.proofs.SetLaws.{matrices_are_over_the_plane}
use Rattle.sf_query.specs.declared.ask.Ask.{Ask}
use Rattle.sf_query.specs.Answers.{is_answered, is_asked}
use Rattle.sf_query.proofs.FilterLaws.{IsFoundIn, each-found}
use Rattle.sf_joins.specs.Joins.{IsJoined, are_distinct, is_pair}
use Rattle.sf_joins.specs.Passed.{Matrix}
use Rattle.sf_reach.specs.Chains.{IsEnd, IsStep, Stop}
use Rattle.sf_reach.specs.Answers.{is_end, is_step}
use Rattle.sf_reach.specs.Replies.{StopRises}
use Rattle.sf_reach.proofs.ListLaws.{any-contains, contains-any}

-- a feature is found under its identifier
pub there : (layer : LayerContent) (e : ℕ × FeatureContent) → IsStrictlySortedBy nat_cmp (keys_of layer.features) → Contains layer.features e → feature_of layer e.0 ≡ Some e.1
there layer e rising c = All-contains (IsFoundIn layer.features) layer.features e (All-from_recursion (IsFoundIn layer.features) layer.features (each-found layer.features rising)) c

-- and what is found under one is there
pub member : (layer : LayerContent) (i : ℕ) (f : FeatureContent) → feature_of layer i ≡ Some f → Contains layer.features (i, f)
member layer i f found = Contains-from_lookup {eq = nat_eq} eqb-true i f layer.features found

-- under an identifier there is one feature
pub one-there : (layer : LayerContent) (i : ℕ) (f g : FeatureContent) → feature_of layer i ≡ Some f → feature_of layer i ≡ Some g → f ≡ g
one-there layer i f g is at = some-is f g (sym is ∙ at)
  where
    some-is : (x y : FeatureContent) → Some x ≡ Some y → x ≡ y
    some-is x y h = cc

-- a pair is joined
pub pair-joined : (one : Bool) (first : LayerContent) (ask : Ask) (second : LayerContent) (a b : ℕ × FeatureContent) → feature_of first a.0 ≡ Some a.1 → feature_of second b.0 ≡ Some b.1
    → is_pair one (Matrix ask) a b ≡ true → IsJoined one first (Matrix ask) second a.0 b.0
pair-joined one first ask second a b found other h =
    let parts = and_parts (are_distinct one a.0 b.0) (is_asked ask a.1.geometry b.1.geometry) h in
    record {
      a = a.1;
      b = b.1;
      first_there = found;
      second_there = other;
      distinct = parts.0;
      asked = (matrix_of a.1.geometry b.1.geometry, (matrices_are_over_the_plane a.1.geometry b.1.geometry).computed, parts.1);
    }

-- what is joined is a pair
pub joined-pair : (one : Bool) (first : LayerContent) (ask : Ask) (second : LayerContent) (i j : ℕ) (f : FeatureContent) → feature_of first i ≡ Some f
    → (joined : IsJoined one first (Matrix ask) second i j) → is_pair one (Matrix ask) (i, f) (j, joined.b) ≡ true
joined-pair one first ask second i j f found joined =
    subst (λ x. is_pair one (Matrix ask) (i, x) (j, joined.b) ≡ true) (one-there first i joined.a f joined.first_there found)
    (and_from (are_distinct one i j) (is_asked ask joined.a.geometry joined.b.geometry) joined.distinct
    (subst (λ entries. is_answered ask joined.a.geometry joined.b.geometry entries ≡ true)
    ((matrices_are_over_the_plane joined.a.geometry joined.b.geometry).only joined.asked.0 joined.asked.1) joined.asked.2))

-- ---- ends

pub end-computed : (layer : LayerContent) (stop : Option Stop) (i : ℕ) (f : FeatureContent) → feature_of layer i ≡ Some f → IsEnd layer stop i → is_end stop (i, f) ≡ true
end-computed layer None i f found h = absurd h
end-computed layer (Some stop) i f found h =
    let joined = h.1 in
    contains-any (is_pair stop.is_own (Matrix stop.ask) (i, f)) stop.layer.features (h.0, joined.b) (member stop.layer h.0 joined.b joined.second_there)
    (joined-pair stop.is_own layer stop.ask stop.layer i h.0 f found joined)

pub computed-end : (layer : LayerContent) (stop : Option Stop) (i : ℕ) (f : FeatureContent) → StopRises stop → feature_of layer i ≡ Some f → is_end stop (i, f) ≡ true → IsEnd layer stop i
computed-end layer None i f rising found h = absurd (false≢true h)
computed-end layer (Some stop) i f rising found h =
    let at = any-contains (is_pair stop.is_own (Matrix stop.ask) (i, f)) stop.layer.features h in
    (at.0.0, pair-joined stop.is_own layer stop.ask stop.layer (i, f) at.0 found (there stop.layer at.0 rising at.1) at.2)

-- where none is computed there is none
pub no-end : (layer : LayerContent) (stop : Option Stop) (i : ℕ) (f : FeatureContent) → feature_of layer i ≡ Some f → is_end stop (i, f) ≡ false → ¬ IsEnd layer stop i
no-end layer stop i f found fails h = false≢true (sym fails ∙ end-computed layer stop i f found h)

pub not-end : (layer : LayerContent) (stop : Option Stop) (i : ℕ) (f : FeatureContent) → StopRises stop → feature_of layer i ≡ Some f → ¬ IsEnd layer stop i → is_end stop (i, f) ≡ false
not-end layer stop i f rising found none = by (is_end stop (i, f)) refl
  where
    by : (b : Bool) → is_end stop (i, f) ≡ b → b ≡ false
    by true is = absurd (none (computed-end layer stop i f rising found is))
    by false is = refl

-- ---- steps

pub computed-step : (layer : LayerContent) (ask : Ask) (stop : Option Stop) (a b : ℕ × FeatureContent) → feature_of layer a.0 ≡ Some a.1 → feature_of layer b.0 ≡ Some b.1
    → is_step ask stop a b ≡ true → IsStep layer ask stop a.0 b.0
computed-step layer ask stop a b found other h =
    let parts = and_parts (not (is_end stop a)) (is_pair true (Matrix ask) a b) h in
    record {
      goes_on = no-end layer stop a.0 a.1 found (not-true (is_end stop a) parts.0);
      joined = pair-joined true layer ask layer a b found other parts.1;
    }
  where
    not-true : (t : Bool) → not t ≡ true → t ≡ false
    not-true true k = absurd (false≢true k)
    not-true false k = refl

pub step-computed : (layer : LayerContent) (ask : Ask) (stop : Option Stop) (i j : ℕ) (f : FeatureContent) → StopRises stop → feature_of layer i ≡ Some f
    → (step : IsStep layer ask stop i j) → is_step ask stop (i, f) (j, step.joined.b) ≡ true
step-computed layer ask stop i j f rising found step =
    and_from (not (is_end stop (i, f))) (is_pair true (Matrix ask) (i, f) (j, step.joined.b))
    (ap not (not-end layer stop i f rising found step.goes_on))
    (joined-pair true layer ask layer i j f found step.joined)
