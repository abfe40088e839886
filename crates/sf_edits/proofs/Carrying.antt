-- What the function of an edit, or of what takes it back, has to show.
use Rattle.std.proofs.Common.{◌≡◌, ℕ, true, List, [], ◌∷◌, ◌++◌, Option, None, Some, option_and_then, Result, Ok, Err, IfOk, inl, inr, refl, ap, sym, subst, ◌∙◌}
use Rattle.sf_layers.specs.Content.{Content, LayerContent, change_at, change_layer, feature_at, feature_in, feature_of, layer_at, layer_of, place_of}
use Rattle.sf_layers.specs.WellFormed.{IsWellFormed}
use Rattle.sf_layers.proofs.Changes.{change_at-place_of, layer_of-place_of}
use Rattle.sf_steps.specs.declared.edit.Edit.{Edit}
use Rattle.sf_steps.specs.declared.edit.Edit.TheVariants.{AddLayer, DropLayer, RenameLayer, MoveLayer, AddColumn, DropColumn, AddFeature, DeleteFeature, ReplaceGeometry, InsertVertex, MoveVertex, RemoveVertex, SetValue, ClearValue}
use Rattle.sf_steps.specs.declared.inverse.Inverse.{Inverse}
use Rattle.sf_steps.specs.declared.refusal.Refusal.{Refusal}
use Rattle.sf_steps.specs.declared.refusal.Refusal.TheVariants.{Memory}
use Rattle.sf_steps.specs.Steps.{answer, checks, effect, first_refusal, memory_may_replace, result_of, step}
use Rattle.sf_steps.specs.Inverses.{Accepts, Carries, Fits, Restores, Reverts, RevertsOrKeeps, answer_of, described, inverse_of, taken_back, weight}
use Rattle.sf_steps.specs.Weights.{touched}
use Rattle.sf_steps.proofs.Passes.{Accepted, Accepted-step, step-passed}
use Rattle.sf_steps.proofs.InverseLaws.{Accepts-inverse_of}
use Rattle.sf_steps.proofs.WeightLaws.{weighs}

-- ---- carrying an edit out

-- the edit passed its checks, its effect is there, and its inverse is given
pub Carries-done : (old new : Content) (edit : Edit) (inverse : Inverse) → IsWellFormed old → first_refusal (checks old edit) ≡ None → effect old edit ≡ new → inverse ≡ inverse_of old edit
    → Carries old edit (Ok inverse) new
Carries-done old new edit inverse fine passed effected is =
    let led : step old edit ≡ Ok (new, answer old edit) = step-passed old edit passed ∙ ap (λ content. Ok (content, answer old edit)) effected in
    record {
      accepted = subst (λ i. Accepts old edit i new) (sym is) (Accepts-inverse_of old new edit (answer old edit) fine led).0;
      inverse = is;
      refused = tt;
      given_back = tt;
      unchanged = tt;
    }

-- a check failed
pub Carries-refused : (old new : Content) (edit back : Edit) (refusal : Refusal) → first_refusal (checks old edit) ≡ Some refusal → back ≡ edit → new ≡ old → Carries old edit (Err (back, refusal)) new
Carries-refused old new edit back refusal failed is same = record {
  accepted = tt;
  inverse = tt;
  refused = inl (ap (λ r. result_of r (effect old edit, answer old edit)) failed);
  given_back = is;
  unchanged = same;
}

-- no memory was found for the effect
pub Carries-memory : (old new : Content) (edit back : Edit) → first_refusal (checks old edit) ≡ None → back ≡ edit → new ≡ old → Carries old edit (Err (back, Memory)) new
Carries-memory old new edit back passed is same = record {
  accepted = tt;
  inverse = tt;
  refused = inr (refl, ap (memory_may_replace edit) (step-passed old edit passed) ∙ may_replace_success edit);
  given_back = is;
  unchanged = same;
}
  where
    may_replace_success : (e : Edit) → memory_may_replace e (Ok (effect old edit, answer old edit)) ≡ true
    may_replace_success (AddLayer name kind) = refl
    may_replace_success (DropLayer name) = refl
    may_replace_success (RenameLayer name new_name) = refl
    may_replace_success (MoveLayer name place) = refl
    may_replace_success (AddColumn name column column_type) = refl
    may_replace_success (DropColumn name column) = refl
    may_replace_success (AddFeature name geometry) = refl
    may_replace_success (DeleteFeature name id) = refl
    may_replace_success (ReplaceGeometry name id geometry) = refl
    may_replace_success (InsertVertex name id part ring index point) = refl
    may_replace_success (MoveVertex name id part ring index point) = refl
    may_replace_success (RemoveVertex name id part ring index) = refl
    may_replace_success (SetValue name id column value) = refl
    may_replace_success (ClearValue name id column) = refl

-- no memory was found where it may replace what the step answers
pub Carries-wanting : (old new : Content) (edit back : Edit) → memory_may_replace edit (step old edit) ≡ true → back ≡ edit → new ≡ old → Carries old edit (Err (back, Memory)) new
Carries-wanting old new edit back may is same = record {
  accepted = tt;
  inverse = tt;
  refused = inr (refl, may);
  given_back = is;
  unchanged = same;
}

-- its inverse holds as much as it took out or overwrote
pub Carries-weight : (old new : Content) (edit : Edit) (result : Result Inverse (Edit × Refusal)) → Carries old edit result new
    → IfOk result (λ inverse. weight inverse ≡ touched old edit)
Carries-weight old new edit (Ok inverse) carries = ap weight carries.inverse ∙ weighs old new edit (answer_of inverse) carries.accepted.led
Carries-weight old new edit (Err refused) carries = tt

-- ---- taking it back

-- what takes an edit back leads to the content that its inverse describes, and gives the edit
pub Reverts-described : (old new : Content) (inverse : Inverse) (edit : Edit) → Fits old inverse → new ≡ described old inverse → edit ≡ taken_back old inverse → Reverts old inverse edit new
Reverts-described old new inverse edit fits is gives = record {
  restored = subst (Restores old inverse) (sym is) fits;
  gives = gives;
  again = ap (step new) gives ∙ ap (λ content. step content (taken_back old inverse)) is ∙ fits.led;
}

pub RevertsOrKeeps-described : (old new : Content) (inverse : Inverse) (edit : Edit) → Fits old inverse → new ≡ described old inverse → edit ≡ taken_back old inverse → RevertsOrKeeps old inverse (Ok edit) new
RevertsOrKeeps-described old new inverse edit fits is gives = record { reverted = Reverts-described old new inverse edit fits is gives; given_back = tt; unchanged = tt }

pub RevertsOrKeeps-kept : (old new : Content) (inverse back : Inverse) → back ≡ inverse → new ≡ old → RevertsOrKeeps old inverse (Err back) new
RevertsOrKeeps-kept old new inverse back is same = record { reverted = tt; given_back = is; unchanged = same }

-- the edit that an inverse takes back passed its checks before, and led here
pub Accepted-Fits : (content : Content) (inverse : Inverse) → Fits content inverse → Accepted (described content inverse) (taken_back content inverse) content (answer_of inverse)
Accepted-Fits content inverse fits = Accepted-step (described content inverse) content (taken_back content inverse) (answer_of inverse) fits.led

-- ---- checks one behind another

pub first_refusal-passed : (checks others : List (Option Refusal)) → first_refusal checks ≡ None → first_refusal (checks ++ others) ≡ first_refusal others
first_refusal-passed [] others h = refl
first_refusal-passed (None ∷ checks) others h = first_refusal-passed checks others h
first_refusal-passed ((Some refusal) ∷ checks) others h = cc

pub first_refusal-failed : (checks others : List (Option Refusal)) (refusal : Refusal) → first_refusal checks ≡ Some refusal → first_refusal (checks ++ others) ≡ Some refusal
first_refusal-failed [] others refusal h = cc
first_refusal-failed (None ∷ checks) others refusal h = first_refusal-failed checks others refusal h
first_refusal-failed ((Some found) ∷ checks) others refusal h = h

-- ---- names and places

pub layer_at-place_of : (content : Content) (name : List ℕ) → layer_at content (place_of content name) ≡ layer_of content name
layer_at-place_of content name = layer_of-place_of content name

pub feature_at-place_of : (content : Content) (name : List ℕ) (id : ℕ) → feature_at content (place_of content name) id ≡ feature_in content name id
feature_at-place_of content name id = ap (option_and_then (λ layer. feature_of layer id)) (layer_of-place_of content name)

-- a change of the layer at the place of a name
pub changed-at : (content new : Content) (name : List ℕ) (place : ℕ) (f : LayerContent → LayerContent) → place ≡ place_of content name → new ≡ change_at place f content → new ≡ change_layer content name f
changed-at content new name place f at is = is ∙ ap (λ n. change_at n f content) at ∙ change_at-place_of content name f

pub fits-at : (content : Content) (name : List ℕ) (place : ℕ) (f : LayerContent → LayerContent) → place ≡ place_of content name → IsWellFormed (change_layer content name f) → IsWellFormed (change_at place f content)
fits-at content name place f at fine = subst IsWellFormed (sym (ap (λ n. change_at n f content) at ∙ change_at-place_of content name f)) fine
