-- What would break a rule first is among what is looked at after a change.
use Rattle.std.proofs.Common.{◌≡◌, ◌∙◌, ◌⊎◌, inl, inr, ℕ, ◌+◌, Bool, true, false, cond, List, [], ◌∷◌, map, filter, Option, None, Some, option_and_then, bytes_eq, refl, ap, sym, subst}
use Rattle.std.specs.Prelude.{if◌then◌else◌}
use Rattle.std.specs.List.{Contains, list_any, position_or_len}
use Rattle.std.specs.Map.{keys_of}
use Rattle.sf_layers.specs.Content.{Content, LayerContent, feature_at, feature_of, layer_at, layer_of, place_of}
use Rattle.sf_features.specs.Features.{FeatureContent}
use Rattle.sf_joins.specs.Converse.{IsPairAsk, converse_pair}
use Rattle.sf_layers.specs.WellFormed.{IsWellFormed}
use Rattle.sf_patches.specs.Merged.{is_of_id}
use Rattle.sf_joins.specs.Joins.{pairs_found}
use Rattle.sf_patches.specs.Patches.{patched}
use Rattle.sf_patches.specs.declared.slot.Slot.{Slot}
use Rattle.sf_patches.specs.declared.slot.Slot.TheVariants.{State}
use Rattle.sf_rules.specs.declared.between.Between.{Between}
use Rattle.sf_rules.specs.declared.rule.Rule.{Rule}
use Rattle.sf_rules.specs.declared.rule.LayerRule.{LayerRule}
use Rattle.sf_rules.specs.declared.rule.Form.{Form}
use Rattle.sf_rules.specs.declared.rule.Form.TheVariants.{Never, Each}
use Rattle.sf_rules.specs.declared.breaks.Break.{Break}
use Rattle.sf_rules.specs.Breaks.{least_from}
use Rattle.sf_rules.specs.Rules.{alone_break, break_between, break_by, break_of, breaks_between, broken_from, broken_or, first_of, lacks_partner, of_one, pair_break}
use Rattle.sf_rules.specs.Looks.{looked_at, staying}
use Rattle.sf_rules.specs.Leaving.{is_leaving}
use Rattle.sf_rules.specs.Underway.{CanLeave, ComesOf, IsBetween}
use Rattle.sf_joins.proofs.Passed.{layer-fits}
use Rattle.sf_patches.proofs.TakenBack.{IsWellFormed-patched}
use Rattle.sf_rules.proofs.LookLaws.{IsAround, alone-looked, pairs-looked}
use Rattle.sf_rules.proofs.PlaceLaws.{kept-at, layer-at, layer-missing, layer-there, recorded-at, stays-at}
use Rattle.sf_rules.proofs.SlotLaws.{keys-patched}

-- ---- the layers of a rule, before and after

record AreThere (content now : Content) (rule : LayerRule) : Type 0 where
  first : LayerContent
  second : LayerContent
  first_of_name : layer_of content rule.first ≡ Some first
  second_of_name : layer_of content rule.second ≡ Some second
  first_at : layer_at content (place_of now rule.first) ≡ Some first
  second_at : layer_at content (place_of now rule.second) ≡ Some second

are-there : (content now : Content) (rule : LayerRule) (first second : LayerContent) → keys_of content ≡ keys_of now → layer_of now rule.first ≡ Some first → layer_of now rule.second ≡ Some second
    → AreThere content now rule
are-there content now rule first second same found founds =
    let f = layer-there content now rule.first first same found in
    let s = layer-there content now rule.second second same founds in
    record {
      first = f.0;
      second = s.0;
      first_of_name = f.1;
      second_of_name = s.1;
      first_at = layer-at content now rule.first f.0 same f.1;
      second_at = layer-at content now rule.second s.0 same s.1;
    }

break-there : (content now : Content) (rule : LayerRule) (t : AreThere content now rule) → break_between content rule ≡ first_of (breaks_between rule.form (of_one rule) t.first rule.ask t.second)
break-there content now rule t = ap (λ o. break_by rule o (layer_of content rule.second)) t.first_of_name ∙ ap (break_by rule (Some t.first)) t.second_of_name

no-first : {X : Type 0} (f : X → Break) (xs : List X) → first_of (map f xs) ≡ None → xs ≡ []
no-first f [] h = refl
no-first f (x ∷ xs) h = cc

-- ---- the law

module _ (old now : Content) (rule : LayerRule) (made leaving : List Slot) (between : Between) (comes : ComesOf old now made) (leaves : CanLeave now leaving) (is : IsBetween now rule leaving between) where
  new : Content
  new = patched now leaving

  old-names : keys_of old ≡ keys_of now
  old-names = sym (ap keys_of comes.led ∙ keys-patched old comes.exchanges)

  new-names : keys_of new ≡ keys_of now
  unfolding new
  new-names = keys-patched now leaving

  old-there : AreThere old now rule
  old-there = are-there old now rule between.first.now between.second.now old-names is.first is.second

  new-there : AreThere new now rule
  new-there = are-there new now rule between.first.now between.second.now new-names is.first is.second

  now-first : layer_at now between.first_place ≡ Some between.first.now
  now-first = ap (layer_at now) is.first_place ∙ layer-at now now rule.first between.first.now refl is.first

  now-second : layer_at now between.second_place ≡ Some between.second.now
  now-second = ap (layer_at now) is.second_place ∙ layer-at now now rule.second between.second.now refl is.second

  old-first : layer_at old between.first_place ≡ Some old-there.first
  old-first = ap (layer_at old) is.first_place ∙ old-there.first_at

  old-second : layer_at old between.second_place ≡ Some old-there.second
  old-second = ap (layer_at old) is.second_place ∙ old-there.second_at

  new-first : layer_at new between.first_place ≡ Some new-there.first
  new-first = ap (layer_at new) is.first_place ∙ new-there.first_at

  new-second : layer_at new between.second_place ≡ Some new-there.second
  new-second = ap (layer_at new) is.second_place ∙ new-there.second_at

  stays-between : (place id : ℕ) (after here : LayerContent) → layer_at new place ≡ Some after → layer_at now place ≡ Some here → feature_of after id ≡ staying here between.leaving.now place id
  unfolding new
  stays-between place id after here after_is here_is =
      stays-at old now made leaving comes leaves is.well_formed place id after here after_is here_is ∙ ap (λ (slots : List Slot). staying here slots place id) (sym is.leaves)

  new-fine : IsWellFormed new
  unfolding new
  new-fine = IsWellFormed-patched now leaving is.well_formed leaves.fine

  around : IsAround between old-there.first old-there.second new-there.first new-there.second made
  around = record {
    askable = subst IsPairAsk (sym is.ask) is.askable;
    turned = is.turned ∙ ap converse_pair (sym is.ask);
    rising = (layer-fits now rule.first between.first.now is.well_formed is.first).rising;
    risings = (layer-fits now rule.second between.second.now is.well_formed is.second).rising;
    new_rising = (layer-fits new rule.first new-there.first new-fine new-there.first_of_name).rising;
    new_risings = (layer-fits new rule.second new-there.second new-fine new-there.second_of_name).rising;
    old_risings = (layer-fits old rule.second old-there.second comes.well_formed old-there.second_of_name).rising;
    stays = λ id. stays-between between.first_place id new-there.first between.first.now new-first now-first;
    stays_second = λ id. stays-between between.second_place id new-there.second between.second.now new-second now-second;
    kept = λ id none. kept-at old now made leaving comes leaves is.well_formed between.first_place id between.first.now old-there.first now-first old-first none;
    kept_second = λ id none. kept-at old now made leaving comes leaves is.well_formed between.second_place id between.second.now old-there.second now-second old-second none;
    recorded = λ id. recorded-at old now made leaving comes leaves is.well_formed between.second_place id between.second.now old-there.second now-second old-second;
  }

  held-before : break_between old rule ≡ None → first_of (breaks_between rule.form between.one old-there.first between.ask old-there.second) ≡ None
  held-before held =
      ap (λ o. first_of (breaks_between rule.form o old-there.first between.ask old-there.second)) is.one
      ∙ ap (λ a. first_of (breaks_between rule.form (of_one rule) old-there.first a old-there.second)) is.ask
      ∙ sym (break-there old now rule old-there) ∙ held

  breaks-after : first_of (breaks_between rule.form between.one new-there.first between.ask new-there.second) ≡ break_between new rule
  breaks-after =
      ap (λ o. first_of (breaks_between rule.form o new-there.first between.ask new-there.second)) is.one
      ∙ ap (λ a. first_of (breaks_between rule.form (of_one rule) new-there.first a new-there.second)) is.ask
      ∙ sym (break-there new now rule new-there)

  by-form : (form : Form) → first_of (breaks_between form between.one old-there.first between.ask old-there.second) ≡ None
      → least_from None (looked_at form between made) ≡ first_of (breaks_between form between.one new-there.first between.ask new-there.second)
  by-form Never none = pairs-looked between old-there.first old-there.second new-there.first new-there.second made around (no-first pair_break (pairs_found between.one old-there.first between.ask old-there.second) none)
  by-form Each none =
      alone-looked between old-there.first old-there.second new-there.first new-there.second made around
      (no-first alone_break (keys_of (filter (lacks_partner between.one between.ask old-there.second) old-there.first.features)) none)

  -- the least break of those that are looked at is the first one
  pub break-near : break_between old rule ≡ None → least_from None (looked_at rule.form between made) ≡ break_between (patched now leaving) rule
  unfolding new
  break-near held = by-form rule.form (held-before held) ∙ breaks-after

-- a rule of which a layer is not there
pub missing-near : (now : Content) (rule : LayerRule) (leaving : List Slot) → (layer_of now rule.first ≡ None) ⊎ (layer_of now rule.second ≡ None) → break_between (patched now leaving) rule ≡ None
missing-near now rule leaving (inl none) =
    ap (λ o. break_by rule o (layer_of (patched now leaving) rule.second)) (layer-missing (patched now leaving) now rule.first (keys-patched now leaving) none)
missing-near now rule leaving (inr none) =
    ap (break_by rule (layer_of (patched now leaving) rule.first)) (layer-missing (patched now leaving) now rule.second (keys-patched now leaving) none) ∙ by (layer_of (patched now leaving) rule.first)
  where
    by : (o : Option LayerContent) → break_by rule o None ≡ None
    by None = refl
    by (Some layer) = refl

-- ---- several rules

-- where none of the rules is broken, this one is not
pub held-at : (content : Content) (place : ℕ) (rule : Rule) (rules : List Rule) → broken_from place content (rule ∷ rules) ≡ None → (break_of content rule ≡ None) × (broken_from (place + 1) content rules ≡ None)
held-at content place rule rules h = by (break_of content rule) refl h
  where
    by : (o : Option Break) → break_of content rule ≡ o → broken_or place o (broken_from (place + 1) content rules) ≡ None → (break_of content rule ≡ None) × (broken_from (place + 1) content rules ≡ None)
    by None is g = (is, g)
    by (Some least) is g = cc
