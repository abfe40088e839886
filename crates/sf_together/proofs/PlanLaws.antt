-- What a group does on a scratch content is a plan for the whole one.
use Rattle.std.proofs.Common.{◌≡◌, ℕ, Bool, true, false, ◌||◌, List, [], ◌∷◌, map, filter, not, Ok, Result, nat_eq, refl, ap, sym, subst, ◌∙◌}
use Rattle.std.proofs.lemmas.Bool.{eq-eqb}
use Rattle.std.specs.List.{AllByRecursion}
use Rattle.sf_features.specs.Features.{FeatureContent}
use Rattle.sf_layers.specs.Content.{Content, LayerContent, has_layer, place_of}
use Rattle.sf_layers.specs.WellFormed.{IsWellFormed}
use Rattle.sf_steps.specs.Laws.{BringsGridPoints}
use Rattle.sf_patches.specs.declared.slot.Slot.{Slot}
use Rattle.sf_patches.specs.Fits.{FitsPatch}
use Rattle.sf_patches.specs.Patches.{patched}
use Rattle.sf_patches.specs.declared.halves.Halves.{Halves}
use Rattle.sf_patches.specs.Halves.{IsRemoval, RemovesOnly, after_growing, after_halves, back_halves}
use Rattle.sf_patches.proofs.HalvesLaws.{fits-cut, halves-take_back}
use Rattle.sf_patches.proofs.PatchLaws.{patched-append}
use Rattle.sf_patches.proofs.TakenBack.{patches-lead}
use Rattle.sf_groups.specs.declared.member.Member.{Member}
use Rattle.sf_groups.specs.Groups.{AcceptsGroup, content_weight, together_touched}
use Rattle.sf_groups.specs.Members.{IsGroup, Refused, together}
use Rattle.sf_groups.proofs.GroupsFine.{groups-fine}
use Rattle.sf_groups.proofs.TogetherLaws.{or_left, scratches-do_alike}
use Rattle.sf_together.specs.declared.outcome.Refusal.{Refusal}
use Rattle.sf_together.specs.declared.outcome.Refusal.TheVariants as refusals
use Rattle.sf_together.specs.declared.removals.Key.{Key}
use Rattle.sf_together.specs.Copies.{IsScratchOf}
use Rattle.sf_together.specs.Exchanges.{AllThere, halves_between, has_key, keys_in, layer_slots, put_at, puts, removal, removals_of}
use Rattle.sf_together.proofs.Parts.{slots_between}
use Rattle.sf_together.specs.Outcomes.{IsRefusedAs}
use Rattle.sf_together.specs.Plans.{IsPlan}
use Rattle.sf_together.proofs.ListLaws.{all-always, all-map}
use Rattle.sf_together.proofs.FrameLaws.{Leaves-together}
use Rattle.sf_together.proofs.FitLaws.{GrowsFirst-put, NoneGrows-taken, NoneRemoves-put, IsPut, IsTaken, RaisedFirst, RaisedFirst-append, StayFine-taken}
use Rattle.sf_together.proofs.ChangeLaws.{AreCarried, all-changes, all-puts, counters-below, keys-one_order, slots-taken}
use Rattle.sf_together.proofs.CallLaws.{AllThere-part}
use Rattle.sf_together.proofs.CopyLaws.{IsPart-scratch, IsScratchFor-scratch}
use Rattle.sf_together.proofs.WeightLaws.{halves-weigh, slots_between-weight, undoing-weight}

-- ---- the order of the exchanges

states-raised : (raised : ℕ → Bool) (place : ℕ) (es : List (ℕ × FeatureContent)) → raised place ≡ true → RaisedFirst raised (map (put_at place) es)
states-raised raised place [] up = tt
states-raised raised place (e ∷ es) up = (up, states-raised raised place es up)

layer-raised : (raised : ℕ → Bool) (place : ℕ) (layer : LayerContent) → RaisedFirst raised (layer_slots place layer)
layer-raised raised place layer = states-raised (λ other. nat_eq place other || raised other) place layer.features (or_left (nat_eq place place) (raised place) (eq-eqb place place refl))

puts-raised : (raised : ℕ → Bool) (whole es : Content) → RaisedFirst raised (puts whole es)
puts-raised raised whole [] = tt
puts-raised raised whole (e ∷ es) = RaisedFirst-append raised (puts whole es) (layer_slots (place_of whole e.0) e.1) (puts-raised raised whole es) (λ more. layer-raised more (place_of whole e.0) e.1)

removals-raised : (raised : ℕ → Bool) (keys : List Key) → RaisedFirst raised (map removal keys)
removals-raised raised [] = tt
removals-raised raised (key ∷ keys) = removals-raised raised keys

layer-put : (place : ℕ) (layer : LayerContent) → AllByRecursion IsPut (layer_slots place layer)
layer-put place layer = (tt, all-map IsPut (put_at place) layer.features (all-always (λ e. IsPut (put_at place e)) (λ e. tt) layer.features))

puts-put : (whole es : Content) → AllByRecursion IsPut (puts whole es)
puts-put whole es = all-puts IsPut whole es (all-always (λ e. AllByRecursion IsPut (layer_slots (place_of whole e.0) e.1)) (λ e. layer-put (place_of whole e.0) e.1) es)

removals-taken : (whole after : Content) (keys : List Key) → AllByRecursion IsTaken (removals_of whole after keys)
removals-taken whole after keys =
    all-map IsTaken removal (filter (λ key. not (has_key whole after key)) keys)
    (all-always (λ key. IsTaken (removal key)) (λ key. tt) (filter (λ key. not (has_key whole after key)) keys))

removals-only : (whole after : Content) (keys : List Key) → RemovesOnly (removals_of whole after keys)
removals-only whole after keys =
    all-map IsRemoval removal (filter (λ key. not (has_key whole after key)) keys)
    (all-always (λ key. IsRemoval (removal key)) (λ key. tt) (filter (λ key. not (has_key whole after key)) keys))

-- ---- the plan

record Fits (whole scratch new after : Content) (members : List Member) (ids : List ℕ) : Type 0 where
  leads : patched whole (slots_between whole after (keys_in whole scratch)) ≡ new
  led : together whole members ≡ Ok (patched whole (slots_between whole after (keys_in whole scratch)), ids)
  fits : FitsPatch whole (slots_between whole after (keys_in whole scratch))

carried-fits : (members : List Member) (whole scratch new after : Content) (ids : List ℕ) → AreCarried members whole scratch new after → together whole members ≡ Ok (new, ids) → Fits whole scratch new after members ids
carried-fits members whole scratch new after ids c led =
    let fits : FitsPatch whole (slots_between whole after (keys_in whole scratch)) = record {
      well_formed = c.whole_fine;
      fine = StayFine-taken whole new (slots_between whole after (keys_in whole scratch)) c.whole_fine c.new_fine c.leaves.order (counters-below members whole scratch new after c)
          (slots-taken members whole scratch new after c)
          (RaisedFirst-append (λ place. false) (puts whole after) (removals_of whole after (keys_in whole scratch)) (puts-raised (λ place. false) whole after)
          (λ more. removals-raised more (filter (λ key. not (has_key whole after key)) (keys_in whole scratch))));
      first = GrowsFirst-put whole (puts whole after) (removals_of whole after (keys_in whole scratch)) (puts-put whole after) (removals-taken whole after (keys_in whole scratch));
    } in
    let leads = patches-lead whole new (slots_between whole after (keys_in whole scratch)) fits c.new_fine (all-changes members whole scratch new after c) in
    record {
      leads = leads;
      led = led ∙ ap (λ content. let r : Result (Content × List ℕ) Refused = Ok (content, ids) in r) (sym leads);
      fits = fits;
    }

pub planned : (whole scratch after : Content) (members : List Member) (ids : List ℕ) → IsGroup members → AllByRecursion (λ member. BringsGridPoints member.edit) members → IsWellFormed whole → IsWellFormed scratch
    → IsScratchOf whole members scratch → content_weight scratch ≡ together_touched whole members → together scratch members ≡ Ok (after, ids) → IsPlan whole members (halves_between whole after (keys_in whole scratch)) ids
planned whole scratch after members ids group brings fine fine' copied holds led =
    let alike = scratches-do_alike whole scratch members group brings fine fine' (IsScratchFor-scratch whole scratch members fine copied) in
    let done = alike.carried after ids led in
    let c : AreCarried members whole scratch done.0 after = record {
      whole_fine = fine;
      scratch_fine = fine';
      new_fine = groups-fine whole done.0 members ids brings fine done.1;
      after_fine = groups-fine scratch after members ids brings fine' led;
      copied = copied;
      shows = done.2;
      leaves = Leaves-together whole done.0 members ids group done.1;
      leaves_scratch = Leaves-together scratch after members ids group led;
    } in
    let fits = carried-fits members whole scratch done.0 after ids c done.1 in
    let put : List Slot = puts whole after in
    let taken : List Slot = removals_of whole after (keys_in whole scratch) in
    let halves : Halves = halves_between whole after (keys_in whole scratch) in
    record {
      led = fits.led ∙ ap (λ content. let r : Result (Content × List ℕ) Refused = Ok (content, ids) in r) (patched-append whole put taken);
      fits = fits-cut whole halves fine fits.fits.fine (NoneRemoves-put whole put (puts-put whole after)) (NoneGrows-taken (after_growing whole halves) taken (removals-taken whole after (keys_in whole scratch)));
      leaves = removals-only whole after (keys_in whole scratch);
      weight =
          halves-weigh whole halves
          ∙ undoing-weight whole done.0 scratch after (slots_between whole after (keys_in whole scratch)) fine fits.fits.fine fits.leads (slots_between-weight whole after (keys_in whole scratch)) done.3 ∙ holds;
    }

-- why a group is refused on the scratch content is why it is refused
pub refused-alike : (whole scratch : Content) (members : List Member) (refusal : Refusal) → IsGroup members → AllByRecursion (λ member. BringsGridPoints member.edit) members → IsWellFormed whole → IsWellFormed scratch
    → IsScratchOf whole members scratch → IsRefusedAs scratch members refusal → IsRefusedAs whole members refusal
refused-alike whole scratch members (refusals.Member number refusal) group brings fine fine' copied h =
    (scratches-do_alike whole scratch members group brings fine fine' (IsScratchFor-scratch whole scratch members fine copied)).refused (record { member = number; refusal = refusal }) h
refused-alike whole scratch members refusals.Memory group brings fine fine' copied h = tt

-- what is left of the layers when all members are carried out
pub AllThere-after : (whole scratch after : Content) (members : List Member) (ids : List ℕ) → IsGroup members → IsWellFormed scratch → IsScratchOf whole members scratch → together scratch members ≡ Ok (after, ids) → AllThere whole after
AllThere-after whole scratch after members ids group fine copied led =
    subst (AllByRecursion (λ name. has_layer whole name ≡ true)) (keys-one_order scratch after (Leaves-together scratch after members ids group led).order) (AllThere-part whole scratch fine (IsPart-scratch whole scratch members copied))

-- a plan that is exchanged with the content is an accepted group
pub accepts-plan : (old new : Content) (members : List Member) (halves back : Halves) (ids : List ℕ) → IsPlan old members halves ids → new ≡ after_halves old halves → back ≡ back_halves old halves
    → AcceptsGroup old members back ids new
accepts-plan old new members halves back ids plan new_is back_is =
    let takes = halves-take_back old halves plan.fits in
    subst (λ c. AcceptsGroup old members back ids c) (sym new_is) (subst (λ b. AcceptsGroup old members b ids (after_halves old halves)) (sym back_is)
    (record { led = plan.led; back = takes.back; fits = takes.fit; weight = plan.weight }))
