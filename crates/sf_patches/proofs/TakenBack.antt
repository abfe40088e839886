-- A patch that fits is taken back by one that fits, and which leaves the patch again.
use Rattle.std.proofs.Common.{◌≡◌, List, [], ◌∷◌, ◌++◌, refl, ap, sym, subst, ◌∙◌}
use Rattle.sf_layers.specs.Content.{Content}
use Rattle.sf_layers.specs.WellFormed.{IsWellFormed}
use Rattle.sf_patches.specs.declared.slot.Slot.{Slot}
use Rattle.sf_patches.specs.Patches.{with_slot, before, patched, undoing}
use Rattle.sf_patches.proofs.Undoing.{undoing_onto, undone_by}
use Rattle.sf_patches.specs.Fits.{StayFine, FitsPatch}
use Rattle.sf_patches.specs.Laws.{PatchesTakeBack, PatchesOfAllChangesLead}
use Rattle.sf_patches.proofs.PatchLaws.{with_slot-before, patched-undoing, GrowsFirst-undoing}
use Rattle.sf_patches.proofs.MergedLaws.{patched-all_changes}
use Rattle.sf_patches.proofs.ExchangeLaws.{AreRising-fine, KeepRising-fine, IsAt-back, before-before, undone_by-undoing}

-- exchanges that can be made leave a well-formed content
pub IsWellFormed-patched : (content : Content) (slots : List Slot) → IsWellFormed content → StayFine content slots → IsWellFormed (patched content slots)
IsWellFormed-patched content [] fine stay = fine
IsWellFormed-patched content (slot ∷ slots) fine stay = IsWellFormed-patched (with_slot slot content) slots stay.1 stay.2

StayFine-undoing_onto : (content : Content) (slots others : List Slot) → IsWellFormed content → StayFine content slots → StayFine content others → StayFine (patched content slots) (undoing_onto content slots others)
StayFine-undoing_onto content [] others fine stay h = h
StayFine-undoing_onto content (slot ∷ slots) others fine stay h =
    let back : content ≡ with_slot (before content slot) (with_slot slot content) = sym (with_slot-before content slot (AreRising-fine content fine)) in
    StayFine-undoing_onto (with_slot slot content) slots (before content slot ∷ others) stay.1 stay.2
    (IsAt-back content slot stay.0, subst IsWellFormed back fine, subst (λ c. StayFine c others) back h)

undoing-again : (content : Content) (slots others rest : List Slot) → IsWellFormed content → StayFine content slots
    → undoing_onto (patched content slots) (undoing_onto content slots others) rest ≡ undoing_onto content others (slots ++ rest)
undoing-again content [] others rest fine stay = refl
undoing-again content (slot ∷ slots) others rest fine stay =
    let rising = AreRising-fine content fine in
    undoing-again (with_slot slot content) slots (before content slot ∷ others) rest stay.1 stay.2
    ∙ ap (λ c. undoing_onto c others (before (with_slot slot content) (before content slot) ∷ (slots ++ rest))) (with_slot-before content slot rising)
    ∙ ap (λ s. undoing_onto content others (s ∷ (slots ++ rest))) (before-before content slot stay.0 rising)

append-none : (xs : List Slot) → xs ++ [] ≡ xs
append-none [] = refl
append-none (x ∷ xs) = ap (λ r. x ∷ r) (append-none xs)

pub patches-take_back : PatchesTakeBack
patches-take_back content slots h =
    let rising = AreRising-fine content h.well_formed in
    let keep = KeepRising-fine content slots h.fine in
    let last : Content = patched content slots in
    let is = undone_by-undoing content slots in
    record {
      back = ap (patched last) (sym is) ∙ patched-undoing content slots rising keep;
      fits = subst (FitsPatch last) is (record {
        well_formed = IsWellFormed-patched content slots h.well_formed h.fine;
        fine = StayFine-undoing_onto content slots [] h.well_formed h.fine tt;
        first = GrowsFirst-undoing content slots rising keep h.first;
      });
      again = sym (undone_by-undoing last (undoing content slots)) ∙ ap (undone_by last) (sym is)
          ∙ undoing-again content slots [] [] h.well_formed h.fine ∙ append-none slots;
    }

pub patches-lead : PatchesOfAllChangesLead
patches-lead old new slots fits fine changes =
    patched-all_changes old new slots (AreRising-fine old fits.well_formed) (AreRising-fine new fine) (KeepRising-fine old slots fits.fine) changes
