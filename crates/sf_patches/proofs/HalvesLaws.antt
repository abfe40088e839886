-- Halves of patches, made and taken back.
use Rattle.std.proofs.Common.{◌≡◌, ◌∙◌, List, [], ◌∷◌, ◌++◌, append-nil, reverse, refl, ap, sym, subst}
use Rattle.std.proofs.lemmas.List.{reverse-append}
use Rattle.sf_layers.specs.Content.{Content}
use Rattle.sf_layers.specs.WellFormed.{IsWellFormed}
use Rattle.sf_patches.specs.declared.slot.Slot.{Slot}
use Rattle.sf_patches.specs.declared.halves.Halves.{Halves}
use Rattle.sf_patches.specs.Fits.{FitsPatch, StayFine}
use Rattle.sf_patches.specs.Halves.{FitsHalves, after_growing, after_halves, back_halves}
use Rattle.sf_patches.specs.Laws.{HalvesTakeBack, TakesBack}
use Rattle.sf_patches.specs.Patches.{NoneGrows, NoneRemoves, befores, patched, undoing, with_slot}
use Rattle.sf_patches.proofs.ExchangeLaws.{AreRising-fine, KeepRising-fine, befores-append, undone_by-undoing}
use Rattle.sf_patches.proofs.PatchLaws.{NoneGrows-undoing_onto, NoneRemoves-undoing_onto}
use Rattle.sf_patches.proofs.TakenBack.{IsWellFormed-patched, patches-take_back}

-- the first half is a patch that fits
pub fits-growing : (content : Content) (halves : Halves) → FitsHalves content halves → FitsPatch content halves.growing
fits-growing content halves fits = record {
  well_formed = fits.well_formed;
  fine = fits.fine;
  first = record { front = halves.growing; back = []; parts = sym (append-nil halves.growing); none_removes = fits.none_removes; none_grows = tt };
}

removing-fits : (content : Content) (halves : Halves) → FitsHalves content halves → FitsPatch (after_growing content halves) halves.removing
removing-fits content halves fits = record {
  well_formed = IsWellFormed-patched content halves.growing fits.well_formed fits.fine;
  fine = fits.then_fine;
  first = record { front = []; back = halves.removing; parts = refl; none_removes = tt; none_grows = fits.none_grows };
}

-- and so is the second one, once the first is made
pub fits-removing : (content now : Content) (halves : Halves) → FitsHalves content halves → now ≡ after_growing content halves → FitsPatch now halves.removing
fits-removing content now halves fits is = subst (λ c. FitsPatch c halves.removing) (sym is) (removing-fits content halves fits)

takes-growing : (content : Content) (halves : Halves) → FitsHalves content halves → TakesBack content halves.growing
takes-growing content halves fits = patches-take_back content halves.growing (fits-growing content halves fits)

takes-removing : (content : Content) (halves : Halves) → FitsHalves content halves → TakesBack (after_growing content halves) halves.removing
takes-removing content halves fits = patches-take_back (after_growing content halves) halves.removing (removing-fits content halves fits)

-- ---- the first half alone is taken back

-- what takes it back
pub fits-back : (content now : Content) (halves : Halves) (made : List Slot) → FitsHalves content halves → now ≡ after_growing content halves → made ≡ undoing content halves.growing → FitsPatch now made
fits-back content now halves made fits is made_is =
    subst (λ c. FitsPatch c made) (sym is) (subst (FitsPatch (after_growing content halves)) (sym made_is) (takes-growing content halves fits).fits)

none-grows : (content : Content) (slots : List Slot) → FitsPatch content slots → NoneRemoves content slots → NoneGrows (patched content slots) (undoing content slots)
none-grows content slots fits none =
    subst (NoneGrows (patched content slots)) (undone_by-undoing content slots)
    (NoneGrows-undoing_onto content slots [] (AreRising-fine content fits.well_formed) (KeepRising-fine content slots fits.fine) none tt)

none-removes : (content : Content) (slots : List Slot) → FitsPatch content slots → NoneGrows content slots → NoneRemoves (patched content slots) (undoing content slots)
none-removes content slots fits none =
    subst (NoneRemoves (patched content slots)) (undone_by-undoing content slots)
    (NoneRemoves-undoing_onto content slots [] (AreRising-fine content fits.well_formed) (KeepRising-fine content slots fits.fine) none tt)

-- needs no memory
pub grows-back : (content now : Content) (halves : Halves) (made : List Slot) → FitsHalves content halves → now ≡ after_growing content halves → made ≡ undoing content halves.growing → NoneGrows now made
grows-back content now halves made fits is made_is =
    subst (λ c. NoneGrows c made) (sym is)
    (subst (NoneGrows (after_growing content halves)) (sym made_is) (none-grows content halves.growing (fits-growing content halves fits) fits.none_removes))

-- and leads back
pub content-back : (content now last : Content) (halves : Halves) (made : List Slot) → FitsHalves content halves → now ≡ after_growing content halves → made ≡ undoing content halves.growing
    → last ≡ patched now made → last ≡ content
content-back content now last halves made fits is made_is back =
    back ∙ ap (λ c. patched c made) is ∙ ap (patched (after_growing content halves)) made_is ∙ (takes-growing content halves fits).back

-- to the same half
pub halves-back : (content now : Content) (halves : Halves) (made last : List Slot) → FitsHalves content halves → now ≡ after_growing content halves → made ≡ undoing content halves.growing
    → last ≡ undoing now made → ◌≡◌ {A = Halves} (record { growing = last; removing = halves.removing }) halves
halves-back content now halves made last fits is made_is again =
    ap (λ slots. let h : Halves = record { growing = slots; removing = halves.removing } in h)
    (again ∙ ap (λ c. undoing c made) is ∙ ap (undoing (after_growing content halves)) made_is ∙ (takes-growing content halves fits).again)

-- ---- both are taken back

pub halves-take_back : HalvesTakeBack
halves-take_back content halves fits =
    let mid : Content = after_growing content halves in
    let last : Content = after_halves content halves in
    let first = takes-growing content halves fits in
    let second = takes-removing content halves fits in
    let mid_again : patched last (undoing mid halves.removing) ≡ mid = second.back in
    record {
      back = ap (λ c. patched c (undoing content halves.growing)) mid_again ∙ first.back;
      fit = record {
        well_formed = second.fits.well_formed;
        fine = second.fits.fine;
        none_removes = none-removes mid halves.removing (removing-fits content halves fits) fits.none_grows;
        then_fine = subst (λ c. StayFine c (undoing content halves.growing)) (sym mid_again) first.fits.fine;
        none_grows = subst (λ c. NoneGrows c (undoing content halves.growing)) (sym mid_again) (none-grows content halves.growing (fits-growing content halves fits) fits.none_removes);
      };
      again =
          ap (λ slots. let h : Halves = record { growing = slots; removing = undoing last (undoing mid halves.removing) } in h)
          (ap (λ c. undoing c (undoing content halves.growing)) mid_again ∙ first.again)
          ∙ ap (λ slots. let h : Halves = record { growing = halves.growing; removing = slots } in h) second.again;
    }

-- ---- a patch cut in two

StayFine-front : (content : Content) (a b : List Slot) → StayFine content (a ++ b) → StayFine content a
StayFine-front content [] b stay = tt
StayFine-front content (slot ∷ a) b stay = (stay.0, stay.1, StayFine-front (with_slot slot content) a b stay.2)

StayFine-back : (content : Content) (a b : List Slot) → StayFine content (a ++ b) → StayFine (patched content a) b
StayFine-back content [] b stay = stay
StayFine-back content (slot ∷ a) b stay = StayFine-back (with_slot slot content) a b stay.2

-- it fits as halves where it is cut behind all that needs memory, and before all that removes
pub fits-cut : (content : Content) (halves : Halves) → IsWellFormed content → StayFine content (halves.growing ++ halves.removing) → NoneRemoves content halves.growing
    → NoneGrows (after_growing content halves) halves.removing → FitsHalves content halves
fits-cut content halves fine stay removes_none grows_none = record {
  well_formed = fine;
  fine = StayFine-front content halves.growing halves.removing stay;
  none_removes = removes_none;
  then_fine = StayFine-back content halves.growing halves.removing stay;
  none_grows = grows_none;
}

-- what takes the whole back is what takes the halves back, one behind the other
pub undoing-append : (content : Content) (a b : List Slot) → undoing content (a ++ b) ≡ undoing (patched content a) b ++ undoing content a
undoing-append content a b = ap reverse (befores-append content a b) ∙ reverse-append (befores content a) (befores (patched content a) b)
