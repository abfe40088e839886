-- What was taken back is made again, and what was made again is taken back.
use Rattle.std.proofs.Common.{◌≡◌, Ok, Option, None, Some, Result, IsOk, refl, ap, sym, ◌∙◌, subst}
use Rattle.std.specs.Option.{option_map_or}
use Rattle.sf_layers.specs.Content.{Content}
use Rattle.sf_steps.specs.declared.answer.Answer.{Answer}
use Rattle.sf_steps.specs.declared.edit.Edit.{Edit}
use Rattle.sf_steps.specs.declared.inverse.Inverse.{Inverse}
use Rattle.sf_steps.specs.declared.refusal.Refusal.{Refusal}
use Rattle.sf_steps.specs.Steps.{step}
use Rattle.sf_steps.specs.Inverses.{Carries, Restores, Reverts, answer_of, described}
use Rattle.sf_patches.specs.declared.halves.Halves.{Halves}
use Rattle.sf_patches.specs.Halves.{FitsHalves, after_halves, back_halves}
use Rattle.sf_patches.proofs.HalvesLaws.{halves-take_back}
use Rattle.sf_ruled_store.specs.declared.changes.undo.Undo.TheVariants as undos
use Rattle.sf_ruled_store.specs.declared.changes.redo.Redo.TheVariants as redos
use Rattle.sf_ruled_store.specs.Changes.{MakesAgain, TakesBack, edit_led}

-- the content that an accepted edit leads to
led-is : (content next : Content) (answer : Answer) (r : Result (Content × Answer) Refusal) → r ≡ Ok (next, answer) → option_map_or (λ c. c) (edit_led r) content ≡ next
led-is content next answer r is = ap (λ s. option_map_or (λ c. c) (edit_led s) content) is

accepted : (next : Content) (answer : Answer) (r : Result (Content × Answer) Refusal) → r ≡ Ok (next, answer) → IsOk r
accepted next answer r is = subst (λ (s : Result (Content × Answer) Refusal). IsOk s) (sym is) refl

-- ---- edits
pub edit-taken_back : (old new : Content) (inverse : Inverse) (edit : Edit) → Reverts old inverse edit new → TakesBack old (undos.Edit inverse) (redos.Edit edit) new
edit-taken_back old new inverse edit h = record {
  undone = h.restored.described_by;
  again = led-is new old (answer_of inverse) (step new edit) h.again;
  fits = accepted old (answer_of inverse) (step new edit) h.again;
}

pub edit-made_again : (old new : Content) (edit : Edit) (inverse : Inverse) → Carries old edit (Ok inverse) new → MakesAgain old (redos.Edit edit) (undos.Edit inverse) new
edit-made_again old new edit inverse h =
    let accepts = h.accepted in record {
      redone = sym (led-is old new (answer_of inverse) (step old edit) accepts.led);
      back = sym accepts.restores.described_by;
      fits = subst (Restores new inverse) accepts.restores.described_by accepts.restores;
    }

-- ---- several edits
pub group-taken_back : (content : Content) (halves : Halves) → FitsHalves content halves
    → TakesBack content (undos.Group halves) (redos.Group (back_halves content halves)) (after_halves content halves)
group-taken_back content halves fits = let back = halves-take_back content halves fits in record {
  undone = refl;
  again = back.back;
  fits = back.fit;
}

pub group-made_again : (content : Content) (halves : Halves) → FitsHalves content halves
    → MakesAgain content (redos.Group halves) (undos.Group (back_halves content halves)) (after_halves content halves)
group-made_again content halves fits = let back = halves-take_back content halves fits in record {
  redone = refl;
  back = back.back;
  fits = back.fit;
}
