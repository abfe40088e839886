use Rattle.std.proofs.Common.{◌∙◌, inl, inr, map, refl, subst, sym}
use Rattle.sf_picture.specs.Options.{IsRefusedBy, program_matches}
use Rattle.sf_picture.proofs.options.asked.Goals as goal

pub returns-in-Ok-clause-faults : goal.returns-in-Ok-clause-faults
returns-in-Ok-clause-faults c none =
    subst (λ faults. IsRefusedBy faults c.asked_by.result) (sym (c.in-Ok.ensures.faults none)) c.asked_by.ensures.taken

pub returns-in-OutOfMemory-clause-asked : goal.returns-in-OutOfMemory-clause-asked
returns-in-OutOfMemory-clause-asked c = record { rows = program_matches (map (λ word. word.now) c.args.words.now); matches = λ none. refl; answers = tt }

pub returns-in_default : goal.returns-in_default
returns-in_default c = record {
  asked = record { rows = program_matches (map (λ word. word.now) c.args.words.now); matches = λ none. refl; answers = tt };
  faults = λ none. elim (c.in-Err.ensures.faults none) [
    | inl memory ↦ absurd (c.in_default.not-OutOfMemory (c.kind.ensures ∙ memory))
    | inr among ↦ among
  ];
}
