-- How drawing ends.
use Rattle.std.proofs.Common.{◌≡◌, ◌∙◌, ℕ, List, Option, Some, Result, Ok, Err, ap, refl, subst, sym}
use Rattle.std.specs.Prelude.{IfErr}
use Rattle.sf_loading.specs.Loading.{Loads}
use Rattle.sf_loading.specs.Stored.{Ruled}
use Rattle.sf_layers.specs.Content.{Content}
use Rattle.sf_picture.specs.Pictures.{Choice}
use Rattle.sfmap.specs.declared.running.RunFault.{RunFault}
use Rattle.sfmap.specs.declared.running.RunFault.TheVariants.{Load, MissingLayer, Memory, Draw}
use Rattle.sfmap.specs.Drawings.{Breaks, EndsEarly, IsMissing, first_missing}

-- the fault that tells a missing layer
pub ends-missing : (fault : RunFault) (name : List ℕ) (choice : Choice) (content : Content) (width : ℕ) (written : Option (List ℕ))
    → IsMissing name fault → first_missing choice content ≡ Some name → EndsEarly fault choice content width written written
ends-missing (Load fault) name choice content width written is first = absurd is
ends-missing (MissingLayer told) name choice content width written is first = (first ∙ ap Some (sym is), refl)
ends-missing Memory name choice content width written is first = ((name, first), refl)
ends-missing (Draw fault) name choice content width written is first = absurd is

-- what ends the drawing of a content ends the run that loaded it
pub breaks-drawn : (result : Result (Unit {0}) RunFault) (ruled : Ruled) (content : Content) (file_before file : Option (List ℕ)) (choice : Choice) (width : ℕ) (written_before written : Option (List ℕ))
    → Loads file_before file ruled → content ≡ ruled.content → IfErr result (λ fault. EndsEarly fault choice content width written_before written)
    → IfErr result (λ fault. Breaks fault file_before file choice width written_before written)
breaks-drawn (Ok done) ruled content file_before file choice width written_before written loaded same ended = tt
breaks-drawn (Err (Load fault)) ruled content file_before file choice width written_before written loaded same ended = absurd ended
breaks-drawn (Err (MissingLayer name)) ruled content file_before file choice width written_before written loaded same ended =
    record { ruled = ruled; loaded = loaded; ended = subst (λ c. EndsEarly (MissingLayer name) choice c width written_before written) same ended }
breaks-drawn (Err Memory) ruled content file_before file choice width written_before written loaded same ended =
    record { ruled = ruled; loaded = loaded; ended = subst (λ c. EndsEarly Memory choice c width written_before written) same ended }
breaks-drawn (Err (Draw fault)) ruled content file_before file choice width written_before written loaded same ended =
    record { ruled = ruled; loaded = loaded; ended = subst (λ c. EndsEarly (Draw fault) choice c width written_before written) same ended }
