use Rattle.std.proofs.Common.{List, ℕ, ◌∙◌, subst, Bor}
use Rattle.std.specs.Prelude.{option_map}
use Rattle.sf_folder.specs.Renewals.{Chooses}
use Rattle.sf_folder.proofs.choosing.choose.Goals as goal

pub returns : goal.returns
returns c =
    subst (λ head. Chooses head (option_map {T = Bor (List ℕ)} {U = List ℕ} (λ bytes. bytes.now) c.args.journal)
    (option_map {T = Bor (List ℕ)} {U = List ℕ} (λ bytes. bytes.now) c.args.beside) c.chosen_by.result)
    (c.as_bytes.ensures.value ∙ c.in_ok-head.ensures) c.chosen_by.ensures
