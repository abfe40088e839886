-- The words after a change of a vertex are no more than seven.
use Rattle.std.proofs.Common.{◌≡◌, ◌≢◌, ℕ, List, [], ◌∷◌, Result, Err, refl, ap, ◌∙◌, subst}
use Rattle.std.specs.Result.{IsErrAnd}
use Rattle.sf_refusals.specs.declared.refusal.Refusal.{Refusal}
use Rattle.sf_refusals.specs.declared.refusal.Refusal.TheVariants.{BadCommand}
use Rattle.sf_commands.specs.declared.command.Command.{Command}
use Rattle.sf_words.specs.declared.naming.Naming.{Naming}
use Rattle.sf_commands.specs.Commands.{insert_vertex, move_vertex, OrMemory}
use Rattle.sf_commands.proofs.AddLemmas.{OrMemory-refused}

-- seven words at the front of a list of words, and those behind them
module _ (a b c d e f g : List ℕ) (w w1 w2 w3 w4 w5 w6 w7 : List (List ℕ))
    (h : w ≡ a ∷ w1) (h1 : w1 ≡ b ∷ w2) (h2 : w2 ≡ c ∷ w3) (h3 : w3 ≡ d ∷ w4) (h4 : w4 ≡ e ∷ w5) (h5 : w5 ≡ f ∷ w6) (h6 : w6 ≡ g ∷ w7) where
  pub seven_words : w ≡ a ∷ b ∷ c ∷ d ∷ e ∷ f ∷ g ∷ w7
  seven_words = cc

more_than_insert : (naming : Naming) (a b c d e f g : List ℕ) (more : List (List ℕ)) → more ≢ [] → insert_vertex naming (a ∷ b ∷ c ∷ d ∷ e ∷ f ∷ g ∷ more) ≡ Err BadCommand
more_than_insert naming a b c d e f g [] some = absurd (some refl)
more_than_insert naming a b c d e f g (word ∷ more) some = refl

more_than_move : (naming : Naming) (a b c d e f g : List ℕ) (more : List (List ℕ)) → more ≢ [] → move_vertex naming (a ∷ b ∷ c ∷ d ∷ e ∷ f ∷ g ∷ more) ≡ Err BadCommand
more_than_move naming a b c d e f g [] some = absurd (some refl)
more_than_move naming a b c d e f g (word ∷ more) some = refl

-- more words than seven are refused
module _ (naming : Naming) (w more : List (List ℕ)) (a b c d e f g : List ℕ) (refusal : Refusal) (r : Result Command Refusal)
    (all : w ≡ a ∷ b ∷ c ∷ d ∷ e ∷ f ∷ g ∷ more) (end : (more ≢ []) × (refusal ≡ BadCommand)) (is : IsErrAnd r (λ fault. fault ≡ refusal)) where
  bad : IsErrAnd r (λ fault. fault ≡ BadCommand)
  bad = subst (λ (x : Refusal). IsErrAnd r (λ fault. fault ≡ x)) end.1 is

  pub insert_vertex-refused : OrMemory (insert_vertex naming w) r
  insert_vertex-refused = OrMemory-refused (insert_vertex naming w) r BadCommand (ap (insert_vertex naming) all ∙ more_than_insert naming a b c d e f g more end.0) bad

  pub move_vertex-refused : OrMemory (move_vertex naming w) r
  move_vertex-refused = OrMemory-refused (move_vertex naming w) r BadCommand (ap (move_vertex naming) all ∙ more_than_move naming a b c d e f g more end.0) bad
