-- A session in parts: runs one after another.
use Rattle.std.proofs.Common.{◌≡◌, ℕ, List, [], ◌∷◌, ◌++◌, Option, None, Some, sym, ap, ◌∙◌, subst, append_assoc, append-nil}
use Rattle.sf_history.specs.History.{Machine}
use Rattle.sf_console.specs.Readings.{Reading}
use Rattle.sf_console.specs.Requests.{readings_of}
use Rattle.sf_console.specs.Session.{Run}
use Rattle.sf_console.specs.Serving.{ServesAll}

-- runs one after another are one run
pub Run-append : (old mid new : Machine) (lines more : List Reading) (output rest : List ℕ)
    → Run old lines output mid → Run mid more rest new → Run old (lines ++ more) (output ++ rest) new
Run-append old mid new [] more output rest (none, same) run =
    subst (λ o. Run old more (o ++ rest) new) (sym none) (subst (λ m. Run m more rest new) same run)
Run-append old mid new (line ∷ lines) more output rest (next, text, later, answered, ran, parts) run =
    (next, text, later ++ rest, answered, Run-append next mid new lines more later rest ran run, ap (λ o. o ++ rest) parts ∙ append_assoc text later rest)

-- where both the reader and the writer tell their bytes, serving all writes the output of the input
pub ServesAll-known : (input written : List ℕ) (left : Option (List ℕ)) (old new : Machine)
    → ServesAll (Some input) left (Some []) (Some written) old new → Run old (readings_of input) written new
ServesAll-known input written None old new serves = absurd serves.consumed
ServesAll-known input written (Some left) old new serves =
    let all : serves.taken ≡ input = sym (serves.consumed ∙ ap (λ l. serves.taken ++ l) serves.at_end ∙ append-nil serves.taken) in
    subst (λ i. Run old (readings_of i) written new) all (subst (λ o. Run old (readings_of serves.taken) o new) (sym serves.appended) serves.ran)
