-- Whose steps an undo and a redo move.
use Rattle.std.proofs.Common.{◌≡◌, ◌≢◌, ◌⊎◌, ℕ, suc, Bool, true, false, inl, inr, List, [], ◌∷◌, cond, Result, Ok, Err, nat_eq, refl, sym, ◌∙◌, subst, arith}
use Rattle.std.specs.Prelude.{Contains}
use Rattle.std.proofs.lemmas.Bool.{eqb-true}
use Rattle.sf_layers.specs.Content.{Content}
use Rattle.sf_ruled_store.specs.Stepped.{Rule}
use Rattle.sf_ruled_store.specs.declared.refusal.Refusal.{Refusal as StepRefusal}
use Rattle.sf_ruled_store.specs.Ruled.{Ruled, ruled_step}
use Rattle.sf_history.specs.History.{Machine, Kept, fresh_under, kept, ruled_in, ruled_now, after_step, back_to, forth_to}
use Rattle.sf_history.specs.Laws.{Asked, Turn, Steps, Undoes, Redoes, Leads, LeadInTurn, IsMadeBy, steps_of, KeepsOthers, OwnStepsLaw}
use Rattle.sf_history.proofs.LawProofs.{allowed_own, machine-of}

-- ---- what was made in some of the turns

-- the steps beside past contents were made by their editors
abbrev PastMade : List Turn → Ruled → List Kept → Type 0
PastMade turns now [] = Unit {0}
PastMade turns now (before ∷ earlier) = IsMadeBy turns before.editor (ruled_in before) now × PastMade turns (ruled_in before) earlier

-- the steps beside future contents were made by their editors
abbrev FutureMade : List Turn → Ruled → List Kept → Type 0
FutureMade turns now [] = Unit {0}
FutureMade turns now (after ∷ later) = IsMadeBy turns after.editor now (ruled_in after) × FutureMade turns (ruled_in after) later

abbrev AllMade : List Turn → Machine → Type 0
AllMade turns machine = PastMade turns (ruled_now machine) machine.past × FutureMade turns (ruled_now machine) machine.future

-- ---- the steps of others

not_other : (b : Bool) (beside : Kept) (rest : List Kept) → b ≢ true → cond b (beside ∷ rest) rest ≡ rest
not_other true beside rest apart = absurd (apart refl)
not_other false beside rest apart = refl

-- another's steps, with one that isn't among them before them
steps_of-another : (editor other : ℕ) (beside : Kept) (rest : List Kept) → beside.editor ≡ editor → other ≢ editor → steps_of other (beside ∷ rest) ≡ steps_of other rest
steps_of-another editor other beside rest is apart =
    not_other (nat_eq beside.editor other) beside (steps_of other rest) (λ same. apart (sym (eqb-true beside.editor other same) ∙ is))

-- ---- moves

-- what a move of a step between two contents does, of an editor
abbrev Moved : List Turn → ℕ → Machine → Machine → Ruled → Ruled → Type 0
Moved turns editor old new before after = IsMadeBy turns editor before after × KeepsOthers editor old new

undone_own : (turns : List Turn) (editor : ℕ) (past : List Kept) (now : Content) (rules : List Rule) (future : List Kept) (new : Machine)
    → let old : Machine = record { past = past; now = now; rules = rules; future = future } in
    back_to editor old past ≡ Ok new → AllMade turns old → AllMade turns new × Moved turns editor old new (ruled_now new) (ruled_now old)
undone_own turns editor [] now rules future new h made = cc
undone_own turns editor (before ∷ earlier) now rules future new h made =
    let old : Machine = record { past = before ∷ earlier; now = now; rules = rules; future = future } in
    let own = allowed_own editor before _ new h in
    let is : before.editor ≡ editor = eqb-true before.editor editor own.0 in
    subst (λ m. AllMade turns m × Moved turns editor old m (ruled_now m) (ruled_now old)) own.1 (
      (made.0.1, (made.0.0, made.1)),
      (
        subst (λ e. IsMadeBy turns e (ruled_in before) (ruled_now old)) is made.0.0,
        λ other apart. (sym (steps_of-another editor other before earlier is apart), steps_of-another editor other (kept before.editor (ruled_now old)) future is apart),
      ),
    )

redone_own : (turns : List Turn) (editor : ℕ) (past : List Kept) (now : Content) (rules : List Rule) (future : List Kept) (new : Machine)
    → let old : Machine = record { past = past; now = now; rules = rules; future = future } in
    forth_to editor old future ≡ Ok new → AllMade turns old → AllMade turns new × Moved turns editor old new (ruled_now old) (ruled_now new)
redone_own turns editor past now rules [] new h made = cc
redone_own turns editor past now rules (after ∷ later) new h made =
    let old : Machine = record { past = past; now = now; rules = rules; future = after ∷ later } in
    let own = allowed_own editor after _ new h in
    let is : after.editor ≡ editor = eqb-true after.editor editor own.0 in
    subst (λ m. AllMade turns m × Moved turns editor old m (ruled_now old) (ruled_now m)) own.1 (
      ((made.1.0, made.0), made.1.1),
      (
        subst (λ e. IsMadeBy turns e (ruled_now old) (ruled_in after)) is made.1.0,
        λ other apart. (steps_of-another editor other (kept after.editor (ruled_now old)) past is apart, sym (steps_of-another editor other after later is apart)),
      ),
    )

step_made : (turns : List Turn) (asked : Asked) (old new : Machine) (result : Result Ruled StepRefusal) → Contains turns (Steps asked) → ruled_step (ruled_now old) asked.step ≡ result
    → after_step asked.editor old result ≡ Ok new → AllMade turns old → AllMade turns new
step_made turns asked old new (Err refusal) among is h made = cc
step_made turns asked old new (Ok next) among is h made =
    subst (AllMade turns) (machine-of h) ((record { step = asked.step; asked = among; leads = is }, made.0), tt)

turn_made : (turns : List Turn) (turn : Turn) (old new : Machine) → Contains turns turn → Leads old turn new → AllMade turns old → AllMade turns new
turn_made turns (Steps asked) old new among h made = step_made turns asked old new (ruled_step (ruled_now old) asked.step) among refl h made
turn_made turns (Undoes editor) old new among h made = (undone_own turns editor old.past old.now old.rules old.future new h made).0
turn_made turns (Redoes editor) old new among h made = (redone_own turns editor old.past old.now old.rules old.future new h made).0

or_refused : (turns : List Turn) (turn : Turn) (old new : Machine) → Contains turns turn → Leads old turn new ⊎ (new ≡ old) → AllMade turns old → AllMade turns new
or_refused turns turn old new among (inl led) made = turn_made turns turn old new among led made
or_refused turns turn old new among (inr same) made = subst (AllMade turns) (sym same) made

-- ---- runs of turns

first_contained : (turn : Turn) (turns : List Turn) → Contains (turn ∷ turns) turn
first_contained turn turns = (0, omega arith, refl)

later_contained : (first turn : Turn) (turns : List Turn) → Contains turns turn → Contains (first ∷ turns) turn
later_contained first turn turns (k, below, is) = (suc k, omega arith, is)

made_in_turn : (turns rest : List Turn) (first last : Machine) → ((turn : Turn) → Contains rest turn → Contains turns turn)
    → LeadInTurn first rest last → AllMade turns first → AllMade turns last
made_in_turn turns [] first last among h made = subst (AllMade turns) (sym h) made
made_in_turn turns (turn ∷ rest) first last among (mid, led, h) made =
    made_in_turn turns rest mid last (λ other at. among other (later_contained turn other rest at)) h
    (or_refused turns turn first mid (among turn (first_contained turn rest)) led made)

pub own_steps_law : OwnStepsLaw
own_steps_law first turns machine h editor next =
    let made = made_in_turn turns turns (fresh_under first) machine (λ turn at. at) h (tt, tt) in
    record {
      undo = λ done. (undone_own turns editor machine.past machine.now machine.rules machine.future next done made).1;
      redo = λ done. (redone_own turns editor machine.past machine.now machine.rules machine.future next done made).1;
    }
