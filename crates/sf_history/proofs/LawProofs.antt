-- The laws of the history.
use Rattle.std.proofs.Common.{◌≡◌, ℕ, Bool, true, false, List, [], ◌∷◌, ◌++◌, map, reverse, fold, Result, Ok, Err, IsOkAnd, nat_eq, if◌then◌else◌, refl, sym, ap, ◌∙◌, subst}
use Rattle.std.proofs.lemmas.Bool.{eq-eqb}
use Rattle.std.proofs.lemmas.List.{reverse-append}
use Rattle.sf_refusals.specs.declared.refusal.Refusal.{Refusal}
use Rattle.sf_refusals.specs.declared.refusal.Refusal.TheVariants.{NotYours}
use Rattle.sf_ruled_store.specs.declared.undo.Undo.{Undo}
use Rattle.sf_ruled_store.specs.declared.refusal.Refusal.{Refusal as StepRefusal}
use Rattle.sf_ruled_store.specs.Ruled.{Ruled, ruled_step}
use Rattle.sf_ruled_store.specs.Undos.{FitsUndoUnder, undone_under}
use Rattle.sf_history.specs.History.{Machine, Kept, kept, ruled_now, after_step, if_own, back_to, forth_to, FitInTurn}
use Rattle.sf_history.specs.Laws.{undone_after, undone_in_turn, IsBackAt, LeadsBack, UndoLaw, RedoLaw, InversesLaw}

-- a step's own editor may move it
pub own_allowed : (editor : ℕ) (beside : Kept) (machine : Machine) → nat_eq beside.editor editor ≡ true → if_own editor beside machine ≡ Ok machine
own_allowed editor beside machine is =
    ap (λ (b : Bool). let r : Result Machine Refusal = if b then Ok machine else Err (NotYours beside.editor) in r) is

allowed_if : (is : Bool) (machine last : Machine) (refusal : Refusal) → (if is then Ok machine else Err refusal) ≡ Ok last → (is ≡ true) × (machine ≡ last)
allowed_if true machine last refusal h = (refl, cc)
allowed_if false machine last refusal h = absurd cc

-- and nobody else
pub allowed_own : (editor : ℕ) (beside : Kept) (machine last : Machine) → if_own editor beside machine ≡ Ok last
    → (nat_eq beside.editor editor ≡ true) × (machine ≡ last)
allowed_own editor beside machine last h = allowed_if (nat_eq beside.editor editor) machine last (NotYours beside.editor) h

-- one accepted machine is the other
abbrev machine_or : Result Machine StepRefusal → Machine → Machine
machine_or (Ok machine) other = machine
machine_or (Err refusal) other = other

pub machine-of : {old new : Machine} → ◌≡◌ {A = Result Machine StepRefusal} (Ok old) (Ok new) → old ≡ new
machine-of {old} {new} h = ap (λ result. machine_or result old) h

-- the past of what is accepted, and nothing where it is refused
abbrev past_in : Result Machine StepRefusal → List Kept
past_in (Ok machine) = machine.past
past_in (Err refusal) = []

-- an accepted step puts the content on the past
past-stepped : (editor : ℕ) (machine mid : Machine) (result : Result Ruled StepRefusal) → after_step editor machine result ≡ Ok mid
    → mid.past ≡ kept editor (ruled_now machine) ∷ machine.past
past-stepped editor machine mid (Ok next) h = sym (ap past_in h)
past-stepped editor machine mid (Err refusal) h = cc

-- one more undo goes back over one more step of its editor
undone_after-back : (editor : ℕ) (first mid : Machine) (r : Result Machine Refusal) → mid.past ≡ kept editor (ruled_now first) ∷ first.past
    → IsOkAnd r (IsBackAt mid) → IsOkAnd (undone_after editor r) (IsBackAt first)
undone_after-back editor first mid (Ok back) e h =
    let there : Machine = record { past = first.past; now = first.now; rules = first.rules; future = kept editor (ruled_now back) ∷ back.future } in
    subst (λ past. IsOkAnd (back_to editor back past) (IsBackAt first)) (sym (h.past ∙ e))
    (subst (λ (r : Result Machine Refusal). IsOkAnd r (IsBackAt first)) (sym (own_allowed editor (kept editor (ruled_now first)) there (eq-eqb editor editor refl)))
    (record { now = refl; rules = refl; past = refl }))
undone_after-back editor first mid (Err refusal) e h = absurd h

pub undo_law : UndoLaw
undo_law first last [] h = record { now = ap (λ m. m.now) h; rules = ap (λ m. m.rules) h; past = ap (λ m. m.past) h }
undo_law first last (asked ∷ more) (mid, accepted, rest) =
    undone_after-back asked.editor first mid (undone_in_turn last more) (past-stepped asked.editor first mid (ruled_step (ruled_now first) asked.step) accepted) (undo_law mid last more rest)

-- one more fits behind others, where it fits the content that they restored
FitInTurn-append : (content mid : Ruled) (undos : List Undo) (undo : Undo) → FitInTurn content undos → fold undone_under content undos ≡ mid → FitsUndoUnder mid undo
    → FitInTurn content (undos ++ undo ∷ [])
FitInTurn-append content mid [] undo fit e fits = (subst (λ c. FitsUndoUnder c undo) (sym e) fits, tt)
FitInTurn-append content mid (one ∷ undos) undo fit e fits = (fit.0, FitInTurn-append (undone_under content one) mid undos undo fit.1 e fits)

fold-append_one : (content : Ruled) (undos : List Undo) (undo : Undo) → fold undone_under content (undos ++ undo ∷ []) ≡ undone_under (fold undone_under content undos) undo
fold-append_one content [] undo = refl
fold-append_one content (one ∷ undos) undo = fold-append_one (undone_under content one) undos undo

-- they fit in turn, and restore the first content
abbrev TakeBack : Ruled → Ruled → List Undo → Type 0
TakeBack first last undos = FitInTurn last undos × (fold undone_under last undos ≡ first)

take_back-one_more : (first mid last : Ruled) (undo : Undo) (undos : List Undo) → LeadsBack mid undo first → TakeBack mid last undos
    → TakeBack first last (undos ++ undo ∷ [])
take_back-one_more first mid last undo undos back h =
    (FitInTurn-append last mid undos undo h.0 h.1 back.1, fold-append_one last undos undo ∙ ap (λ c. undone_under c undo) h.1 ∙ back.0)

pub inverses_law : InversesLaw
inverses_law first last [] h = (tt, h)
inverses_law first last (pair ∷ pairs) (mid, led, back, rest) =
    let undos = map (λ p. p.1) pairs in
    subst (TakeBack first last) (sym (reverse-append (pair.1 ∷ []) undos))
    (take_back-one_more first mid last pair.1 (reverse undos) back (inverses_law mid last pairs rest))

redone_back : (editor : ℕ) (first last : Machine) (past : List Kept) → first.past ≡ past → back_to editor first past ≡ Ok last
    → forth_to editor last last.future ≡ Ok first
redone_back editor first last [] is h = cc
redone_back editor first last (before ∷ earlier) is h =
    let own = allowed_own editor before _ last h in
    subst (λ m. forth_to editor m m.future ≡ Ok first) own.1
    (own_allowed editor (kept before.editor (ruled_now first)) _ own.0 ∙ ap (λ past. let m : Machine = record first { past = past } in Ok m) (sym is))

undone_forth : (editor : ℕ) (first last : Machine) (future : List Kept) → first.future ≡ future → forth_to editor first future ≡ Ok last
    → back_to editor last last.past ≡ Ok first
undone_forth editor first last [] is h = cc
undone_forth editor first last (after ∷ later) is h =
    let own = allowed_own editor after _ last h in
    subst (λ m. back_to editor m m.past ≡ Ok first) own.1
    (own_allowed editor (kept after.editor (ruled_now first)) _ own.0 ∙ ap (λ future. let m : Machine = record first { future = future } in Ok m) (sym is))

pub redo_law : RedoLaw
redo_law editor first last = (redone_back editor first last first.past refl, undone_forth editor first last first.future refl)
