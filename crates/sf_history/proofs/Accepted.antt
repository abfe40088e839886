-- What a step makes of a machine, by what it makes of the content and the rules.
use Rattle.std.proofs.Common.{◌≡◌, ◌⊎◌, inl, inr, ℕ, List, Result, Ok, Err, refl, sym, ap, ◌∙◌}
use Rattle.sf_layers.specs.Content.{Content}
use Rattle.sf_ruled_store.specs.Stepped.{Answer, Edit, EditRefusal, Member, OfEdit, OfGroup, Refused, step, together}
use Rattle.sf_ruled_store.specs.declared.refusal.Refusal.{Refusal as StepRefusal}
use Rattle.sf_ruled_store.specs.declared.refusal.Refusal.TheVariants.{ByEdit, ByMember, Memory}
use Rattle.sf_ruled_store.specs.Outcomes.{IsRefusedAs}
use Rattle.sf_ruled_store.specs.Ruled.{Asked as Step, OfChange, Ruled, after_change, edit_led, group_led, ruled_step}
use Rattle.sf_history.specs.History.{Machine, advanced, after_step, answering, edited, giving, grouped, identifying, ruled_now, stepped}
use Rattle.sf_history.proofs.LawProofs.{machine-of}

-- ---- accepted

pub step-accepted : (editor : ℕ) (old : Machine) (step : Step) (next : Ruled) → ruled_step (ruled_now old) step ≡ Ok next → stepped editor old step ≡ Ok (advanced editor old next)
step-accepted editor old step next led = ap (after_step editor old) led

pub edit-accepted : (editor : ℕ) (old : Machine) (edit : Edit) (next : Ruled) (answer : Answer) → ruled_step (ruled_now old) (OfChange (OfEdit edit)) ≡ Ok next → step old.now edit ≡ Ok (next.content, answer)
    → edited editor old edit ≡ Ok (advanced editor old next, answer)
edit-accepted editor old edit next answer led answered =
    ap (λ result. answering result (step old.now edit)) (step-accepted editor old (OfChange (OfEdit edit)) next led) ∙ ap (answering (Ok (advanced editor old next))) answered

pub group-accepted : (editor : ℕ) (old : Machine) (members : List Member) (next : Ruled) (ids : List ℕ) → ruled_step (ruled_now old) (OfChange (OfGroup members)) ≡ Ok next
    → together old.now members ≡ Ok (next.content, ids) → grouped editor old members ≡ Ok (advanced editor old next, ids)
group-accepted editor old members next ids led gave =
    ap (λ result. identifying result (together old.now members)) (step-accepted editor old (OfChange (OfGroup members)) next led) ∙ ap (identifying (Ok (advanced editor old next))) gave

-- ---- refused

-- one that is refused for want of memory, or as is said
refused-as : (result : Result Ruled StepRefusal) (refusal : StepRefusal) → IsRefusedAs result refusal → (result ≡ Err refusal) ⊎ (refusal ≡ Memory)
refused-as result Memory h = inr refl
refused-as result refusal h = inl h

left-by : {A B C : Type 0} → (A → B) → A ⊎ C → B ⊎ C
left-by f (inl a) = inl (f a)
left-by f (inr c) = inr c

pub step-refused : (editor : ℕ) (old : Machine) (step : Step) (refusal : StepRefusal) → IsRefusedAs (ruled_step (ruled_now old) step) refusal
    → (stepped editor old step ≡ Err refusal) ⊎ (refusal ≡ Memory)
step-refused editor old step refusal h = by (refused-as (ruled_step (ruled_now old) step) refusal h)
  where
    by : (ruled_step (ruled_now old) step ≡ Err refusal) ⊎ (refusal ≡ Memory) → (stepped editor old step ≡ Err refusal) ⊎ (refusal ≡ Memory)
    by (inl is) = inl (ap (after_step editor old) is)
    by (inr want) = inr want

pub edit-refused : (editor : ℕ) (old : Machine) (edit : Edit) (refusal : StepRefusal) → IsRefusedAs (ruled_step (ruled_now old) (OfChange (OfEdit edit))) refusal
    → (edited editor old edit ≡ Err refusal) ⊎ (refusal ≡ Memory)
edit-refused editor old edit refusal h = left-by (by (step old.now edit)) (refused-as (ruled_step (ruled_now old) (OfChange (OfEdit edit))) refusal h)
  where
    by : (r : Result (Content × Answer) EditRefusal) → after_change (ruled_now old) (OfEdit edit) (edit_led r) ≡ Err refusal
        → answering (after_step editor old (after_change (ruled_now old) (OfEdit edit) (edit_led r))) r ≡ Err refusal
    by (Ok done) is = ap (λ result. giving done.1 (after_step editor old result)) is
    by (Err why) is = let same : ByEdit why ≡ refusal = cc in ap (λ e. Err e) same

pub group-refused : (editor : ℕ) (old : Machine) (members : List Member) (refusal : StepRefusal) → IsRefusedAs (ruled_step (ruled_now old) (OfChange (OfGroup members))) refusal
    → (grouped editor old members ≡ Err refusal) ⊎ (refusal ≡ Memory)
group-refused editor old members refusal h = left-by (by (together old.now members)) (refused-as (ruled_step (ruled_now old) (OfChange (OfGroup members))) refusal h)
  where
    by : (r : Result (Content × List ℕ) Refused) → after_change (ruled_now old) (OfGroup members) (group_led r) ≡ Err refusal
        → identifying (after_step editor old (after_change (ruled_now old) (OfGroup members) (group_led r))) r ≡ Err refusal
    by (Ok done) is = ap (λ result. giving done.1 (after_step editor old result)) is
    by (Err why) is = let same : ByMember why.member why.refusal ≡ refusal = cc in ap (λ e. Err e) same

-- ---- what accepted steps are

-- the machine goes on to what the step leads to
pub stepped-advanced : (editor : ℕ) (old new : Machine) (step : Step) → stepped editor old step ≡ Ok new
    → (ruled_step (ruled_now old) step ≡ Ok (ruled_now new)) × (new ≡ advanced editor old (ruled_now new))
stepped-advanced editor old new step h = by (ruled_step (ruled_now old) step) h
  where
    by : (result : Result Ruled StepRefusal) → after_step editor old result ≡ Ok new → (result ≡ Ok (ruled_now new)) × (new ≡ advanced editor old (ruled_now new))
    by (Ok next) is =
        let same = machine-of is in
        let led : Machine → Result Ruled StepRefusal = λ machine. Ok (ruled_now machine) in
        (ap led same, sym same ∙ ap (λ machine. advanced editor old (ruled_now machine)) same)
    by (Err refusal) is = cc

abbrev machine_in : {X : Type 0} → Result (Machine × X) StepRefusal → Result Machine StepRefusal
machine_in (Ok done) = Ok done.0
machine_in (Err refusal) = Err refusal

given-machine : {X : Type 0} (given : X) (result : Result Machine StepRefusal) → machine_in (giving given result) ≡ result
given-machine given (Ok machine) = refl
given-machine given (Err refusal) = refl

pub edited-stepped : (editor : ℕ) (old new : Machine) (edit : Edit) (answer : Answer) → edited editor old edit ≡ Ok (new, answer) → stepped editor old (OfChange (OfEdit edit)) ≡ Ok new
edited-stepped editor old new edit answer h = by (step old.now edit) h
  where
    by : (r : Result (Content × Answer) EditRefusal) → answering (stepped editor old (OfChange (OfEdit edit))) r ≡ Ok (new, answer) → stepped editor old (OfChange (OfEdit edit)) ≡ Ok new
    by (Ok done) is = sym (given-machine done.1 (stepped editor old (OfChange (OfEdit edit)))) ∙ ap machine_in is
    by (Err why) is = cc

pub grouped-stepped : (editor : ℕ) (old new : Machine) (members : List Member) (ids : List ℕ) → grouped editor old members ≡ Ok (new, ids)
    → stepped editor old (OfChange (OfGroup members)) ≡ Ok new
grouped-stepped editor old new members ids h = by (together old.now members) h
  where
    by : (r : Result (Content × List ℕ) Refused) → identifying (stepped editor old (OfChange (OfGroup members))) r ≡ Ok (new, ids) → stepped editor old (OfChange (OfGroup members)) ≡ Ok new
    by (Ok done) is = sym (given-machine done.1 (stepped editor old (OfChange (OfGroup members)))) ∙ ap machine_in is
    by (Err why) is = cc
