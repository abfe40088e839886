-- How long the answers of groups are.
use Rattle.std.proofs.Common.{◌≡◌, ℕ, zero, suc, ◌+◌, ◌<◌, ◌≤◌, List, [], ◌∷◌, ◌++◌, length, get_or, Result, Ok, Err, IsOk, OnErr, refl, sym, ap, ◌∙◌, arith}
use Rattle.std.specs.List.{slice_index_or}
use Rattle.std.proofs.lemmas.List.{length-append}
use Rattle.sf_layers.specs.Content.{Content}
use Rattle.sf_steps.specs.declared.answer.Answer.{Answer}
use Rattle.sf_steps.specs.declared.answer.Answer.TheVariants.{Done, Id}
use Rattle.sf_steps.specs.declared.refusal.Refusal.{Refusal as EditRefusal}
use Rattle.sf_steps.specs.Steps.{step}
use Rattle.sf_groups.specs.declared.member.Member.{Member}
use Rattle.sf_groups.specs.Members.{Refused, and_behind, ids_given, in_front, members_from, resolved, together}
use Rattle.sf_history.specs.Recorded.{OfGroup}
use Rattle.sf_history.specs.Recorded.{StepRefusal}
use Rattle.sf_history.specs.Recorded.{OfChange}
use Rattle.sf_history.specs.History.{Machine, giving, grouped, identifying, stepped}

-- an answer gives at most one identifier
one_id : (answer : Answer) → length (ids_given answer) ≤ 1
one_id Done = omega arith
one_id (Id id) = omega arith

-- what is given in front of others
with_front : (ids given : List ℕ) (rest : Result (Content × List ℕ) Refused) (new : Content) → in_front given rest ≡ Ok (new, ids)
    → (P : ℕ) → length given ≤ 1 → ((more : List ℕ) (last : Content) → rest ≡ Ok (last, more) → length more ≤ P) → length ids ≤ 1 + P
with_front ids given (Ok done) new is P few later =
    let same : ids ≡ given ++ done.1 = sym (ids_of is) in
    let all : length ids ≡ length given + length done.1 = ap length same ∙ length-append given done.1 in
    let rest = later done.1 done.0 refl in
    omega (arith, all, few, rest)
  where
    given_by : Result (Content × List ℕ) Refused → List ℕ
    given_by (Ok done) = done.1
    given_by (Err refused) = []

    ids_of : in_front given (Ok done) ≡ Ok (new, ids) → given ++ done.1 ≡ ids
    ids_of h = ap given_by h
with_front ids given (Err refused) new is P few later = absurd cc

-- members give at most one each
few_from : (number : ℕ) (content new : Content) (members : List Member) (ids : List ℕ) → members_from number content members ≡ Ok (new, ids) → length ids ≤ length members
few_from number content new [] ids is =
    let none : ids ≡ [] = sym (ids_of (Ok (content, [])) is) in
    let zero : length ids ≡ 0 = ap length none in
    omega (arith, zero)
  where
    given_by : Result (Content × List ℕ) Refused → List ℕ
    given_by (Ok done) = done.1
    given_by (Err refused) = []

    ids_of : (r : Result (Content × List ℕ) Refused) → r ≡ Ok (new, ids) → given_by r ≡ ids
    ids_of r h = ap given_by h
few_from number content new (member ∷ members) ids is = by (λ next last more. few_from (number + 1) next last members more) (step content (resolved content member)) is
  where
    by : ((next last : Content) (more : List ℕ) → members_from (number + 1) next members ≡ Ok (last, more) → length more ≤ length members)
        → (r : Result (Content × Answer) EditRefusal) → and_behind number r (λ next. members_from (number + 1) next members) ≡ Ok (new, ids)
        → length ids ≤ length (member ∷ members)
    by later (Ok done) h =
        let few = with_front ids (ids_given done.1) (members_from (number + 1) done.0 members) new h (length members) (one_id done.1)
        (λ more last rest. later done.0 last more rest) in
        omega (arith, few)
    by later (Err refusal) h = absurd cc

-- so does a group
pub few-identifiers : (editor : ℕ) (old new : Machine) (members : List Member) (ids : List ℕ) → grouped editor old members ≡ Ok (new, ids) → length ids ≤ length members
few-identifiers editor old new members ids is = by (stepped editor old (OfChange (OfGroup members))) (together old.now members) refl is
  where
    by : (result : Result Machine StepRefusal) (r : Result (Content × List ℕ) Refused) → together old.now members ≡ r
        → identifying result r ≡ Ok (new, ids) → length ids ≤ length members
    by (Ok next) (Ok done) led h = few_from 1 old.now done.0 members ids (led ∙ ap (λ (given : List ℕ). let r : Result (Content × List ℕ) Refused = Ok (done.0, given) in r) (ids_of h))
      where
        given_by : Result (Machine × List ℕ) StepRefusal → List ℕ
        given_by (Ok found) = found.1
        given_by (Err refusal) = []

        ids_of : giving done.1 (Ok next) ≡ Ok (new, ids) → done.1 ≡ ids
        ids_of same = ap given_by same
    by (Err refusal) (Ok done) led h = absurd cc
    by result (Err refused) led h = absurd cc

-- ---- room

-- a call succeeds whose failure would be a contradiction
pub ok-by : {X E P : Type 0} (r : Result X E) → OnErr r P → (P → ⊥) → IsOk r
ok-by (Ok x) fails none = refl
ok-by (Err e) fails none = absurd (none fails)

-- what a list has at a place inside of it, whatever stands for nothing
pub at-place : (xs : List ℕ) (i d : ℕ) → i < length xs → get_or xs i d ≡ slice_index_or xs i (get_or xs i d)
at-place xs i d inside = same xs i d (get_or xs i d) inside
  where
    same : (ys : List ℕ) (j a b : ℕ) → j < length ys → get_or ys j a ≡ get_or ys j b
    same [] j a b within = absurd (omega (arith, within))
    same (y ∷ ys) zero a b within = refl
    same (y ∷ ys) (suc j) a b within = same ys j a b (omega (arith, within))
