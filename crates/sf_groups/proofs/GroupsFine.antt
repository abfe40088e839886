-- A group keeps a content well formed, and one edit alone as a group is the edit.
use Rattle.std.proofs.Common.{◌≡◌, ℕ, ◌+◌, List, [], ◌∷◌, ◌++◌, Result, Ok, Err, refl, ap, subst, ◌∙◌}
use Rattle.std.specs.List.{AllByRecursion}
use Rattle.sf_layers.specs.Content.{Content}
use Rattle.sf_layers.specs.WellFormed.{IsWellFormed}
use Rattle.sf_steps.specs.declared.answer.Answer.{Answer}
use Rattle.sf_steps.specs.declared.answer.Answer.TheVariants.{Done, Id}
use Rattle.sf_steps.specs.declared.refusal.Refusal.{Refusal}
use Rattle.sf_steps.specs.Laws.{BringsGridPoints}
use Rattle.sf_steps.specs.Steps.{step}
use Rattle.sf_steps.proofs.StepsFine.{IsWellFormed-step}
use Rattle.sf_groups.specs.declared.member.Member.{Member}
use Rattle.sf_groups.specs.Members.{Refused, and_behind, ids_given, in_front, members_from, resolved}
use Rattle.sf_groups.specs.Laws.{GroupsKeepWellFormed, OneIsTheEdit}
use Rattle.sf_groups.proofs.TogetherLaws.{brings-resolved}

members-fine : (number : ℕ) (old new : Content) (members : List Member) (ids : List ℕ) → AllByRecursion (λ member. BringsGridPoints member.edit) members → IsWellFormed old
    → members_from number old members ≡ Ok (new, ids) → IsWellFormed new
members-fine number old new [] ids brings fine led =
    let both : ◌≡◌ {A = Content × List ℕ} (old, []) (new, ids) = cc in
    subst IsWellFormed (ap (λ p. p.0) both) fine
members-fine number old new (member ∷ members) ids brings fine led =
    by (λ next more fine led. members-fine (number + 1) next new members more brings.1 fine led) (step old (resolved old member)) refl led
  where
    -- what comes behind a step
    behind : ((next : Content) (more : List ℕ) → IsWellFormed next → members_from (number + 1) next members ≡ Ok (new, more) → IsWellFormed new)
        → (next : Content) (given : List ℕ) → IsWellFormed next → (r : Result (Content × List ℕ) Refused) → members_from (number + 1) next members ≡ r → in_front given r ≡ Ok (new, ids) → IsWellFormed new
    behind later next given fine (Ok rest) is h =
        let both : ◌≡◌ {A = Content × List ℕ} (rest.0, given ++ rest.1) (new, ids) = cc in
        later next rest.1 fine (is ∙ ap (λ p. let r : Result (Content × List ℕ) Refused = Ok (p.0, rest.1) in r) both)
    behind later next given fine (Err refused) is h = cc

    by : ((next : Content) (more : List ℕ) → IsWellFormed next → members_from (number + 1) next members ≡ Ok (new, more) → IsWellFormed new)
        → (r : Result (Content × Answer) Refusal) → step old (resolved old member) ≡ r → and_behind number r (λ next. members_from (number + 1) next members) ≡ Ok (new, ids) → IsWellFormed new
    by later (Ok done) is h =
        behind later done.0 (ids_given done.1) (IsWellFormed-step old done.0 (resolved old member) done.1 (brings-resolved old member brings.0) fine is) (members_from (number + 1) done.0 members) refl h
    by later (Err refusal) is h = cc

pub groups-fine : GroupsKeepWellFormed
groups-fine old new members ids brings fine led = members-fine 1 old new members ids brings fine led

pub one-edit : OneIsTheEdit
one-edit old new edit answer led = ap (λ r. and_behind 1 r (λ next. members_from (1 + 1) next [])) led ∙ by answer
  where
    by : (a : Answer) → in_front (ids_given a) (Ok (new, [])) ≡ Ok (new, ids_given a)
    by Done = refl
    by (Id id) = refl
