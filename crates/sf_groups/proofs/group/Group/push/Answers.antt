use Rattle.std.proofs.Common.{◌≡◌, ◌∙◌, ◌++◌, ◌||◌, ◌∷◌, [], IsTrue, ap, rules, subst, sym}
use Rattle.std.specs.List.{list_any}
use Rattle.sf_groups.specs.Members.{IsGroup, adds_to, may_follow}
use Rattle.sf_groups.proofs.Pushed.{IsGroup-push, any-push}
use Rattle.sf_groups.proofs.group.Group.push.Goals as goal

pub invariant_of-self-2 : goal.invariant_of-self-2
invariant_of-self-2 c =
    let members = c.self.inside.members.items in
    let pushed : c.push.new.self.items ≡ members ++ c.args.member ∷ [] = search rules in
    let may : IsTrue (may_follow members c.args.member) = search rules in (
      subst IsGroup (sym pushed) (IsGroup-push members c.args.member c.self.invariant.0 may),
      λ name.
          c.in-Ok-note_added.ensures.noted name
          ∙ ap (λ b. b || adds_to name c.args.member) (c.self.invariant.1 name)
          ∙ sym (any-push (adds_to name) members c.args.member)
          ∙ sym (ap (list_any (adds_to name)) pushed),
    )
