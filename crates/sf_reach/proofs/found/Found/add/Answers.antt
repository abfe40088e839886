use Rattle.std.proofs.Common.{◌≡◌, ◌∙◌, [], ◌∷◌, ◌++◌, ap, subst, sym}
use Rattle.sf_reach.specs.Added.{AreAdded}
use Rattle.sf_reach.proofs.FoundLaws.{added-before, set-more}
use Rattle.sf_reach.proofs.found.Found.add.Goals as goal

pub invariant_of-self-2 : goal.invariant_of-self-2
invariant_of-self-2 c =
    set-more c.self.inside.ids c.insert.new.self c.self.inside.order.items c.push.new.self.items c.args.id c.self.invariant
    (sym c.if-not-branch.false ∙ c.in_ok-insert.ensures.added) c.in_ok-insert.ensures.updates.0 (c.in_ok-push.ensures.items ∙ ap (λ ids. ids ++ c.args.id ∷ []) c.in_ok-reserve.ensures.items)

pub returns-then-not-branch : goal.returns-then-not-branch
returns-then-not-branch c =
    subst (λ order. AreAdded (λ other. c.args.id ≡ other) order c.reserve.new.self.items) c.self.view_is
    (added-before c.self.inside.ids c.self.inside.order.items c.reserve.new.self.items c.args.id c.self.invariant (sym c.if-not-branch.true ∙ c.in_ok-insert.ensures.added) c.in_ok-reserve.ensures.items)
