use Rattle.std.proofs.Common.{◌≡◌, ◌∙◌, ap, sym, subst, ◌+◌, ◌∷◌, drop}
use Rattle.std.proofs.lemmas.List.{drop_more}
use Rattle.sf_along.specs.Runs.{AreInOrder, HasPartner}
use Rattle.sf_along.proofs.ScanLaws.{none-behind}
use Rattle.sf_along.proofs.run.Run.goes_with_one.Goals as goal
use Rattle.sf_along.proofs.run.Run.goes_with_one.Goals.{After-reaches}

-- what is left begins with the next run
next : (c : After-reaches) → drop c.loop-other.other-index c.args.behind.now ≡ c.other-item.result ∷ drop (c.loop-other.other-index + 1) c.args.behind.now
next c =
    drop_more c.args.behind.now c.loop-other.other-index c.other-item.result c.loop-other-test.true
    ∙ ap (λ x. x ∷ drop (c.loop-other.other-index + 1) c.args.behind.now) (sym c.other-item.is)

pub returns-then-not-reaches : goal.returns-then-not-reaches
returns-then-not-reaches c =
    let same = next (goal.at.returns-then-not-reaches c).After-reaches in (
      λ t. cc,
      λ k.
          absurd (none-behind c.args.self.now c.other-item.result (drop (c.loop-other.other-index + 1) c.args.behind.now)
          (subst (λ xs. AreInOrder (c.args.self.now ∷ xs)) same c.loop-other.invariant.order)
          (sym c.reaches.ensures ∙ c.if-not-reaches.true)
          (subst (HasPartner c.args.self.now) same (c.loop-other.invariant.left.on k))),
    )
