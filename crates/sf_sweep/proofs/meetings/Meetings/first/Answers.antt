use Rattle.std.proofs.Common.{◌≡◌, rules, subst}
use Rattle.std.specs.Prelude.{IfNone, IfSome}
use Rattle.sf_sweep.specs.Nearest.{IsFirstMeeting, NoneMeet, place_at}
use Rattle.sf_sweep.proofs.KeptLaws.{root-if_none, root-if_some}
use Rattle.sf_sweep.proofs.meetings.Meetings.first.Goals as goal

pub returns-in-Some-clause-some : goal.returns-in-Some-clause-some
returns-in-Some-clause-some c =
    let root : place_at c.self.inside.tree.items 1 ≡ c.in-Some.point.now = search rules in
    subst (λ cs. IfSome c.in-Some.point.now (λ p. IsFirstMeeting cs p)) c.self.view_is
    (root-if_some c.self.inside.contacts.items c.self.inside.tree.items c.in-Some.point.now c.self.invariant root)

pub returns-in-Some-clause-none : goal.returns-in-Some-clause-none
returns-in-Some-clause-none c =
    let root : place_at c.self.inside.tree.items 1 ≡ c.in-Some.point.now = search rules in
    subst (λ cs. IfNone c.in-Some.point.now (NoneMeet cs)) c.self.view_is
    (root-if_none c.self.inside.contacts.items c.self.inside.tree.items c.in-Some.point.now c.self.invariant root)
