use Rattle.std.proofs.Common.{◌≡◌, ◌∙◌, sym, refl, false}
use Rattle.std.proofs.lemmas.Bool.{both_ways}
use Rattle.sf_grid.specs.Edge.{edge_between}
use Rattle.sf_geometry.specs.Lists.{is_same}
use Rattle.sf_contact.proofs.PairLaws.{met-along, met-at, met-nowhere, none-meets}
use Rattle.sf_contact.proofs.edges.MeetingPairEdgeTest.test.Goals as goal
use Rattle.sf_contact.proofs.edges.MeetingPairEdgeTest.test.Goals.{After-meet}

-- the two points differ
differ : (c : After-meet) → is_same c.args.self.now.from c.args.self.now.to ≡ false
differ c = sym c.eq.ensures ∙ c.if-eq.false

pub returns-then-eq : goal.returns-then-eq
returns-then-eq c = (
  λ t. absurd (both_ways false refl t),
  λ s. absurd (none-meets c.args.self.now.from c.args.self.now.to (edge_between c.args.from c.args.to) (sym c.eq.ensures ∙ c.if-eq.true) s),
)

pub returns-in-Apart : goal.returns-in-Apart
returns-in-Apart c = (
  λ t. absurd (both_ways false refl t),
  λ s. absurd (met-nowhere c.args.self.now.from c.args.self.now.to c.args.from c.args.to (differ (goal.at.returns-in-Apart c).After-meet) c.in-Apart.ensures s),
)

pub returns-in-At : goal.returns-in-At
returns-in-At c = (λ t. met-at c.args.self.now.from c.args.self.now.to c.args.from c.args.to c.in-At.field-0 (differ (goal.at.returns-in-At c).After-meet) c.in-At.ensures, λ s. refl)

pub returns-in-Along : goal.returns-in-Along
returns-in-Along c = (
  λ t. met-along c.args.self.now.from c.args.self.now.to c.args.from c.args.to c.in-Along.field-0 c.in-Along.field-1 (differ (goal.at.returns-in-Along c).After-meet) c.in-Along.ensures,
  λ s. refl,
)
