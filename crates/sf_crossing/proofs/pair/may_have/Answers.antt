use Rattle.std.proofs.Common.{inr, sym, true≢false, ◌∙◌}
use Rattle.sf_geometry.specs.Parts.{edge_of}
use Rattle.sf_crossing.proofs.AloneLaws.{has-shared, none-have, shared-has}
use Rattle.sf_crossing.proofs.NearLaws.{has-near}
use Rattle.sf_crossing.proofs.pair.may_have.Goals as goal

pub returns-then-not-are_near : goal.returns-then-not-are_near
returns-then-not-are_near c = (
  λ t. cc,
  λ has. absurd (true≢false (sym (has-near c.args.edge.now c.args.line.now c.args.point.now c.x-column.ensures.point c.requires.on_line has) ∙ sym c.are_near.ensures ∙ c.if-not-are_near.true)),
)

pub returns-in-Apart : goal.returns-in-Apart
returns-in-Apart c = (
  λ t. cc,
  λ has. absurd (none-have (edge_of c.args.edge.now) (edge_of c.args.line.now) c.args.point.now c.in-Apart.ensures c.x-column.ensures.point c.requires.on_line has),
)

pub returns-in-At : goal.returns-in-At
returns-in-At c = (
  λ same. shared-has (edge_of c.args.edge.now) (edge_of c.args.line.now) c.args.point.now c.in-At.shared c.in-At.ensures c.x-column.ensures.point (sym c.is_same.ensures ∙ same),
  λ has. c.is_same.ensures ∙ has-shared (edge_of c.args.edge.now) (edge_of c.args.line.now) c.args.point.now c.in-At.shared c.in-At.ensures c.x-column.ensures.point c.requires.on_line has,
)

pub returns-in-Along : goal.returns-in-Along
returns-in-Along c = (
  λ t. inr (c.in-Along.field-0, c.in-Along.field-1, c.in-Along.ensures),
  λ has. cc,
)
