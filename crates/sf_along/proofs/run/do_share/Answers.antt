use Rattle.sf_grid.specs.Edge.{edge_between}
use Rattle.sf_along.proofs.MeetLaws.{none-else, two-along}
use Rattle.sf_along.proofs.run.do_share.Goals as goal

pub returns-in-Apart : goal.returns-in-Apart
returns-in-Apart c = (
  λ t. cc,
  λ k. absurd (none-else (edge_between c.args.e.0 c.args.e.1) (edge_between c.args.f.0 c.args.f.1) c.meet.result c.in-Apart.is c.meet.ensures k),
)

pub returns-in-Along : goal.returns-in-Along
returns-in-Along c = (
  λ t. two-along (edge_between c.args.e.0 c.args.e.1) (edge_between c.args.f.0 c.args.f.1) c.in-Along.field-0 c.in-Along.field-1 c.in-Along.ensures,
  λ k. cc,
)
