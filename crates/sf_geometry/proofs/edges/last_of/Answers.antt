use Rattle.std.proofs.Common.{ap, sym, ◌∙◌}
use Rattle.sf_geometry.specs.Lists.{last_from}
use Rattle.sf_geometry.proofs.ListLaws.{last-pushed}
use Rattle.sf_geometry.proofs.edges.last_of.Goals as goal

pub returns-in-Some : goal.returns-in-Some
returns-in-Some c = sym (ap (λ ps. last_from c.args.first ps) c.in-Some.ensures.cases.0 ∙ last-pushed c.args.first c.in-Some.field-0-1.now c.in-Some.last.now)
