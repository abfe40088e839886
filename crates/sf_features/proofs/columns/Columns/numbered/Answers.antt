use Rattle.std.proofs.Common.{◌∙◌, ap}
use Rattle.sf_features.specs.Columns.{numbered}
use Rattle.sf_features.proofs.Numbers.{lookup-numbered}
use Rattle.sf_features.proofs.columns.Columns.numbered.Goals as goal

pub returns : goal.returns
returns c = c.get.ensures.value ∙ lookup-numbered c.self.inside.columns.entries c.args.number c.self.invariant.keyed ∙ ap (λ columns. numbered columns c.args.number) c.self.view_is
