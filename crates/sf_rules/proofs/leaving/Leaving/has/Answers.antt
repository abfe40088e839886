use Rattle.std.proofs.Common.{◌∙◌, ap}
use Rattle.sf_rules.specs.Leaving.{is_leaving}
use Rattle.sf_rules.proofs.leaving.Leaving.has.Goals as goal

pub returns : goal.returns
returns c = c.contains.ensures ∙ c.self.invariant c.args.place c.args.id ∙ ap (λ slots. is_leaving slots c.args.place c.args.id) c.self.view_is
