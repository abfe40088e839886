use Rattle.std.proofs.Common.{rules}
use Rattle.sf_picture.proofs.Frames.{all-shown-where}
use Rattle.sf_picture.proofs.view.View.of.Goals as goal

pub returns-clause-round : goal.returns-clause-round
returns-clause-round c = search rules

pub returns-clause-inside : goal.returns-clause-inside
returns-clause-inside c = all-shown-where c.args.choice.now.window c.args.choice.now c.args.store.now _ (returns-clause-round c)
