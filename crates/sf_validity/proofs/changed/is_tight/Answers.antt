use Rattle.sf_validity.proofs.EditLaws.{tight-told}
use Rattle.sf_validity.proofs.changed.is_tight.Goals as goal

pub returns : goal.returns
returns c = tight-told c.tight_length.result c.args.points.now c.tight_length.ensures
