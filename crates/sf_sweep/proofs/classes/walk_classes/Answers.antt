use Rattle.sf_classes.proofs.ClassLaws.{handed-walk}
use Rattle.sf_sweep.proofs.classes.walk_classes.Goals as goal

pub returns-else-count-lt-LONGEST-clause-ok : goal.returns-else-count-lt-LONGEST-clause-ok
returns-else-count-lt-LONGEST-clause-ok g c = handed-walk c.walk.result c.args.pieces.now c.args.groups.now c.args.areal.now _ _ _ c.walk.ensures.ok
