use Rattle.sf_faults.specs.Written.{edge_of}
use Rattle.sf_faults.proofs.SharingLaws.{along-share, apart-share, once-share}
use Rattle.sf_faults.proofs.sharing.do_share.Goals as goal

pub returns-in-Apart : goal.returns-in-Apart
returns-in-Apart c = apart-share (edge_of c.args.e.now) (edge_of c.args.f.now) c.in-Apart.ensures

pub returns-in-At : goal.returns-in-At
returns-in-At c = once-share (edge_of c.args.e.now) (edge_of c.args.f.now) c.in-At.field-0 c.in-At.ensures

pub returns-in-Along : goal.returns-in-Along
returns-in-Along c = along-share (edge_of c.args.e.now) (edge_of c.args.f.now) c.in-Along.field-0 c.in-Along.field-1 c.in-Along.ensures
