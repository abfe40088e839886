use Rattle.sf_wkb.proofs.Chains.{sized_by}
use Rattle.sf_wkb.proofs.reading.read_in.Goals as goal

pub returns-clause-sized : goal.returns-clause-sized
returns-clause-sized c = sized_by c.args.grid c.args.bytes.now c.geometry_of.result c.geometry_of.ensures
