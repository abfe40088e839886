use Rattle.sf_linework.proofs.CrossedLaws.{crossing_shows as law}
use Rattle.sf_linework.proofs.laws.crossing_shows.Goals as goal

pub returns : goal.returns
returns c = law
