use Rattle.sf_faults.proofs.ComputedLaws.{place-over_plane}
use Rattle.sf_faults.proofs.laws.places_are_over_the_plane.Goals as goal

pub returns : goal.returns
returns c = place-over_plane
