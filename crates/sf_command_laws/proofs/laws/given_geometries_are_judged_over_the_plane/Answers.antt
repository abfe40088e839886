use Rattle.sf_command_laws.proofs.JudgedProofs.{given_geometries_are_judged_over_the_plane}
use Rattle.sf_command_laws.proofs.laws.given_geometries_are_judged_over_the_plane.Goals as goal

pub returns : goal.returns
returns c = given_geometries_are_judged_over_the_plane
