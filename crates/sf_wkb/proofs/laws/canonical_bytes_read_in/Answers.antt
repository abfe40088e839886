use Rattle.sf_wkb.proofs.RoundTrip.{round_trip_in}
use Rattle.sf_wkb.proofs.laws.canonical_bytes_read_in.Goals as goal

pub returns : goal.returns
returns c = round_trip_in
