use Rattle.sf_prepared.proofs.EdgeLaws.{given-on-grid}
use Rattle.sf_prepared.proofs.PlacedLaws.{never-boundary, parity-off-boundary, place-by-parity}
use Rattle.sf_prepared.proofs.prepared.Prepared.place_of.Goals as goal

pub returns-in-Ok : goal.returns-in-Ok
returns-in-Ok c = record {
  place =
      place-by-parity c.args.given.now c.args.self.now c.args.point c.in-Ok.odd c.place_by_parity.result c.requires.held.valid c.requires.area c.requires.edges c.requires.off
      c.in-Ok.ensures c.place_by_parity.ensures;
  off = parity-off-boundary c.in-Ok.odd c.place_by_parity.result c.place_by_parity.ensures;
}

pub returns-in-Err : goal.returns-in-Err
returns-in-Err c = record {
  place = c.locate.ensures;
  off = never-boundary c.args.given.now c.args.point c.locate.result c.requires.held.valid c.requires.area c.requires.off c.locate.ensures;
}

pub is_odd_above-requires : goal.is_odd_above-requires
is_odd_above-requires c = given-on-grid c.args.given.now c.args.self.now c.requires.held.on_grid c.requires.edges
