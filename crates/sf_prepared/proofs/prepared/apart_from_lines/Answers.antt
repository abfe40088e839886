use Rattle.sf_prepared.proofs.PlacedLaws.{lines-told}
use Rattle.sf_prepared.proofs.prepared.apart_from_lines.Goals as goal

pub matrix_apart-requires : goal.matrix_apart-requires
matrix_apart-requires c = lines-told c.args.geometry.now c.args.given.now c.args.extent c.requires.valid c.requires.valid_given c.requires.lines c.requires.extent c.requires.clear
