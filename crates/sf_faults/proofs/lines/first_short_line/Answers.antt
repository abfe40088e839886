use Rattle.std.proofs.Common.{refl, length}
use Rattle.sf_geometry.specs.Lists.{tight}
use Rattle.sf_faults.specs.declared.place.Place.TheVariants.{Line}
use Rattle.sf_faults.specs.Candidates.{short_line}
use Rattle.sf_faults.specs.Orders.{numbered}
use Rattle.sf_faults.proofs.PlaceLaws.{first-alone, first-map, first-member, lt-from, lt-not, none-all, none-alone, none-map, none-member, numbered-at, numbered-end, numbered-length, single}
use Rattle.sf_faults.proofs.lines.first_short_line.Goals as goal

pub returns-then-tight_length-lt2 : goal.returns-then-tight_length-lt2
returns-then-tight_length-lt2 c =
    let xs = c.args.lines.now in
    let i = c.loop-part.part in
    let ps = c.as_slice.result.now in
    first-map short_line (numbered xs) (Line i)
    (first-member (single short_line) (numbered xs) i (i, ps) (Line i) (numbered-length xs i c.loop-part-test.true)
    (numbered-at xs i ps c.index-lines-part.result c.loop-part-test.true c.index-lines-part.is c.as_slice.ensures) c.loop-part.invariant
    (first-alone (short_line (i, ps)) (Line i) (lt-from c.tight_length.result (length (tight ps)) 2 c.tight_length.ensures c.if-tight_length-lt2.true) refl))

pub loop-part-preserved : goal.loop-part-preserved
loop-part-preserved c =
    let xs = c.args.lines.now in
    let i = c.loop-part.part in
    let ps = c.as_slice.result.now in
    none-member (single short_line) (numbered xs) i (i, ps) (numbered-length xs i c.loop-part-test.true)
    (numbered-at xs i ps c.index-lines-part.result c.loop-part-test.true c.index-lines-part.is c.as_slice.ensures) c.loop-part.invariant
    (none-alone (short_line (i, ps)) (lt-not c.tight_length.result (length (tight ps)) 2 c.tight_length.ensures c.if-tight_length-lt2.false))

pub returns : goal.returns
returns c =
    none-map short_line (numbered c.args.lines.now) (none-all (single short_line) (numbered c.args.lines.now) c.loop-part.part (numbered-end c.args.lines.now c.loop-part.part c.loop-part-test.false) c.loop-part.invariant)
