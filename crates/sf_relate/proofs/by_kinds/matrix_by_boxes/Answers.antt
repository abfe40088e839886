use Rattle.std.proofs.Common.{ap, not, refl}
use Rattle.sf_relate.proofs.ToldLaws.{boxes-apart, no-meeting}
use Rattle.sf_relate.proofs.by_kinds.matrix_by_boxes.Goals as goal

pub matrix_apart-requires : goal.matrix_apart-requires
matrix_apart-requires c =
    boxes-apart c.args.a.now c.args.b.now c.geometry.ensures.valid.valid c.requires.valid
    (no-meeting c.args.a.now c.args.b.now c.geometry.result.now c.args.b.now c.envelope.result c.args.extent c.meets.result
    c.geometry.ensures.same refl c.envelope.ensures c.requires.extent c.meets.ensures (ap not c.if-meets.false))
