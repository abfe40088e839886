use Rattle.sf_nearness.proofs.ContactLaws.{boxes-none}
use Rattle.sf_nearness.proofs.contact.are_boxes_apart.Goals as goal

pub returns : goal.returns
returns c =
    boxes-none c.args.a.now c.args.b.now c.geometry.result.now c.geometry-2.result.now c.envelope.result c.envelope-2.result c.meets.result
    c.geometry.ensures.valid.valid c.geometry-2.ensures.valid.valid c.geometry.ensures.same c.geometry-2.ensures.same c.envelope.ensures c.envelope-2.ensures c.meets.ensures
