use Rattle.std.proofs.Common.{◌∙◌, sym}
use Rattle.sf_contact.proofs.DividedLaws.{divided-holds}
use Rattle.sf_contact.proofs.divided.known_by_sides.Goals as goal

pub returns-then-are_divided-clause-holds : goal.returns-then-are_divided-clause-holds
returns-then-are_divided-clause-holds c =
    divided-holds c.args.a.now c.args.b.now c.geometry.result.now c.geometry-then-is_small_area-2.result.now c.known_divided.result c.known_divided.ensures
    c.geometry.ensures.same c.geometry-then-is_small_area-2.ensures.same c.geometry.ensures.valid.valid c.geometry-then-is_small_area-2.ensures.valid.valid
    (sym c.is_small_area.ensures ∙ c.if-is_small_area.true)
    (sym c.is_small_area-then-is_small_area.ensures ∙ c.if-is_small_area-2.true)
    (c.are_divided.ensures.0 c.if-are_divided.true)
