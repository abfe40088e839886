use Rattle.std.proofs.Common.{arith}
use Rattle.sf_pieces.proofs.PairLaws.{parted, parted-handed, parted-ranges}
use Rattle.sf_pieces.proofs.grouped_pieces.GroupedPieces.walk.Goals as goal

pub walk_classes-requires-clause-few : goal.walk_classes-requires-clause-few
walk_classes-requires-clause-few g c =
    omega (arith, c.requires.few, (parted c.args.self.now c.self.inside.pieces.items c.as_slice.result.now c.self.inside.groups.items c.as_slice-2.result.now c.self.invariant.0 c.self.view_is c.as_slice.ensures.value c.as_slice-2.ensures.value).size)

pub walk_classes-requires-clause-groups_in_range : goal.walk_classes-requires-clause-groups_in_range
walk_classes-requires-clause-groups_in_range g c =
    parted-ranges c.args.self.now c.as_slice.result.now c.as_slice-2.result.now
    (parted c.args.self.now c.self.inside.pieces.items c.as_slice.result.now c.self.inside.groups.items c.as_slice-2.result.now c.self.invariant.0 c.self.view_is c.as_slice.ensures.value c.as_slice-2.ensures.value)
    c.requires.groups_in_range

pub returns-clause-ok : goal.returns-clause-ok
returns-clause-ok g c =
    parted-handed c.walk_classes.result c.args.self.now c.as_slice.result.now c.as_slice-2.result.now c.args.areal.now _ _ _
    (parted c.args.self.now c.self.inside.pieces.items c.as_slice.result.now c.self.inside.groups.items c.as_slice-2.result.now c.self.invariant.0 c.self.view_is c.as_slice.ensures.value c.as_slice-2.ensures.value)
    c.walk_classes.ensures.ok
