use Rattle.std.proofs.Common.{◌≡◌, ◌+◌, length}
use Rattle.std.specs.Vec.Iter.{into_iter_items}
use Rattle.sf_groups.specs.Members.{in_front, members_from, together}
use Rattle.sf_together.proofs.members.carry_out_all.Given as goal

-- what the members give is what is left to carry out gives, behind the identifiers so far
abbrev pub invariant-loop-member : goal.invariant-loop-member
invariant-loop-member l =
    (goal.iterator-loop-member).can_next l.member-iterator × (goal.iterator-loop-member).is_finite l.member-iterator
    × (in_front l.ids.items (members_from (l.number + 1) l.scratch (into_iter_items l.member-iterator)) ≡ together l.fn.scratch l.fn.members.items)
    × (l.number + length (into_iter_items l.member-iterator) ≡ length l.fn.members.items)
