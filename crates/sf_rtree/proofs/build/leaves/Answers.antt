use Rattle.std.proofs.Common.{◌≡◌, ◌≤◌, length, ap, ◌∙◌, arith, rules, reverse}
use Rattle.sf_rtree.proofs.Levels.{cut-whole, leaf-piece, nothing_left, piece-in_order, written_back}
use Rattle.sf_rtree.proofs.Parts.{count}
use Rattle.sf_rtree.proofs.build.leaves.Goals as goal

pub leaf-requires : goal.leaf-requires
leaf-requires c =
    leaf-piece c.in_ok-part.part.items c.in_ok-part.ensures.part
    (piece-in_order _ _ _ c.take_last_part.new.members.items c.in_ok-part.part.items _ _ _ _ c.loop-parts.invariant c.requires.in_order c.in_ok-part.ensures.members)

pub returns : goal.returns
returns c =
    let done = c.loop-parts.leaves in
    let none : c.loop-parts.parts ≡ 0 = omega arith in
    let long : done.len ≡ length c.reverse.new.self = search rules in
    let many : 2 ≤ c.div_ceil-parts.result = (count (length c.args.entries.items) c.div_ceil-parts.result c.requires.many (search rules)).some in
    cut-whole 1 c.args.entries.items c.loop-parts.entries.items (length c.loop-parts.entries.items) done.items _ c.loop-parts.parts c.div_ceil-parts.result
    c.loop-parts.invariant many none (nothing_left c.loop-parts.entries.items c.loop-parts.parts c.loop-parts.invariant.can none)
    (written_back done.len c.reverse.new.self _ long ∙ c.reverse.ensures.after ∙ ap reverse c.as_mut_slice.ensures.value)
