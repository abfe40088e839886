use Rattle.std.proofs.Common.{◌≡◌, ◌≤◌, ◌+◌, ◌++◌, length, ap, sym, ◌∙◌, subst, arith, rules, reverse}
use Rattle.std.specs.List.{AllByRecursion}
use Rattle.sf_rtree.specs.Nodes.{IsBranch, entries_below, levels_below}
use Rattle.sf_rtree.proofs.Levels.{cut-step, cut-whole, inner-piece, nothing_left, piece-in_order, written_back}
use Rattle.sf_rtree.proofs.Meeting.{entries_below-append}
use Rattle.sf_rtree.proofs.Order.{all_left, all_right}
use Rattle.sf_rtree.proofs.Parts.{count}
use Rattle.sf_rtree.proofs.Sizes.{levels_all}
use Rattle.sf_rtree.proofs.build.level_above.Goals as goal

pub inner-requires : goal.inner-requires
inner-requires c =
    let left = c.take_last_part.new.members.items in
    let piece = c.in_ok-part.part.items in
    inner-piece (levels_below c.args.branches.items) left piece c.loop-parts.branches.items c.loop-parts.invariant.below c.in_ok-part.ensures.members
    c.in_ok-part.ensures.part
    (piece-in_order _ _ (entries_below c.loop-parts.branches.items) (entries_below left) (entries_below piece) _ _ _ _ c.loop-parts.invariant.cut c.requires.in_order
    (sym (entries_below-append left piece) ∙ ap entries_below c.in_ok-part.ensures.members))

pub loop-parts-preserved : goal.loop-parts-preserved
loop-parts-preserved c =
    let level = levels_below c.args.branches.items in
    let left = c.take_last_part.new.members.items in
    let piece = c.in_ok-part.part.items in
    let all : AllByRecursion (IsBranch level) (left ++ piece) =
    subst (AllByRecursion (IsBranch level)) (sym c.in_ok-part.ensures.members) c.loop-parts.invariant.below in
    let same : levels_below piece ≡ level = levels_all level piece (all_right (IsBranch level) left piece all) (omega (arith, c.in_ok-part.ensures.part.enough)) in
    record {
      cut =
          cut-step (level + 1) (entries_below c.args.branches.items) (entries_below c.loop-parts.branches.items) (entries_below left) (entries_below piece)
          (length c.loop-parts.branches.items) (length left) c.loop-parts.above.items c.push.new.self.items c.into_branch.result c.loop-parts.parts c.div_ceil-parts.result
          c.loop-parts.invariant.cut (omega arith) (sym (entries_below-append left piece) ∙ ap entries_below c.in_ok-part.ensures.members)
          c.in_ok-part.ensures.can
          (subst (λ l. IsBranch l c.into_branch.result) (ap (λ n. n.levels) c.inner.ensures ∙ ap (λ l. l + 1) same) c.into_branch.ensures.branch)
          (ap (λ n. n.entries) (c.into_branch.ensures.node ∙ c.inner.ensures)) c.in_ok-push.ensures.items;
      below = all_left (IsBranch level) left piece all;
    }

pub returns-clause-level : goal.returns-clause-level
returns-clause-level c =
    let done = c.loop-parts.above in
    let none : c.loop-parts.parts ≡ 0 = omega arith in
    let long : done.len ≡ length c.reverse.new.self = search rules in
    let many : 2 ≤ c.div_ceil-parts.result = (count (length c.args.branches.items) c.div_ceil-parts.result c.requires.many (search rules)).some in
    cut-whole (levels_below c.args.branches.items + 1) (entries_below c.args.branches.items) (entries_below c.loop-parts.branches.items)
    (length c.loop-parts.branches.items) done.items _ c.loop-parts.parts c.div_ceil-parts.result
    c.loop-parts.invariant.cut many none (ap entries_below (nothing_left c.loop-parts.branches.items c.loop-parts.parts c.loop-parts.invariant.cut.can none))
    (written_back done.len c.reverse.new.self _ long ∙ c.reverse.ensures.after ∙ ap reverse c.as_mut_slice.ensures.value)
