use Rattle.std.proofs.Common.{ap, sym, ◌∙◌, subst, rules, ◌≤◌, length}
use Rattle.sf_rtree.specs.Curves.{AreInOrder}
use Rattle.sf_rtree.proofs.Levels.{level-again, level-next, level-top}
use Rattle.sf_rtree.proofs.build.build.Goals as goal

pub level_above-requires-clause-level : goal.level_above-requires-clause-level
level_above-requires-clause-level c = level-again c.args.entries.items c.loop-alloc.branches.items c.loop-alloc.invariant

pub level_above-requires-clause-in_order : goal.level_above-requires-clause-in_order
level_above-requires-clause-in_order c = subst AreInOrder (sym c.loop-alloc.invariant.entries) c.requires

pub loop-alloc-preserved : goal.loop-alloc-preserved
loop-alloc-preserved c =
    level-next c.args.entries.items c.loop-alloc.branches.items c.in_ok-branches-2.branches.items c.loop-alloc.invariant c.in_ok-branches-2.ensures.level

pub inner-requires : goal.inner-requires
inner-requires c =
    let few : length c.loop-alloc.branches.items ≤ 8 = search rules in
    level-top c.args.entries.items c.loop-alloc.branches.items c.loop-alloc.invariant c.requires few

pub returns : goal.returns
returns c = ap (λ n. n.entries) c.inner.ensures ∙ c.loop-alloc.invariant.entries
