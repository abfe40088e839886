use Rattle.std.proofs.Common.{take}
use Rattle.std.specs.List.{AllByRecursion}
use Rattle.sf_steps.specs.Laws.{BringsGridPoints}
use Rattle.sf_groups.proofs.group.Group.brings_grid_points.Given as goal

-- those that were passed bring points on the grid
abbrev pub invariant-loop-member : goal.invariant-loop-member
invariant-loop-member l = AllByRecursion (λ member. BringsGridPoints member.edit) (take l.member-index l.member-items)
