use Rattle.std.proofs.Common.{◌≡◌, take}
use Rattle.sf_groups.specs.Groups.{content_weight, together_touched}
use Rattle.sf_together.specs.Copies.{IsScratchOf}
use Rattle.sf_together.proofs.scratch.scratch_for.Given as goal

-- the scratch store has what the members so far look at, and holds as much as they name
abbrev pub invariant-loop-member : goal.invariant-loop-member
invariant-loop-member l =
    IsScratchOf l.store (take l.member-index l.members) l.scratch × (content_weight l.scratch ≡ together_touched l.store (take l.member-index l.members))
