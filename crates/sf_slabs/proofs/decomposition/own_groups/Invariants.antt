use Rattle.std.proofs.Common.{◌≡◌, ◌≤◌, vec_capacity, vec_len}
use Rattle.sf_cells.specs.Groups.{numbers}
use Rattle.sf_slabs.proofs.decomposition.own_groups.Given as goal

-- the groups so far, with room for all
abbrev pub invariant-loop-group : goal.invariant-loop-group
invariant-loop-group l =
    record {
      groups : l.groups.items ≡ numbers 0 l.group;
      len : vec_len l.groups ≡ l.group;
      room : l.pieces ≤ vec_capacity l.groups;
    }
