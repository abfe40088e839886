use Rattle.std.proofs.Common.{◌≡◌, map, take, vec_capacity}
use Rattle.sf_sweep.specs.Passing.{contact_at}
use Rattle.sf_sweep.proofs.front.gather.Given as goal

-- the contacts of the first edges were put down
abbrev pub invariant-loop-edge : goal.invariant-loop-edge
invariant-loop-edge l =
    record {
      items : l.found.items ≡ map (contact_at l.table) (take l.edge-index l.uppers);
      len : l.found.len ≡ l.edge-index;
      room : vec_capacity l.found ≡ vec_capacity l.fn.found;
    }
