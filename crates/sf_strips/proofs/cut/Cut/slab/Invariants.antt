use Rattle.std.proofs.Common.{◌≡◌, ◌+◌, ◌-◌, ◌≤◌, length}
use Rattle.sf_strips.specs.Parts.{levels_of}
use Rattle.sf_strips.proofs.CutLaws.{LinedOff}
use Rattle.sf_strips.proofs.cut.Cut.slab.Given as goal

-- the parts so far are those of the slab, whatever parts what is left has
abbrev pub invariant-loop-edges : goal.invariant-loop-edges
invariant-loop-edges l =
    record {
      cut : LinedOff l.fn.edges l.edges l.fn.contacts l.contacts (levels_of l.self.parts.items);
      few : length l.contacts ≤ length l.edges - 1;
      room : l.self.parts.len + length l.edges ≤ length l.fn.edges;
      capacity : l.fn.self.parts.cap ≤ l.self.parts.cap;
      order : l.self.order ≡ l.fn.self.order;
      contacts : l.self.contacts ≡ l.fn.self.contacts;
      segment : l.self.segment ≡ l.fn.self.segment;
    }

abbrev pub decreases-loop-edges : goal.decreases-loop-edges
decreases-loop-edges l = length l.edges
