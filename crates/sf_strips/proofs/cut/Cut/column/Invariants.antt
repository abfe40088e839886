use Rattle.std.proofs.Common.{◌+◌, ◌≤◌, Some, length}
use Rattle.sf_strips.specs.Fronts.{AreApart, AreContacts}
use Rattle.sf_strips.specs.Levels.{most_onward}
use Rattle.sf_strips.specs.Parts.{levels_of}
use Rattle.sf_strips.proofs.CutLaws.{CutOff}
use Rattle.sf_strips.proofs.cut.Cut.column.Given as goal

-- the parts so far are those of the column, whatever parts what is left has
abbrev pub invariant-loop-edges : goal.invariant-loop-edges
invariant-loop-edges l =
    record {
      cut : CutOff (Some l.x) l.fn.edges l.edges l.fn.contacts l.contacts l.fn.vertices l.vertices l.self.order.items (levels_of l.self.parts.items);
      contacts : AreContacts l.x l.self.order.items l.self.contacts.items;
      apart : AreApart l.x l.edges l.contacts;
      room : l.self.parts.len + (length l.edges + length l.vertices) ≤ length l.fn.edges + length l.fn.vertices;
      order_room : l.self.order.len + most_onward l.edges l.vertices ≤ most_onward l.fn.edges l.fn.vertices;
      capacity : l.fn.self.parts.cap ≤ l.self.parts.cap;
      order_capacity : l.fn.self.order.cap ≤ l.self.order.cap;
      contacts_capacity : l.fn.self.contacts.cap ≤ l.self.contacts.cap;
      segment_capacity : l.fn.self.segment.cap ≤ l.self.segment.cap;
    }

abbrev pub decreases-loop-edges : goal.decreases-loop-edges
decreases-loop-edges l = length l.edges + length l.vertices
