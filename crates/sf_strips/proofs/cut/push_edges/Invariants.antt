use Rattle.std.proofs.Common.{◌≡◌, ◌+◌, ◌++◌, take}
use Rattle.sf_strips.specs.Fronts.{AreContacts}
use Rattle.sf_strips.proofs.cut.push_edges.Given as goal

-- the edges so far stand behind the order, with their contacts
abbrev pub invariant-loop-edge : goal.invariant-loop-edge
invariant-loop-edge l =
    record {
      order : l.order.items ≡ l.fn.order.items ++ take l.edge-index l.edges;
      contacts : AreContacts l.x l.order.items l.contacts.items;
      len : l.order.len ≡ l.fn.order.len + l.edge-index;
      capacity : l.order.cap ≡ l.fn.order.cap;
      contacts_capacity : l.contacts.cap ≡ l.fn.contacts.cap;
    }
