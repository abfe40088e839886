use Rattle.std.proofs.Common.{ap, sym, ◌∙◌, subst}
use Rattle.sf_rtree.specs.Curves.{AreInOrder, put}
use Rattle.sf_rtree.specs.Indexes.{with_box}
use Rattle.sf_rtree.proofs.Order.{in_order-put}
use Rattle.sf_rtree.proofs.Roots.{IsRootOf, root-put}
use Rattle.sf_rtree.proofs.tree.RTreeSpatialIndex.insert.Goals as goal

pub over-requires-clause-in_order : goal.over-requires-clause-in_order
over-requires-clause-in_order c =
    subst AreInOrder (sym c.in_ok-grown.ensures.entries) (in_order-put c.new.result c.self.inside.root.entries c.self.invariant.in_order)

is_root : (c : goal.In_ok-over) → IsRootOf c.in_ok-over.field-0 (with_box c.args.id c.args.extent c.args.self)
is_root c =
    root-put c.self.inside.root c.in_ok-over.field-0 c.args.self (record { id = c.args.id; extent = c.args.extent }) c.self.invariant c.self.view_is
    c.ranges.id.fits c.requires
    (c.in_ok-over.ensures ∙ c.in_ok-grown.ensures.entries ∙ ap (λ e. put e c.self.inside.root.entries) c.new.ensures)

pub invariant_of-result : goal.invariant_of-result
invariant_of-result c = (is_root c).root

pub returns : goal.returns
returns c = (is_root c).boxes
