use Rattle.std.proofs.Common.{◌≡◌, ap, ◌∙◌}
use Rattle.sf_grid.specs.declared.meet.Meet.TheVariants.{At}
use Rattle.sf_grid.specs.Edge.{edge_between}
use Rattle.sf_grid.specs.Fraction.{fraction_cmp}
use Rattle.sf_grid.specs.Plane.{Coordinates, Point}
use Rattle.sf_grid.specs.Sharing.{IsSharing}
use Rattle.sf_strips.proofs.SlantedLaws.{none_after}
use Rattle.sf_strips.proofs.contact.Contact.between.Goals as goal

-- what edges between the same ends share
same_ends : (a b s t u v k l : Coordinates) (p : Point) → a ≡ u → b ≡ v → s ≡ k → t ≡ l →
    IsSharing (edge_between a b) (edge_between s t) (At p) → IsSharing (edge_between u v) (edge_between k l) (At p)
same_ends a b s t u v k l p e f g h m = rw (← e, ← f, ← g, ← h) m

pub returns-in_default : goal.returns-in_default
returns-in_default c =
    none_after
    (edge_between c.args.e.now.left c.args.e.now.right)
    (edge_between c.args.f.now.left c.args.f.now.right)
    c.args.x.now
    c.in-At.p
    (same_ends c.left.result c.right.result c.left-2.result c.right-2.result
    c.args.e.now.left c.args.e.now.right c.args.f.now.left c.args.f.now.right c.in-At.p
    c.left.ensures c.right.ensures c.left-2.ensures c.right-2.ensures c.in-At.ensures)
    (λ e. c.in_default.not-Less (c.compare.ensures ∙ ap (λ q. fraction_cmp c.args.x.now q) c.x.ensures.value ∙ e))
