use Rattle.std.proofs.Common.{ap, sym, ◌∙◌, subst, [], ◌∷◌, List}
use Rattle.std.proofs.lemmas.Bool.{false≢true}
use Rattle.sf_grid.specs.Plane.{Coordinates}
use Rattle.sf_geometry.specs.declared.geometry.Geometry.TheVariants.{Polygon}
use Rattle.sf_faults.specs.Written.{IsFirstEdge}
use Rattle.sf_faults.proofs.AreaLaws.{hole-from, hole-to, leaves-from, leaves-to}
use Rattle.sf_faults.proofs.OutsideLaws.{hole-found, hole-inside}
use Rattle.sf_faults.proofs.outside.outside_at.Goals as goal

pub returns-then-not-branch : goal.returns-then-not-branch
returns-then-not-branch c =
    λ shell is.
    let ps = c.args.points.now in
    hole-inside shell c.args.hole ps
    (λ a. false≢true (sym c.if-not-branch.true ∙ c.in_ok-leaves_area.ensures.1
    (leaves-from c.args.area.now c.in_ok-ring.ring (Polygon (ps ∷ [])) shell is (c.in_ok-ring.ensures ∙ ap Polygon c.from_ref.ensures.value) (hole-from shell ps a))))

pub returns : goal.returns
returns c =
    λ shell is.
    let ps = c.args.points.now in
    hole-found shell c.args.hole ps c.in_ok-edge.edge
    (hole-to shell ps
    (leaves-to c.args.area.now c.in_ok-ring.ring (Polygon (ps ∷ [])) shell is (c.in_ok-ring.ensures ∙ ap Polygon c.from_ref.ensures.value) (c.in_ok-leaves_area.ensures.0 c.if-not-branch.false)))
    (subst (λ (qs : List Coordinates). IsFirstEdge shell qs c.in_ok-edge.edge) c.as_slice.ensures (c.in_ok-edge.ensures shell is))
