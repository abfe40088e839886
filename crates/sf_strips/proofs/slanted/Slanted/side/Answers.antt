use Rattle.std.proofs.Common.{◌≡◌, sym, subst, ◌∙◌, lit<}
use Rattle.std.specs.declared.cmp.Ordering.TheVariants.{Equal, Greater, Less}
use Rattle.sf_grid.specs.Edge.{cross}
use Rattle.sf_grid.specs.Plane.{grid_point}
use Rattle.sf_grid.proofs.CallerLemmas.{lt_from_test}
use Rattle.sf_strips.specs.Slanted.{RightwardEdge, side_of}
use Rattle.sf_strips.proofs.SlantedLaws.{left_is_above, right_is_below, side_of-cross, straight_is_on}
use Rattle.sf_strips.proofs.slanted.Slanted.side.Goals as goal

pub returns-in-Left : goal.returns-in-Left
returns-in-Left c =
    let e = c.self.inside in
    let p = grid_point c.args.p in
    let P : RightwardEdge → Type 0 = λ r. Greater ≡ side_of r.left r.right p in
    subst P c.self.view_is
    (sym (side_of-cross e.left e.right p (record { positive = lit< tt }) (lt_from_test _ _ e.rightward)
    ∙ left_is_above (cross e.left e.right p) (sym c.orientation.ensures ∙ c.in-Left.is)))

pub returns-in-Straight : goal.returns-in-Straight
returns-in-Straight c =
    let e = c.self.inside in
    let p = grid_point c.args.p in
    let P : RightwardEdge → Type 0 = λ r. Equal ≡ side_of r.left r.right p in
    subst P c.self.view_is
    (sym (side_of-cross e.left e.right p (record { positive = lit< tt }) (lt_from_test _ _ e.rightward)
    ∙ straight_is_on (cross e.left e.right p) (sym c.orientation.ensures ∙ c.in-Straight.is)))

pub returns-in-Right : goal.returns-in-Right
returns-in-Right c =
    let e = c.self.inside in
    let p = grid_point c.args.p in
    let P : RightwardEdge → Type 0 = λ r. Less ≡ side_of r.left r.right p in
    subst P c.self.view_is
    (sym (side_of-cross e.left e.right p (record { positive = lit< tt }) (lt_from_test _ _ e.rightward)
    ∙ right_is_below (cross e.left e.right p) (sym c.orientation.ensures ∙ c.in-Right.is)))
