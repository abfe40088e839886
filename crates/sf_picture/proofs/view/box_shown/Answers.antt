use Rattle.std.proofs.Common.{rules, subst, sym}
use Rattle.std.specs.Prelude.{◌≡◌}
use Rattle.sf_picture.specs.Views.{IsBoxOnGrid, box_shown}
use Rattle.sf_picture.proofs.Frames.{box_shown-on}
use Rattle.sf_picture.proofs.view.box_shown.Goals as goal

pub returns-clause-on_grid : goal.returns-clause-on_grid
returns-clause-on_grid c =
    let is : c.unwrap_or.result ≡ box_shown c.args.choice.now c.args.store.now = search rules in
    subst IsBoxOnGrid (sym is) (box_shown-on c.args.choice.now c.args.store.now c.extent_shown.ensures.well_formed)
