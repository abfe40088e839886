use Rattle.std.proofs.Common.{◌≡◌, SFits, rules, w32}
use Rattle.std.proofs.lemmas.Int.{to_z-of_z}
use Rattle.sf_prepared.proofs.BesideLaws.{corner-left}
use Rattle.sf_prepared.proofs.beside.is_left.Goals as goal

pub returns-in-Left : goal.returns-in-Left
returns-in-Left c said =
    let fits_x : SFits w32 c.args.x = search rules in
    let fits_y : SFits w32 c.args.y = search rules in
    let at : c.in-Some.corner ≡ record { x = c.args.x; y = c.args.y } = simp to_z-of_z at c.in-Some.ensures.1 in
    corner-left c.args.a c.args.b c.in-Some.corner c.args.x c.args.y c.orientation.result at c.orientation.ensures c.in-Left.is
