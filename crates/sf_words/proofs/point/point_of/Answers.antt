use Rattle.std.proofs.Common.{◌≡◌, ◌∙◌, Ok, Some, rules, w32}
use Rattle.sf_wkt.specs.Tokens.{coordinate_of}
use Rattle.sf_words.proofs.PointLemmas.{point_gives}
use Rattle.sf_words.proofs.point.point_of.Goals as goal
use mir.Val.{SFits}

pub returns : goal.returns
returns c =
    let fits_x : SFits w32 c.in_ok-x-2.x = search rules in
    let fits_y : SFits w32 c.in_ok-y-2.y = search rules in
    let first : coordinate_of c.args.x.now ≡ Some (Ok c.in_ok-x-2.x) = search rules in
    let second : coordinate_of c.args.y.now ≡ Some (Ok c.in_ok-y-2.y) = search rules in
    c.ok_or-3.ensures.value ∙ point_gives c.args.x.now c.args.y.now c.in_ok-x-2.x c.in_ok-y-2.y c.new.result fits_x fits_y first second c.new.ensures
