use Rattle.std.proofs.Common.{false, arith, ◌<◌, get_or, length}
use Rattle.std.proofs.lemmas.Grind.{common_steps}
use Rattle.std.proofs.lemmas.Str.{IsCharBoundary-after_ascii}
use Rattle.sf_commands.proofs.ValueListLemmas.{in_front-nothing}
use Rattle.sf_commands.proofs.value_lists.split_at_comma.Goals as goal

pub loop-place-init : goal.loop-place-init
loop-place-init c = in_front-nothing false c.args.text.now

pub range_from-requires : goal.range_from-requires
range_from-requires c =
    let text = c.args.text.now in
    let place = c.loop-place.place in
    let inside : place < length text = grind (arith, common_steps) in
    let ascii : get_or text place 0 < 128 = grind (arith, common_steps) in
    λ some. IsCharBoundary-after_ascii text place c.utf8.text inside ascii
