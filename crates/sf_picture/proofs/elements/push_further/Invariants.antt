use Rattle.std.proofs.Common.{◌≡◌, ◌++◌, flat_map, string_bytes, take}
use Rattle.sf_picture.specs.Elements.{line_to}
use Rattle.sf_picture.proofs.elements.push_further.Given as goal

abbrev pub invariant-loop-point : goal.invariant-loop-point
invariant-loop-point l = string_bytes l.text ≡ string_bytes l.fn.text ++ flat_map (line_to l.view) (take l.point-index l.points)
