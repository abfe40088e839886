use Rattle.std.proofs.Common.{◌≡◌, ◌++◌, flat_map, string_bytes, take}
use Rattle.sf_picture.specs.Elements.{ring_path}
use Rattle.sf_picture.proofs.elements.push_polygon.Given as goal

abbrev pub invariant-loop-ring : goal.invariant-loop-ring
invariant-loop-ring l = string_bytes l.text ≡ string_bytes l.fn.text ++ flat_map (ring_path l.view) (take l.ring-index l.rings)
