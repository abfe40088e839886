use Rattle.std.proofs.Common.{◌≡◌, ◌++◌, flat_map, string_bytes, take}
use Rattle.sf_picture.specs.Elements.{polygon_path}
use Rattle.sf_picture.proofs.elements.push_polygons.Given as goal

abbrev pub invariant-loop-rings : goal.invariant-loop-rings
invariant-loop-rings l = string_bytes l.text ≡ string_bytes l.fn.text ++ flat_map (polygon_path l.view) (take l.rings-index l.polygons)
