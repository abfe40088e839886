use Rattle.std.proofs.Common.{◌≡◌, ◌++◌, flat_map, string_bytes, take}
use Rattle.sf_picture.specs.Elements.{line_path}
use Rattle.sf_picture.proofs.elements.push_lines.Given as goal

abbrev pub invariant-loop-line : goal.invariant-loop-line
invariant-loop-line l = string_bytes l.text ≡ string_bytes l.fn.text ++ flat_map (line_path l.view) (take l.line-index l.lines)
