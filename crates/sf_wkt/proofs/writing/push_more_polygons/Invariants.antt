use Rattle.std.proofs.Common.{◌≡◌, ◌++◌, take}
use Rattle.std.specs.Prelude.{codes, string_bytes}
use Rattle.std.specs.List.{flat_map}
use Rattle.sf_wkt.specs.Grammar.{list_text, point_text}
use Rattle.sf_wkt.proofs.writing.push_more_polygons.Given as goal

abbrev pub invariant-loop-rings : goal.invariant-loop-rings
invariant-loop-rings l = string_bytes l.text ≡ string_bytes l.initial.text ++ flat_map (λ x. codes ", " ++ list_text (list_text point_text) x) (take l.rings-index l.polygons)
