use Rattle.std.proofs.Common.{◌≡◌, is_some, length, take, vec_len}
use Rattle.std.specs.List.{count_by}
use Rattle.sf_polygons.specs.Colours.{IsColouring}
use Rattle.sf_polygons.proofs.colours.colours_of.Given as goal

abbrev pub invariant-loop-extent : goal.invariant-loop-extent
invariant-loop-extent l = record {
  colouring : IsColouring (take l.extent-index l.boxes) l.colours.items;
  earlier : l.earlier ≡ count_by is_some (take l.extent-index l.boxes);
  taken : vec_len l.taken ≡ length l.boxes;
}
