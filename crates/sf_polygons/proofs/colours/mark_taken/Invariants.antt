use Rattle.std.proofs.Common.{◌≡◌, ◌<◌, ℕ, None, false, true, length, slice_index, slice_index_or}
use Rattle.sf_polygons.specs.Colours.{do_meet}
use Rattle.sf_polygons.proofs.colours.mark_taken.Given as goal

abbrev pub invariant-loop-other : goal.invariant-loop-other
invariant-loop-other l =
    (k : ℕ) → k < length l.yielded → do_meet (slice_index_or l.boxes k None) l.extent ≡ true
    → slice_index_or l.taken (slice_index l.colours k) false ≡ true
