use Rattle.std.proofs.Common.{◌≡◌, ◌≤◌, ◌+◌, ◌*◌, ◌^◌, ◌+ℤ◌, drop, length, unsigned_abs}
use Rattle.sf_geometry.specs.Parts.{joined}
use Rattle.sf_measure.specs.Areas.{doubled_in_polygons}
use Rattle.sf_measure.proofs.area.of_polygons.Given as goal

-- the sum so far, that of what is left, and how large both may become
abbrev pub invariant-loop-rings : goal.invariant-loop-rings
invariant-loop-rings l = record {
  whole : l.sum +ℤ doubled_in_polygons (drop l.rings-index l.polygons) ≡ doubled_in_polygons l.polygons;
  small : unsigned_abs l.sum + 2 ^ 61 * length (joined (joined (drop l.rings-index l.polygons))) ≤ 2 ^ 61 * length (joined (joined l.polygons));
}
