use Rattle.std.proofs.Common.{◌≡◌, ◌≤◌, ◌+◌, ◌*◌, ◌^◌, ◌+ℤ◌, drop, length, unsigned_abs}
use Rattle.sf_geometry.specs.Parts.{joined}
use Rattle.sf_measure.specs.Areas.{doubled_in_rings}
use Rattle.sf_measure.proofs.area.of_rings.Given as goal

-- the sum so far, that of what is left, and how large both may become
abbrev pub invariant-loop-ring : goal.invariant-loop-ring
invariant-loop-ring l = record {
  whole : l.sum +ℤ doubled_in_rings (drop l.ring-index l.rings) ≡ doubled_in_rings l.rings;
  small : unsigned_abs l.sum + 2 ^ 61 * length (joined (drop l.ring-index l.rings)) ≤ 2 ^ 61 * length (joined l.rings);
}
