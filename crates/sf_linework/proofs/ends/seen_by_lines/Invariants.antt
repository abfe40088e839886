use Rattle.std.proofs.Common.{◌≡◌, drop}
use Rattle.std.specs.List.{flat_map}
use Rattle.sf_geometry.specs.Lists.{ends_of}
use Rattle.sf_linework.specs.Ends.{seen_ends, seen_or}
use Rattle.sf_linework.proofs.ends.seen_by_lines.Given as goal

-- what was seen of the lines that were passed, and of those that are left
abbrev pub invariant-loop-part : goal.invariant-loop-part
invariant-loop-part l =
    seen_or l.seen (seen_ends l.lines l.other (flat_map ends_of (drop l.part-index l.parts))) ≡ seen_ends l.lines l.other (flat_map ends_of l.parts)
