use Rattle.std.proofs.Common.{◌≡◌, take}
use Rattle.sf_strands.specs.Walks.{strands_of_lines}
use Rattle.sf_strands.proofs.tangles.are_tangled.Given as goal

abbrev pub invariant-loop-line : goal.invariant-loop-line
invariant-loop-line l = l.strands ≡ strands_of_lines (take l.line-index l.lines)
