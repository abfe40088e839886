use Rattle.std.proofs.Common.{◌≡◌, ◌+◌, drop}
use Rattle.sf_strips.specs.Parts.{alone_count}
use Rattle.sf_strips.specs.Strips.{column_of}
use Rattle.sf_strips.proofs.cut.alone_len.Given as goal

-- the edges so far stand alone, and then as many as do of what is left
abbrev pub invariant-loop-place : goal.invariant-loop-place
invariant-loop-place l =
    let column = column_of l.strip in
    l.place + alone_count column (drop l.place l.edges) (drop l.place l.contacts) l.vertices ≡ alone_count column l.edges l.contacts l.vertices
