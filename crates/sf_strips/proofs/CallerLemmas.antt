-- What a caller cites of the lemmas on columns, passed on from one place. Declares nothing.
pub use Rattle.sf_strips.proofs.OnwardLaws.{sorted-first, sorted-rest}
pub use Rattle.sf_strips.proofs.SideLaws.{cmp-difference, edge_above-height, edge_above-vertical, goes_on, lt-scaled, on-side}
pub use Rattle.sf_strips.proofs.SlantedLaws.{height_in, slope_gap}
pub use Rattle.sf_strips.proofs.VertexLaws.{piece_at-below, start-entry, vertex-below}
