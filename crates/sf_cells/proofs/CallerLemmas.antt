-- What a caller cites of the lemmas on cells that are handed out, passed on from one place. Declares nothing.
pub use Rattle.sf_cells.proofs.CountLaws.{fold-append}
pub use Rattle.sf_cells.proofs.ListingLaws.{HasMeasuredRoom, IsRecorded, IsRecorded-walk, numbers-more, own-below, own-length}
pub use Rattle.sf_cells.proofs.TallyLaws.{counts-grown, counts-left, counts-part, counts_none}
