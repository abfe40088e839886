mod Computed
pub mod Escapes
pub mod Letters
pub mod OneLine
pub mod QuoteLemmas
pub mod WrittenPieces
pub mod WrittenValues
