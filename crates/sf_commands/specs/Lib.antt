pub use Rattle.sf_words.specs.Words
pub use Rattle.sf_values.specs.Values
pub mod ValueLists
pub mod Commands
pub mod Laws
pub mod Members
pub mod GroupTexts
