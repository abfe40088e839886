pub mod LetterLaws
pub mod ContactLaws
pub mod OrderLaws
pub mod NineLaws
pub mod KnownLaws
pub mod ComputedPredicates
pub mod TextLaws
pub mod PlacedLaws
