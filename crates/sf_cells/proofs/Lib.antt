pub mod CallerLemmas
pub mod CountLaws
pub mod TallyLaws
pub mod TallySteps
pub mod HandSteps
pub mod AloneSteps
pub mod ListingLaws
