mod Moments
mod HeadLaws
mod LeftLaws
mod SaveLaws
mod WritingLemmas
pub mod Chains
mod RenewLaws
mod Rows
