pub mod ClassLaws
mod Computed
