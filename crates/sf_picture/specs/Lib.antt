pub mod Elements
pub mod Options
pub mod Pictures
pub mod Views
