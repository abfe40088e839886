pub mod BoxLaws
pub mod SearchLaws
