pub mod CountLaws
pub mod PairLaws
pub mod PassLaws
