pub mod AreaLaws
pub mod RootLaws
pub mod SumLaws
