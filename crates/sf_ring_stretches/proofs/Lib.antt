pub mod OneLaws
pub mod ExchangeLaws
pub mod PointLaws
pub mod KeptLaws
