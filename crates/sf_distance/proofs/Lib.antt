pub mod WeightLaws
pub mod CloseLaws
pub mod PointLaws
pub mod EdgeLaws
pub mod LeastLaws
pub mod DotLaws
pub mod RootLaws
pub mod MixedLaws
pub mod BoundLaws
pub mod SharedLaws
pub mod ScaleLaws
pub mod TextLaws
mod WorkedTexts
