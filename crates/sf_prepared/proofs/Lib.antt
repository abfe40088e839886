pub mod AboveLaws
pub mod BesideLaws
pub mod EdgeLaws
pub mod FirstVertexLaws
pub mod NearLaws
pub mod NearbyLaws
pub mod PlacedLaws
pub mod TransposedLaws
