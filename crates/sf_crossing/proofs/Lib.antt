pub mod SideLaws
pub mod EdgeLaws
pub mod CountLaws
pub mod AloneLaws
pub mod NearLaws
pub mod SharingLaws
