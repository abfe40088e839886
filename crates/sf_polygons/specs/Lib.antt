pub mod Colours
pub mod Rings
pub mod Tests
pub mod Found
