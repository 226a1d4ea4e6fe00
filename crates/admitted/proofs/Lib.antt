pub mod Telling
pub mod Reaching
pub mod Passing
pub mod Each
