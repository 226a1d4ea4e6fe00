pub mod Views
pub mod Same
pub mod Calls
