pub mod Layout
pub mod Counted
