pub mod Texts
pub mod Writing
pub mod Passing
pub mod Inspecting
