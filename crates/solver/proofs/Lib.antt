pub mod Halving
pub mod Solving
