pub mod Sums
pub mod Examples
