pub mod Filling
pub mod Rows
pub mod Lines
pub mod Nodes
pub mod Making
