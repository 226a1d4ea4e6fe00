pub mod Converted
pub mod Demands
