pub mod Line
pub mod Values
pub mod Bytes
