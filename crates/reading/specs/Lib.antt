pub mod Held
pub mod Parts
pub mod Prints
pub mod Promises
pub mod Marks
pub mod Digits
pub mod OfLines
