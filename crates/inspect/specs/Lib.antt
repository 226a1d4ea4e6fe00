pub mod Inspect
pub mod Claims
pub mod Promises
