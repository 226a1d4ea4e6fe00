pub mod Premises
pub mod Lines
pub mod Promises
