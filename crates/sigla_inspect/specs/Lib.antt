pub mod Text
pub mod Words
pub mod Promises
