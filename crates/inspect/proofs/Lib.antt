pub mod Promises
pub mod Answering
