pub mod Words
pub mod Stands
pub mod Promises
pub mod CodeCalls
pub mod Inferred
