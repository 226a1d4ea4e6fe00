pub mod Promises
pub mod Items
