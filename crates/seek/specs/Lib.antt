pub mod Promises
pub mod Spending
