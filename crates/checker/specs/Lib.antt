pub mod Promises
pub mod InRuns
pub mod Paid
