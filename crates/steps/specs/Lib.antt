pub mod Ends
pub mod Loads
pub mod Promises
pub mod Outside
pub mod InRuns
