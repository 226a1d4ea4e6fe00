pub mod Cabinet
pub mod Promises
pub mod Accounts
pub mod Days
