pub mod Totals
pub mod Places
pub mod Groups
pub mod Days
pub mod Examples
mod Checking
