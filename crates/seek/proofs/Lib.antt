pub mod Counting
pub mod Spending
pub mod Running
pub mod Placing
pub mod Stopping
pub mod Reading
