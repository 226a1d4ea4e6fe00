pub mod Words
pub mod Runs
pub mod Lines
pub mod Running
