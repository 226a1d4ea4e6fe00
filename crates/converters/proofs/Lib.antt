pub mod Running
pub mod Round
