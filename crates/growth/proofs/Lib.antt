pub mod Additions
pub mod Absent
pub mod Walking
pub mod Telling
pub mod Promise
mod Examples
