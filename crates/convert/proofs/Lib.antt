pub mod Joining
pub mod Places
pub mod Walking
