pub mod Tokening
pub mod Staging
