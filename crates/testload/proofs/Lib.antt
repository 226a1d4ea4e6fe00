pub mod Words
pub mod Tables
pub mod Lawful
pub mod Late
pub mod Promise
