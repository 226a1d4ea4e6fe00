pub mod Reading
pub mod Gains
pub mod Numbers
