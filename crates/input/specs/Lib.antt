pub mod Numbers
pub mod Gains
pub mod Endings
