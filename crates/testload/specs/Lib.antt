pub mod Words
pub mod Rule
