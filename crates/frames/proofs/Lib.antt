pub mod Decoding
pub mod Following
pub mod Numbers
pub mod Readers
pub mod Statements
pub mod Shapes
pub mod Passing
pub mod Digits
