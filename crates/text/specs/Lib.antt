pub mod Star
pub mod Utf8
pub mod Rule
pub mod Machine
pub mod Width
pub mod Answer
pub mod Surrogates
