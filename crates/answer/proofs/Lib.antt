pub mod Resolving
pub mod Noding
pub mod Unusing
pub mod Answering
pub mod Exchanging
