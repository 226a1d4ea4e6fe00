pub mod Slices
pub mod Tokens
pub mod Stages
pub mod Gives
