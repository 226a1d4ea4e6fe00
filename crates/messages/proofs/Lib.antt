pub mod Showing
pub mod Decimals
pub mod Names
pub mod Rendering
pub mod Parting
