pub mod Shown
pub mod Said
pub mod Views
