mod Printing
mod Jobs
pub mod Lamps
pub mod Edge
