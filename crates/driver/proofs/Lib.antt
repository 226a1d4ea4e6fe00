mod Continuing
mod Turning
mod Telling
pub mod Opening
pub mod Charges
pub mod Spending
pub mod Deciding
mod Lining
pub mod Demands
pub mod Days
pub mod Calls
pub mod Desks
