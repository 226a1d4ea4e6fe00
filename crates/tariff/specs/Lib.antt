pub mod Tariff
pub mod Sums
