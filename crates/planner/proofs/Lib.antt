mod Demand
pub mod Least
pub mod Planned
mod Positive
mod Settling
