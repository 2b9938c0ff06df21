pub mod Timing
pub mod Timings
pub mod Response
pub mod Periods
