pub mod Bits
pub mod Booked
pub mod BookedRows
pub mod ClosingRuns
mod ClosedAs
mod ClosedLaid
pub mod Extended
pub mod Found
pub mod Granted
mod LaidThere
pub mod LoopLaw
pub mod Looped
pub mod Matching
pub mod Onward
mod Places
mod Played
mod Proposed
pub mod Repeated
pub mod Returns
pub mod RowGoesOn
pub mod Sampled
mod Steps
pub mod Turns
mod WalkedOn
pub mod Windows
