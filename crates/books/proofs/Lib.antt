pub mod Ages
pub mod Began
pub mod Crossing
pub mod Counted
pub mod Each
pub mod Held
pub mod Keeps
mod Named
pub mod RowRuns
pub mod Sames
mod Takes
pub mod Valids
