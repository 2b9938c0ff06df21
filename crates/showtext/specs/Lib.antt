pub mod Told
pub mod Scripted
pub mod Spelled
pub mod Plans
pub mod Stored
