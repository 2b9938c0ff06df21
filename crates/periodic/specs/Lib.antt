pub mod Phases
pub mod Positions
pub mod Plays
pub mod Sames
pub mod Meanings
