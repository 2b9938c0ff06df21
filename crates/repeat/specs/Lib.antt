pub mod Marks
pub mod Finds
pub mod SearchStep
pub mod Looking
