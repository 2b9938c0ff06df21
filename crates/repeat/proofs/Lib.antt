pub mod Ever
pub mod Look
pub mod Marks
mod UnderWay
pub mod Unique
