pub mod Counting
pub mod Following
pub mod Frees
pub mod LaidRows
pub mod Masks
mod OneJob
pub mod RowLaid
pub mod Rules
mod Scanning
pub mod Strips
mod Taking
mod UnderWay
pub mod Unique
