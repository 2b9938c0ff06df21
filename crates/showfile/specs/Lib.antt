pub mod Blocks
pub mod Spelling
pub mod Told
pub mod Tests
pub mod Reading
pub mod Heads
