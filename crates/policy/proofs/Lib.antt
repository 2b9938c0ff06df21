mod Courses
pub mod Stepping
pub mod Filled
