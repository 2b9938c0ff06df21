pub mod Free
pub mod Jobs
pub mod Laying
pub mod Laid
pub mod Schedules
