pub mod Endings
pub mod Kinds
pub mod Lists
pub mod Rules
pub mod Runs
pub mod StripRules
pub mod Strips
