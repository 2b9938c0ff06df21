pub mod Refusals
pub mod Firsts
pub mod Ranges
pub mod Proposals
pub mod Lists
