pub mod Firsts
pub mod Kept
mod Refused
