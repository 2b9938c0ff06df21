mod Lowest
mod Masks
mod Played
mod Runs
mod Samples
mod Steps
mod Until
