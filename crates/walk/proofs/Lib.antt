pub mod BankWalks
mod Beside
pub mod Crossing
pub mod Ends
pub mod Faultless
mod Finishing
pub mod Looking
pub mod Looping
pub mod Walking
