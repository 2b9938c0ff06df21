pub mod Course
pub mod BankLaws
pub mod Banks
pub mod Policies
pub mod Equalities
