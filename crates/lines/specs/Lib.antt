pub mod Pieces
pub mod Numeral
pub mod Words
pub mod Left
pub mod Tokens
