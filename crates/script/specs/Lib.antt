pub mod Digits
pub mod Command
pub mod Text
pub mod Lines
