pub mod Inside
pub mod Turns
