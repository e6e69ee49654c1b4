pub mod Pairs
pub mod Printed
pub mod Walk
