pub mod Bits
pub mod Fault
pub mod Groups
pub mod Status
pub mod Control
pub mod Config
pub mod Checks
