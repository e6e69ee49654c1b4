pub mod Decode
pub mod State
pub mod Start
pub mod Write
pub mod Read
pub mod Requests
pub mod Operation
