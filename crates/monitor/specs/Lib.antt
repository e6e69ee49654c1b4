pub mod Area
pub mod Records
pub mod Monitor
pub mod Session
pub mod Replies
pub mod History
