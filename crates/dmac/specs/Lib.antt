pub mod Controller
pub mod Access
pub mod Choice
pub mod Line
pub mod Exception
pub mod Step
pub mod Run
pub mod Examples
