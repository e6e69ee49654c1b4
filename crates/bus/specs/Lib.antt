pub mod Loans
pub mod Memory
pub mod Store
