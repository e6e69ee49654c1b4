-- What the proofs share.
pub mod Rule
