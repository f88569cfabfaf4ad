pub mod Quotient
pub mod SignedNumbers
