pub mod Induction
pub mod ReadableParts
