pub mod Tables
pub mod TypedLists
