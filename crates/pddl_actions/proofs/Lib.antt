pub mod Effecting
pub mod Keeping
pub mod KeptEffects
pub mod PastEffects
pub mod ActionLists
pub mod ClauseLemmas
