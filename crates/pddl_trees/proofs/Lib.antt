pub mod Noted
pub mod Numbers
pub mod Trees
pub mod Heads
pub mod LeafFaults
pub mod FirstFault
pub mod Quiet
pub mod Walks
