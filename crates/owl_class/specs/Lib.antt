pub mod Ends
pub mod Conjuncts
pub mod Spread
pub mod EntryTheorem
