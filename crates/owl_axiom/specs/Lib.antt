pub mod Passing
pub mod PassingLaws
pub mod Entries
pub mod EntriesLaws
pub mod Axioms
pub mod Fillers
pub mod AnyNumberLaws
