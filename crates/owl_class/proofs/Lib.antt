pub mod EndLaws
pub mod ClosedLaws
pub mod TurnLaws
pub mod BracketLaws
pub mod GiveLaws
pub mod RunLaws
pub mod EntryLaws
