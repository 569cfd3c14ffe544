pub mod Join
pub mod Part
pub mod JoinLaws
pub mod Theorem
pub mod Unique
pub mod Instances
