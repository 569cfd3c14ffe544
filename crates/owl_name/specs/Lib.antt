pub mod Ordered
pub mod Walk
pub mod Declarations
pub mod AnyNumberLaws
