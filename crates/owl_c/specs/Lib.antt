pub mod C
