pub mod CLaws
