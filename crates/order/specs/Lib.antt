pub mod Rule
pub mod RuleLaws
pub mod Given
pub mod Asked
