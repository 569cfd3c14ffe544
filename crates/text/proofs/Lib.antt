pub mod Laws
pub mod WroteLaws
pub mod ListingLaws
pub mod FitsLaws
