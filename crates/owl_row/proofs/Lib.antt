pub mod StandLaws
pub mod LikeLaws
pub mod CountLaws
pub mod FreshLaws
pub mod FillerLaws
