pub mod AxiomLaws
pub mod HeadLaws
pub mod FillerLaws
