pub mod HiddenLemmas
pub mod MeaningLemmas
pub mod SeenLemmas
