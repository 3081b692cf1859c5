pub mod AreaLemmas
pub mod FieldLemmas
pub mod HiddenLemmas
pub mod PieceLemmas
pub mod ReadLemmas
pub mod WriteLemmas
