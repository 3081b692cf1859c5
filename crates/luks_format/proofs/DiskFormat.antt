pub mod FitLemmas
pub mod FrontLemmas
pub mod MakeLemmas
pub mod OpenedLemmas
pub mod PasteLemmas
pub mod RestLemmas
pub mod WrittenLemmas
