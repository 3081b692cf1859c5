pub mod HeadLemmas
pub mod MomentLemmas
pub mod PutLemmas
pub mod StreamLemmas
mod TakeLemmas
pub mod TalkLemmas
pub mod TrafficLemmas
