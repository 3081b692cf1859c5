pub mod AlongLemmas
pub mod FrontLemmas
pub mod KeyLemmas
pub mod OpenedLemmas
pub mod ReadLemmas
pub mod ShortLemmas
pub mod StopLemmas
