pub mod OpenedMidway
mod KeyLemmas
mod RightLemmas
mod ShortLemmas
mod ResumeLemmas
pub mod RunLemmas
mod StandingLemmas
mod CountLemmas
mod CompleteLemmas
