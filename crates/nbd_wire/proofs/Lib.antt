pub mod ChunkLemmas
mod ExportLemmas
pub mod FieldLemmas
mod HandshakeLemmas
mod InfoDataLemmas
mod NameLemmas
pub mod OptionLemmas
mod OptionReplyLemmas
mod PartLemmas
pub mod RequestLemmas
mod SimpleReplyLemmas
pub mod ReadReplying
