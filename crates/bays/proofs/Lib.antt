pub mod DealLemmas
pub mod NameLemmas
pub mod ShareLemmas
pub mod TellLemmas
