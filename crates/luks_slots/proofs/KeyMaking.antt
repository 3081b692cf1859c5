pub mod DealLemmas
pub mod DigestLemmas
