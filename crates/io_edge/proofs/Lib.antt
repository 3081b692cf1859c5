mod IntakeLemmas
pub mod OutletLemmas
mod ReadLemmas
mod SupplyLemmas
mod WriteLemmas
