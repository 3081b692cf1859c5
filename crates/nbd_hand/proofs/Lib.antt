pub mod DecidedOptions
mod NameLemmas
pub mod NegotiationLemmas
mod OptionLemmas
mod TakenLemmas
