pub mod WishLemmas
