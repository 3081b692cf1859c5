pub mod ApartLemmas
pub mod SizeLemmas
pub mod StartLemmas
pub mod WishLemmas
pub mod BeginLemmas
pub mod DiskInit
