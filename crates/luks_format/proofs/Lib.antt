pub mod DrawnLemmas
pub mod FieldLemmas
pub mod MetaLemmas
pub mod PlaceLemmas
pub mod RulesLemmas
pub mod SizeLemmas
pub mod DiskFormat
