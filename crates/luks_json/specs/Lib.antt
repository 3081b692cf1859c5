pub mod Configs
pub mod Digests
pub mod Keyslots
pub mod MetaForms
pub mod Metas
pub mod Reencrypts
pub mod Segments
pub mod Tokens
