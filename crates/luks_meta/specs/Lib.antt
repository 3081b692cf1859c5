pub mod Configs
pub mod Digests
pub mod Keyslots
pub mod Metas
pub mod Names
pub mod Reencrypts
pub mod Segments
pub mod Tokens
