pub mod Hashes
pub mod Xor
pub mod Hmac
pub mod Pbkdf2
pub mod Keyed
