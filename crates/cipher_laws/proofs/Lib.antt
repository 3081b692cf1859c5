pub mod CipherBlocks
