-- The lists of bytes that ciphers work on: blocks, and whole sectors.
use Rattle.std.specs.Prelude.{◌≡◌, ℕ, ◌%◌, ◌<◌, List, length, slice_index}

-- each number is a byte
abbrev pub AreBytes : List ℕ → Type 0
AreBytes bytes = (k : ℕ) → slice_index bytes k < 256

-- 16 bytes
pub record IsBlock (block : List ℕ) : Type 0 where
  pub length_is : length block ≡ 16
  pub are_bytes : AreBytes block

-- bytes that are whole sectors of `sector` bytes each
pub record AreSectors (sector : ℕ) (bytes : List ℕ) : Type 0 where
  pub whole : length bytes % sector ≡ 0
  pub are_bytes : AreBytes bytes
