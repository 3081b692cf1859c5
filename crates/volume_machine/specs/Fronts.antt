-- Bytes at the front of a buffer.
use Rattle.std.specs.Prelude.{ℕ, List}

-- the bytes, and how long the whole buffer is
pub record Front : Type 0 where
  pub bytes : List ℕ
  pub room : ℕ
