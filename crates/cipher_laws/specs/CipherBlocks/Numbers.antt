-- Numbers of sectors as blocks, sealed some at once.
use Rattle.std.specs.Prelude.{◌≡◌, ℕ, ◌+◌, ◌*◌, ◌<◌, ◌^◌, List, [], slice_index_or}
use Rattle.cipher_laws.specs.CipherBlocks.Blocks.{number_block}

-- of eight blocks, those from the j-th on are the sealed numbers from `number` on, each `step` more
-- than the one before
pub record AreReady (seal : List ℕ → List ℕ) (step j number : ℕ) (blocks : List (List ℕ)) : Type 0
  where
    pub ready : (k d : ℕ) → j + d ≡ k → k < 8 → number + d * step < 2 ^ 64
        → slice_index_or blocks k [] ≡ seal (number_block (number + d * step))
