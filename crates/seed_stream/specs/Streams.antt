-- The random bytes that a seed is stretched to.
use Rattle.std.specs.Prelude.{ℕ, ◌≡◌, ◌+◌, ◌%◌, ◌<◌, List, length, slice_index, take}
use Rattle.rand_chacha.specs.ChaCha.{next_word, of_seed}
use Rattle.rand_core.specs.Steps.{fill_via_u32}

-- the first so many bytes of the key stream of ChaCha20, which has ten double rounds
unfoldable pub bytes_of_seed : List ℕ → ℕ → List ℕ
bytes_of_seed seed n = (fill_via_u32 (next_word 10) n (of_seed seed)).0

-- as many bytes come as are asked for, and behind whole words more begin with the same
pub record GoOn : Type 0 where
  pub bytes : (seed : List ℕ) (n k : ℕ) → slice_index (bytes_of_seed seed n) k < 256
  pub count : (seed : List ℕ) (n : ℕ) → length (bytes_of_seed seed n) ≡ n
  pub front : (seed : List ℕ) (n more : ℕ) → n % 4 ≡ 0
      → take n (bytes_of_seed seed (n + more)) ≡ bytes_of_seed seed n
