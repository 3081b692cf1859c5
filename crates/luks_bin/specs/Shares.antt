-- What two copies of one header share: all bytes outside magic, salt, hdr_offset and csum.
use Rattle.std.specs.Prelude.{◌≡◌, ◌≢◌, ◌⊎◌, ℕ, ◌≤◌, ◌<◌, List, slice_index}

-- the place of a byte that copies share
abbrev pub IsShared : ℕ → Type 0
IsShared at =
    ((6 ≤ at) × (at < 104)) ⊎ (((168 ≤ at) × (at < 256)) ⊎ (((264 ≤ at) × (at < 448)) ⊎ (512 ≤ at)))

-- Two copies have the same shared bytes.
unfoldable pub Agree : List ℕ → List ℕ → Type 0
Agree a b = (k : ℕ) → IsShared k → slice_index a k ≡ slice_index b k

-- Two copies have the same shared bytes up to this one, and differ in it.
pub record DifferFirst (a b : List ℕ) (at : ℕ) : Type 0 where
  pub is_shared : IsShared at
  pub before : (k : ℕ) → IsShared k → k < at → slice_index a k ≡ slice_index b k
  pub differ : slice_index a at ≢ slice_index b at
