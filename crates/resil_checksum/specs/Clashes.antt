-- When a digest tells a block's old atom from its new one.
use Rattle.std.specs.Prelude.{ℕ, ◌≡◌, ◌≢◌, ◌<◌, List}
use Rattle.sector_disk.specs.DiskViews.Parts.{block_at}
use Rattle.sha2.specs.Sha256.{sha256}

-- of so many blocks each has an old atom and a new one of different digests
abbrev pub AllDiffer : ℕ → ℕ → List ℕ → List ℕ → Type 0
AllDiffer atom blocks old new =
    (i : ℕ) → i < blocks → sha256 (block_at atom old i) ≢ sha256 (block_at atom new i)

-- of so many blocks it is the first one whose old atom and new one have the same digest
pub record IsLowestClash (atom blocks : ℕ) (old new : List ℕ) (block : ℕ) : Type 0 where
  pub within : block < blocks
  pub same : sha256 (block_at atom old block) ≡ sha256 (block_at atom new block)
  pub lowest : AllDiffer atom block old new
