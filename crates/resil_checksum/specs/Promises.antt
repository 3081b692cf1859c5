-- What is promised of saved digests.
use Rattle.std.specs.Prelude.{ℕ, ◌≡◌, ◌≢◌, ◌<◌, ◌⊎◌, ◌↔◌, List}
use Rattle.sector_disk.specs.DiskViews.Parts.{block_at}
use Rattle.resil_checksum.specs.Clashes.{AllDiffer}
use Rattle.resil_checksum.specs.Digests.{AreDigests}
use Rattle.sha2.specs.Sha256.{sha256}

-- the saved digest is the atom's own exactly where it is the old one, and isn't exactly where it is
-- the new one
pub record IsTold (own saved old new : List ℕ) : Type 0 where
  pub as_old : (sha256 own ≡ saved) ↔ (own ≡ old)
  pub as_new : (sha256 own ≢ saved) ↔ (own ≡ new)

abbrev pub AtomsTold : Type 0
AtomsTold =
    (atom blocks : ℕ) (old new saved own : List ℕ) → AreDigests atom blocks old saved
    → AllDiffer atom blocks old new
    → (i : ℕ) → i < blocks → (own ≡ block_at atom old i) ⊎ (own ≡ block_at atom new i)
    → IsTold own (block_at 32 saved i) (block_at atom old i) (block_at atom new i)
