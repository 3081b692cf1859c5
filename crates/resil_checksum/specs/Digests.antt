-- What is saved of the blocks of a zone by checksum.
use Rattle.std.specs.Prelude.{ℕ, ◌≡◌, ◌-◌, ◌*◌, ◌<◌, List, length, drop, replicate}
use Rattle.std.specs.Int.{div_ceil}
use Rattle.sector_disk.specs.DiskViews.Parts.{block_at}
use Rattle.sha2.specs.Sha256.{sha256}

-- how many bytes are saved of so many blocks: a digest of 32 bytes for each, in whole atoms
abbrev pub saved_len : ℕ → ℕ → ℕ
saved_len blocks atom = div_ceil (blocks * 32) atom * atom

-- the digests of so many atoms stand one behind the other
abbrev pub AreDigests : ℕ → ℕ → List ℕ → List ℕ → Type 0
AreDigests atom blocks old saved =
    (i : ℕ) → i < blocks → block_at 32 saved i ≡ sha256 (block_at atom old i)

-- ... and nothing but zeros behind them
pub record AreSaved (atom blocks : ℕ) (old saved : List ℕ) : Type 0 where
  pub digests : AreDigests atom blocks old saved
  pub zeros : drop (blocks * 32) saved ≡ replicate (length saved - blocks * 32) 0
