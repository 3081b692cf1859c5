-- How blocks are compared in parts, by their old atoms or by digests of these.
use Rattle.std.specs.Prelude.{ℕ, ◌≡◌, ◌≢◌, ◌*◌, ◌<◌, ◌≤◌, min, List}
use Rattle.resil_checksum.specs.declared.judging.AtHand.{AtHand}
use Rattle.resil_checksum.specs.declared.judging.AtHand.TheVariants.{Atoms, Digests}
use Rattle.sector_disk.specs.DiskViews.Parts.{block_at}
use Rattle.sha2.specs.Sha256.{sha256}

-- the bytes at hand of one block
abbrev pub unit_of : AtHand → ℕ → ℕ
unit_of Atoms atom = atom
unit_of Digests atom = 32

-- the digest of a block's old atom
abbrev pub digest_in : AtHand → ℕ → List ℕ → ℕ → List ℕ
digest_in Atoms atom old block = sha256 (block_at atom old block)
digest_in Digests atom old block = block_at 32 old block

-- from one block to another each has an old atom and a new one of different digests
abbrev pub AllDifferIn : AtHand → ℕ → ℕ → ℕ → List ℕ → List ℕ → Type 0
AllDifferIn at_hand atom from to old new =
    (i : ℕ) → from ≤ i → i < to → digest_in at_hand atom old i ≢ sha256 (block_at atom new i)

-- among those it is the first one whose old atom and new one have the same digest
pub record IsFirstClash (at_hand : AtHand) (atom from to : ℕ) (old new : List ℕ) (block : ℕ)
    : Type 0 where
  pub within : (from ≤ block) × (block < to)
  pub same : digest_in at_hand atom old block ≡ sha256 (block_at atom new block)
  pub first : AllDifferIn at_hand atom from block old new

-- the first block of a part, where parts have so many blocks
abbrev pub part_start : ℕ → ℕ → ℕ → ℕ
part_start blocks run part = min blocks (part * run)
