-- How the two sides of a volume seal their blocks.
use Rattle.std.specs.Prelude.{ℕ, ◌≡◌, ◌+◌, ◌*◌, ◌/◌, ◌%◌, ◌<◌, ◌^◌, List}
use Rattle.segment_map.specs.declared.Side.{Side}
use Rattle.segment_map.specs.declared.Side.TheVariants.{Old, New, Zone}
use Rattle.volume_machine.specs.declared.keys.Keys.{Keys}
use Rattle.sector_disk.specs.DiskViews.Parts.{block_at, AreBlocks}

-- the key of a side, and the IV number of the first 512 bytes of its segment; a zone is the old
-- segment's
abbrev pub key_of : {C : Type 0} → Keys C → Side → C
key_of keys Old = keys.old
key_of keys Zone = keys.old
key_of keys New = keys.new

abbrev pub tweak_of : {C : Type 0} → Keys C → Side → ℕ
tweak_of keys Old = keys.old_tweak
tweak_of keys Zone = keys.old_tweak
tweak_of keys New = keys.new_tweak

-- the IV number of the first 512 bytes of a block
abbrev pub number_of : {C : Type 0} → Keys C → ℕ → Side → ℕ → ℕ
number_of keys atom side block = tweak_of keys side + block * (atom / 512)

-- what the bytes of blocks become, and what they were: on a side, from a block on
pub record Seals : Type 0 where
  pub sealed : Side → ℕ → List ℕ → List ℕ
  pub opened : Side → ℕ → List ℕ → List ℕ

-- keys as seals of blocks of `atom` bytes, over what a key makes of sectors
abbrev pub seals_of : {C : Type 0} → (C → ℕ → List ℕ → List ℕ) → (C → ℕ → List ℕ → List ℕ) → ℕ
    → Keys C → Seals
seals_of seal unseal atom keys = record {
  sealed = λ side block bytes. seal (key_of keys side) (number_of keys atom side block) bytes;
  opened = λ side block bytes. unseal (key_of keys side) (number_of keys atom side block) bytes;
}

-- seals undo each other, block by block
pub record AreLawful (atom : ℕ) (seals : Seals) : Type 0 where
  pub keeps_sealed : (side : Side) (block : ℕ) (bytes : List ℕ) → AreBlocks atom 1 bytes →
      AreBlocks atom 1 (seals.sealed side block bytes)
  pub keeps_opened : (side : Side) (block count : ℕ) (bytes : List ℕ) → AreBlocks atom count bytes →
      AreBlocks atom count (seals.opened side block bytes)
  pub opens_sealed : (side : Side) (block : ℕ) (bytes : List ℕ) → AreBlocks atom 1 bytes →
      seals.opened side block (seals.sealed side block bytes) ≡ bytes
  pub seals_opened : (side : Side) (block : ℕ) (bytes : List ℕ) → AreBlocks atom 1 bytes →
      seals.sealed side block (seals.opened side block bytes) ≡ bytes
  -- each block of a run is opened as it is by itself
  pub each_opened : (side : Side) (block count : ℕ) (bytes : List ℕ) → AreBlocks atom count bytes →
      (k : ℕ) → k < count →
      block_at atom (seals.opened side block bytes) k
      ≡ seals.opened side (block + k) (block_at atom bytes k)

-- the IV numbers of all blocks of a volume fit 64 bits, and sectors divide a block
pub record KeysFit {C : Type 0} (sector : C → ℕ) (keys : Keys C) (atom blocks : ℕ) : Type 0 where
  pub old_sector : atom % sector keys.old ≡ 0
  pub new_sector : atom % sector keys.new ≡ 0
  pub old_numbers : keys.old_tweak + blocks * (atom / 512) < 2 ^ 64
  pub new_numbers : keys.new_tweak + blocks * (atom / 512) < 2 ^ 64
