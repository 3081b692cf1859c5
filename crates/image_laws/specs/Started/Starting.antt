-- A volume with which a conversion begins.
use Rattle.std.specs.Prelude.{ℕ, ◌≡◌, ◌<◌, true, List, length, Some, Ok}
use Rattle.base_terms.specs.declared.disk_sizes.Sizes.{Sizes}
use Rattle.luks_meta.specs.declared.digest.Digest.{Digest}
use Rattle.luks_meta.specs.declared.meta.Parts.{Parts}
use Rattle.luks_meta.specs.declared.reencrypt.Mode.TheVariants.{Reencrypt}
use Rattle.luks_rules.specs.Areas.{areas_begin}
use Rattle.luks_rules.specs.Idles.{idle_of}
use Rattle.luks_rules.specs.declared.areas.Area.{Area}
use Rattle.luks_rules.specs.declared.idle.Idle.{Idle}
use Rattle.luks_slots.specs.Functions.{named_cipher}
use Rattle.luks_slots.specs.Gaps.{IsFree}
use Rattle.luks_slots.specs.NewSlots.{IsSlotAt, StandsIn, area_len}
use Rattle.luks_slots.specs.Unlocks.{matches}
use Rattle.luks_slots.specs.declared.new_slot.NewSlot.{NewSlot}
use Rattle.luks_store.specs.Devices.{front_of}
use Rattle.luks_store.specs.Loads.{stored_in}
use Rattle.luks_store.specs.declared.loaded.Stored.{Stored}
use Rattle.reenc_meta.specs.Placements.{all_atoms}
use Rattle.reenc_meta.specs.Starts.{IsStarted}
use Rattle.reenc_meta.specs.Wishes.{MayStart}
use Rattle.reenc_meta.specs.declared.wish.Wish.{Wish}
use Rattle.reenc_recovery.specs.Images.{StandsFor, StandsUnder}
use Rattle.reenc_recovery.specs.Placings.{RestsIn}
use Rattle.sector_cipher.specs.Names.{IsKeyLength}
use Rattle.sector_disk.specs.Geometry.{IsDisk}
use Rattle.segment_map.specs.declared.Side.TheVariants.{Old}
use Rattle.image_laws.specs.Started.Gaps.{AgreeBut}
use Rattle.volume_machine.specs.Pieces.{side_in}

-- A volume that is encrypted is to be encrypted anew, and its header has room for it. The new
-- keyslot opens to the new key under a passphrase, the new digest is that of the key, and the key
-- has a length that the new cipher takes. Its area lies at a place that is free.
pub record IsRekeyed (m : Parts) (sizes : Sizes) (v : Idle) (w : Wish) (pass key : List ℕ)
    (besides : List Area) (offset : ℕ) (slot : NewSlot) : Type 0 where
  pub idle : idle_of m sizes ≡ Some v
  pub mode : w.mode ≡ Reencrypt
  pub room : MayStart m sizes w v
  pub digest : Digest
  pub wished : w.key ≡ Some (slot.keyslot, digest)
  pub same : matches digest key ≡ true
  pub long : IsKeyLength (named_cipher w.encryption) (length key)
  pub rounds : ℕ
  pub drawn : List ℕ
  pub made : IsSlotAt offset sizes.atom pass rounds key drawn slot
  pub free : IsFree m besides sizes.atom (area_len (length key)) offset

-- The first image holds the header that there was. The other holds one with the metadata with which
-- the conversion begins, and the new keyslot's bytes; and behind both copies what the first has
-- there, but for the area of these.
pub record HoldsStarted (sizes : Sizes) (header : Stored) (v : Idle) (w : Wish) (key : List ℕ)
    (offset : ℕ) (slot : NewSlot) (first now : List ℕ) : Type 0 where
  pub was : stored_in sizes (front_of sizes first) ≡ Ok header
  pub stored : Stored
  pub held : stored_in sizes (front_of sizes now) ≡ Ok stored
  pub started : IsStarted sizes w header.valid.meta v stored.valid.meta
  pub slot_stands : StandsIn now slot
  pub agree : AgreeBut (areas_begin stored.valid.meta.config) offset (area_len (length key)) first
      now

-- ---- what follows
-- An image stands for a content under these keys, all of it under the old one: no block is new yet.
pub record StandsOld (sizes : Sizes) (old new image : List ℕ) (content : List (List ℕ)) : Type 0
  where
    pub stands : StandsUnder sizes old new image content
    pub all_old : (b : ℕ) → b < stands.placement.map.blocks → side_in stands.placement.map b ≡ Old

-- And these are the keys of a passphrase.
pub record StandsOldFor (sizes : Sizes) (pass old new image : List ℕ) (content : List (List ℕ))
    : Type 0 where
  pub stands : StandsFor sizes pass image content
  pub old_key : stands.old ≡ old
  pub new_key : stands.new ≡ new
  pub all_old : (b : ℕ) → b < stands.stands.placement.map.blocks
      → side_in stands.stands.placement.map b ≡ Old

-- What the first stands for the other stands for, in a conversion that is under way: its key is the
-- old one now, under which each block is, and beside it is the new key. So it is under the keys of
-- the segments, and under the passphrase that opens the new keyslot.
pub record StandsStarted (sizes : Sizes) (pass key first now : List ℕ) : Type 0 where
  pub busy : RestsIn sizes now → ⊥
  pub keys : (old new : List ℕ) (content : List (List ℕ))
      → StandsUnder sizes old new first content → StandsOld sizes new key now content
  pub passphrase : (content : List (List ℕ)) → (stands : StandsFor sizes pass first content)
      → StandsOldFor sizes pass stands.new key now content

abbrev pub StartedVolumesStand : Type 0
StartedVolumesStand =
    (sizes : Sizes) (header : Stored) (v : Idle) (w : Wish) (pass key : List ℕ)
    (besides : List Area) (offset : ℕ) (slot : NewSlot) (first now : List ℕ)
    → IsDisk sizes.atom (all_atoms sizes)
    → IsRekeyed header.valid.meta sizes v w pass key besides offset slot
    → HoldsStarted sizes header v w key offset slot first now
    → StandsStarted sizes pass key first now
