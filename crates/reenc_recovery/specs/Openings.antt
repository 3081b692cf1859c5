-- What is known of a volume whose header and keys passed all checks.
use Rattle.std.specs.Prelude.{ℕ, ◌≡◌, ◌*◌, ◌<◌, ◌≤◌, List, Option, Ok}
use Rattle.base_terms.specs.declared.disk_sizes.Sizes.{Sizes}
use Rattle.sector_disk.specs.DiskViews.Parts.{value_in}
use Rattle.luks_meta.specs.declared.meta.Parts.{Parts}
use Rattle.luks_rules.specs.Areas.{areas_begin, header_bytes}
use Rattle.luks_rules.specs.States.{IsSound}
use Rattle.luks_store.specs.Devices.{front_of}
use Rattle.luks_store.specs.Loads.{IsStored, stored_in}
use Rattle.luks_store.specs.declared.loaded.Stored.{Stored}
use Rattle.plain_disk.specs.Plain.{Block}
use Rattle.reenc_meta.specs.Places.{IsRightFor}
use Rattle.reenc_meta.specs.Placements.{IsPlacementOf}
use Rattle.reenc_meta.specs.declared.placement.Placement.{Placement}
use Rattle.reenc_recovery.specs.Images.{StandsUnder}
use Rattle.reenc_recovery.specs.Keys.{IsCipherOf, IsKeyOf, tweak_by, used_by}
use Rattle.volume_laws.specs.Contents.{block_in}
use Rattle.volume_laws.specs.Promises.{Starts}
use Rattle.volume_machine.specs.Seals.{seals_of}
use Rattle.volume_machine.specs.States.{State}
use Rattle.volume_machine.specs.declared.keys.Keys.{Keys}

-- The volume lies where its header says, and its keys are the ciphers of its segments under this
-- key, which is that of their digest. `sector`, `sealed` and `opened` are those of the ciphers.
pub record IsOpening {C : Type 0} (sector : C → ℕ) (sealed opened : C → ℕ → List ℕ → List ℕ)
    (m : Parts) (sizes : Sizes) (key : Option (List ℕ)) (p : Placement) (keys : Keys C) : Type 0
  where
    pub placed : IsPlacementOf m sizes p
    pub right : IsRightFor m sizes p
    pub old_key : IsKeyOf m p.old (used_by p.old.encryption key)
    pub new_key : IsKeyOf m p.new (used_by p.new.encryption key)
    pub old : IsCipherOf sector sealed opened p.old.encryption (used_by p.old.encryption key)
        keys.old
    pub new : IsCipherOf sector sealed opened p.new.encryption (used_by p.new.encryption key)
        keys.new
    pub old_tweak : keys.old_tweak ≡ tweak_by p.old.encryption
    pub new_tweak : keys.new_tweak ≡ tweak_by p.new.encryption

-- Its header breaks no rule for disks of these sizes, on which both its copies have room in front
-- of its areas; it says where the volume lies, of which no zone is open, and the keys are those of
-- its segments.
pub record HasPassed {C : Type 0} (sector : C → ℕ) (sealed opened : C → ℕ → List ℕ → List ℕ)
    (sizes : Sizes) (key : Option (List ℕ)) (header : Stored) (p : Placement) (keys : Keys C) :
    Type 0 where
  pub stored : IsStored header
  pub sizes_are : header.valid.sizes ≡ sizes
  pub sound : IsSound header.valid.meta sizes
  pub begin : areas_begin header.valid.meta.config ≡ 2 * header.copies.used.header.hdr_size
  pub room : 2 * header.copies.used.header.hdr_size ≤ header_bytes sizes
  pub opening : IsOpening sector sealed opened header.valid.meta sizes key p keys
  pub closed : p.map.zone ≡ 0

-- A volume was opened of disks that hold these bytes: by the header that they hold, and this key.
pub record IsOpened {C : Type 0} (sector : C → ℕ) (sealed opened : C → ℕ → List ℕ → List ℕ)
    (sizes : Sizes) (key : Option (List ℕ)) (all : List ℕ) (volume : State (Keys C)) : Type 0 where
  pub stored : Stored
  pub header : stored_in sizes (front_of sizes all) ≡ Ok stored
  pub placement : Placement
  pub opening : IsOpening sector sealed opened stored.valid.meta sizes key placement volume.keys
  pub map : volume.map ≡ placement.map

-- The bytes stand for a content under this key, and runs start from the volume as from the plain
-- disk that holds this content for certain.
pub record StartsAsImage {C : Type 0} (sealed opened : C → ℕ → List ℕ → List ℕ) (sizes : Sizes)
    (key : Option (List ℕ)) (all : List ℕ) (volume : State (Keys C)) : Type 0 where
  pub content : List (List ℕ)
  pub old : List ℕ
  pub new : List ℕ
  pub stands : StandsUnder sizes old new all content
  pub old_is : old ≡ used_by stands.placement.old.encryption key
  pub new_is : new ≡ used_by stands.placement.new.encryption key
  pub blocks : List Block
  pub starts : Starts volume (seals_of sealed opened volume.map.atom volume.keys) blocks all
  pub newest : (b : ℕ) → b < volume.map.blocks
      → value_in content b ≡ (block_in blocks b).newest
