-- What an image of a volume's disks stands for: a content, block by block. The image is the bytes
-- of both disks, the header's in front where it has one of its own. No code computes this.
use Rattle.std.specs.Prelude.{ℕ, ◌≡◌, ◌<◌, ◌↔◌, List, length, drop, Some, Ok}
use Rattle.base_terms.specs.declared.disk_sizes.Sizes.{Sizes}
use Rattle.sector_disk.specs.DiskViews.Parts.{block_at, value_in}
use Rattle.luks_rules.specs.Areas.{areas_begin}
use Rattle.luks_store.specs.Devices.{front_of}
use Rattle.luks_store.specs.Loads.{stored_in}
use Rattle.luks_store.specs.declared.loaded.Stored.{Stored}
use Rattle.reenc_meta.specs.declared.placement.Placement.{Placement}
use Rattle.reenc_recovery.specs.Keys.{IsKeyOf, key_for, seals_by}
use Rattle.reenc_recovery.specs.Placings.{PlacesVolume}
use Rattle.segment_map.specs.declared.map.Map.{Map}
use Rattle.volume_laws.specs.Contents.{IsSealed}
use Rattle.volume_machine.specs.Pieces.{place_in, side_in}
use Rattle.volume_machine.specs.Seals.{Seals}

-- an atom is what a block is sealed to, and the block what the atom is opened to
pub record HoldsBlock (map : Map) (seals : Seals) (b : ℕ) (value atom : List ℕ) : Type 0 where
  pub sealed : IsSealed map seals b value atom
  pub opened : value ≡ seals.opened (side_in map b) b atom

-- the seals of a volume that lies so, under the keys of its sides
abbrev pub seals_in : ℕ → Placement → List ℕ → List ℕ → Seals
seals_in atom p old new = seals_by atom p.old p.new old new

-- the bytes of an image hold these blocks where they are placed
pub record HoldsBlocks (atom : ℕ) (p : Placement) (old new image : List ℕ)
    (content : List (List ℕ)) : Type 0 where
  pub count : length content ≡ p.map.blocks
  pub blocks : (b : ℕ) → b < p.map.blocks → HoldsBlock p.map (seals_in atom p old new) b
      (value_in content b) (block_at atom image (place_in p.map b))

-- An image of disks of these sizes stands for a content under the keys of its sides: it has a
-- header that breaks no rule and by which no zone of a conversion is open, these are the keys of
-- its segments' digests, and each block of the volume is held where the header places it.
pub record StandsUnder (sizes : Sizes) (old new image : List ℕ) (content : List (List ℕ)) : Type 0
  where
    pub stored : Stored
    pub header : stored_in sizes (front_of sizes image) ≡ Ok stored
    pub placement : Placement
    pub placed : PlacesVolume stored.valid.meta sizes placement
    pub old_key : IsKeyOf stored.valid.meta placement.old old
    pub new_key : IsKeyOf stored.valid.meta placement.new new
    pub holds : HoldsBlocks sizes.atom placement old new image content

-- It stands for a content under a passphrase: under the keys that its keyslots give to it.
pub record StandsFor (sizes : Sizes) (pass image : List ℕ) (content : List (List ℕ)) : Type 0
  where
    pub old : List ℕ
    pub new : List ℕ
    pub stands : StandsUnder sizes old new image content
    pub old_is : key_for stands.stored.valid.meta image pass stands.placement.old ≡ Some old
    pub new_is : key_for stands.stored.valid.meta image pass stands.placement.new ≡ Some new

-- ---- two images
-- The first holds this header. The other holds one of the same metadata, and behind both copies
-- what the first has there.
pub record HoldsOn (sizes : Sizes) (header : Stored) (first now : List ℕ) : Type 0 where
  pub was : stored_in sizes (front_of sizes first) ≡ Ok header
  pub stored : Stored
  pub held : stored_in sizes (front_of sizes now) ≡ Ok stored
  pub same : stored.valid ≡ header.valid
  pub behind : drop (areas_begin header.valid.meta.config) now
      ≡ drop (areas_begin header.valid.meta.config) first

-- what the first stands for, and nothing else, the other stands for: under the same keys, and under
-- the same passphrase
pub record KeepsContents (sizes : Sizes) (first now : List ℕ) : Type 0 where
  pub keys : (old new : List ℕ) (content : List (List ℕ))
      → StandsUnder sizes old new first content ↔ StandsUnder sizes old new now content
  pub passphrase : (pass : List ℕ) (content : List (List ℕ))
      → StandsFor sizes pass first content ↔ StandsFor sizes pass now content

-- both
pub record StandsAs (sizes : Sizes) (header : Stored) (first now : List ℕ) : Type 0 where
  pub holds : HoldsOn sizes header first now
  pub keeps : KeepsContents sizes first now
