-- What an image of a volume's disks stands for, also where its header has a zone of a conversion
-- open. No code computes this.
use Rattle.std.specs.Prelude.{ℕ, ◌≡◌, ◌⊎◌, ◌-◌, ◌<◌, ◌↔◌, List, [], length, Some, Ok}
use Rattle.crash_laws.specs.HeaderAreas.Areas.{Image}
use Rattle.base_terms.specs.declared.disk_sizes.Sizes.{Sizes}
use Rattle.sector_disk.specs.DiskViews.Parts.{AreBlocks, block_at, value_in}
use Rattle.crash_laws.specs.HotZones.Standing.{Recovers}
use Rattle.crash_laws.specs.HotZones.Zones.{Hotzone, Texts}
use Rattle.luks_rules.specs.Shapes.{progress_of}
use Rattle.luks_rules.specs.declared.shape.Progress.{Progress}
use Rattle.luks_store.specs.Devices.{front_of}
use Rattle.luks_store.specs.Loads.{stored_in}
use Rattle.luks_store.specs.declared.loaded.Stored.{Stored}
use Rattle.image_laws.specs.Opened.Zones.{zone_of}
use Rattle.reenc_meta.specs.ConversionMaps.{IsMapAt}
use Rattle.reenc_recovery.specs.Images.{HoldsBlock, StandsFor, StandsUnder}
use Rattle.reenc_recovery.specs.Keys.{IsKeyOf, key_for, seals_by}
use Rattle.segment_map.specs.declared.Side.{Side}
use Rattle.segment_map.specs.declared.Side.TheVariants.{New, Old, Zone}
use Rattle.segment_map.specs.declared.map.Map.{Map}
use Rattle.volume_machine.specs.Pieces.{place_in, side_in}
use Rattle.volume_machine.specs.Saved.{saved_hash}
use Rattle.volume_machine.specs.Seals.{Seals}

-- ---- a block of the open zone
-- what it is sealed to on the one side and on the other
abbrev pub sealed_both : Seals → ℕ → List ℕ → Texts
sealed_both seals b value = record {
  old = λ i. seals.sealed Old b value;
  new = λ i. seals.sealed New b value;
  saved = λ i. [];
}

-- The block stands for a value as the laws of zones say it: by journal the saved atom is what it is
-- sealed to on the old side; by checksum the saved digest is this one's and not that of what it is
-- sealed to on the new side, and its own atom is one of the two. What it is sealed to opens to it,
-- on either side.
pub record HoldsSaved (atom : ℕ) (zone : Hotzone (Unit {0})) (first : ℕ) (seals : Seals)
    (image : Image) (b : ℕ) (value : List ℕ) : Type 0 where
  pub are : AreBlocks atom 1 value
  pub tells : Recovers zone.resilience saved_hash zone (sealed_both seals b value) image (b - first)
  pub old : value ≡ seals.opened Old b (seals.sealed Old b value)
  pub new : value ≡ seals.opened New b (seals.sealed New b value)

-- ---- an image
-- by place, the atom in its bytes
abbrev pub atom_in : ℕ → List ℕ → Image
atom_in atom bytes place = block_at atom bytes place

-- a block of the zone is held as what was saved tells it, every other one in its place
abbrev pub HoldsOnSide : Sizes → Progress → Map → Seals → List ℕ → ℕ → List ℕ → Side → Type 0
HoldsOnSide sizes c map seals bytes b value Zone =
    HoldsSaved sizes.atom (zone_of sizes c) c.plan.first seals (atom_in sizes.atom bytes) b value
HoldsOnSide sizes c map seals bytes b value Old =
    HoldsBlock map seals b value (block_at sizes.atom bytes (place_in map b))
HoldsOnSide sizes c map seals bytes b value New =
    HoldsBlock map seals b value (block_at sizes.atom bytes (place_in map b))

-- the seals of a conversion's sides under their keys
abbrev pub seals_at : ℕ → Progress → List ℕ → List ℕ → Seals
seals_at atom c old new = seals_by atom c.old c.new old new

-- the bytes of an image hold these blocks so
pub record HoldsOpen (sizes : Sizes) (c : Progress) (map : Map) (old new image : List ℕ)
    (content : List (List ℕ)) : Type 0 where
  pub count : length content ≡ map.blocks
  pub blocks : (b : ℕ) → b < map.blocks → HoldsOnSide sizes c map (seals_at sizes.atom c old new)
      image b (value_in content b) (side_in map b)

-- An image of disks of these sizes stands for a content under the keys of its sides, with a zone
-- open: it has a header that breaks no rule, by which a conversion is under way and a zone of it
-- open; these are the keys of its whole segments' digests; and each block of the volume is held as
-- the conversion's map has it.
pub record OpenStandsUnder (sizes : Sizes) (old new image : List ℕ) (content : List (List ℕ))
    : Type 0 where
  pub stored : Stored
  pub header : stored_in sizes (front_of sizes image) ≡ Ok stored
  pub now : Progress
  pub known : progress_of stored.valid.meta sizes ≡ Some now
  pub some : 0 < now.plan.zone
  pub map : Map
  pub map_is : IsMapAt sizes now map
  pub old_key : IsKeyOf stored.valid.meta now.old old
  pub new_key : IsKeyOf stored.valid.meta now.new new
  pub holds : HoldsOpen sizes now map old new image content

-- so it stands for a content under a passphrase: under the keys that its keyslots give to it
pub record OpenStandsFor (sizes : Sizes) (pass image : List ℕ) (content : List (List ℕ)) : Type 0
  where
    pub old : List ℕ
    pub new : List ℕ
    pub stands : OpenStandsUnder sizes old new image content
    pub old_is : key_for stands.stored.valid.meta image pass stands.now.old ≡ Some old
    pub new_is : key_for stands.stored.valid.meta image pass stands.now.new ≡ Some new

-- ---- whether a zone is open or not
-- under the keys of its sides, and under a passphrase
abbrev pub ImageStandsUnder : Sizes → List ℕ → List ℕ → List ℕ → List (List ℕ) → Type 0
ImageStandsUnder sizes old new image content =
    StandsUnder sizes old new image content ⊎ OpenStandsUnder sizes old new image content

abbrev pub ImageStandsFor : Sizes → List ℕ → List ℕ → List (List ℕ) → Type 0
ImageStandsFor sizes pass image content =
    StandsFor sizes pass image content ⊎ OpenStandsFor sizes pass image content

-- ---- two images
-- what the first stands for, and nothing else, the other stands for: under the same keys, and under
-- the same passphrase
pub record KeepsImage (sizes : Sizes) (first now : List ℕ) : Type 0 where
  pub keys : (old new : List ℕ) (content : List (List ℕ))
      → ImageStandsUnder sizes old new first content ↔ ImageStandsUnder sizes old new now content
  pub passphrase : (pass : List ℕ) (content : List (List ℕ))
      → ImageStandsFor sizes pass first content ↔ ImageStandsFor sizes pass now content
