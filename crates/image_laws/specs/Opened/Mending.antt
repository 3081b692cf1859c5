-- A zone that a stop left open is written again from what was saved of it: what each image stands for
-- that a stop leaves of that.
use Rattle.std.specs.Prelude.{ℕ, ◌≡◌, ◌≢◌, ◌+◌, ◌*◌, ◌<◌, ◌≤◌, Bool, List, length, replicate, Some}
use Rattle.std.specs.Prelude.{Contains, Ok}
use Rattle.base_terms.specs.Blocks.{joined, lengths}
use Rattle.crash_laws.specs.HeaderAreas.Commits.{IsDated}
use Rattle.crash_laws.specs.HeaderAreas.Headers.{Handed, IsGenuine, IsHeader, IsLaidOut, Layout}
use Rattle.base_terms.specs.declared.disk_sizes.Sizes.{Sizes}
use Rattle.sector_disk.specs.DiskViews.Parts.{block_at, cell_in, value_in}
use Rattle.sector_disk.specs.DiskViews.Views.{IsOutside, view_of_cells}
use Rattle.crash_laws.specs.HotZones.Standing.{IsKept, IsWithin}
use Rattle.crash_laws.specs.HotZones.Zones.{Hotzone, Phase, ShowsZone, Texts, datashift, mending}
use Rattle.crash_laws.specs.HotZones.Zones.{moving, stage_of}
use Rattle.luks_store.specs.Copying.Meanings.{header_reader, meaning_of}
use Rattle.luks_rules.specs.Areas.{areas_begin}
use Rattle.luks_rules.specs.Shapes.{progress_of}
use Rattle.luks_rules.specs.declared.shape.Progress.{Progress}
use Rattle.luks_store.specs.Devices.{front_of}
use Rattle.luks_store.specs.Loads.{IsStored, stored_in}
use Rattle.luks_store.specs.declared.loaded.Stored.{Stored}
use Rattle.image_laws.specs.Opened.Images.{ImageStandsUnder, OpenStandsUnder, seals_at}
use Rattle.image_laws.specs.Opened.Zones.{zone_of}
use Rattle.reenc_meta.specs.Moves.{IsGoneTo, moved}
use Rattle.reenc_meta.specs.Placements.{place_of}
use Rattle.sector_disk.specs.Cells.{Cell, IsImage}
use Rattle.segment_map.specs.declared.Side.TheVariants.{New, Old}
use Rattle.volume_machine.specs.Saved.{saved_hash}
use Rattle.volume_machine.specs.Seals.{Seals}

-- A zone of a conversion is open by the one header, and the other one has the boundary moved over
-- it. Blocks are written in their places.
pub record MovesOver (sizes : Sizes) (header next : Stored) (c : Progress) : Type 0 where
  pub stored : IsStored header
  pub next_stored : IsStored next
  pub sizes_are : header.valid.sizes ≡ sizes
  pub next_sizes : next.valid.sizes ≡ sizes
  pub known : progress_of header.valid.meta sizes ≡ Some c
  pub some : 0 < c.plan.zone
  pub gone : IsGoneTo header.valid.meta sizes c
      (moved c.conversion.direction c.plan.zone c.plan) next.valid.meta
  pub in_place : place_of sizes c.new ≡ place_of sizes c.old

-- The zone of the laws of zones is the one that the header has open, whose blocks are written in
-- their places; and both copies lie in front of the keyslots' areas.
pub record IsZoneOf (sizes : Sizes) (header next : Stored) (c : Progress) (layout : Layout)
    (zone : Hotzone (List ℕ)) : Type 0 where
  pub kind : zone.resilience ≡ (zone_of sizes c).resilience
  pub guarded : (zone_of sizes c).resilience ≢ datashift
  pub own : zone.own ≡ (zone_of sizes c).own
  pub store : zone.store ≡ (zone_of sizes c).store
  pub opened : zone.opened.means ≡ meaning_of header.copies.used.bytes
  pub moved : zone.moved.means ≡ meaning_of next.copies.used.bytes
  pub whole : IsHeader header_reader zone.opened
  pub moved_whole : IsHeader header_reader zone.moved
  pub laid : IsLaidOut sizes.atom sizes.header_atoms (header_reader.size zone.opened.means) layout
  pub begin : areas_begin header.valid.meta.config
      ≡ (layout.second.start + layout.second.count) * sizes.atom

-- Its old atoms and its new ones are what the blocks of a content, from this one on, are sealed to on
-- either side; and it has what its guard needs: by journal the old atoms are saved, by checksum
-- digests of them that tell them from the new ones.
pub record AreTextsOf (start : ℕ) (seals : Seals) (zone : Hotzone (List ℕ))
    (content : List (List ℕ)) (texts : Texts) : Type 0 where
  pub old : (i : ℕ) → i < zone.own.count
      → texts.old i ≡ seals.sealed Old (start + i) (value_in content (start + i))
  pub new : (i : ℕ) → i < zone.own.count
      → texts.new i ≡ seals.sealed New (start + i) (value_in content (start + i))
  pub kept : IsKept zone.resilience saved_hash zone texts

-- it is being written again, or the commit 'boundary moved' is under way
abbrev pub WritesAgain : Phase → Type 0
WritesAgain (mending n) = Unit {0}
WritesAgain (moving stage) = Unit {0}
WritesAgain _ = ⊥

-- What is known of the disk meanwhile: of the zone and of both copies what the laws of zones say;
-- each other atom behind the copies holds for certain what these bytes have there.
pub record ShowsMending (sizes : Sizes) (layout : Layout) (zone : Hotzone (List ℕ)) (texts : Texts)
    (phase : Phase) (broken : Bool) (first : List ℕ) (cells : List Cell) : Type 0 where
  pub phased : WritesAgain phase
  pub shows : ShowsZone sizes.atom layout zone texts phase broken (view_of_cells cells)
  pub rest : (place : ℕ) → layout.second.start + layout.second.count ≤ place
      → place < length cells → IsOutside zone.own.start zone.own.count place → (value : List ℕ)
      → Contains (cell_in cells place).candidates value → value ≡ block_at sizes.atom first place
  pub long : length first ≡ length cells * sizes.atom
  pub header_atoms : sizes.header_atoms ≤ length cells
  pub within : IsWithin (length cells) zone

-- an image that a stop leaves of it, of whole atoms, in which no torn copy is valid
pub record IsLeftOf (sizes : Sizes) (zone : Hotzone (List ℕ)) (phase : Phase) (cells : List Cell)
    (image : List (List ℕ)) : Type 0 where
  pub is : IsImage cells image
  pub even : lengths image ≡ replicate (length cells) sizes.atom
  pub handed : Handed
  pub dated : IsDated header_reader zone.opened zone.moved (stage_of phase) handed
  pub genuine : IsGenuine header_reader (header_reader.size zone.opened.means) handed
      (front_of sizes (joined image))

-- It stands for what the bytes stood for from which the zone is written again, by the header that
-- it has itself: the one with the zone open, or the one with the boundary moved. So it is by journal
-- and by checksum.
abbrev pub MendingsKeepImages : Type 0
MendingsKeepImages =
    (sizes : Sizes) (header next : Stored) (c : Progress) (layout : Layout)
    (zone : Hotzone (List ℕ)) (texts : Texts) (phase : Phase) (broken : Bool) (first : List ℕ)
    (cells : List Cell) (image : List (List ℕ)) (old new : List ℕ) (content : List (List ℕ))
    → 0 < sizes.atom → MovesOver sizes header next c → IsZoneOf sizes header next c layout zone
    → AreTextsOf c.plan.first (seals_at sizes.atom c old new) zone content texts
    → ShowsMending sizes layout zone texts phase broken first cells
    → IsLeftOf sizes zone phase cells image
    → stored_in sizes (front_of sizes first) ≡ Ok header
    → OpenStandsUnder sizes old new first content
    → ImageStandsUnder sizes old new (joined image) content
