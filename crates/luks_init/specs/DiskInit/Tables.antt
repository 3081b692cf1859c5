-- What a stop leaves while a new keyslot is written, and the header by which the conversion begins:
-- each image stands for the same content.
use Rattle.std.specs.Prelude.{ℕ, ◌≡◌, ◌++◌, List, ◌∷◌, map, Option, Some, Ok}
use Rattle.std.specs.List.{All}
use Rattle.base_terms.specs.Blocks.{joined}
use Rattle.base_terms.specs.declared.disk_sizes.Sizes.{Sizes}
use Rattle.luks_meta.specs.declared.meta.Parts.{Parts}
use Rattle.luks_store.specs.Commits.{AreGood, IsNextStored}
use Rattle.luks_store.specs.Devices.{IsCertain, front_of}
use Rattle.luks_store.specs.Loads.{stored_in}
use Rattle.luks_store.specs.declared.loaded.Stored.{Stored}
use Rattle.reenc_recovery.specs.Images.{StandsFor, StandsUnder}
use Rattle.reenc_recovery.specs.Placings.{RestsIn}
use Rattle.reenc_recovery.specs.Tables.{StandsStill}
use Rattle.sector_disk.specs.Cells.{Cell, content, synced}
use Rattle.sector_disk.specs.Devices.{Device}
use Rattle.sector_disk.specs.Steps.{Told}
use Rattle.luks_store.specs.SlotCommits.Images.{AreaStands, IsSpared}
use Rattle.luks_store.specs.declared.slot_commit.writing.SlotCommit.{SlotCommit}
use Rattle.image_laws.specs.Started.Starting.{StandsOld, StandsOldFor}

-- what the first bytes stand for under a passphrase, the others stand for
abbrev pub StandsOn : Sizes → List ℕ → List ℕ → List ℕ → Type 0
StandsOn sizes pass first now =
    (content : List (List ℕ)) → StandsFor sizes pass first content
    → StandsFor sizes pass now content

-- Each image of a table, in which no torn copy of the header or of the next one is valid and none
-- stands in front of the second one, stands for what these bytes stand for.
abbrev pub ImagesStand : Sizes → List ℕ → Stored → SlotCommit → List ℕ → List Cell → Type 0
ImagesStand sizes pass header slot first cells =
    (image : List (List ℕ)) → IsSpared sizes header slot cells image
    → StandsOn sizes pass first (joined image)

-- The tables since: each image of each stands so, and each of the table at hand.
pub record StandsOnSince (sizes : Sizes) (pass : List ℕ) (header : Stored) (slot : SlotCommit)
    (first : List ℕ) (old now : Told) : Type 0 where
  pub more : List (Option ℕ × List Cell)
  pub past : now.past ≡ old.past ++ more
  pub each : All (λ table. ImagesStand sizes pass header slot first table.1) more
  pub last : ImagesStand sizes pass header slot first now.now

-- where a disk tells its tables, it told them before
abbrev pub TellsOn : Sizes → List ℕ → Stored → SlotCommit → List ℕ → Device → Device → Type 0
TellsOn sizes pass header slot first old new = (now : Told) → new.told ≡ Some now
    → (was : Told) × (old.told ≡ Some was) × StandsOnSince sizes pass header slot first was now

-- The tables since a disk was handed in that held these bytes. While it was only read none is another
-- one. Then came the first sync, by which each atom is certain; from there on each image of each table
-- stands for what these bytes stand for: of those of the header's repair, and of those by which the
-- new keyslot and the next header are written; and each of the table at hand.
pub record StandsThroughout (sizes : Sizes) (pass first : List ℕ) (header : Stored)
    (slot : SlotCommit) (before now : Told) : Type 0 where
  pub reads : List (Option ℕ × List Cell)
  pub unwritten : All (λ table. table.1 ≡ before.now) reads
  pub mark : Option ℕ
  pub repairs : List (Option ℕ × List Cell)
  pub repaired : All (λ table. StandsStill sizes first table.1) repairs
  pub writes : List (Option ℕ × List Cell)
  pub written : All (λ table. ImagesStand sizes pass header slot first table.1) writes
  pub past : now.past
      ≡ before.past ++ (reads ++ (mark, map synced before.now) ∷ (repairs ++ writes))
  pub last : ImagesStand sizes pass header slot first now.now

-- where a disk tells its tables as it is handed back, it told them when it was handed in
abbrev pub TellsThroughout : Sizes → List ℕ → List ℕ → Stored → SlotCommit → Device → Device
    → Type 0
TellsThroughout sizes pass first header slot old new = (now : Told) → new.told ≡ Some now
    → (before : Told) × (old.told ≡ Some before)
    × StandsThroughout sizes pass first header slot before now

-- A conversion is under way in these bytes, and all of what the first ones stand for they stand for:
-- under the keys of its sides, of which the new one of before is the old one now, and the new one is
-- this key; and under the passphrase. Each block stands by the old key, and none by the new one yet.
pub record HasBegun (sizes : Sizes) (pass key first bytes : List ℕ) : Type 0 where
  pub busy : RestsIn sizes bytes → ⊥
  pub keys : (old new : List ℕ) (content : List (List ℕ))
      → StandsUnder sizes old new first content → StandsOld sizes new key bytes content
  pub stands : (content : List (List ℕ)) → StandsFor sizes pass first content
      → (old : List ℕ) × StandsOldFor sizes pass old key bytes content

-- A table is certain: both copies of the header that a keyslot's commit writes are good, with these
-- metadata, and the keyslot's area stands.
pub record KeepsNext (sizes : Sizes) (slot : SlotCommit) (meta : Parts) (cells : List Cell) : Type 0
  where
    pub certain : IsCertain sizes (content cells) cells
    pub next : Stored
    pub is : IsNextStored slot.commit next
    pub meta_is : next.valid.meta ≡ meta
    pub held : stored_in sizes (front_of sizes (content cells)) ≡ Ok next
    pub good : AreGood next.copies
    pub area : AreaStands slot (content cells)
