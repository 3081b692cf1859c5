-- What a stop leaves of a new keyslot that is written over a header that stands.
use Rattle.std.specs.Prelude.{ℕ, ◌≡◌, ◌%◌, ◌≤◌, ◌++◌, List, replicate, Option, Some, Ok}
use Rattle.std.specs.Prelude.{Result}
use Rattle.std.specs.List.{All}
use Rattle.base_terms.specs.Blocks.{lengths}
use Rattle.base_terms.specs.declared.failed.Failed.{Failed}
use Rattle.crash_laws.specs.HeaderAreas.Commits.{Follows}
use Rattle.crash_laws.specs.HeaderAreas.Headers.{IsHeader}
use Rattle.base_terms.specs.declared.disk_sizes.Sizes.{Sizes}
use Rattle.luks_store.specs.Copying.Held.{primary_of, secondary_of}
use Rattle.luks_store.specs.Copying.Meanings.{header_of, header_reader, meaning_of}
use Rattle.luks_rules.specs.Areas.{areas_begin}
use Rattle.luks_store.specs.Commits.{AreGood, IsNextStored, IsPrepared}
use Rattle.luks_store.specs.Devices.{IsCertain, front_of}
use Rattle.luks_store.specs.Loads.{IsStored, stored_in}
use Rattle.luks_store.specs.declared.commit.Prepared.{Prepared}
use Rattle.luks_store.specs.declared.loaded.Stored.{Stored}
use Rattle.sector_disk.specs.Cells.{Cell, content, currents}
use Rattle.sector_disk.specs.Devices.{Device, succeeded}
use Rattle.sector_disk.specs.Geometry.{IsAtom}
use Rattle.sector_disk.specs.Steps.{Told}
use Rattle.luks_store.specs.SlotCommits.Calls.{FitsSlot, WritesSlot}
use Rattle.luks_store.specs.SlotCommits.Images.{IsEither, KeepsRest, AreaStands}
use Rattle.luks_store.specs.declared.slot_commit.writing.SlotCommit.{SlotCommit}

-- ---- where it begins
-- A commit whose copies have the size that those of a header have, and mean one that follows it, as
-- each next one does.
pub record Continues (before : Stored) (p : Prepared) : Type 0 where
  pub sizes : p.sizes ≡ before.valid.sizes
  pub size : p.header.hdr_size ≡ before.copies.used.header.hdr_size
  pub whole : IsHeader header_reader (header_of (primary_of p.copies) (secondary_of p.copies))
  pub follows : Follows header_reader (meaning_of before.copies.used.bytes)
      (meaning_of (primary_of p.copies))

-- Bytes hold a header, both copies of which are good; the commit continues it, and another is loaded
-- behind it; the keyslot's area begins behind both copies, at a whole atom.
pub record IsNextSlot (sizes : Sizes) (before next : Stored) (slot : SlotCommit)
    (first : List ℕ) : Type 0 where
  pub held : stored_in sizes (front_of sizes first) ≡ Ok before
  pub good : AreGood before.copies
  pub stored : IsStored before
  pub sizes_are : before.valid.sizes ≡ sizes
  pub commit : Continues before slot.commit
  pub prepared : IsPrepared slot.commit
  pub next_stored : IsNextStored slot.commit next
  pub whole : slot.area_offset % sizes.atom ≡ 0
  pub behind : areas_begin before.valid.meta.config ≤ slot.area_offset

-- A disk of these atoms that holds these bytes for certain, where it tells its table.
pub record ShowsCertain (sizes : Sizes) (first : List ℕ) (device : Device) : Type 0 where
  pub known : IsAtom sizes.atom
  pub even : (told : Told) → device.told ≡ Some told
      → lengths (currents told.now) ≡ replicate device.atoms device.size
  pub certain : (told : Told) → device.told ≡ Some told → IsCertain sizes first told.now

-- ---- what is left
-- The tables since: each image of each is one of the two, and so is each of the table at hand.
pub record IsEitherSince (sizes : Sizes) (before next : Stored) (slot : SlotCommit)
    (first : List ℕ) (old now : Told) : Type 0 where
  pub more : List (Option ℕ × List Cell)
  pub past : now.past ≡ old.past ++ more
  pub each : All (λ table. IsEither sizes before next slot first table.1) more
  pub last : IsEither sizes before next slot first now.now

-- A table that is certain: its bytes hold the next header, both copies of which are good, and the
-- keyslot's area; behind both copies they are else what they were.
pub record IsKept (sizes : Sizes) (before next : Stored) (slot : SlotCommit) (first : List ℕ)
    (cells : List Cell) : Type 0 where
  pub certain : IsCertain sizes (content cells) cells
  pub held : stored_in sizes (front_of sizes (content cells)) ≡ Ok next
  pub good : AreGood next.copies
  pub area : AreaStands slot (content cells)
  pub rest : KeepsRest before slot first (content cells)

-- ---- the law
-- Whatever the calls answer, the disk has as many atoms of as many bytes as before.
abbrev pub KeepsSizes : Type 0
KeepsSizes =
    (slot : SlotCommit) (old new : Device) (result : Result (Unit {0}) Failed)
    → WritesSlot slot old new result → (new.size ≡ old.size) × (new.atoms ≡ old.atoms)

-- Where the disk tells a table behind the calls, it told one before them, and so it is with the
-- tables since, whichever call was the last, done or failed.
abbrev pub KeepsHeaders : Type 0
KeepsHeaders =
    (sizes : Sizes) (before next : Stored) (slot : SlotCommit) (first : List ℕ) (old new : Device)
    (result : Result (Unit {0}) Failed) → IsNextSlot sizes before next slot first
    → FitsSlot slot old → ShowsCertain sizes first old → WritesSlot slot old new result
    → (now : Told) → new.told ≡ Some now
    → (was : Told) × (old.told ≡ Some was) × IsEitherSince sizes before next slot first was now

-- Where all of them succeeded, all is certain to be kept.
abbrev pub EndsKept : Type 0
EndsKept =
    (sizes : Sizes) (before next : Stored) (slot : SlotCommit) (first : List ℕ) (old new : Device)
    → IsNextSlot sizes before next slot first → FitsSlot slot old → ShowsCertain sizes first old
    → WritesSlot slot old new succeeded → (now : Told) → new.told ≡ Some now
    → IsKept sizes before next slot first now.now
