-- A zone that is written again, between two of its steps.
use Rattle.std.specs.Prelude.{ℕ, ◌≡◌, ◌≢◌, ◌+◌, ◌<◌, ◌≤◌, ◌==◌, length, Bool, true, false}
use Rattle.std.specs.Prelude.{if◌then◌else◌, List}
use Rattle.hotzone.specs.Sites.{IsPartStart, bytes_at, count_of, part_at, saved_count}
use Rattle.hotzone.specs.declared.site.Guard.{Guard}
use Rattle.hotzone.specs.declared.site.Guard.TheVariants as guards
use Rattle.hotzone.specs.declared.site.Site.{Site}
use Rattle.sector_disk.specs.JoinedDisks.Counts.{HasSizes}
use Rattle.luks_store.specs.Copying.Held.{stage_in}
use Rattle.luks_store.specs.declared.header_copies.commit.Stage.{Stage}
use Rattle.luks_store.specs.declared.header_copies.commit.Stage.TheVariants.{Begun, Ended}
use Rattle.luks_rules.specs.States.{IsSound}
use Rattle.luks_store.specs.Loads.{IsStored}
use Rattle.luks_store.specs.declared.loaded.Stored.{Stored}
use Rattle.reenc_meta.specs.Placements.{all_atoms}
use Rattle.resil_checksum.specs.Digests.{saved_len}
use Rattle.sector_disk.specs.Devices.{Device}
use Rattle.sector_disk.specs.Geometry.{IsAtom, IsDisk}
use Rattle.segment_map.specs.declared.map.Map.{Map}
use Rattle.volume_machine.specs.Seals.{KeysFit}
use Rattle.volume_machine.specs.Sound.{MapFits}
use Rattle.volume_machine.specs.declared.keys.Keys.{Keys}
use Rattle.zone_mending.specs.OpenZones.{IsMoved, IsOpenZone}
use Rattle.zone_mending.specs.declared.mender.MendCall.{MendCall}
use Rattle.zone_mending.specs.declared.mender.MendCall.TheVariants.{ReadSaved, ReadOwn, Write}
use Rattle.zone_mending.specs.declared.mender.MendCall.TheVariants.{Settle, Move, Done, Failed}
use Rattle.zone_mending.specs.declared.mender.Mender.{Mender}

-- ---- what the next call needs: a part of which nothing is written, and how far the commit is
abbrev pub Needs : Site → Stage → MendCall → Type 0
Needs site stage (ReadSaved done) =
    (done < count_of site) × (stage ≡ Begun) × IsPartStart site done
Needs site stage (ReadOwn done) =
    (done < count_of site) × (stage ≡ Begun) × IsPartStart site done
    × (site.guard ≡ guards.Checksum)
Needs site stage (Write done) =
    (done < count_of site) × (stage ≡ Begun) × IsPartStart site done
Needs site stage Settle = stage ≡ Begun
Needs site stage Move = stage ≢ Ended
Needs site stage Done = Unit {0}
Needs site stage Failed = Unit {0}

abbrev pub stage_of_move : {C : Type 0} → Mender C → Stage
stage_of_move mender = stage_in mender.moved.commit.copies

-- by checksum there is room for the digests of a part
abbrev pub HasRoomBy : Guard → Site → List ℕ → Type 0
HasRoomBy guards.Journal site digests = Unit {0}
HasRoomBy guards.Checksum site digests = saved_len (part_at site 0) site.atom ≤ length digests

abbrev pub HasRoom : Site → List ℕ → Type 0
HasRoom site digests = HasRoomBy site.guard site digests

-- ---- what holds between two steps
-- Its header breaks no rule, what its calls touch lies on the disk, the buffer has room for a part,
-- the keys fit, the header to come is the one with the boundary moved over the zone, and the next
-- call has what it needs.
pub record IsMending {C : Type 0} (sector : C → ℕ) (mender : Mender C) : Type 0 where
  pub stored : IsStored mender.loaded
  pub sound : IsSound mender.loaded.valid.meta mender.loaded.valid.sizes
  pub disk : IsDisk mender.loaded.valid.sizes.atom (all_atoms mender.loaded.valid.sizes)
  pub map : Map
  pub zone : IsOpenZone mender.loaded map mender.site
  pub fits : MapFits map (all_atoms mender.loaded.valid.sizes)
  pub store : mender.site.store + saved_count mender.site ≤ all_atoms mender.loaded.valid.sizes
  pub room : bytes_at mender.site 0 ≤ length mender.buffer
  pub digest_room : HasRoom mender.site mender.digests
  pub keys : KeysFit sector mender.keys map.atom map.blocks
  pub moves : IsMoved mender.loaded mender.moved
  pub next : Needs mender.site (stage_of_move mender) mender.next

-- What its calls touch lies on a disk, whose atoms are its own.
pub record FitsDisk {C : Type 0} (sector : C → ℕ) (mender : Mender C) (disk : Device) : Type 0
  where
    pub known : IsAtom mender.site.atom
    pub size : mender.site.atom ≡ disk.size
    pub own : mender.site.own + count_of mender.site ≤ disk.atoms
    pub store : mender.site.store + saved_count mender.site ≤ disk.atoms
    pub room : bytes_at mender.site 0 ≤ length mender.buffer
    pub digest_room : HasRoom mender.site mender.digests
    pub keys : KeysFit sector mender.keys mender.site.atom
        (mender.site.blocks.start + count_of mender.site)

-- what the call that comes next asks
abbrev pub Asks : {C : Type 0} → (C → ℕ) → Mender C → Device → MendCall → Type 0
Asks sector mender disk (ReadSaved done) =
    (done < count_of mender.site) × IsPartStart mender.site done × FitsDisk sector mender disk
Asks sector mender disk (ReadOwn done) =
    (done < count_of mender.site) × (mender.site.guard ≡ guards.Checksum)
    × FitsDisk sector mender disk
Asks sector mender disk (Write done) = (done < count_of mender.site) × FitsDisk sector mender disk
Asks sector mender disk Settle = Unit {0}
Asks sector mender disk Move =
    (stage_of_move mender ≢ Ended) × HasSizes mender.moved.commit.sizes disk
Asks sector mender disk Done = ⊥
Asks sector mender disk Failed = ⊥

-- ---- its beginning
-- the zone that is open by a header, under the keys of the volume's sides, of which nothing is
-- written again
pub record IsNew {C : Type 0} (header : Stored) (keys : Keys C) (mender : Mender C) : Type 0 where
  pub loaded : mender.loaded ≡ header
  pub keys_are : mender.keys ≡ keys
  pub map : Map
  pub zone : IsOpenZone header map mender.site
  pub moves : IsMoved header mender.moved
  pub begun : stage_of_move mender ≡ Begun
  pub first : mender.next ≡ ReadSaved 0

-- ---- what comes next
-- a step is to come
abbrev pub IsUnderWay : MendCall → Type 0
IsUnderWay Done = ⊥
IsUnderWay Failed = ⊥
IsUnderWay _ = Unit {0}

-- so behind each step that isn't the last one
abbrev pub LeavesNext : Bool → MendCall → Type 0
LeavesNext true next = next ≡ Done
LeavesNext false next = IsUnderWay next

-- behind a call of the commit, which was the last one or not
abbrev pub after_move : Bool → MendCall
after_move true = Done
after_move false = Move

-- behind a part that was written: the next one, or a sync
abbrev pub after_write : Site → ℕ → MendCall
after_write site done =
    if done + part_at site done == count_of site then Settle
    else ReadSaved (done + part_at site done)
