-- What a conversion is that was opened on a disk and led on from there, up to an end.
use Rattle.std.specs.Prelude.{ℕ, ◌≡◌, ◌≢◌, ◌*◌, List, length, Option, Some, false}
use Rattle.resume_disk.specs.OpenedMidway.Openings.{IsOpenedOf}
use Rattle.header_report.specs.Examinations.{sizes_alone}
use Rattle.sector_disk.specs.JoinedDisks.Counts.{HasSizes}
use Rattle.sector_disk.specs.JoinedDisks.Joined.{Joint, joined_disk}
use Rattle.luks_rules.specs.Segments.{has_tail}
use Rattle.luks_store.specs.Devices.{KeepsBytes}
use Rattle.luks_store.specs.declared.loaded.Stored.{Stored}
use Rattle.reenc_recovery.specs.Tables.{ShowsSizes}
use Rattle.reenc_recovery.specs.declared.keys.SideKeys.{SideKeys}
use Rattle.reenc_worker.specs.declared.ends.WorkerEnd.{WorkerEnd}
use Rattle.reenc_worker.specs.declared.ends.WorkerEnd.TheVariants.{Broken as WasBroken, Finished}
use Rattle.resume_disk.specs.Keys.{AreKeysFound}
use Rattle.sector_disk.specs.Devices.{Device}
use Rattle.volume_core.specs.Zones.{IsReadBy}
use Rattle.volume_laws.specs.Converting.{IsInOrder}
use Rattle.volume_machine.specs.Seals.{seals_of}
use Rattle.volume_machine.specs.Sound.{IsSound}
use Rattle.volume_machine.specs.States.{State}
use Rattle.volume_machine.specs.declared.keys.Keys.{Keys}
use Rattle.volume_opening.specs.Openings.{IsFound, alone}
use Rattle.volume_opening.specs.Refusals.{AreOf, TellsAlone}
use Rattle.volume_laws.specs.WorkerRuns.Conversions.{HasConverted, MayConvert}
use Rattle.hotzone.specs.ZoneEvents.Heads.{header_on}
use Rattle.hotzone.specs.ZoneEvents.Readings.{reading_of}
use Rattle.hotzone.specs.ZoneEvents.Works.{layout_for}

-- ---- header and keys
-- The header of a disk was read, by which a conversion is under way, and its keyslots gave the keys
-- of both sides to the passphrase; nothing was written meanwhile. No bytes that may be sectors of the
-- volume lie behind the last whole atom of the disk.
pub record AreUnderKeys (device : Device) (pass : List ℕ) (keys : SideKeys) (read : Device) : Type 0
  where
    pub unwritten : KeepsBytes device read
    pub stored : Stored
    pub found : IsFound device stored
    pub are : AreKeysFound stored.valid.meta stored.valid.sizes pass device.values keys
    pub whole : has_tail stored.valid.meta.segments device.tail ≡ false

-- ---- opened
-- What an opening begins with behind them: a disk of the sizes of the one that was handed in, which
-- tells its table and its bytes alike, and the bytes that were told, which are all that it has.
pub record BeginsWith (device read : Device) : Type 0 where
  pub has : HasSizes (sizes_alone device) (joined_disk (alone read))
  pub shows : ShowsSizes (sizes_alone device) (joined_disk (alone read))
  pub shown : (first : List ℕ) → device.values ≡ Some first
      → (joined_disk (alone read)).values ≡ Some first
  pub long : (first : List ℕ) → device.values ≡ Some first
      → length first ≡ (joined_disk (alone read)).atoms * (sizes_alone device).atom

-- Then the volume was opened under the keys, with so many lanes, by the header that the disk has; of a
-- disk that told its bytes this is the one by which the keys were found. Its header is read by the
-- sizes of the disk, and it is in order by that.
pub record IsOpenedMidway {C : Type 0} (sector : C → ℕ) (sealed opened : C → ℕ → List ℕ → List ℕ)
    (device : Device) (pass : List ℕ) (lanes : ℕ) (volume : State (Keys C)) : Type 0 where
  pub keys : SideKeys
  pub read : Device
  pub under : AreUnderKeys device pass keys read
  pub begins : BeginsWith device read
  pub calls : IsOpenedOf sector sealed opened (sizes_alone device) keys lanes (alone read) volume
  pub same : (first : List ℕ) → device.values ≡ Some first → calls.found.header ≡ under.stored
  pub is_read : IsReadBy (sizes_alone device) volume
  pub order : IsInOrder (reading_of (sizes_alone device)) volume
  pub sound : IsSound volume

-- the only lane is the conversion's own
abbrev pub IsResumed : {C : Type 0} → (C → ℕ) → (C → ℕ → List ℕ → List ℕ)
    → (C → ℕ → List ℕ → List ℕ) → Device → List ℕ → State (Keys C) → Type 0
IsResumed sector sealed opened device pass volume =
    IsOpenedMidway sector sealed opened device pass 1 volume

-- ---- led on from there
-- By steps of the volume's worker alone, on which no operation of a client was under way, up to this
-- end: from the volume behind the header by which it was armed. What the end leaves is said of the
-- volume after it, whose header is read by the same sizes, and which is in order by that.
pub record IsLedTo {C : Type 0} (sealed opened : C → ℕ → List ℕ → List ℕ) (device : Device)
    (last : Stored) (volume after : State (Keys C)) (end : WorkerEnd) : Type 0 where
  pub may : MayConvert (reading_of (sizes_alone device))
      (layout_for last.valid.sizes.atom last.copies.used.header.hdr_size) (header_on last) volume
  pub ran : HasConverted (reading_of (sizes_alone device))
      (seals_of sealed opened volume.map.atom volume.keys)
      (layout_for last.valid.sizes.atom last.copies.used.header.hdr_size) (header_on last) volume
      after end
  pub is_read : IsReadBy (sizes_alone device) after
  pub order : IsInOrder (reading_of (sizes_alone device)) after

-- A conversion on a disk was opened by a passphrase, and led on up to this end, which leaves this
-- volume. The disks that it had are handed back: the one that was handed in, as the main one of two
-- that are joined. Where it is handed back alone it tells the tables that were shown.
pub record HasRun {C D : Type 0} (sector : C → ℕ) (sealed opened : C → ℕ → List ℕ → List ℕ)
    (device : D → Device) (disk : D) (pass : List ℕ) (end : WorkerEnd) (after : State (Keys C))
    (header : Option D) (back : D) : Type 0 where
  pub volume : State (Keys C)
  pub resumed : IsResumed sector sealed opened (device disk) pass volume
  pub led : IsLedTo sealed opened (device disk) resumed.calls.led.last volume after end
  pub joint : Joint
  pub shows : joined_disk joint ≡ after.disk
  pub are : AreOf device joint header back
  pub tables : TellsAlone device after.disk header back

-- A conversion on a disk is at its end: the volume has so many blocks, all of which are new by a
-- header that converts nothing.
pub record IsFinishedBy {C D : Type 0} (sector : C → ℕ)
    (sealed opened : C → ℕ → List ℕ → List ℕ) (device : D → Device) (disk : D) (pass : List ℕ)
    (header : Option D) (back : D) (blocks : ℕ) : Type 0 where
  pub after : State (Keys C)
  pub run : HasRun sector sealed opened device disk pass Finished after header back
  pub blocks_are : blocks ≡ after.map.blocks

-- It was led on, and isn't at its end: its worker ended so. It wasn't broken before.
pub record IsHaltedBy {C D : Type 0} (sector : C → ℕ)
    (sealed opened : C → ℕ → List ℕ → List ℕ) (device : D → Device) (disk : D) (pass : List ℕ)
    (end : WorkerEnd) (header : Option D) (back : D) : Type 0 where
  pub after : State (Keys C)
  pub run : HasRun sector sealed opened device disk pass end after header back
  pub unfinished : end ≢ Finished
  pub unbroken : end ≢ WasBroken
