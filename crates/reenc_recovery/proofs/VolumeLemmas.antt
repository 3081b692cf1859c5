-- The volume that an opening makes, and the calls that led to it.
use Rattle.std.proofs.Common.{◌≡◌, ℕ, ◌*◌, ◌/◌, ◌≤◌, List, length, map, replicate, Option, Some}
use Rattle.std.proofs.Common.{None}
use Rattle.std.proofs.Common.{Ok, refl, sym, ◌∙◌, ap, subst}
use Rattle.base_terms.specs.Blocks.{lengths, pasted}
use Rattle.cipher_laws.specs.Bytes.{AreBytes}
use Rattle.crash_laws.specs.HeaderAreas.Headers.{IsReader}
use Rattle.base_terms.specs.declared.disk_sizes.Sizes.{Sizes}
use Rattle.sector_disk.specs.JoinedDisks.Joined.{Joint, joined_disk}
use Rattle.luks_store.specs.Copying.Held.{copy_in, place_in}
use Rattle.luks_store.specs.Copying.Meanings.{header_reader}
use Rattle.luks_store.specs.Copying.Promises.{MeanTheSame}
use Rattle.luks_store.specs.declared.header_copies.repair.Repair.{Repair}
use Rattle.luks_meta.specs.declared.meta.Parts.{Parts}
use Rattle.luks_rules.specs.Areas.{areas_begin, header_bytes}
use Rattle.luks_rules.specs.declared.valid.Checked.{Checked}
use Rattle.luks_store.specs.Devices.{front_of}
use Rattle.luks_store.specs.Loads.{IsStored, stored_in}
use Rattle.luks_store.specs.Promises.{BothAreGood, GivenIsUsed, LoadsByMeaning}
use Rattle.luks_store.specs.Promises.{UsedStands}
use Rattle.luks_store.specs.declared.loaded.Stored.{Stored}
use Rattle.reenc_meta.specs.declared.placement.Placement.{Placement}
use Rattle.reenc_recovery.specs.Calls.{DiskOpeningRun, DiskSyncsAndReads, IsRepairFor, OpeningRun}
use Rattle.reenc_recovery.specs.Openings.{HasPassed, IsOpened, IsOpening, StartsAsImage}
use Rattle.reenc_recovery.specs.Promises.{ContentsStay, ContentsStayFor}
use Rattle.reenc_recovery.specs.Tables.{ShowsSizes}
use Rattle.reenc_recovery.specs.Volumes.{IsOpenedOf}
use Rattle.reenc_recovery.proofs.JointCallLemmas.{disk_run}
use Rattle.reenc_recovery.proofs.KeepLemmas.{holds_unwritten, stands_as}
use Rattle.reenc_recovery.proofs.RewriteLemmas.{after_write, HoldsGood}
use Rattle.reenc_recovery.proofs.TableLemmas.{settled, settled-synced}
use Rattle.reenc_recovery.proofs.WritingLemmas.{repair_place}
use Rattle.sector_disk.specs.Cells.{AreSettled, Cell, content, currents, synced}
use Rattle.sector_disk.specs.Devices.{Device, succeeded}
use Rattle.sector_disk.specs.Steps.{Told}
use Rattle.volume_laws.specs.Promises.{TellsSettled}
use Rattle.volume_machine.specs.Beginnings.{new_volume}
use Rattle.volume_machine.specs.States.{State}
use Rattle.volume_machine.specs.declared.keys.Keys.{Keys}

-- ---- what the disks hold
values_read : (old read : Device) → DiskSyncsAndReads old read → read.values ≡ old.values
values_read old read run = run.unwritten.values ∙ run.sync.values

size_read : (old read : Device) → DiskSyncsAndReads old read → read.size ≡ old.size
size_read old read run = run.unwritten.size ∙ run.sync.size

-- each atom is certain after it
pub synced_after : (repair : Option Repair) (old new : Device)
    → DiskOpeningRun repair old new succeeded → (told : Told) → new.told ≡ Some told
    → (cells : List Cell) × (told.now ≡ map synced cells)
synced_after None old new run told is =
    let since = settled old run.read run.first told
    (ap (λ (d : Device). d.told) (sym run.run) ∙ is) in
    (since.0.now, since.2.cells)
synced_after (Some repair) old new run told is =
    let last = run.run in
    let moved = last.sync.told told is in
    (moved.0.now, moved.2.step)

settled_after : (repair : Option Repair) (old new : Device)
    → DiskOpeningRun repair old new succeeded → (told : Told) → new.told ≡ Some told
    → AreSettled told.now
settled_after repair old new run told is =
    let last = synced_after repair old new run told is in
    settled-synced last.0 told.now last.1

-- the volume at hand is the one that was made
pub opened_of : {C : Type 0} (sector : C → ℕ) (sealed opened : C → ℕ → List ℕ → List ℕ)
    (sizes : Sizes) (key : Option (List ℕ)) (old : Joint) (made volume : State (Keys C))
    → volume ≡ made → IsOpenedOf sector sealed opened sizes key old made
    → IsOpenedOf sector sealed opened sizes key old volume
opened_of {C} sector sealed opened sizes key old made volume is opening =
    subst (λ (v : State (Keys C)). IsOpenedOf sector sealed opened sizes key old v) (sym is) opening

-- what the disks hold after the repair's calls
pub holds_after : IsReader header_reader → MeanTheSame → UsedStands → BothAreGood → GivenIsUsed
    → LoadsByMeaning → (sizes : Sizes) (header : Stored) (repair : Option Repair)
    (old new : Device) → IsStored header → header.valid.sizes ≡ sizes
    → areas_begin header.valid.meta.config ≡ 2 * header.copies.used.header.hdr_size
    → 2 * header.copies.used.header.hdr_size ≤ header_bytes sizes
    → ShowsSizes sizes old → IsRepairFor header.copies repair
    → DiskOpeningRun repair old new succeeded → (first : List ℕ)
    → old.values ≡ Some first → stored_in sizes (front_of sizes first) ≡ Ok header
    → (now : List ℕ) × (new.values ≡ Some now) × HoldsGood sizes header first now
unfolding holds_unwritten
holds_after is_reader mean stands both given loads sizes header None old new stored sizes_are begin
    room shows asked run first is held = (
      first,
      ap (λ (d : Device). d.values) run.run ∙ values_read old run.read run.first ∙ is,
      record {
        holds = holds_unwritten sizes header first held;
        good = asked;
        means = refl;
      },
    )
holds_after is_reader mean stands both given loads sizes header (Some repair) old new stored
    sizes_are begin room shows asked run first is held =
    let last = run.run in
    let read_is = values_read old run.read run.first ∙ is in
    let at = run.read.size in
    let same_size : at ≡ sizes.atom = size_read old run.read run.first ∙ sym shows.atom in
    let place = place_in repair / at * at in
    let place_is : place ≡ place_in repair =
    ap (λ n. place_in repair / n * n) same_size
    ∙ repair_place header.copies repair sizes.atom stored.copies asked shows.known in (
      pasted first place (copy_in repair),
      last.sync.values ∙ last.write.values first read_is,
      after_write is_reader mean stands both given loads sizes header repair first stored
          sizes_are begin room (shows.whole first is) held place place_is asked,
    )

module _ {C : Type 0} (sector : C → ℕ) (sealed opened : C → ℕ → List ℕ → List ℕ) (sizes : Sizes)
    (key : Option (List ℕ)) (header : Stored) (p : Placement) (keys : Keys C)
    (passed : HasPassed sector sealed opened sizes key header p keys) where
  opening_at : (m : Parts) → header.valid.meta ≡ m
      → IsOpening sector sealed opened m sizes key p keys
  opening_at m same =
      subst (λ (n : Parts). IsOpening sector sealed opened n sizes key p keys) same passed.opening

  -- the volume
  module _ (repair : Option Repair) (old : Joint) (new : Device) (lanes : ℕ)
      (atom : p.map.atom ≡ new.size)
      (run : OpeningRun repair old new succeeded)
      (agrees : (told : Told) → new.told ≡ Some told → new.values ≡ Some (content told.now))
      (even : (told : Told) → new.told ≡ Some told
      → lengths (currents told.now) ≡ replicate new.atoms new.size)
      (long : (all : List ℕ) → new.values ≡ Some all → length all ≡ new.atoms * new.size)
      (bytes : (all : List ℕ) → new.values ≡ Some all → AreBytes all) where
    abbrev volume : State (Keys C)
    volume = new_volume p.map keys lanes new

    tells_settled : (now : List ℕ) → new.values ≡ Some now → TellsSettled volume now
    tells_settled now values told is = (
      settled_after repair (joined_disk old) new (disk_run repair old new succeeded run) told is,
      (let e : Some now ≡ Some (content told.now) = sym values ∙ agrees told is in cc),
      even told is ∙ ap (λ n. replicate new.atoms n) (sym atom),
    )

    pub volume_of : IsReader header_reader → MeanTheSame → UsedStands → BothAreGood
        → GivenIsUsed → LoadsByMeaning → ContentsStay → ContentsStayFor → ShowsSizes sizes (joined_disk old)
        → IsRepairFor header.copies repair
        → ((first : List ℕ) → (joined_disk old).values ≡ Some first
        → stored_in sizes (front_of sizes first) ≡ Ok header)
        → ((now : List ℕ) → IsOpened sector sealed opened sizes key now volume
        → volume.disk.values ≡ Some now
        → length now ≡ volume.disk.atoms * volume.map.atom → AreBytes now
        → StartsAsImage sealed opened sizes key now volume)
        → IsOpenedOf sector sealed opened sizes key old volume
    volume_of is_reader mean stands both given loads stay stay_for shows asked found start = record {
      header = header;
      placement = p;
      opening = passed.opening;
      map = refl;
      repair = repair;
      asked = asked;
      calls = run;
      held = λ first is.
          (let has = holds_after is_reader mean stands both given loads sizes header repair
          (joined_disk old) new passed.stored passed.sizes_are passed.begin passed.room shows asked
          (disk_run repair old new succeeded run) first is (found first is) in
          let now = has.0 in
          let holds = has.2.holds in
          let still : IsOpened sector sealed opened sizes key now volume = record {
            stored = holds.stored;
            header = holds.held;
            placement = p;
            opening = opening_at holds.stored.valid.meta
                (ap (λ (c : Checked). c.meta) (sym holds.same));
            map = refl;
          } in
          record {
            now = now;
            values = has.1;
            still = still;
            good = has.2.good;
            settled = tells_settled now has.1;
            stands = stands_as stay stay_for sizes header p first now passed.opening.placed
                passed.opening.right passed.sound holds;
            starts = start now still has.1
                (long now has.1 ∙ ap (λ n. new.atoms * n) (sym atom)) (bytes now has.1);
          });
    }
