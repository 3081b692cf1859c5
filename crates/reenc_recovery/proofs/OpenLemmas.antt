-- The whole of an opening: what its disks show, what passed, and what a refusal leaves.
use Rattle.std.proofs.Common.{◌≡◌, ℕ, ◌*◌, ◌≤◌, List, length, replicate, Option, Some, None}
use Rattle.std.proofs.Common.{Result, Ok, refl, sym, ◌∙◌, subst}
use Rattle.std.specs.Option.{IfSome}
use Rattle.base_terms.specs.Blocks.{lengths}
use Rattle.base_terms.specs.declared.failed.Failed.{Failed}
use Rattle.base_terms.specs.declared.disk_sizes.Sizes.{Sizes}
use Rattle.sector_disk.specs.JoinedDisks.Counts.{HasSizes}
use Rattle.sector_disk.specs.JoinedDisks.Joined.{Joint, joined_disk}
use Rattle.luks_store.specs.Copying.Held.{repair_stage_in}
use Rattle.luks_store.specs.declared.header_copies.repair.Repair.{Repair}
use Rattle.luks_store.specs.declared.header_copies.repair.RepairStage.TheVariants.{Broken}
use Rattle.luks_store.proofs.PageLemmas.{front-within}
use Rattle.luks_store.specs.Commits.{FitsDisks}
use Rattle.luks_store.specs.Devices.{IsUnwritten, front_of}
use Rattle.luks_store.specs.Loads.{stored_in}
use Rattle.luks_store.specs.Used.{AreCopies}
use Rattle.luks_store.specs.declared.copies.Copies.{Copies}
use Rattle.luks_store.specs.declared.loaded.Stored.{Stored}
use Rattle.reenc_meta.specs.declared.placement.Placement.{Placement}
use Rattle.reenc_recovery.specs.Calls.{IsRepairFor, OpeningRun, RepairFits, RepairRun}
use Rattle.reenc_recovery.specs.Calls.{SyncsAndReads}
use Rattle.reenc_recovery.specs.Calls.{TellsSized}
use Rattle.reenc_recovery.specs.Causes.{IsCauseIn}
use Rattle.reenc_recovery.specs.Openings.{HasPassed}
use Rattle.reenc_recovery.specs.Tables.{IsFoundOn, OpeningsKeepContents, ShowsSizes, TellsSince}
use Rattle.reenc_recovery.specs.Volumes.{IsUnrepaired}
use Rattle.reenc_recovery.specs.declared.fault.OpenCause.{OpenCause}
use Rattle.reenc_recovery.specs.declared.fault.OpenCause.TheVariants as causes
use Rattle.reenc_recovery.proofs.PlacingLemmas.{is_idle}
use Rattle.reenc_recovery.proofs.WritingLemmas.{repair_begun}
use Rattle.sector_disk.specs.Cells.{content, currents}
use Rattle.sector_disk.specs.Devices.{Device, SyncCall, failed_call, succeeded}
use Rattle.sector_disk.specs.Geometry.{IsAtom}
use Rattle.sector_disk.specs.Steps.{Told}
use Rattle.volume_machine.specs.declared.keys.Keys.{Keys}

-- ---- the disks
pub shows_sizes : (sizes : Sizes) (device : Device) → sizes.atom ≡ device.size → IsAtom sizes.atom
    → sizes.header_atoms ≤ device.atoms
    → ((all : List ℕ) → device.values ≡ Some all → length all ≡ device.atoms * sizes.atom)
    → ((told : Told) → device.told ≡ Some told → device.values ≡ Some (content told.now))
    → ((told : Told) → device.told ≡ Some told
    → lengths (currents told.now) ≡ replicate device.atoms device.size)
    → ShowsSizes sizes device
shows_sizes sizes device atom known header whole agrees even = record {
  atom = atom;
  known = known;
  header = header;
  agrees = agrees;
  even = even;
  whole = λ all is.
      front-within sizes.atom device.atoms sizes.header_atoms all header (whole all is);
}

-- ---- what passed
-- a header that was read behind the first sync and passed all checks, and its repair
pub record IsChecked {C : Type 0} (sector : C → ℕ) (sealed opened : C → ℕ → List ℕ → List ℕ)
    (sizes : Sizes) (key : Option (List ℕ)) (header : Stored) (p : Placement) (keys : Keys C)
    (repair : Option Repair) (old read : Joint) : Type 0 where
  pub first : SyncsAndReads old read
  pub passed : HasPassed sector sealed opened sizes key header p keys
  pub asked : IsRepairFor header.copies repair
  pub fits : IfSome repair (FitsDisks sizes)
  pub held : (all : List ℕ) → (joined_disk old).values ≡ Some all
      → stored_in sizes (front_of sizes all) ≡ Ok header

-- of disks whose sizes are still the same behind their sync
pub is_checked : {C : Type 0} (sector : C → ℕ) (sealed opened : C → ℕ → List ℕ → List ℕ)
    (sizes later : Sizes) (key : Option (List ℕ)) (header : Stored) (p : Placement) (keys : Keys C)
    (repair : Option Repair) (old synced read : Joint) → later ≡ sizes
    → SyncCall (joined_disk old) (joined_disk synced) succeeded → IsUnwritten synced read
    → HasPassed sector sealed opened later key header p keys → IsRepairFor header.copies repair
    → IfSome repair (FitsDisks later)
    → ((all : List ℕ) → (joined_disk synced).values ≡ Some all
    → stored_in later (front_of later all) ≡ Ok header)
    → IsChecked sector sealed opened sizes key header p keys repair old read
is_checked sector sealed opened sizes later key header p keys repair old synced read same sync
    unwritten passed asked fits held = record {
      first = record { synced = synced; sync = sync; unwritten = unwritten };
      passed =
          subst (λ (z : Sizes). HasPassed sector sealed opened z key header p keys) same passed;
      asked = asked;
      fits = subst (λ (z : Sizes). IfSome repair (FitsDisks z)) same fits;
      held = λ all is.
          subst (λ (z : Sizes). stored_in z (front_of z all) ≡ Ok header) same
          (held all (sync.values ∙ is));
    }

begun_of : (copies : Copies) (repair : Option Repair) → AreCopies copies
    → IsRepairFor copies repair → IfSome repair (λ r. repair_stage_in r ≡ Broken)
begun_of copies None are is = tt
begun_of copies (Some repair) are is = repair_begun copies repair are is

fits_of : (sizes : Sizes) (repair : Option Repair) (device : Device)
    → IfSome repair (FitsDisks sizes) → HasSizes sizes device → IsAtom device.size
    → IfSome repair (RepairFits device)
fits_of sizes None device fits has known = tt
fits_of sizes (Some repair) device fits has known = fits device has known

module _ {C : Type 0} (sector : C → ℕ) (sealed opened : C → ℕ → List ℕ → List ℕ) (sizes : Sizes)
    (key : Option (List ℕ)) (header : Stored) (p : Placement) (keys : Keys C)
    (repair : Option Repair) (old read : Joint)
    (is : IsChecked sector sealed opened sizes key header p keys repair old read) where
  pub size_read : (joined_disk read).size ≡ (joined_disk old).size
  size_read = is.first.unwritten.size ∙ is.first.sync.size

  pub atoms_read : (joined_disk read).atoms ≡ (joined_disk old).atoms
  atoms_read = is.first.unwritten.atoms ∙ is.first.sync.atoms

  pub begun : IfSome repair (λ r. repair_stage_in r ≡ Broken)
  begun = begun_of header.copies repair is.passed.stored.copies is.asked

  pub fits : HasSizes sizes (joined_disk old) → IsAtom sizes.atom
      → IfSome repair (RepairFits (joined_disk read))
  fits has known =
      fits_of sizes repair (joined_disk read) is.fits
      (record {
        atom = has.atom ∙ sym size_read;
        header = subst (λ (n : ℕ). sizes.header_atoms ≤ n) (sym atoms_read) has.header;
        main = subst (λ (n : ℕ). sizes.main_atoms ≤ n) (sym atoms_read) has.main;
        all = has.all ∙ sym atoms_read;
        alone = has.alone;
      })
      (subst (λ (n : ℕ). IsAtom n) (has.atom ∙ sym size_read) known)

  found : IsFoundOn sizes header p repair (joined_disk old)
  found = record {
    stored = is.passed.stored;
    sizes_are = is.passed.sizes_are;
    sound = is.passed.sound;
    begin = is.passed.begin;
    room = is.passed.room;
    placed = is.passed.opening.placed;
    right = is.passed.opening.right;
    asked = is.asked;
    held = is.held;
  }

  pub runs : (new : Device) (result : Result (Unit {0}) Failed)
      → RepairRun repair (joined_disk read) new result → OpeningRun repair old new result
  runs new result run = record { read = read; first = is.first; run = run }

  -- the tables, done or failed
  pub tells : OpeningsKeepContents → ShowsSizes sizes (joined_disk old) → (new : Device)
      (result : Result (Unit {0}) Failed) → RepairRun repair (joined_disk read) new result
      → TellsSized new → TellsSince sizes (joined_disk old) new
  tells keep shows new result run sized =
      keep sizes header p repair old new result shows found (runs new result run) sized

  -- a call of the repair failed
  pub unrepaired : OpeningsKeepContents → ShowsSizes sizes (joined_disk old) → (new : Device)
      → RepairRun repair (joined_disk read) new failed_call → TellsSized new
      → IsUnrepaired sizes key old new causes.Device
  unrepaired keep shows new run sized =
      by_repair repair is.asked (runs new failed_call run)
      (tells keep shows new failed_call run sized)
    where
      by_repair : (some : Option Repair) → IsRepairFor header.copies some
          → OpeningRun some old new failed_call → TellsSince sizes (joined_disk old) new
          → IsUnrepaired sizes key old new causes.Device
      by_repair None asked run tables = absurd run.run
      by_repair (Some repair) asked run tables = record {
        header = header;
        held = is.held;
        idle = is_idle header.valid.meta sizes p is.passed.opening.placed;
        placement = p;
        placed = is.passed.opening.placed;
        key_is = is.passed.opening.new_key;
        repair = repair;
        asked = asked;
        calls = run;
        by = refl;
        tables = tables;
      }

-- ---- why there is no volume
-- of disks whose sizes are still the same behind their sync
pub refused_later : (sizes later : Sizes) (key : Option (List ℕ)) (cause : OpenCause)
    (old synced : Device) → later ≡ sizes → SyncCall old synced succeeded
    → ((all : List ℕ) → synced.values ≡ Some all
    → IsCauseIn later key (stored_in later (front_of later all)) cause)
    → (all : List ℕ) → old.values ≡ Some all
    → IsCauseIn sizes key (stored_in sizes (front_of sizes all)) cause
refused_later sizes later key cause old synced same sync refused all is =
    subst (λ (z : Sizes). IsCauseIn z key (stored_in z (front_of z all)) cause) same
    (refused all (sync.values ∙ is))
