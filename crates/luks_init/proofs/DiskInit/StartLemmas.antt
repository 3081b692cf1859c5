-- The calls by which a conversion is begun, and what refuses it.
use Rattle.std.proofs.Common.{◌≡◌, ◌∙◌, inl, inr, ℕ, ◌+◌, ◌*◌, ◌≤◌, ◌||◌, Bool, true, false}
use Rattle.std.proofs.Common.{List, length, replicate, Err, IfErr, IfOk, cond}
use Rattle.std.proofs.Common.{Option, Some, None, Ok, Result, refl, sym, ap, ap₂, subst, arith}
use Rattle.std.specs.Option.{IfSome, is_some}
use Rattle.std.specs.Prelude.{nat_lt, not}
use Rattle.base_terms.specs.Blocks.{lengths}
use Rattle.base_terms.specs.declared.failed.Failed.{Failed}
use Rattle.base_terms.specs.declared.disk_sizes.Sizes.{Sizes}
use Rattle.luks_init.proofs.DiskInit.FitLemmas.{fits_slot}
use Rattle.header_report.specs.Examinations.{sizes_alone}
use Rattle.luks_init.specs.DiskInit.Calls.{IsBegunOf, IsChecked, IsOnlyRead, IsReady, IsUnbegunOf}
use Rattle.luks_init.specs.DiskInit.Calls.{IsUnreadyOf, IsUnrepaired}
use Rattle.luks_init.specs.DiskInit.Laws.{SlotsKeepContents}
use Rattle.luks_init.specs.DiskInit.Makings.{IsMade, IsUnready}
use Rattle.luks_init.specs.DiskInit.Slips.{LosesNothing}
use Rattle.luks_init.specs.declared.init_disk.refusal.Refusal.{Refusal}
use Rattle.luks_init.specs.declared.init_disk.refusal.Refusal.TheVariants as refusals
use Rattle.sector_disk.specs.JoinedDisks.Counts.{HasSizes}
use Rattle.luks_store.specs.Copying.Held.{repair_stage_in}
use Rattle.luks_store.specs.declared.header_copies.repair.Repair.{Repair}
use Rattle.luks_store.specs.declared.header_copies.repair.RepairStage.TheVariants.{Broken}
use Rattle.luks_init.specs.Begins.{first_unready, unready_by}
use Rattle.luks_init.specs.Wishes.{IsWish}
use Rattle.luks_init.specs.declared.fault.InitFault.TheVariants as faults
use Rattle.luks_init.specs.declared.wish.Wish.{Wish}
use Rattle.luks_rules.specs.Idles.{idle_of}
use Rattle.luks_rules.specs.declared.idle.Idle.{Idle}
use Rattle.luks_store.specs.Commits.{FitsDisks}
use Rattle.luks_store.specs.Devices.{KeepsBytes, front_of}
use Rattle.luks_store.specs.Loads.{stored_in}
use Rattle.luks_store.specs.Used.{AreCopies}
use Rattle.luks_store.specs.declared.copies.Copies.{Copies}
use Rattle.luks_store.specs.declared.loaded.Stored.{Stored}
use Rattle.reenc_meta.specs.Placements.{PlacedBy, all_atoms}
use Rattle.reenc_meta.specs.declared.placement.Placement.{Placement}
use Rattle.reenc_recovery.proofs.OpenCauseLemmas.{cause_since, repair_rose, rose_since}
use Rattle.reenc_recovery.proofs.OpenLemmas.{refused_later, shows_sizes}
use Rattle.reenc_recovery.proofs.WritingLemmas.{repair_begun}
use Rattle.reenc_recovery.specs.Calls.{DiskOpeningRun, DiskSyncsAndReads, IsRepairFor, RepairFits}
use Rattle.reenc_recovery.specs.Calls.{RepairRun, TellsSized}
use Rattle.reenc_recovery.specs.Causes.{HasCauseIn, IsCauseIn}
use Rattle.reenc_recovery.specs.Openings.{HasPassed}
use Rattle.reenc_recovery.specs.Tables.{DiskOpeningsKeepContents, DiskReadsKeepContents}
use Rattle.reenc_recovery.specs.Tables.{ShowsSizes}
use Rattle.reenc_recovery.specs.declared.fault.OpenCause.{OpenCause}
use Rattle.reenc_recovery.specs.declared.fault.OpenCause.TheVariants as causes
use Rattle.sector_disk.specs.Cells.{content, currents}
use Rattle.sector_disk.specs.Devices.{Device, SyncCall, failed_call, succeeded}
use Rattle.sector_disk.specs.Geometry.{IsAtom, IsDisk}
use Rattle.sector_disk.specs.Steps.{Told}
use Rattle.luks_store.specs.SlotCommits.Calls.{FitsSlot, WritesSlot}
use Rattle.luks_store.specs.declared.slot_commit.writing.SlotCommit.{SlotCommit}
use Rattle.volume_machine.specs.declared.keys.Keys.{Keys}
use Rattle.volume_opening.specs.declared.refusal.Refusal.TheVariants as openings

-- ---- what was answered
pub ok_of : {T E : Type 0} (P : T → Type 0) (r : Result T E) (x : T) → r ≡ Ok x → IfOk r P → P x
ok_of {T} {E} P r x is has = subst (λ (v : Result T E). IfOk v P) is has

pub err_of : {T E : Type 0} (P : E → Type 0) (r : Result T E) (x : E) → r ≡ Err x → IfErr r P
    → P x
err_of {T} {E} P r x is has = subst (λ (v : Result T E). IfErr v P) is has

-- ---- before anything is written
pub checked_of : {C : Type 0} (sector : C → ℕ) (sealed opened : C → ℕ → List ℕ → List ℕ)
    (sizes later : Sizes) (key : Option (List ℕ)) (header : Stored) (p : Placement) (keys : Keys C)
    (repair : Option Repair) (old synced : Device) → later ≡ sizes
    → SyncCall old synced succeeded → HasPassed sector sealed opened later key header p keys
    → IsRepairFor header.copies repair → IfSome repair (FitsDisks later)
    → ((all : List ℕ) → synced.values ≡ Some all
    → stored_in later (front_of later all) ≡ Ok header)
    → IsChecked sizes key old header repair
checked_of sector sealed opened sizes later key header p keys repair old synced same sync
    passed_later asked fits held =
    let passed = subst (λ (z : Sizes). HasPassed sector sealed opened z key header p keys) same
    passed_later in
    record {
      placement = p;
      found = record {
        stored = passed.stored;
        sizes_are = passed.sizes_are;
        sound = passed.sound;
        begin = passed.begin;
        room = passed.room;
        placed = passed.opening.placed;
        right = passed.opening.right;
        asked = asked;
        held = λ all is.
            subst (λ (z : Sizes). stored_in z (front_of z all) ≡ Ok header) same
            (held all (sync.values ∙ is));
      };
      key_is = passed.opening.new_key;
      fits = subst (λ (z : Sizes). IfSome repair (FitsDisks z)) same fits;
    }

pub ready_of : (sizes : Sizes) (key : Option (List ℕ)) (header : Stored) (repair : Option Repair)
    (old : Device) (w : Wish) (pass seed : List ℕ) (slot : SlotCommit) (tail : ℕ)
    → IsChecked sizes key old header repair → tail ≡ old.tail
    → LosesNothing w header.valid.meta header.valid.sizes tail → IsMade header w pass seed slot
    → IsReady sizes key w pass seed old header repair slot
ready_of sizes key header repair old w pass seed slot tail checked same safe made = record {
  checked = checked;
  safe = subst (λ (n : ℕ). LosesNothing w header.valid.meta header.valid.sizes n) same safe;
  made = made;
}

begun_by : (copies : Copies) (repair : Option Repair) → AreCopies copies
    → IsRepairFor copies repair → IfSome repair (λ r. repair_stage_in r ≡ Broken)
begun_by copies None are is = tt
begun_by copies (Some repair) are is = repair_begun copies repair are is

fits_by : (sizes : Sizes) (repair : Option Repair) (device : Device)
    → IfSome repair (FitsDisks sizes) → HasSizes sizes device → IsAtom device.size
    → IfSome repair (RepairFits device)
fits_by sizes None device fits has known = tt
fits_by sizes (Some repair) device fits has known = fits device has known

-- a disk alone has its own sizes
pub has_alone : (device : Device) → HasSizes (sizes_alone device) device
has_alone device = record {
  atom = refl;
  header = omega arith;
  main = omega arith;
  all = (let e : 0 + device.atoms ≡ device.atoms = omega arith in e);
  alone = λ none. refl;
}

pub shows_alone : (device : Device) → IsDisk device.size device.atoms
    → ((told : Told) → device.told ≡ Some told → device.values ≡ Some (content told.now))
    → ((told : Told) → device.told ≡ Some told
    → lengths (currents told.now) ≡ replicate device.atoms device.size)
    → ((all : List ℕ) → device.values ≡ Some all → length all ≡ device.atoms * device.size)
    → ShowsSizes (sizes_alone device) device
shows_alone device disk agrees even whole =
    shows_sizes (sizes_alone device) device refl disk.known (omega arith) whole agrees even

pub all_alone : (device : Device) → IsDisk device.size device.atoms
    → IsDisk (sizes_alone device).atom (all_atoms (sizes_alone device))
all_alone device is =
    subst (λ (n : ℕ). IsDisk device.size n)
    (let e : device.atoms ≡ 0 + device.atoms = omega arith in e) is

pub same_by_sync : (old new : Device) → SyncCall old new succeeded
    → sizes_alone new ≡ sizes_alone old
same_by_sync old new call = ap₂ (λ atom atoms. record {
  atom = atom;
  header_atoms = atoms;
  main_atoms = atoms;
  detached = false;
}) call.size call.atoms

-- a disk of the same sizes
pub same_sizes : (sizes : Sizes) (one other : Device) → one.size ≡ other.size
    → one.atoms ≡ other.atoms → HasSizes sizes other → HasSizes sizes one
same_sizes sizes one other size atoms has = record {
  atom = has.atom ∙ sym size;
  header = subst (λ (n : ℕ). sizes.header_atoms ≤ n) (sym atoms) has.header;
  main = subst (λ (n : ℕ). sizes.main_atoms ≤ n) (sym atoms) has.main;
  all = has.all ∙ sym atoms;
  alone = has.alone;
}

-- ---- what can't be made of a volume that is placed
unready_else : (crypt odd : Bool) (n : ℕ)
    → cond (not crypt) (Some faults.Linear) (cond odd (Some (faults.Passphrase n)) None)
    ≡ Some faults.InProgress → ⊥
unready_else true true n is = cc
unready_else true false n is = cc
unready_else false odd n is = cc

not_under_way : (o : Option Idle) (sizes : Sizes) (p : Placement) (pass : List ℕ)
    → PlacedBy sizes o p → unready_by o pass ≡ Some faults.InProgress → ⊥
unfolding unready_by
not_under_way None sizes p pass placed is = placed
not_under_way (Some v) sizes p pass placed is =
    unready_else (is_some v.segment.encryption)
    (nat_lt (length pass) 1 || nat_lt 512 (length pass)) (length pass) is

-- ---- the first sync failed
pub unsynced : (sizes : Sizes) (key : Option (List ℕ)) (w : Wish) (pass seed : List ℕ)
    (old new : Device) (refusal : Refusal)
    → refusal ≡ refusals.Unopened (openings.Opening causes.Device)
    → SyncCall old new failed_call → IsUnbegunOf sizes key w pass seed old new refusal
unsynced sizes key w pass seed old new refusal is call =
    subst (λ (r : Refusal). IsUnbegunOf sizes key w pass seed old new r) (sym is)
    (record {
      unopened = inl (call, refl);
      why = record { cause_is = call.cause.failed refl; refused = λ first told. tt };
    })

-- ---- refused when the disks were synced and read
module _ (sizes : Sizes) (key : Option (List ℕ)) (w : Wish) (pass seed : List ℕ)
    (old synced read : Device) (sync : SyncCall old synced succeeded)
    (unwritten : KeepsBytes synced read) (keep : DiskReadsKeepContents) where
  pub first_calls : DiskSyncsAndReads old read
  first_calls = record { synced = synced; sync = sync; unwritten = unwritten }

  only_read : IsOnlyRead sizes old read
  only_read = record { calls = first_calls; tables = keep sizes old read first_calls }

  -- by the header or the key, where the disks still have the sizes that they had
  pub refused : (later : Sizes) → later ≡ sizes → (refusal : Refusal) (cause : OpenCause)
      → refusal ≡ refusals.Unopened (openings.Opening cause)
      → HasCauseIn synced read cause
      → ((all : List ℕ) → synced.values ≡ Some all
      → IsCauseIn later key (stored_in later (front_of later all)) cause)
      → IsUnbegunOf sizes key w pass seed old read refusal
  refused later still refusal cause is by why =
      subst (λ (r : Refusal). IsUnbegunOf sizes key w pass seed old read r) (sym is)
      (record {
        unopened = inr (inl only_read);
        why = record {
          cause_is = cause_since old synced read cause
              sync.cause.later by;
          refused = refused_later sizes later key cause old synced still
              sync why;
        };
      })

  -- by the header that passed all checks
  module _ (header : Stored) (repair : Option Repair) (tail : ℕ) (tail_is : tail ≡ old.tail)
      (checked : IsChecked sizes key old header repair) where
    unready_of : (refusal : Refusal) → IsUnready header w pass seed tail refusal
        → IsUnreadyOf sizes key w pass seed old read refusal
    unready_of refusal is_later =
        let is = subst (λ (n : ℕ). IsUnready header w pass seed n refusal) tail_is is_later in
        record {
          read = only_read;
          header = header;
          repair = repair;
          checked = checked;
          unready = is;
          idle = λ same.
              not_under_way (idle_of header.valid.meta sizes) sizes checked.placement pass
              checked.found.placed
              (subst (λ (z : Sizes). first_unready header.valid.meta z pass ≡ Some faults.InProgress)
              checked.found.sizes_are
              (subst (λ (r : Refusal). IsUnready header w pass seed old.tail r) same is).1);
        }

    pub unready : (refusal : Refusal) → IsUnready header w pass seed tail refusal
        → IsUnbegunOf sizes key w pass seed old read refusal
    unready (refusals.Unopened refusal) is = absurd is
    unready refusals.Linear is = absurd is
    unready refusals.Memory is = unready_of refusals.Memory is
    unready (refusals.Keyslots list) is = unready_of (refusals.Keyslots list) is
    unready (refusals.Tail bytes) is = unready_of (refusals.Tail bytes) is
    unready (refusals.Unmade fault) is = unready_of (refusals.Unmade fault) is
    unready refusals.Writing is = absurd is

-- ---- all is ready
module _ (sizes : Sizes) (key : Option (List ℕ)) (w : Wish) (pass seed : List ℕ)
    (old read : Device) (header : Stored) (repair : Option Repair) (slot : SlotCommit)
    (first : DiskSyncsAndReads old read)
    (ready : IsReady sizes key w pass seed old header repair slot)
    (has : HasSizes sizes old) (shows : ShowsSizes sizes old) where
  size_read : read.size ≡ old.size
  size_read = first.unwritten.size ∙ first.sync.size

  atoms_read : read.atoms ≡ old.atoms
  atoms_read = first.unwritten.atoms ∙ first.sync.atoms

  pub repair_begins : IfSome repair (λ r. repair_stage_in r ≡ Broken)
  repair_begins = begun_by header.copies repair ready.checked.found.stored.copies
      ready.checked.found.asked

  pub repair_fits : IfSome repair (RepairFits read)
  repair_fits =
      fits_by sizes repair read ready.checked.fits
      (same_sizes sizes read old size_read atoms_read has)
      (subst (λ (n : ℕ). IsAtom n) (shows.atom ∙ sym size_read) shows.known)

  runs : (new : Device) (result : Result (Unit {0}) Failed)
      → RepairRun repair read new result → DiskOpeningRun repair old new result
  runs new result run = record { read = read; first = first; run = run }

  -- a call of the repair failed
  unrepaired_by : (keep : DiskOpeningsKeepContents) (new : Device)
      → RepairRun repair read new failed_call → TellsSized new
      → (some : Option Repair) → repair ≡ some
      → IsUnrepaired sizes key w pass seed old new causes.Device
  unrepaired_by keep new run sized None is =
      absurd (subst (λ (r : Option Repair). RepairRun r read new failed_call) is run)
  unrepaired_by keep new run sized (Some one) is = record {
    header = header;
    repair = one;
    slot = slot;
    ready = subst (λ (r : Option Repair). IsReady sizes key w pass seed old header r slot) is ready;
    calls = subst (λ (r : Option Repair). DiskOpeningRun r old new failed_call) is
        (runs new failed_call run);
    by = refl;
    tables = keep sizes header ready.checked.placement repair old new failed_call shows
        ready.checked.found (runs new failed_call run) sized;
  }

  pub unrepaired : DiskOpeningsKeepContents → (new : Device) (refusal : Refusal)
      → refusal ≡ refusals.Unopened (openings.Opening causes.Device)
      → RepairRun repair read new failed_call
      → TellsSized new
      → IsUnbegunOf sizes key w pass seed old new refusal
  unrepaired keep new refusal is run sized =
      let one = first.sync.cause.later in
      let two = first.unwritten.later in
      subst (λ (r : Refusal). IsUnbegunOf sizes key w pass seed old new r) (sym is)
      (record {
        unopened = inr (inr (unrepaired_by keep new run sized repair refl));
        why = record {
          cause_is = rose_since old.faults read.faults new.faults (omega (arith, one, two))
              (repair_rose repair read new run);
          refused = λ first told. tt;
        };
      })

  -- the repair's calls were done
  module _ (between : Device) (mended : RepairRun repair read between succeeded)
      (size : between.size ≡ read.size)
      (atoms : between.atoms ≡ read.atoms) where
    pub slot_fits : FitsSlot slot between
    slot_fits =
        fits_slot header sizes w pass seed slot ready.made ready.checked.found.sizes_are
        ready.checked.found.sound between
        (same_sizes sizes between old (size ∙ size_read) (atoms ∙ atoms_read) has)

    pub shows_between : ((told : Told) → between.told ≡ Some told
        → between.values ≡ Some (content told.now))
        → ((told : Told) → between.told ≡ Some told
        → lengths (currents told.now) ≡ replicate between.atoms between.size)
        → ((all : List ℕ) → between.values ≡ Some all → length all ≡ between.atoms * between.size)
        → ShowsSizes sizes between
    shows_between agrees even whole =
        shows_sizes sizes between (shows.atom ∙ sym (size ∙ size_read)) shows.known
        (subst (λ (n : ℕ). sizes.header_atoms ≤ n) (sym (atoms ∙ atoms_read)) shows.header)
        (λ all is. whole all is ∙ ap (λ n. between.atoms * n) (size ∙ size_read ∙ sym shows.atom))
        agrees even

    pub begun_of : DiskOpeningsKeepContents → SlotsKeepContents → IsDisk sizes.atom (all_atoms sizes)
        → IsWish w sizes.atom → ShowsSizes sizes between
        → ((all : List ℕ) → between.values ≡ Some all → length all ≡ between.atoms * between.size)
        → TellsSized between → (new : Device) (result : Result (Unit {0}) Failed)
        → WritesSlot slot between new result → IsBegunOf sizes key w pass seed old new result
    begun_of keep law disk wish shows_later whole sized new result writes =
        let run = runs between succeeded mended in
        record {
          header = header;
          repair = repair;
          slot = slot;
          ready = ready;
          between = between;
          opening = run;
          slot_calls = writes;
          opened = keep sizes header ready.checked.placement repair old between succeeded shows
              ready.checked.found run sized;
          tables = λ all is.
              (law sizes key w pass seed old header repair slot between new result all disk wish
              shows ready run shows_later slot_fits writes is).tables;
          done = λ all is.
              (law sizes key w pass seed old header repair slot between new result all disk wish
              shows ready run shows_later slot_fits writes is).done;
          kept = λ all is.
              (law sizes key w pass seed old header repair slot between new result all disk wish
              shows ready run shows_later slot_fits writes is).kept;
          held = λ all is done.
              (law sizes key w pass seed old header repair slot between new result all disk wish
              shows ready run shows_later slot_fits writes is).held done whole;
        }
