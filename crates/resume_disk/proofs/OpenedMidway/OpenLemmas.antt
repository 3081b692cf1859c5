-- The whole of an opening: what passed, what is led on, and what a refusal leaves.
use Rattle.std.proofs.Common.{◌≡◌, ℕ, zero, suc, ◌+◌, ◌*◌, ◌<◌, ◌≤◌, List, Option, Some, None, Result}
use Rattle.std.proofs.Common.{Ok, refl, sym, ◌∙◌, ap, subst, arith}
use Rattle.std.specs.Option.{IfSome, IsSomeAnd, MatchOption}
use Rattle.resume_disk.specs.OpenedMidway.Openings.{HasPassed, IsFound, IsLedOn, IsNotLedOn}
use Rattle.resume_disk.specs.OpenedMidway.Openings.{IsOpenedOf}
use Rattle.resume_disk.proofs.OpenedMidway.VolumeLemmas.{fits_volume}
use Rattle.resume_disk.specs.OpenedMidway.Causes.{IsCauseIn, IsNotMoved, no_memory}
use Rattle.resume_disk.specs.OpenedMidway.Openings.{IsUnopened, armed_volume, not_led_on, unarmed}
use Rattle.resume_disk.specs.OpenedMidway.Openings.{unmended}
use Rattle.resume_disk.specs.OpenedMidway.Openings.{unrepaired}
use Rattle.resume_disk.specs.OpenedMidway.Runs.{FitsVolume, LeadsTo}
use Rattle.resume_disk.specs.OpenedMidway.Sides.{IsConversion}
use Rattle.resume_disk.specs.declared.midway.fault.ConversionCause.{ConversionCause}
use Rattle.base_terms.specs.declared.disk_sizes.Sizes.{Sizes}
use Rattle.hotzone.proofs.CommitLemmas.{has-as}
use Rattle.hotzone.specs.Sites.{IsSaved}
use Rattle.hotzone.specs.Workers.{MayGoOn}
use Rattle.sector_disk.specs.JoinedDisks.Counts.{HasSizes}
use Rattle.sector_disk.specs.JoinedDisks.Joined.{Joint, joined_disk}
use Rattle.luks_store.specs.Copying.Held.{repair_stage_in}
use Rattle.luks_store.specs.declared.header_copies.repair.Repair.{Repair}
use Rattle.luks_store.specs.declared.header_copies.repair.RepairStage.TheVariants.{Broken}
use Rattle.luks_rules.specs.Areas.{header_bytes}
use Rattle.luks_rules.specs.Shapes.{progress_of}
use Rattle.luks_rules.specs.States.{IsSound}
use Rattle.luks_rules.specs.declared.shape.Progress.{Progress}
use Rattle.luks_rules.specs.declared.valid.Checked.{Checked}
use Rattle.luks_store.specs.Commits.{AreGood, FitsDisks, Repairs}
use Rattle.luks_store.specs.Devices.{IsUnwritten, front_of, header_room}
use Rattle.luks_store.specs.Loads.{IsStored, stored_in}
use Rattle.luks_store.specs.Used.{AreCopies, Refusal}
use Rattle.luks_store.specs.declared.copies.Copies.{Copies}
use Rattle.luks_store.specs.declared.loaded.Stored.{Stored}
use Rattle.reenc_meta.specs.ConversionMaps.{IsMapOf}
use Rattle.reenc_meta.specs.Placements.{all_atoms}
use Rattle.reenc_recovery.proofs.WritingLemmas.{repair_begun}
use Rattle.reenc_recovery.specs.Calls.{IsRepairFor, RepairFits, RepairRun, SyncsAndReads}
use Rattle.reenc_recovery.specs.declared.keys.SideKeys.{SideKeys}
use Rattle.sector_disk.specs.Devices.{Device, SyncCall, succeeded}
use Rattle.sector_disk.specs.Geometry.{IsAtom, IsDisk}
use Rattle.volume_machine.specs.States.{State}
use Rattle.volume_machine.specs.declared.keys.Keys.{Keys}
use Rattle.image_laws.specs.Led.Holding.{TellsLawfully}
use Rattle.zone_mending.specs.Menders.{IsNew}
use Rattle.zone_mending.specs.OpenZones.{HasZone, IsNotMade}
use Rattle.zone_mending.specs.declared.mender.MendFault.{MendFault}
use Rattle.zone_mending.specs.declared.mender.Mender.{Mender}

-- ---- what passed
pub has_passed : {C : Type 0} (sector : C → ℕ) (sealed opened : C → ℕ → List ℕ → List ℕ)
    (sizes : Sizes) (handed : SideKeys) (header : Stored) (valid : Checked) (keys : Keys C)
    → valid ≡ header.valid → IsStored header → header.valid.sizes ≡ sizes
    → IsSound valid.meta valid.sizes
    → header.valid.meta.config.json_size + 4096 ≡ header.copies.used.header.hdr_size
    → 2 * header.copies.used.header.hdr_size ≤ header_room header.valid.sizes
    → header_room sizes ≡ header_bytes sizes
    → IsConversion sector sealed opened valid.meta valid.sizes handed keys
    → HasPassed sector sealed opened sizes handed header keys
has_passed sector sealed opened sizes handed header valid keys is stored same sound size room one
    conversion = record {
      stored = stored;
      sizes_are = same;
      sound = subst (λ (z : Sizes). IsSound header.valid.meta z) same
          (subst (λ (v : Checked). IsSound v.meta v.sizes) is sound);
      begin = ap (λ n. 2 * n) size;
      room = subst (λ (n : ℕ). 2 * header.copies.used.header.hdr_size ≤ n)
          (ap (λ (z : Sizes). header_room z) same ∙ one) room;
      conversion =
          subst (λ (z : Sizes). IsConversion sector sealed opened header.valid.meta z handed keys)
          same
          (subst (λ (v : Checked). IsConversion sector sealed opened v.meta v.sizes handed keys) is
          conversion);
    }

-- of the header whose metadata were judged
pub conversion_in : {C : Type 0} (sector : C → ℕ) (sealed opened : C → ℕ → List ℕ → List ℕ)
    (handed : SideKeys) (header : Stored) (valid : Checked) (keys : Keys C) → valid ≡ header.valid
    → IsConversion sector sealed opened valid.meta valid.sizes handed keys
    → IsConversion sector sealed opened header.valid.meta header.valid.sizes handed keys
conversion_in sector sealed opened handed header valid keys same is =
    subst (λ (v : Checked). IsConversion sector sealed opened v.meta v.sizes handed keys) same is

-- it may be led on
pub guarded_by : {C : Type 0} (sector : C → ℕ) (sealed opened : C → ℕ → List ℕ → List ℕ)
    (handed : SideKeys) (header : Stored) (valid : Checked) (keys : Keys C) → valid ≡ header.valid
    → IsConversion sector sealed opened valid.meta valid.sizes handed keys
    → IsSomeAnd (progress_of header.valid.meta header.valid.sizes) (λ now. IsSaved now.conversion.resilience)
guarded_by sector sealed opened handed header valid keys same judged =
    let is = conversion_in sector sealed opened handed header valid keys same judged in
    subst (λ o. IsSomeAnd o (λ now. IsSaved now.conversion.resilience)) (sym is.known) is.guarded

-- the volume fits the disk and its keys
pub fits_by : {C : Type 0} (sector : C → ℕ) (sealed opened : C → ℕ → List ℕ → List ℕ)
    (handed : SideKeys) (header : Stored) (valid : Checked) (keys : Keys C) → valid ≡ header.valid
    → IsStored header → IsSound valid.meta valid.sizes
    → IsDisk header.valid.sizes.atom (all_atoms header.valid.sizes)
    → IsConversion sector sealed opened valid.meta valid.sizes handed keys
    → FitsVolume sector header keys
fits_by sector sealed opened handed header valid keys same stored sound disk judged =
    let is = conversion_in sector sealed opened handed header valid keys same judged in
    fits_volume header stored (subst (λ (v : Checked). IsSound v.meta v.sizes) same sound) is.now
    is.known is.guarded disk sector sealed opened handed keys is.sides

-- so it is where this is that header
pub fits_here : {C : Type 0} (sector : C → ℕ) (header here : Stored) (keys : Keys C)
    → here ≡ header → FitsVolume sector header keys → FitsVolume sector here keys
fits_here sector header here keys is fits =
    subst (λ (s : Stored). FitsVolume sector s keys) (sym is) fits

repair_asked : (copies : Copies) (repair : Option Repair)
    → MatchOption repair (AreGood copies) (Repairs copies) → IsRepairFor copies repair
repair_asked copies None is = is
repair_asked copies (Some repair) is = is

pub repair_here : (header here : Stored) (repair : Option Repair) → here ≡ header
    → MatchOption repair (AreGood header.copies) (Repairs header.copies)
    → IsRepairFor here.copies repair
repair_here header here repair is asked =
    subst (λ (s : Stored). IsRepairFor s.copies repair) (sym is)
    (repair_asked header.copies repair asked)

pub held_here : (sizes : Sizes) (header here : Stored) (values : Option (List ℕ)) → here ≡ header
    → ((all : List ℕ) → values ≡ Some all → stored_in sizes (front_of sizes all) ≡ Ok header)
    → (all : List ℕ) → values ≡ Some all → stored_in sizes (front_of sizes all) ≡ Ok here
held_here sizes header here values is held all told =
    subst (λ (s : Stored). stored_in sizes (front_of sizes all) ≡ Ok s) (sym is) (held all told)

-- ---- how it is led on
-- no zone is open, and so it may go on; or one is
may_from : (found : Option Progress)
    → IsSomeAnd found (λ now. IsSaved now.conversion.resilience)
    → (IsSomeAnd found (λ now. (0 < now.plan.zone) × IsSaved now.conversion.resilience) → ⊥)
    → IsSomeAnd found (λ now. (now.plan.zone ≡ 0) × IsSaved now.conversion.resilience)
may_from None guarded none = absurd guarded
may_from (Some now) guarded none =
    (closed now.plan.zone (λ some. none (some, guarded)), guarded)
  where
    closed : (n : ℕ) → (0 < n → ⊥) → n ≡ 0
    closed zero none = refl
    closed (suc n) none = absurd (none (omega arith))

pub may_by : (header : Stored)
    → IsSomeAnd (progress_of header.valid.meta header.valid.sizes) (λ now. IsSaved now.conversion.resilience)
    → (HasZone header → ⊥) → MayGoOn header
may_by header guarded none =
    may_from (progress_of header.valid.meta header.valid.sizes) guarded none

pub new_here : {C : Type 0} (header : Stored) (keys : Keys C) (mender : Mender C)
    → IsNew header keys mender → IsNew mender.loaded keys mender
new_here header keys mender new =
    subst (λ (s : Stored). IsNew s keys mender) (sym new.loaded) new

pub passed_by : {C : Type 0} (sector : C → ℕ) (sealed opened : C → ℕ → List ℕ → List ℕ)
    (sizes : Sizes) (handed : SideKeys) (header here : Stored) (keys : Keys C) → here ≡ header
    → HasPassed sector sealed opened sizes handed header keys
    → HasPassed sector sealed opened sizes handed here keys
passed_by sector sealed opened sizes handed header here keys is passed =
    subst (λ (s : Stored). HasPassed sector sealed opened sizes handed s keys) (sym is) passed

-- the header behind an open zone can't be made
some_zone : (found : Option Progress) (c : Progress) → found ≡ Some c
    → IsSomeAnd found (λ now. (0 < now.plan.zone) × IsSaved now.conversion.resilience)
    → 0 < c.plan.zone
some_zone found c is has =
    (subst (λ o. IsSomeAnd o (λ now. (0 < now.plan.zone) × IsSaved now.conversion.resilience)) is
    has).0

pub not_moved_by : {C : Type 0} (sector : C → ℕ) (sealed opened : C → ℕ → List ℕ → List ℕ)
    (sizes : Sizes) (handed : SideKeys) (header : Stored) (valid : Checked) (keys : Keys C)
    (fault : MendFault) → valid ≡ header.valid → header.valid.sizes ≡ sizes
    → IsConversion sector sealed opened valid.meta valid.sizes handed keys
    → HasZone header → IsNotMade header fault → IsNotMoved sizes handed header fault
not_moved_by sector sealed opened sizes handed header valid keys fault judge same judged has unmade =
    let is = conversion_in sector sealed opened handed header valid keys judge judged in
    subst (λ (z : Sizes). IsNotMoved z handed header fault) same (
      is.now,
      record {
        known = is.known;
        guarded = is.guarded;
        old_key = is.sides.old_key;
        new_key = is.sides.new_key;
      },
      some_zone (progress_of header.valid.meta header.valid.sizes) is.now is.known has,
      unmade,
    )

-- ---- the repair on the disk
pub begun_of : (copies : Copies) (repair : Option Repair) → AreCopies copies
    → IsRepairFor copies repair → IfSome repair (λ r. repair_stage_in r ≡ Broken)
begun_of copies None are is = tt
begun_of copies (Some repair) are is = repair_begun copies repair are is

fits_of : (sizes : Sizes) (repair : Option Repair) (device : Device)
    → IfSome repair (FitsDisks sizes) → HasSizes sizes device → IsAtom device.size
    → IfSome repair (RepairFits device)
fits_of sizes None device fits has known = tt
fits_of sizes (Some repair) device fits has known = fits device has known

-- ---- what was found
-- disks that were synced and then only read
pub is_read : (old synced read : Joint) → SyncCall (joined_disk old) (joined_disk synced) succeeded
    → IsUnwritten synced read → SyncsAndReads old read
is_read old synced read sync unwritten = record {
  synced = synced;
  sync = sync;
  unwritten = unwritten;
}

-- of disks whose sizes are still the same behind their sync
pub is_found : {C : Type 0} (sector : C → ℕ) (sealed opened : C → ℕ → List ℕ → List ℕ)
    (sizes later : Sizes) (handed : SideKeys) (header : Stored) (keys : Keys C)
    (repair : Option Repair) (old synced : Joint) → later ≡ sizes
    → SyncCall (joined_disk old) (joined_disk synced) succeeded
    → HasPassed sector sealed opened later handed header keys → IsRepairFor header.copies repair
    → ((all : List ℕ) → (joined_disk synced).values ≡ Some all
    → stored_in later (front_of later all) ≡ Ok header)
    → IsFound sector sealed opened sizes handed old
is_found sector sealed opened sizes later handed header keys repair old synced same sync passed
    asked held = record {
      header = header;
      keys = keys;
      passed =
          subst (λ (z : Sizes). HasPassed sector sealed opened z handed header keys) same passed;
      held = λ all is.
          subst (λ (z : Sizes). stored_in z (front_of z all) ≡ Ok header) same
          (held all (sync.values ∙ is));
      repair = repair;
      asked = asked;
    }

module _ (sizes later : Sizes) (repair : Option Repair) (old synced read : Joint)
    (same : later ≡ sizes) (sync : SyncCall (joined_disk old) (joined_disk synced) succeeded)
    (unwritten : IsUnwritten synced read) where
  pub sizes_read : HasSizes sizes (joined_disk old) → HasSizes sizes (joined_disk read)
  sizes_read has =
      has-as sizes (joined_disk old) (joined_disk read) (unwritten.size ∙ sync.size)
      (unwritten.atoms ∙ sync.atoms) has

  pub fits_read : HasSizes sizes (joined_disk old) → IsAtom sizes.atom
      → IfSome repair (FitsDisks later) → IfSome repair (RepairFits (joined_disk read))
  fits_read has known fits =
      let here = sizes_read has in
      fits_of sizes repair (joined_disk read)
      (subst (λ (z : Sizes). IfSome repair (FitsDisks z)) same fits) here
      (subst IsAtom here.atom known)

-- ---- behind the checks
pub led_on : {C : Type 0} (sector : C → ℕ) (sealed opened : C → ℕ → List ℕ → List ℕ)
    (header : Stored)
    (keys : Keys C) (repair : Option Repair) (lanes : ℕ) (old mended led : Device) (last : Stored)
    (volume : State (Keys C)) → RepairRun repair old mended succeeded
    → LeadsTo sector sealed opened header keys mended led last → TellsLawfully led
    → last.valid.sizes ≡ header.valid.sizes → volume.disk ≡ led → volume.keys ≡ keys
    → IsMapOf last.valid.meta last.valid.sizes volume.map
    → volume ≡ armed_volume last lanes volume
    → IsLedOn sector sealed opened header.valid.sizes header keys repair lanes old volume
led_on sector sealed opened header keys repair lanes old mended led last volume run leads lawful same
    disk own map armed = record {
      mended = mended;
      repairs = run;
      last = last;
      leads = subst (λ (d : Device). LeadsTo sector sealed opened header keys mended d last) (sym disk) leads;
      sizes_are = same;
      keys_are = own;
      map = subst (λ (z : Sizes). IsMapOf last.valid.meta z volume.map) same map;
      armed = armed;
      tells = subst TellsLawfully (sym disk) lawful;
    }

-- memory for the buffer of the conversion was wanted
pub left_unarmed : {C : Type 0} (sector : C → ℕ) (sealed opened : C → ℕ → List ℕ → List ℕ)
    (header : Stored)
    (keys : Keys C) (repair : Option Repair) (old mended led new : Device) (last : Stored)
    → RepairRun repair old mended succeeded → LeadsTo sector sealed opened header keys mended led last
    → new ≡ led → IsNotLedOn sector sealed opened header keys repair old new no_memory
left_unarmed sector sealed opened header keys repair old mended led new last run leads is =
    unarmed mended run last
    (subst (λ (d : Device). LeadsTo sector sealed opened header keys mended d last) (sym is) leads) refl

-- ---- of the disks that it was found on
module _ {C : Type 0} (sector : C → ℕ) (sealed opened : C → ℕ → List ℕ → List ℕ)
    (sizes later : Sizes) (handed : SideKeys) (header : Stored) (keys : Keys C)
    (repair : Option Repair) (old synced read : Joint) (same : later ≡ sizes)
    (sync : SyncCall (joined_disk old) (joined_disk synced) succeeded)
    (unwritten : IsUnwritten synced read)
    (passed : HasPassed sector sealed opened later handed header keys)
    (asked : IsRepairFor header.copies repair)
    (held : (all : List ℕ) → (joined_disk synced).values ≡ Some all
    → stored_in later (front_of later all) ≡ Ok header) where
  -- a volume was opened
  pub opened_of : (lanes given : ℕ) (volume : State (Keys C)) → given ≡ lanes
      → IsLedOn sector sealed opened header.valid.sizes header keys repair given (joined_disk read) volume
      → IsOpenedOf sector sealed opened sizes handed lanes old volume
  unfolding is_found
  opened_of lanes given volume is led = record {
    found =
        is_found sector sealed opened sizes later handed header keys repair old synced same sync
        passed asked held;
    read = read;
    first = is_read old synced read sync unwritten;
    led =
        subst (λ (z : Sizes). IsLedOn sector sealed opened z header keys repair lanes (joined_disk read)
        volume) (passed.sizes_are ∙ same)
        (subst (λ n. IsLedOn sector sealed opened header.valid.sizes header keys repair n
        (joined_disk read) volume) is led);
  }

  -- something failed behind the checks
  pub not_opened : (now : Sizes) (new : Joint) (cause : ConversionCause)
      → IsNotLedOn sector sealed opened header keys repair (joined_disk read) (joined_disk new) cause
      → IsUnopened sector sealed opened sizes now handed old new cause
  unfolding is_found
  not_opened now new cause left =
      not_led_on
      (is_found sector sealed opened sizes later handed header keys repair old synced same sync
      passed asked held)
      read (is_read old synced read sync unwritten) left

-- ---- no volume was opened
-- of the bytes that the disks held it says nothing
pub refused_behind : {C : Type 0} (sector : C → ℕ) (sealed opened : C → ℕ → List ℕ → List ℕ)
    (header : Stored)
    (keys : Keys C) (repair : Option Repair) (old new : Device) (cause : ConversionCause)
    (sizes : Sizes) (handed : SideKeys) (held : Result Stored Refusal)
    → IsNotLedOn sector sealed opened header keys repair old new cause
    → IsCauseIn sizes handed held cause
refused_behind sector sealed opened header keys repair old new cause sizes handed held (unrepaired run by) =
    subst (λ (c : ConversionCause). IsCauseIn sizes handed held c) (sym by) tt
refused_behind sector sealed opened header keys repair old new cause sizes handed held
    (unmended mended run zone by) =
    subst (λ (c : ConversionCause). IsCauseIn sizes handed held c) (sym by) tt
refused_behind sector sealed opened header keys repair old new cause sizes handed held
    (unarmed mended run last leads by) =
    subst (λ (c : ConversionCause). IsCauseIn sizes handed held c) (sym by) tt
