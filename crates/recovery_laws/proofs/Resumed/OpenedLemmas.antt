-- What is kept while a volume is opened that is being converted, whether one is made or not.
use Rattle.std.proofs.Common.{◌≡◌, inl, inr, ℕ, List, true, Ok, arith, subst, sym}
use Rattle.resume_disk.specs.OpenedMidway.Openings.{IsFound, IsNotLedOn, IsOpenedOf, IsUnopened}
use Rattle.resume_disk.specs.OpenedMidway.Openings.{not_led_on, only_read, unarmed, uncalled}
use Rattle.resume_disk.specs.OpenedMidway.Openings.{unmended}
use Rattle.resume_disk.specs.OpenedMidway.Openings.{unrepaired, unsynced}
use Rattle.resume_disk.specs.OpenedMidway.Runs.{LeadsTo, MendsZone, mends, rests}
use Rattle.resume_disk.specs.declared.midway.fault.ConversionCause.{ConversionCause}
use Rattle.base_terms.specs.declared.disk_sizes.Sizes.{Sizes}
use Rattle.hotzone.specs.Workers.{MayGoOn}
use Rattle.sector_disk.specs.JoinedDisks.Joined.{Joint, joined_disk}
use Rattle.luks_store.specs.Devices.{front_of}
use Rattle.luks_store.specs.Loads.{stored_in}
use Rattle.luks_store.specs.declared.loaded.Stored.{Stored}
use Rattle.reenc_recovery.specs.Calls.{RepairRun, SyncsAndReads}
use Rattle.reenc_recovery.specs.declared.keys.SideKeys.{SideKeys}
use Rattle.recovery_laws.proofs.Resumed.EndLemmas.{run-moved}
use Rattle.recovery_laws.proofs.Resumed.OpeningLemmas.{OpeningLaws, closed-armed, closed-tables}
use Rattle.recovery_laws.proofs.Resumed.OpeningLemmas.{failed-tables, led-armed, led-tables, no-zone}
use Rattle.recovery_laws.proofs.Resumed.OpeningLemmas.{reads-stand, some-zone}
use Rattle.recovery_laws.proofs.Resumed.TableLemmas.{tells-read}
use Rattle.recovery_laws.specs.Resumed.Keeping.{KeepsContent, StandsArmed, StandsAtRepair}
use Rattle.recovery_laws.specs.Resumed.Openings.{IsKnownBehind, KeepsUnled, KeepsUnopened}
use Rattle.recovery_laws.specs.Resumed.Openings.{OpeningsKeepContent, OpensOn, UnopenedKeepContent}
use Rattle.sector_disk.specs.Devices.{Device, failed_call, succeeded}
use Rattle.volume_machine.specs.States.{State}
use Rattle.volume_machine.specs.declared.keys.Keys.{Keys}
use Rattle.image_laws.specs.Led.Holding.{TellsLawfully}

-- ---- a volume that was opened
module _ {C : Type 0} {sector : C → ℕ} {sealed opened : C → ℕ → List ℕ → List ℕ}
    (laws : OpeningLaws sector sealed opened) (sizes : Sizes) (handed : SideKeys) (lanes : ℕ)
    (old : Joint) (volume : State (Keys C)) (first old_key new_key : List ℕ)
    (content : List (List ℕ))
    (opens : OpensOn sizes handed old first old_key new_key content)
    (is : IsOpenedOf sector sealed opened sizes handed lanes old volume) where
  abbrev Keeps : Stored → Device → Type 0
  Keeps last device =
      KeepsContent sizes is.found.header last old_key new_key content (joined_disk old) is.led.mended
      device
      × (IsKnownBehind is.found.header device
      → StandsArmed sizes last old_key new_key content device)

  by-rest : MayGoOn is.found.header → volume.disk ≡ is.led.mended
      → Keeps is.found.header volume.disk
  by-rest may same =
      let tells = subst TellsLawfully same is.led.tells in
      subst (Keeps is.found.header) (sym same) (
        closed-tables laws sizes handed old first old_key new_key content opens is.found is.read
            is.first is.led.mended is.led.repairs tells may,
        λ behind. closed-armed laws sizes handed old first old_key new_key content opens is.found
            is.read is.first is.led.mended is.led.repairs tells may,
      )

  by-zone : (zone : MendsZone sector sealed opened is.found.header is.found.keys is.led.mended
      volume.disk succeeded) → Keeps zone.after.moved.loaded volume.disk
  by-zone zone = (
    led-tables laws sizes handed old first old_key new_key content opens is.found is.read is.first
        is.led.mended is.led.repairs zone.tells succeeded volume.disk zone,
    λ behind. elim behind as
        (λ _. StandsArmed sizes zone.after.moved.loaded old_key new_key content volume.disk) [
          | inl may ↦ absurd (let none = no-zone laws sizes handed old first old_key new_key content
              opens is.found may in let some = some-zone laws sizes handed old first old_key new_key
              content opens is.found is.read is.first is.led.mended is.led.repairs zone.tells succeeded
              volume.disk zone in omega (arith, none, some))
          | inr tells ↦ subst (λ (next : Stored).
              StandsArmed sizes next old_key new_key content volume.disk)
              (sym (run-moved sealed opened zone.before is.led.mended zone.after volume.disk (Ok true)
              zone.run))
              (led-armed laws sizes handed old first old_key new_key content opens is.found is.read
              is.first is.led.mended is.led.repairs zone.tells volume.disk zone is.led.tells tells.0
              tells.1)
        ],
  )

  by-leads : (last : Stored)
      → LeadsTo sector sealed opened is.found.header is.found.keys is.led.mended volume.disk last
      → Keeps last volume.disk
  by-leads last (rests may same is_last) =
      subst (λ (l : Stored). Keeps l volume.disk) (sym is_last) (by-rest may same)
  by-leads last (mends zone is_last) =
      subst (λ (l : Stored). Keeps l volume.disk) (sym is_last) (by-zone zone)

pub openings-keep : {C : Type 0} {sector : C → ℕ} {sealed opened : C → ℕ → List ℕ → List ℕ}
    → OpeningLaws sector sealed opened → OpeningsKeepContent sector sealed opened
openings-keep laws sizes handed lanes old volume first old_key new_key content opens is =
    by-leads laws sizes handed lanes old volume first old_key new_key content opens is is.led.last
    is.led.leads

-- ---- an opening that made none
module _ {C : Type 0} {sector : C → ℕ} {sealed opened : C → ℕ → List ℕ → List ℕ}
    (laws : OpeningLaws sector sealed opened) (sizes later : Sizes) (handed : SideKeys)
    (old new : Joint) (cause : ConversionCause) (first old_key new_key : List ℕ)
    (content : List (List ℕ)) (header : Stored)
    (opens : OpensOn sizes handed old first old_key new_key content)
    (tells : TellsLawfully (joined_disk new))
    (held : stored_in sizes (front_of sizes first) ≡ Ok header) where
  -- behind the repair
  by-leads-left : (found : IsFound sector sealed opened sizes handed old) (read : Joint)
      → SyncsAndReads old read → (mended : Device)
      → RepairRun found.repair (joined_disk read) mended succeeded → (last : Stored)
      → LeadsTo sector sealed opened found.header found.keys mended (joined_disk new) last
      → KeepsContent sizes found.header last old_key new_key content (joined_disk old) mended
      (joined_disk new)
  by-leads-left found read run mended repair last (rests may same is_last) =
      subst (λ (l : Stored). KeepsContent sizes found.header l old_key new_key content
      (joined_disk old) mended (joined_disk new)) (sym is_last)
      (subst (λ (d : Device). KeepsContent sizes found.header found.header old_key new_key content
      (joined_disk old) mended d) (sym same)
      (closed-tables laws sizes handed old first old_key new_key content opens found read run mended
      repair (subst TellsLawfully same tells) may))
  by-leads-left found read run mended repair last (mends zone is_last) =
      subst (λ (l : Stored). KeepsContent sizes found.header l old_key new_key content
      (joined_disk old) mended (joined_disk new)) (sym is_last)
      (led-tables laws sizes handed old first old_key new_key content opens found read run mended
      repair zone.tells succeeded (joined_disk new) zone)

  by-left : (found : IsFound sector sealed opened sizes handed old) (read : Joint)
      → SyncsAndReads old read
      → (left : IsNotLedOn sector sealed opened found.header found.keys found.repair
      (joined_disk read) (joined_disk new) cause)
      → KeepsUnled sizes old_key new_key content (joined_disk old) left
  by-left found read run (unrepaired repair is) =
      failed-tables laws sizes handed old first old_key new_key content opens found (joined_disk new)
      tells read run repair
  by-left found read run (unmended mended repair zone is) =
      led-tables laws sizes handed old first old_key new_key content opens found read run mended
      repair zone.tells failed_call (joined_disk new) zone
  by-left found read run (unarmed mended repair last leads is) =
      by-leads-left found read run mended repair last leads

  by-case : (is : IsUnopened sector sealed opened sizes later handed old new cause)
      → KeepsUnopened header old_key new_key content is
  by-case (uncalled same_sizes same is) = tt
  by-case (unsynced same_sizes call is) = tt
  by-case (only_read same_sizes run) =
      tells-read sizes (StandsAtRepair sizes header old_key new_key content) (joined_disk old)
      (joined_disk new)
      (reads-stand laws sizes handed old first old_key new_key content opens header held)
      (laws.reads sizes old new opens.shows.known run)
  by-case (not_led_on found read run left) = by-left found read run left

pub unopened-keep : {C : Type 0} {sector : C → ℕ} {sealed opened : C → ℕ → List ℕ → List ℕ}
    → OpeningLaws sector sealed opened → UnopenedKeepContent sector sealed opened
unopened-keep laws sizes later handed old new cause first old_key new_key content header opens tells
    held is =
    by-case laws sizes later handed old new cause first old_key new_key content header opens tells held
    is
