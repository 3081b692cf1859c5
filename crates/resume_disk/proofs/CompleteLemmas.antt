-- A conversion of a disk that stands, of which no call failed, isn't at its end only where something is
-- wanting.
use Rattle.std.proofs.Common.{◌≡◌, ◌∙◌, ◌-◌, ◌^◌, ◌<◌, ◌≤◌, inl, inr, ℕ, List, Option, None, Some, IfSome}
use Rattle.std.proofs.Common.{Err, ap, arith, refl, subst, sym}
use Rattle.base_terms.specs.Causes.{Rose}
use Rattle.resume_disk.specs.OpenedMidway.Causes.{HasCauseIn}
use Rattle.resume_disk.specs.declared.midway.fault.ConversionCause.{ConversionCause}
use Rattle.resume_disk.specs.declared.midway.fault.ConversionCause.TheVariants as causes
use Rattle.header_report.specs.Examinations.{sizes_alone}
use Rattle.sector_disk.specs.JoinedDisks.Joined.{Joint, in_front, joined_disk}
use Rattle.luks_meta.specs.declared.meta.Parts.{Parts}
use Rattle.luks_rules.specs.declared.shape.Progress.{Progress}
use Rattle.luks_slots.specs.Unlocks.{IsCutShort}
use Rattle.luks_slots.specs.declared.fault.SlotFault.{SlotFault}
use Rattle.luks_slots.specs.declared.fault.SlotFault.TheVariants as slots
use Rattle.luks_store.specs.Devices.{KeepsBytes}
use Rattle.luks_store.specs.Loads.{HasCause}
use Rattle.luks_store.specs.declared.fault.StoreFault.{StoreFault}
use Rattle.luks_store.specs.declared.fault.StoreFault.TheVariants as faults
use Rattle.reenc_recovery.specs.declared.fault.OpenCause.TheVariants as openings
use Rattle.reenc_worker.specs.declared.ends.WorkerEnd.{WorkerEnd}
use Rattle.reenc_worker.specs.declared.ends.WorkerEnd.TheVariants as ends
use Rattle.resume_disk.proofs.CountLemmas.{opened_later}
use Rattle.resume_disk.specs.Complete.{NoneFailed, NoneFailedIn, Wants, WantsAtWork, WantsBefore}
use Rattle.resume_disk.specs.Complete.{WantsForHeader, WantsForOpening, WantsForSlots}
use Rattle.resume_disk.specs.Keys.{LacksKey}
use Rattle.resume_disk.specs.Refusals.{IsLockedBy, IsRefusedBy, IsUnfinishedBy, IsUnopenedUnder}
use Rattle.resume_disk.specs.Resuming.{IsHaltedBy}
use Rattle.resume_disk.specs.Standing.{CutsOpening, IsCut, IsCutBy}
use Rattle.resume_disk.specs.declared.refusal.Refusal.{Refusal}
use Rattle.resume_disk.specs.declared.refusal.Refusal.TheVariants as refusals
use Rattle.resume_disk.specs.declared.refusal.Unfinished.{Unfinished}
use Rattle.resume_disk.specs.declared.refusal.Unfinished.TheVariants as unfinished
use Rattle.sector_disk.specs.Devices.{Device}
use Rattle.segment_map.specs.declared.Side.{Side}
use Rattle.segment_map.specs.declared.Side.TheVariants.{New, Old, Zone}
use Rattle.volume_opening.specs.Openings.{alone}
use Rattle.volume_opening.specs.Refusals.{AreOf}
use Rattle.volume_opening.specs.Shorts.{IsUnread}

-- ---- counts
-- one that stands still didn't rise
not_risen : {from mid to : ℕ} → from ≤ mid → to ≡ from → from < 2 ^ 64 - 1 → Rose mid to → ⊥
not_risen low same below (inl rose) = omega (arith, low, same, rose)
not_risen low same below (inr full) = omega (arith, same, below, full)

module _ {D : Type 0} (device : D → Device) (disk back : D) (header : Option D)
    (still : NoneFailed device disk header back) where
  -- ---- what is handed back
  head_count : (o : Option D) (size : ℕ) → IfSome o (λ head. (device head).faults ≡ 0)
      → (in_front device size o).faults ≡ 0
  head_count None size none = refl
  head_count (Some head) size none = none

  back_count : (joint : Joint) → AreOf device joint header back
      → (joined_disk joint).faults ≡ (device disk).faults
  back_count joint are =
      let main : joint.main.faults ≡ (device disk).faults =
      ap (λ (d : Device). d.faults) (sym are.main) ∙ still.0 in
      let head : joint.head.faults ≡ 0 =
      ap (λ (d : Device). d.faults) (sym are.head) ∙ head_count header are.size still.2 in
      let below = still.1 in
      omega (arith, main, head, below)

  -- ---- what was handed in, once it was read
  read_count : (read : Device) → KeepsBytes (device disk) read
      → (device disk).faults ≤ (joined_disk (alone read)).faults
  read_count read kept =
      let later = kept.later in let below = still.1 in omega (arith, later, below)

  -- ---- what alone cuts it short
  for_slots : (fault : SlotFault) → IsCutShort (Err fault) → (fault ≡ slots.Device → ⊥)
      → WantsForSlots fault
  for_slots slots.Memory cut other = tt
  for_slots slots.Device cut other = absurd (other refl)
  for_slots (slots.NoKey list) cut other = absurd cut
  for_slots (slots.NoRoom wanted gap) cut other = absurd cut

  for_header : (fault : StoreFault) → IsUnread fault → (fault ≡ faults.Device → ⊥)
      → WantsForHeader fault
  for_header faults.Memory cut other = tt
  for_header faults.Device cut other = absurd (other refl)
  for_header (faults.NoHeader primary secondary) cut other = absurd cut
  for_header (faults.CopiesDiffer seqid place) cut other = absurd cut
  for_header (faults.Json fault) cut other = absurd cut
  for_header (faults.Rule fault) cut other = absurd cut

  for_opening : (cause : ConversionCause) → CutsOpening cause
      → (cause ≡ causes.Opening openings.Device → ⊥) → WantsForOpening cause
  for_opening (causes.Opening openings.Memory) cut other = tt
  for_opening (causes.Opening openings.Device) cut other = absurd (other refl)
  for_opening (causes.Opening (openings.NoHeader primary secondary)) cut other = absurd cut
  for_opening (causes.Opening (openings.CopiesDiffer seqid place)) cut other = absurd cut
  for_opening (causes.Opening (openings.Json fault)) cut other = absurd cut
  for_opening (causes.Opening (openings.Rule fault)) cut other = absurd cut
  for_opening (causes.Opening openings.InProgress) cut other = absurd cut
  for_opening (causes.Opening (openings.KeyDiffers computed stored)) cut other = absurd cut
  for_opening causes.Idle cut other = absurd cut
  for_opening causes.NotBuilt cut other = absurd cut
  for_opening (causes.SeqEnd left wanted) cut other = tt
  for_opening (causes.JsonFull len limit) cut other = tt

  -- ---- it wasn't led on: no call of these failed
  header_device : HasCause (device disk) (device back) faults.Device → ⊥
  header_device rose = not_risen (omega arith) still.0 still.1 rose

  slots_device : (m : Parts) (pass : List ℕ) (now : Progress) (read : Device) (side : Side)
      → KeepsBytes (device disk) read
      → LacksKey m pass now read (device back) side slots.Device → ⊥
  slots_device m pass now read Old kept lacks =
      not_risen kept.later still.0 still.1 lacks.answered.right
  slots_device m pass now read New kept lacks =
      let first = kept.later in
      let second = lacks.unwritten.later in
      not_risen (let e : (device disk).faults ≤ lacks.read.faults = omega (arith, first, second) in e)
      still.0 still.1 lacks.none.answered.right
  slots_device m pass now read Zone kept lacks = absurd lacks

  wants_locked : (refusal : Refusal) (pass : List ℕ)
      → IsLockedBy (device disk) pass refusal (device back) → IsCutBy refusal → WantsBefore refusal
  wants_locked (refusals.Header fault) pass (kept, says, cause) cut =
      for_header fault cut
      (λ is. header_device (subst (λ f. HasCause (device disk) (device back) f) is cause))
  wants_locked refusals.Idle pass by cut = absurd cut
  wants_locked (refusals.Passphrase count) pass by cut = absurd cut
  wants_locked (refusals.Slots side fault) pass by cut =
      for_slots fault cut
      (λ is. slots_device by.stored.valid.meta pass by.none.now by.read side by.header_read
      (subst (λ f. LacksKey by.stored.valid.meta pass by.none.now by.read (device back) side f) is
      by.none.lacks))
  wants_locked (refusals.Tail bytes) pass by cut = tt
  wants_locked (refusals.Unopened cause) pass by cut = absurd by.none

  wants_unopened : {C : Type 0} (sector : C → ℕ) (sealed opened : C → ℕ → List ℕ → List ℕ)
      (pass : List ℕ) (cause : ConversionCause) (joint : Joint) → AreOf device joint header back
      → IsUnopenedUnder sector sealed opened (device disk) pass cause joint → CutsOpening cause
      → WantsForOpening cause
  wants_unopened sector sealed opened pass cause joint are under cut =
      for_opening cause cut (λ is.
      not_risen (read_count under.read under.under.unwritten) (back_count joint are) still.1
      (subst (λ c. HasCauseIn (joined_disk (alone under.read)) (joined_disk joint) c) is
      under.cause_is))

  pub wants_refused : {C : Type 0} (sector : C → ℕ) (sealed opened : C → ℕ → List ℕ → List ℕ)
      (pass : List ℕ) (refusal : Refusal)
      → IsRefusedBy sector sealed opened device disk pass refusal header back → IsCutBy refusal
      → WantsBefore refusal
  wants_refused sector sealed opened pass (refusals.Header fault) (none, locked) cut =
      wants_locked (refusals.Header fault) pass locked cut
  wants_refused sector sealed opened pass refusals.Idle (none, locked) cut = absurd cut
  wants_refused sector sealed opened pass (refusals.Passphrase count) (none, locked) cut =
      absurd cut
  wants_refused sector sealed opened pass (refusals.Slots side fault) (none, locked) cut =
      wants_locked (refusals.Slots side fault) pass locked cut
  wants_refused sector sealed opened pass (refusals.Tail bytes) (none, locked) cut = tt
  wants_refused sector sealed opened pass (refusals.Unopened cause) (joint, are, under) cut =
      wants_unopened sector sealed opened pass cause joint are under cut

  -- ---- it was: none of the worker's failed
  by_end : {C : Type 0} (sector : C → ℕ) (sealed opened : C → ℕ → List ℕ → List ℕ)
      (pass : List ℕ) (end : WorkerEnd)
      → IsHaltedBy sector sealed opened device disk pass end header back → WantsAtWork end
  by_end sector sealed opened pass ends.Finished halted = absurd (halted.unfinished refl)
  by_end sector sealed opened pass ends.Device halted =
      let run = halted.run in
      let first = read_count run.resumed.read run.resumed.under.unwritten in
      let opening = opened_later (sizes_alone (device disk)) run.resumed.keys 1
      (alone run.resumed.read) run.volume run.resumed.calls in
      let same : halted.after.disk.faults ≡ (device disk).faults =
      ap (λ (d : Device). d.faults) (sym run.shows) ∙ back_count run.joint run.are in
      not_risen
      (let e : (device disk).faults ≤ run.volume.disk.faults = omega (arith, first, opening) in e)
      same still.1 run.led.ran.leaves.rose
  by_end sector sealed opened pass (ends.Clash block digest) halted = tt
  by_end sector sealed opened pass (ends.NoFit what) halted = tt
  by_end sector sealed opened pass ends.Broken halted = absurd (halted.unbroken refl)
  by_end sector sealed opened pass ends.Spent halted = tt
  by_end sector sealed opened pass ends.Memory halted = tt

pub unfinished_wants : {C D : Type 0} (sector : C → ℕ)
    (sealed opened : C → ℕ → List ℕ → List ℕ) (device : D → Device) (disk : D) (pass : List ℕ)
    (left : Unfinished D) → IsUnfinishedBy sector sealed opened device disk pass left → IsCut left
    → NoneFailedIn device disk left → Wants left
unfinished_wants sector sealed opened device disk pass (unfinished.Refused r) by cut still =
    wants_refused device disk r.disk r.header still sector sealed opened pass r.refusal by cut
unfinished_wants sector sealed opened device disk pass (unfinished.Halted h) by cut still =
    by_end device disk h.disk h.header still sector sealed opened pass h.end by
