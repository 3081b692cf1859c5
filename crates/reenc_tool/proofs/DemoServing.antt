-- For which causes `serve` of a demonstration may end.
use Rattle.std.proofs.Common.{◌≡◌, ◌∙◌, ◌+◌, ◌-◌, ◌^◌, ◌<◌, ◌≤◌, Bool, true, false, ℕ, min, List, []}
use Rattle.std.proofs.Common.{Option, None, Some, Ok, inl, inr, ⊎_elim, ap, arith, refl, subst, sym}
use Rattle.base_terms.specs.declared.disk_sizes.Sizes.{Sizes}
use Rattle.bays.specs.Memory.{Line}
use Rattle.bays.specs.Stories.{Script}
use Rattle.crash_laws.specs.HeaderAreas.Headers.{Header}
use Rattle.demo_clients.specs.ClientLinks.{client_state}
use Rattle.demo_clients.specs.DemoBays.{Supplies}
use Rattle.demo_clients.specs.DemoBays.{demo_holdings, demo_name, demo_passphrase, ram_device}
use Rattle.header_report.specs.Examinations.{sizes_alone}
use Rattle.hotzone.specs.ZoneEvents.Readings.{reading_of}
use Rattle.luks_rules.specs.Shapes.{progress_of}
use Rattle.luks_rules.specs.declared.shape.Progress.{Progress}
use Rattle.luks_slots.specs.declared.fault.SlotFault.{SlotFault}
use Rattle.luks_slots.specs.declared.fault.SlotFault.TheVariants as slots
use Rattle.luks_store.specs.Devices.{front_of}
use Rattle.luks_store.specs.Loads.{stored_in}
use Rattle.luks_store.specs.declared.fault.StoreFault.{StoreFault}
use Rattle.luks_store.specs.declared.fault.StoreFault.TheVariants as faults
use Rattle.luks_store.specs.declared.loaded.Stored.{Stored}
use Rattle.memory_disks.specs.declared.ram_disk.RamDisk.{RamDisk}
use Rattle.recovery_laws.specs.Resumed.Starts.{volume_seals}
use Rattle.reenc_recovery.specs.Images.{StandsFor}
use Rattle.reenc_recovery.specs.declared.fault.OpenCause.{OpenCause}
use Rattle.reenc_recovery.specs.declared.fault.OpenCause.TheVariants as openings
use Rattle.reenc_worker.specs.declared.ends.NoFit.{NoFit as Unfit}
use Rattle.reenc_worker.specs.declared.ends.NoFit.TheVariants as unfits
use Rattle.reenc_worker.specs.declared.ends.WorkAnswer.TheVariants.{Ended}
use Rattle.reenc_worker.specs.declared.ends.WorkerEnd.{WorkerEnd}
use Rattle.reenc_worker.specs.declared.ends.WorkerEnd.TheVariants as ends
use Rattle.resume_disk.specs.Complete.{WantsBefore, WantsForHeader, WantsForOpening, WantsForSlots}
use Rattle.resume_disk.specs.Complete.{WantsMemory}
use Rattle.resume_disk.specs.Refusals.{IsRefusedBy}
use Rattle.resume_disk.specs.Standing.{ConvertsIn}
use Rattle.resume_disk.specs.declared.midway.fault.ConversionCause.{ConversionCause}
use Rattle.resume_disk.specs.declared.midway.fault.ConversionCause.TheVariants as conversions
use Rattle.resume_disk.specs.declared.refusal.Refusal.{Refusal as ResumeRefusal}
use Rattle.resume_disk.specs.declared.refusal.Refusal.TheVariants as resumes
use Rattle.sector_disk.specs.Devices.{Device as DiskState}
use Rattle.sector_disk.specs.JoinedDisks.Joined.{Joint, in_front, joined_disk}
use Rattle.volume_laws.proofs.BesideServing.Failures.{deeds_later}
use Rattle.volume_laws.specs.WorkerRuns.Conversions.{IsFaultless}
use Rattle.volume_laws.specs.WorkerRuns.Steps.{told_by}
use Rattle.volume_machine.specs.Readings.{Reading}
use Rattle.volume_machine.specs.Seals.{Seals}
use Rattle.volume_machine.specs.States.{State}
use Rattle.volume_machine.specs.WorkSteps.{Hindrance, IsNoClash, Lacks, WorkStep, Worked, clashes}
use Rattle.volume_machine.specs.WorkSteps.{hindered, is_hindered, is_unfinished, no_memory, no_number}
use Rattle.volume_machine.specs.WorkSteps.{no_room}
use Rattle.volume_opening.specs.Refusals.{AreOf, IsUnopenedBy}
use Rattle.volume_opening.specs.declared.refusal.Refusal.{Refusal}
use Rattle.volume_opening.specs.declared.refusal.Refusal.TheVariants as refusals
use Rattle.reenc_tool.specs.Beside.{HasServedConverting}
use Rattle.reenc_tool.specs.Demonstrating.{MayEndBy, demo_serving, demo_view}
use Rattle.reenc_tool.specs.Asking.{manner_of}
use Rattle.reenc_tool.specs.Outcomes.{Coming, Outcome}
use Rattle.reenc_tool.specs.Runs.{StoodStill, VolumeKeys}
use Rattle.reenc_tool.specs.Servicing.{ServesUnder, Serviced}
use Rattle.reenc_tool.specs.Sessions.{cause_by, cause_of, cause_of_links, has_spent}
use Rattle.reenc_tool.specs.Standings.{failed_in}
use Rattle.reenc_tool.specs.Status.{cause_of_conversion, cause_of_refusal, cause_of_resume}
use Rattle.reenc_tool.specs.Status.{cause_of_slots, cause_of_store, cause_of_unfit, cause_of_volume}
use Rattle.reenc_tool.specs.TakenUp.{HasNoConversion, HasTakenUp}
use Rattle.reenc_tool.specs.declared.ended.Failing.TheVariants.{Keying, Listening}
use Rattle.reenc_tool.proofs.DemoCauses.{disk_given, header_ends, heads_stood, key_ends, links_end}
use Rattle.reenc_tool.proofs.DemoCauses.{may_end, none_rose, not_untried, tried, unread}
use Rattle.reenc_tool.proofs.DemoHeaders.{front_whole, no_tail, same_header}
use Rattle.reenc_tool.proofs.DemoServed.{opened_so, shut, unopened}
use Rattle.reenc_tool.proofs.DemoVolumes.{Begins, HandsBegun, same_pass}
use Rattle.reenc_tool.proofs.PlayedLemmas.{no_link_failed}
use Rattle.reenc_tool.proofs.ServedLemmas.{not-true}

-- ---- the conversion that is under way
converts : (blocks : ℕ) (disk : RamDisk) → Begins disk blocks
    → ConvertsIn (sizes_alone (ram_device disk)) disk.bytes.items
converts blocks disk begins stored held =
    let its = shut blocks disk begins in
    let under = begins.stands.stands.stands in
    let same = same_header (sizes_alone (ram_device disk))
    (front_of (sizes_alone (ram_device disk)) disk.bytes.items) under.stored stored under.header held
    in
    let known = subst (λ (s : Stored).
    progress_of s.valid.meta (sizes_alone (ram_device disk)) ≡ Some its.now) same its.known in
    (its.now, known, begins.saves stored its.now held known)

-- no zone of it is open
no_zone : (blocks : ℕ) (disk : RamDisk) → Begins disk blocks → (stored : Stored) (now : Progress)
    → stored_in (sizes_alone (ram_device disk)) disk.bytes.items ≡ Ok stored
    → progress_of stored.valid.meta (sizes_alone (ram_device disk)) ≡ Some now → 0 < now.plan.zone → ⊥
no_zone blocks disk begins stored now held known some =
    let its = shut blocks disk begins in
    let under = begins.stands.stands.stands in
    let there : stored_in (sizes_alone (ram_device disk)) disk.bytes.items ≡ Ok under.stored =
    subst (λ (b : List ℕ). stored_in (sizes_alone (ram_device disk)) b ≡ Ok under.stored)
    (front_whole disk) under.header in
    let same = same_header (sizes_alone (ram_device disk)) disk.bytes.items under.stored stored there
    held in
    let here : progress_of stored.valid.meta (sizes_alone (ram_device disk)) ≡ Some its.now =
    subst (λ (s : Stored). progress_of s.valid.meta (sizes_alone (ram_device disk)) ≡ Some its.now)
    same its.known in
    let one : its.now ≡ now = (let e : Some its.now ≡ Some now = sym here ∙ known in cc) in
    let closed : now.plan.zone ≡ 0 = subst (λ (p : Progress). p.plan.zone ≡ 0) one its.closed in
    omega (arith, closed, some)

-- ---- it isn't opened as a volume at rest
module _ (blocks : ℕ) (disk back : RamDisk) (begins : Begins disk blocks) (pass : List ℕ)
    (pass_is : pass ≡ demo_passphrase) (header : Option RamDisk) where
  -- for another reason than that
  unopened_ends : (refusal : Refusal) → (refusal ≡ refusals.InProgress → ⊥)
      → IsUnopenedBy ram_device disk pass refusal header back
      → MayEndBy (cause_of_refusal refusal (ram_device back).faults)
  unopened_ends (refusals.Header fault) other by =
      let under = begins.stands.stands.stands in
      header_ends (ram_device disk) (ram_device back) fault (ram_device back).faults refl
      (unread (ram_device disk) disk.bytes.items fault under.stored refl
      (subst (λ (b : List ℕ). stored_in (sizes_alone (ram_device disk)) b ≡ Ok under.stored)
      (front_whole disk) under.header) by.2)
      by.3
  unopened_ends refusals.InProgress other by = absurd (other refl)
  unopened_ends (refusals.Passphrase len) other by =
      absurd (not_untried pass pass_is by.1.none.1)
  unopened_ends (refusals.Slots fault) other by =
      absurd (unopened blocks disk begins by.1.stored by.1.none.idle
      (by.1.found.held disk.bytes.items refl) by.1.none.is)
  unopened_ends (refusals.Opening cause) other by =
      let under = by.2.under in
      absurd (unopened blocks disk begins by.2.stored under.key_found.idle
      (under.found.held disk.bytes.items refl) under.key_found.is)

-- ---- its conversion isn't taken up
module _ (blocks : ℕ) (disk : RamDisk) (begins : Begins disk blocks) (pass : List ℕ)
    (pass_is : pass ≡ demo_passphrase) (between new : Supplies) (outcome : Outcome RamDisk Line)
    (none : HasNoConversion ram_device pass disk between new outcome) where
  wants_alone : WantsBefore none.refusal
  wants_alone =
      none.complete disk.bytes.items begins.stands.content refl (tried pass pass_is)
      (inl (subst (λ (p : List ℕ). StandsFor (sizes_alone (ram_device disk)) p disk.bytes.items
      begins.stands.content) (sym pass_is) begins.stands.stands))
      (converts blocks disk begins)
      (refl, (let e : 0 < 2 ^ 64 - 1 = omega arith in e), heads_stood none.header)

header_wants : (fault : StoreFault) (count : ℕ) → WantsForHeader fault
    → MayEndBy (cause_of_store fault count)
header_wants faults.Memory count wants = tt
header_wants faults.Device count wants = absurd wants
header_wants (faults.NoHeader primary secondary) count wants = absurd wants
header_wants (faults.CopiesDiffer seqid place) count wants = absurd wants
header_wants (faults.Json fault) count wants = absurd wants
header_wants (faults.Rule fault) count wants = absurd wants

slots_want : (fault : SlotFault) (count : ℕ) → WantsForSlots fault
    → MayEndBy (cause_of_slots fault count)
slots_want slots.Memory count wants = tt
slots_want slots.Device count wants = absurd wants
slots_want (slots.NoKey list) count wants = absurd wants
slots_want (slots.NoRoom wanted gap) count wants = absurd wants

memory_wants : (cause : OpenCause) (count : ℕ) → WantsMemory cause
    → MayEndBy (cause_of_volume cause count)
memory_wants openings.Memory count wants = tt
memory_wants openings.Device count wants = absurd wants
memory_wants (openings.NoHeader primary secondary) count wants = absurd wants
memory_wants (openings.CopiesDiffer seqid place) count wants = absurd wants
memory_wants (openings.Json fault) count wants = absurd wants
memory_wants (openings.Rule fault) count wants = absurd wants
memory_wants openings.InProgress count wants = absurd wants
memory_wants (openings.KeyDiffers computed stored) count wants = absurd wants

module _ (blocks : ℕ) (disk back : RamDisk) (begins : Begins disk blocks) (pass : List ℕ)
    (header : Option RamDisk) {C : Type 0} (sector : C → ℕ)
    (sealed opened : C → ℕ → List ℕ → List ℕ) where
  conversion_ends : (cause : ConversionCause)
      → IsRefusedBy sector sealed opened ram_device disk pass (resumes.Unopened cause) header back
      → WantsForOpening cause → MayEndBy (cause_of_conversion cause (ram_device back).faults)
  conversion_ends (conversions.Opening cause) by wants =
      memory_wants cause (ram_device back).faults wants
  conversion_ends conversions.Idle by wants = absurd wants
  conversion_ends conversions.NotBuilt by wants = absurd wants
  conversion_ends (conversions.SeqEnd left wanted) by wants =
      let why = by.2.refused disk.bytes.items refl in
      absurd (no_zone blocks disk begins why.0 why.2.0 why.1 why.2.1.known why.2.2)
  conversion_ends (conversions.JsonFull long limit) by wants =
      let why = by.2.refused disk.bytes.items refl in
      absurd (no_zone blocks disk begins why.0 why.2.0 why.1 why.2.1.known why.2.2)

  refused_ends : (refusal : ResumeRefusal)
      → IsRefusedBy sector sealed opened ram_device disk pass refusal header back
      → WantsBefore refusal → MayEndBy (cause_of_resume refusal (ram_device back).faults)
  refused_ends (resumes.Header fault) by wants =
      header_wants fault (ram_device back).faults wants
  refused_ends resumes.Idle by wants = absurd wants
  refused_ends (resumes.Passphrase len) by wants = absurd wants
  refused_ends (resumes.Slots side fault) by wants =
      slots_want fault (ram_device back).faults wants
  refused_ends (resumes.Tail bytes) by wants =
      absurd (no_tail by.1.stored.valid.meta.segments 0 refl by.1.has)
  refused_ends (resumes.Unopened cause) by wants = conversion_ends cause by wants

-- ---- it is led on
-- what a step lacks that ends the worker
lacking : (reading : Reading) (header : Header (List ℕ)) (count : ℕ) (cause : Hindrance)
    (what : Unfit) → told_by (hindered cause) ≡ Ended (ends.NoFit what)
    → (IsNoClash cause → Lacks reading header count cause) → MayEndBy (cause_of_unfit what)
lacking reading header count (clashes block digest) what told lacks = absurd (cc)
lacking reading header count (no_number left needed) what told lacks =
    let e : unfits.SeqEnd left needed ≡ what = cc in
    subst (λ (u : Unfit). MayEndBy (cause_of_unfit u)) e (tt, (lacks tt).2)
lacking reading header count (no_room long limit) what told lacks =
    let e : unfits.JsonFull long limit ≡ what = cc in
    subst (λ (u : Unfit). MayEndBy (cause_of_unfit u)) e (tt, (lacks tt).2)
lacking reading header count no_memory what told lacks = absurd (cc)

step_lacks : {K : Type 0} {reading : Reading} {seals : Seals} {old new : State K} {worked : Worked}
    → WorkStep reading seals old new worked → (what : Unfit)
    → told_by worked ≡ Ended (ends.NoFit what) → MayEndBy (cause_of_unfit what)
step_lacks {reading = reading} (is_hindered cause it) what told =
    lacking reading it.work.zone.before 2 cause what told it.lacks
step_lacks {reading = reading} (is_unfinished cause it) what told =
    lacking reading it.header 1 cause what told (λ none. it.lacks)
step_lacks _ what told = absurd (cc)

-- of sessions over links of which none failed
links_end_so : (spent : Bool) (faults : ℕ) (memory : Bool)
    → MayEndBy (cause_of_links spent 0 faults memory)
links_end_so true faults memory =
    (tt, (let e : 2 ^ 63 - 2 < 2 ^ 63 - 1 = omega arith in e))
links_end_so false faults true = tt
links_end_so false faults false = tt

worker_ends : (end : WorkerEnd) (count : ℕ) (spent : Bool) (faults : ℕ) (memory : Bool)
    → IsFaultless end → ((what : Unfit) → end ≡ ends.NoFit what → MayEndBy (cause_of_unfit what))
    → MayEndBy (cause_by (Some end) count spent 0 faults memory)
worker_ends ends.Finished count spent faults memory faultless unfit =
    links_end_so spent faults memory
worker_ends ends.Device count spent faults memory faultless unfit = absurd faultless
worker_ends (ends.Clash block digest) count spent faults memory faultless unfit = tt
worker_ends (ends.NoFit what) count spent faults memory faultless unfit = unfit what refl
worker_ends ends.Broken count spent faults memory faultless unfit = absurd faultless
worker_ends ends.Spent count spent faults memory faultless unfit =
    links_end_so true faults memory
worker_ends ends.Memory count spent faults memory faultless unfit =
    links_end_so spent faults true

-- a disk that is handed back counts no fault, nor do two as one
none_joined : (head main : ℕ) → head ≡ 0 → main ≡ 0 → min (head + main) (2 ^ 64 - 1) ≡ 0
none_joined head main none nothing =
    ap (λ (n : ℕ). min (n + main) (2 ^ 64 - 1)) none
    ∙ ap (λ (n : ℕ). min (0 + n) (2 ^ 64 - 1)) nothing

head_stood : (header : Option RamDisk) (size : ℕ) → (in_front ram_device size header).faults ≡ 0
head_stood None size = refl
head_stood (Some head) size = refl

none_back : (joint : Joint) (header : Option RamDisk) (back : RamDisk)
    → AreOf ram_device joint header back → (joined_disk joint).faults ≡ 0
none_back joint header back are =
    none_joined joint.head.faults joint.main.faults
    (ap (λ (d : DiskState). d.faults) (sym are.head) ∙ head_stood header are.size)
    (ap (λ (d : DiskState). d.faults) (sym are.main))

module _ (sizes : Sizes) (volume : State VolumeKeys) (seals : Seals) (left : DiskState)
    (none_left : left.faults ≡ 0) (begun : List Line) (came : Coming Line)
    (served : HasServedConverting client_state sizes volume seals left begun came) where
  none_now : served.final.disk.faults ≡ 0
  none_now = ap (λ (d : DiskState). d.faults) (sym served.left_is) ∙ none_left

  none_before : volume.disk.faults ≡ 0
  none_before =
      let later = deeds_later (reading_of sizes) seals volume served.deeds served.did.are in
      let last : volume.disk.faults ≤ served.final.disk.faults =
      subst (λ (s : State VolumeKeys). volume.disk.faults ≤ s.disk.faults) served.did.last later in
      let now = none_now in omega (arith, last, now)

  stood : StoodStill client_state begun came.links
  stood = λ k link inside. (refl, (let e : 0 < 2 ^ 64 - 1 = omega arith in e))

  unbroken : served.final.broken ≡ false
  unbroken = not-true served.final.broken (λ is.
      none_rose volume.disk.faults served.final.disk.faults none_now (served.broke is))

  faultless : IsFaultless served.end
  faultless = (served.complete (none_now ∙ sym none_before)
      (let now = none_now in omega (arith, now)) stood).1

  no_link : (link : Line) → failed_in served.played.standings ≡ 0
  no_link link = no_link_failed client_state begun came.links came.ends served.played.standings
      served.played.played served.played.served link stood

  unfit : (what : Unfit) → served.end ≡ ends.NoFit what → MayEndBy (cause_of_unfit what)
  unfit what is =
      let by = served.ended.by (λ spent.
      (let e : ends.Spent ≡ ends.NoFit what = sym spent ∙ is in cc)) in
      step_lacks by.step what (by.by.told ∙ ap (λ (end : WorkerEnd). Ended end) is)

  pub served_ends : Line → MayEndBy came.cause
  served_ends link =
      let played = served.played in
      may_end came.cause
      (cause_by (Some served.end) served.final.disk.faults (has_spent came.ends) 0 played.faults
      came.memory)
      (played.cause_is
      ∙ ap (λ (b : Bool). cause_of b served.final.disk.faults (Some served.end)
      (has_spent came.ends) (failed_in played.standings) played.faults came.memory) unbroken
      ∙ ap (λ (n : ℕ). cause_by (Some served.end) served.final.disk.faults (has_spent came.ends) n
      played.faults came.memory) (no_link link))
      (worker_ends served.end served.final.disk.faults (has_spent came.ends) played.faults came.memory
      faultless unfit)

-- some link
some_line : Line
some_line = record {
  ahead = [];
  lent = 0;
  handed = [];
  room = 0;
  plan = record { fails = []; calls = 0; faults = 0 };
}

module _ (blocks k : ℕ) (disk : RamDisk) (begins : Begins disk blocks) (pass : List ℕ)
    (pass_is : pass ≡ demo_passphrase) (between new : Supplies) (served : Outcome RamDisk Line)
  where
    taken_ends : HasTakenUp demo_view (demo_serving k) pass
        disk between new served
        → MayEndBy served.cause
    taken_ends up = elim up.linked [
      | inl has ↦ ⊎_elim
          (λ ran. may_end served.cause ran.came.cause (ap (λ o. o.cause) ran.back.is)
          (served_ends (sizes_alone (ram_device disk)) up.volume
          (volume_seals up.sealed up.opened up.volume) ran.left
          (ap (λ (d : DiskState). d.faults) (sym ran.back.shows)
          ∙ none_back ran.back.joint ran.back.header ran.back.disk ran.back.are) has.given ran.came
          ran.served some_line))
          (λ ended. may_end served.cause _ (ap (λ o. o.cause) ended.is) tt) has.came.1
      | inr none ↦ links_end between new k k (manner_of (demo_serving k)) Listening none.fault
          (demo_holdings new).faults served.cause none.asked (ap (λ o. o.cause) none.ended.is)
    ]

    under_ends : ServesUnder demo_view (demo_serving k) pass
        disk between new served
        → MayEndBy served.cause
    under_ends (inl none) =
        may_end served.cause _ (ap (λ o. o.cause) none.outcome_is)
        (unopened_ends blocks disk none.back begins pass pass_is none.header none.refusal none.other
        none.refused)
    under_ends (inr (inl opened)) =
        absurd (opened_so blocks k disk begins pass between new served opened)
    under_ends (inr (inr (inl none))) =
        may_end served.cause _ (ap (λ o. o.cause) none.outcome_is)
        (refused_ends blocks disk none.back begins pass none.header none.sector none.sealed none.opened
        none.refusal none.refused (wants_alone blocks disk begins pass pass_is between new served none))
    under_ends (inr (inr (inr up))) = taken_ends up

pub serviced_ends : (blocks k : ℕ) (bay : Supplies) (scripts : List Script) (new : Supplies)
    (served : Outcome RamDisk Line) → HandsBegun bay scripts blocks
    → Serviced demo_view (demo_serving k) bay new served None
    → MayEndBy served.cause
serviced_ends blocks k bay scripts new served hands (none, inr unplaced) =
    absurd (disk_given bay new hands.disk unplaced.fault hands.holds.there hands.begins.atom
    unplaced.asked)
serviced_ends blocks k bay scripts new served hands (none, inl has) =
    let same = has.is.kept hands.disk hands.holds.there in
    ⊎_elim (λ key. under_ends blocks k has.given
    (subst (λ (d : RamDisk). Begins d blocks) (sym same) hands.begins) key.given
    (same_pass ((demo_holdings has.between).keyring demo_name) key.given
    (ap (λ (keys : List ℕ → Option (List ℕ)). keys demo_name) has.leaves.keys ∙ hands.holds.key)
    key.is)
    key.between new served key.came)
    (λ unkeyed. key_ends has.between new Keying unkeyed.fault (demo_holdings new).faults
    served.cause unkeyed.asked (ap (λ o. o.cause) unkeyed.ended)) has.came
