-- A command of its parts.
use Rattle.std.proofs.Common.{◌≡◌, ◌⊎◌, ℕ, ◌+◌, ◌*◌, ◌<◌, ◌≤◌, ⊎_elim, le_trans, Bool}
use Rattle.std.proofs.Common.{inl, inr, zero, suc, List, [], length, slice_index_or, replicate}
use Rattle.std.proofs.Common.{Option, None, Some, ap, ◌∙◌, sym, subst, arith, suc-mul}
use Rattle.std.specs.Prelude.{IsSome}
use Rattle.base_terms.specs.Blocks.{lengths}
use Rattle.bays.specs.Bays.{AreBounded, IsShare}
use Rattle.bays.specs.Stories.{LinkState}
use Rattle.bays.specs.declared.bay.BayFault.{BayFault}
use Rattle.nbd_session.specs.declared.ending.SessionEnd.{SessionEnd}
use Rattle.cipher_laws.specs.Bytes.{AreBytes}
use Rattle.sector_disk.specs.Cells.{AreSettled, content, currents}
use Rattle.sector_disk.specs.Steps.{Told}
use Rattle.shared_volume.specs.Ciphers.{Context}
use Rattle.shared_volume.specs.Histories.{MayBeShared}
use Rattle.shared_volume.specs.Lanes.{Knowing}
use Rattle.volume_machine.specs.Beginnings.{ChangeNothing, IsFresh, IsWholeDisk}
use Rattle.volume_laws.specs.Promises.{TellsSettled}
use Rattle.volume_machine.specs.Seals.{Seals}
use Rattle.volume_machine.specs.Sound.{IsSound, AreApart}
use Rattle.sector_disk.specs.Devices.{Device}
use Rattle.volume_machine.specs.States.{State}
use Rattle.volume_machine.specs.Works.{Work}
use Rattle.recovery_laws.specs.Served.Clients.{without_work}
use Rattle.reenc_tool.specs.declared.ended.Cause.{Cause}
use Rattle.reenc_tool.specs.declared.ended.Failing.{Failing}
use Rattle.reenc_tool.specs.Asking.{BayView, GivesLast, Wanted}
use Rattle.reenc_tool.specs.Outcomes.{Coming, Outcome, cause_of_fault, ended_with, unserved}
use Rattle.reenc_tool.specs.Plain.{IsPlainVolume}
use Rattle.reenc_tool.specs.Encrypted.{HandsBack, RanOver}
use Rattle.reenc_tool.specs.Servicing.{ServesBy}
use Rattle.reenc_tool.specs.Runs.{HasServed, VolumeKeys}
use Rattle.reenc_tool.specs.Volumes.{IsServedAs, RanAs}
use Rattle.luks_store.specs.declared.fault.StoreFault.{StoreFault}
use Rattle.volume_machine.specs.declared.keys.Keys.{Keys}
use Rattle.volume_opening.specs.Openings.{IsOpenedBy}
use Rattle.reenc_tool.specs.declared.volume_refusal.VolumeRefusal.{VolumeRefusal}
use Rattle.command_line.specs.Commands.{Serving}

-- what the disk tells of itself, as every disk does
pub record DiskTells (device : Device) : Type 0 where
  pub whole : (bytes : List ℕ) → device.values ≡ Some bytes →
      length bytes ≡ device.atoms * device.size
  pub are_bytes : (bytes : List ℕ) → device.values ≡ Some bytes → AreBytes bytes
  pub agrees : (told : Told) → device.told ≡ Some told → device.values ≡ Some (content told.now)
  pub even : (told : Told) → device.told ≡ Some told →
      lengths (currents told.now) ≡ replicate device.atoms device.size

-- the same of a plain volume's disk
pub record VolumeTells (atom : ℕ) (device : Device) : Type 0 where
  pub whole : (bytes : List ℕ) → device.values ≡ Some bytes → length bytes ≡ device.atoms * atom
  pub are_bytes : (bytes : List ℕ) → device.values ≡ Some bytes → AreBytes bytes
  pub agrees : (told : Told) → device.told ≡ Some told → device.values ≡ Some (content told.now)
  pub even : (told : Told) → device.told ≡ Some told →
      lengths (currents told.now) ≡ replicate device.atoms atom

pub tells_start : (device : Device) (seals : Seals) (start : State VolumeKeys) →
    IsPlainVolume device seals start → DiskTells device →
    VolumeTells start.map.atom start.disk
tells_start device seals start volume tells =
    subst (λ a. VolumeTells a start.disk) (sym volume.size)
    (subst (λ d. VolumeTells device.size d) (sym volume.disk)
    (record {
      whole = tells.whole;
      are_bytes = tells.are_bytes;
      agrees = tells.agrees;
      even =
          tells.even;
    }))

-- the volume of a whole disk, as it is made
pub plain_volume : (device : Device) (seals : Seals) (start : State VolumeKeys) → IsFresh start →
    IsSound start → start.map.atom ≡ device.size → start.disk ≡ device →
    IsWholeDisk device.size device.atoms start.map → AreApart start.map → ChangeNothing seals →
    IsPlainVolume device seals start
plain_volume device seals start fresh sound size disk whole apart nothing = record {
  fresh = fresh;
  sound = sound;
  size = size;
  disk = disk;
  whole = subst (λ (d : Device). IsWholeDisk start.map.atom d.atoms start.map) (sym disk)
      (subst (λ (a : ℕ). IsWholeDisk a device.atoms start.map) (sym size) whole);
  apart = apart;
  nothing = nothing;
}

-- where a plain disk told each atom for certain, it starts so
pub plain_certain : (start : State VolumeKeys) → VolumeTells start.map.atom start.disk →
    (bytes : List ℕ) (before : Told) → start.disk.values ≡ Some bytes →
    start.disk.told ≡ Some before → AreSettled before.now → TellsSettled start bytes
plain_certain start tells bytes before values was settled other is =
    let same : other ≡ before = cc in (
      subst (λ t. AreSettled t.now) (sym same) settled,
      (let agrees = tells.agrees other is in cc),
      tells.even other is,
    )

-- a link's share of the sessions is no more than these
share_few : (workers sessions k count : ℕ) → 0 < workers → IsShare workers sessions k count →
    count ≤ sessions
share_few workers sessions k zero some below = omega arith
share_few workers sessions k (suc n) some below =
    let last : k + workers * n < sessions = below n (omega arith) in
    let step : n ≤ workers * n = le_mul workers n some in omega arith
  where
    le_mul : (w n : ℕ) → 0 < w → n ≤ w * n
    le_mul zero n some = absurd (omega arith)
    le_mul (suc w) n some = omega (arith, suc-mul w n)

-- links that a bay gave for so many sessions have no more of them each
pub links_few : {L : Type 0} (state : L → LinkState) (workers sessions : ℕ) (links : List L) →
    AreBounded state workers sessions links → 0 < workers → length links ≡ workers →
    sessions ≤ 4294967295 →
    (k : ℕ) (link : L) → k < length links → (state (slice_index_or links k link)).bound ≤ 4294967295
links_few state workers sessions links bounded some count few k link inside =
    le_trans (share_few workers sessions k _ some (bounded k link (omega (arith, count)))) few

-- what is handed back where nothing was given of what was asked for
pub ended_so : {D L : Type 0} (failing : Failing) (fault : BayFault) (cause : Cause)
    (disk : Option D) (links : List L) (count faults : ℕ) (outcome : Outcome D L) →
    outcome ≡ unserved cause disk links → links ≡ [] → cause ≡ cause_of_fault failing fault count →
    count ≡ faults → outcome ≡ ended_with (cause_of_fault failing fault faults) disk None
ended_so {D} {L} failing fault cause disk links count faults outcome is none cause_is count_is =
    is ∙ ap (λ (l : List L). unserved cause disk l) none
    ∙ ap (λ (c : Cause). unserved {D = D} {L = L} c disk [])
    (cause_is ∙ ap (λ (n : ℕ). cause_of_fault failing fault n) count_is)

abbrev pub handed_back : {D L : Type 0} → Cause → Option StoreFault → Option VolumeRefusal → Bool →
    Option D → Option D → Option (Knowing Context) → Option (Knowing Context) → List L →
    List (List SessionEnd) → Outcome D L
handed_back cause fault refusal memory disk header pass demo links ends = record {
  cause = cause;
  fault = fault;
  refusal = refusal;
  memory = memory;
  disk = disk;
  header = header;
  pass = pass;
  demo = demo;
  links = links;
  ends = ends;
}

-- what is handed back is the same where each part is
pub same_outcome : {D L : Type 0} (cause : Cause) (fault fault' : Option StoreFault)
    (refusal refusal' : Option VolumeRefusal) (memory memory' : Bool)
    (disk disk' header header' : Option D) (pass pass' demo demo' : Option (Knowing Context))
    (links links' : List L) (ends ends' : List (List SessionEnd)) → fault ≡ fault' →
    refusal ≡ refusal' → memory ≡ memory' → disk ≡ disk' → header ≡ header' → pass ≡ pass' →
    demo ≡ demo' → links ≡ links' → ends ≡ ends' →
    handed_back cause fault refusal memory disk header pass demo links ends
    ≡ handed_back cause fault' refusal' memory' disk' header' pass' demo' links' ends'
same_outcome {D} {L} cause fault fault' refusal refusal' memory memory' disk disk' header header'
    pass pass' demo demo' links links' ends ends' f r m a h p d b c =
    ap (λ (w : Option StoreFault).
    handed_back cause w refusal memory disk header pass demo links ends) f
    ∙ ap (λ (w : Option VolumeRefusal).
    handed_back cause fault' w memory disk header pass demo links ends) r
    ∙ ap (λ (w : Bool). handed_back cause fault' refusal' w disk header pass demo links ends) m
    ∙ ap (λ (w : Option D).
    handed_back cause fault' refusal' memory' w header pass demo links ends) a
    ∙ ap (λ (w : Option D).
    handed_back cause fault' refusal' memory' disk' w pass demo links ends) h
    ∙ ap (λ (w : Option (Knowing Context)).
    handed_back cause fault' refusal' memory' disk' header' w demo links ends) p
    ∙ ap (λ (w : Option (Knowing Context)).
    handed_back cause fault' refusal' memory' disk' header' pass' w links ends) d
    ∙ ap (λ (l : List L).
    handed_back cause fault' refusal' memory' disk' header' pass' demo' l ends) b
    ∙ ap (λ (e : List (List SessionEnd)).
    handed_back cause fault' refusal' memory' disk' header' pass' demo' links' e) c

-- so it is where the pass alone is another
pub passed : {D L : Type 0} (outcome : Outcome D L) (pass pass' : Option (Knowing Context)) →
    pass ≡ pass' →
    ◌≡◌ {A = Outcome D L} (record outcome { pass = pass }) (record outcome { pass = pass' })
passed {D} {L} outcome pass pass' =
    ap (λ (p : Option (Knowing Context)). record outcome { pass = p })

-- disks are handed back that show this, with this that came of sessions
pub handed : {D L : Type 0} (device : D → Device) (shown shown' : Device) (came came' : Coming L)
    (outcome : Outcome D L) → shown ≡ shown' → came ≡ came' → HandsBack device shown came outcome →
    HandsBack device shown' came' outcome
handed {D} {L} device shown shown' came came' outcome shows comes back =
    subst (λ (d : Device). HandsBack device d came' outcome) shows
    (subst (λ (c : Coming L). HandsBack device shown c outcome) comes back)

-- what came of a disk, by the key file that the words name
pub by_key_file : {B D L : Type 0} (bay : BayView B D L) (serve : Serving) (disk : D)
    (between new : B) (outcome : Outcome D L) (key_file : Option (List ℕ)) →
    serve.key_file ≡ key_file → ServesBy bay serve key_file disk between new outcome →
    ServesBy bay serve serve.key_file disk between new outcome
by_key_file bay serve disk between new outcome key_file is =
    subst (λ (k : Option (List ℕ)). ServesBy bay serve k disk between new outcome) (sym is)

-- a volume that was opened by a passphrase was opened by it under another name
pub opened_under : {C : Type 0} (sector : C → ℕ) (sealed opened : C → ℕ → List ℕ → List ℕ)
    (device : Device) (pass pass' : List ℕ) (lanes : ℕ) (volume : State (Keys C)) → pass ≡ pass' →
    IsOpenedBy sector sealed opened device pass lanes volume →
    IsOpenedBy sector sealed opened device pass' lanes volume
opened_under {C} sector sealed opened device pass pass' lanes volume same =
    subst (λ (p : List ℕ). IsOpenedBy sector sealed opened device p lanes volume) same

-- ---- a volume whose conversion lies idle
-- one that converts nothing is the same without what a conversion takes
same_without_work : {K : Type 0} (start : State K) → IsFresh start → without_work start ≡ start
same_without_work start fresh =
    ap (λ (w : Option Work). record start { work = w }) (sym fresh.rests)

pub fresh_as_it_is : {K : Type 0} (start : State K) → IsFresh start → IsFresh (without_work start)
fresh_as_it_is {K} start fresh =
    subst (λ (s : State K). IsFresh s) (sym (same_without_work start fresh)) fresh

pub sound_as_it_is : {K : Type 0} (start : State K) → IsFresh start → IsSound start →
    IsSound (without_work start)
sound_as_it_is {K} start fresh sound =
    subst (λ (s : State K). IsSound s) (sym (same_without_work start fresh)) sound

no-work : {K : Type 0} (start : State K) → IsFresh start → IsSome start.work → ⊥
no-work start fresh some =
    let e : IsSome {T = Work} None = subst IsSome fresh.rests some in cc

pub shared_as_it_is : {K : Type 0} (start : State K) → IsFresh start → IsSound start →
    MayBeShared start
shared_as_it_is start fresh sound = record {
  idle = fresh.lanes;
  sound = sound;
  order = λ some. absurd (no-work start fresh some);
}

-- sessions that were served on it so were served on it as it is
pub served_as_it_is : {L : Type 0} (state : L → LinkState) (start : State VolumeKeys)
    (seals : Seals) (left : Device) (begun : List L) (came : Coming L) → IsFresh start →
    HasServed state (without_work start) seals left begun came →
    HasServed state start seals left begun came
served_as_it_is state start seals left begun came fresh served =
    subst (λ (s : State VolumeKeys). HasServed state s seals left begun came)
    (same_without_work start fresh) served

-- nothing was converted on a volume that converts nothing
pub served_alone : {L : Type 0} (state : L → LinkState) (converts : Bool) (start : State VolumeKeys)
    (seals : Seals) (left : Device) (begun : List L) (came : Coming L) → IsFresh start →
    IsServedAs state converts start seals left begun came →
    HasServed state start seals left begun came
served_alone state converts start seals left begun came fresh served =
    ⊎_elim (λ alone. served_as_it_is state start seals left begun came fresh alone.1.0)
    (λ led. absurd (no-work start fresh led.1)) served

pub ran_as_it_is : {D L : Type 0} (device : D → Device) (state : L → LinkState) (converts : Bool)
    (start : State VolumeKeys) (seals : Seals) (begun : List L) (outcome : Outcome D L) →
    IsFresh start → RanAs device state converts start seals begun outcome →
    RanOver device state start seals begun outcome
ran_as_it_is device state converts start seals begun outcome fresh ran = record {
  left = ran.left;
  came = ran.came;
  served = served_alone state converts start seals ran.left begun ran.came fresh ran.served;
  back = ran.back;
}

-- what came over links is this where it is that
pub linked_so : {B D L A : Type 0} (bay : BayView B D L) (wanted : Wanted B D A) (old new : B)
    (Ends : Cause → Type 0) (Was Is Without : A → Type 0) →
    GivesLast bay wanted old new (λ given. Was given ⊎ Without given) Ends →
    ((given : A) → Was given → Is given) →
    GivesLast bay wanted old new (λ given. Is given ⊎ Without given) Ends
linked_so bay wanted old new Ends Was Is Without (inl has) so = inl (record {
  given = has.given;
  between = has.between;
  asked = has.asked;
  is = has.is;
  stood = has.stood;
  leaves = has.leaves;
  came = (
    has.came.0,
    ⊎_elim (λ was. inl (so has.given was)) (λ without. inr without) has.came.1,
  );
})
linked_so bay wanted old new Ends Was Is Without (inr none) so = inr none
