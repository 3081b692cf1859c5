-- What came of sessions, by what the server handed back.
use Rattle.std.proofs.Common.{◌≡◌, ◌≢◌, ◌∙◌, ◌<◌, ◌⊎◌, Bool, true, false, ℕ, List, [], ◌∷◌, ◌++◌, Option}
use Rattle.std.proofs.Common.{None, Some, length, slice_index_or, ap, inl, inr, refl, subst, sym}
use Rattle.std.specs.Prelude.{◌↔◌, IsSome, IsTrue}
use Rattle.aes_core.specs.declared.cipher.Aes.{Aes}
use Rattle.bays.specs.Stories.{LinkState}
use Rattle.block_server.specs.Serving.{HasServedBeside as IsServedBeside}
use Rattle.block_server.specs.declared.link.Standing.{Standing}
use Rattle.block_server.specs.declared.link.Standing.TheVariants.{Live}
use Rattle.volume_laws.specs.BesideConversions.Ends.{IsConvertedBeside, MayConvertBeside}
use Rattle.crash_laws.specs.HeaderAreas.Headers.{Header, IsReader, Layout}
use Rattle.base_terms.specs.declared.disk_sizes.Sizes.{Sizes}
use Rattle.volume_laws.specs.BesideLanes.Executing.{ExecutesBeside}
use Rattle.volume_laws.specs.BesideLanes.Lanes.{BeginsBeside, works_over}
use Rattle.volume_laws.specs.BesideLanes.Runs.{IsRunOf}
use Rattle.nbd_session.specs.declared.ending.SessionEnd.{SessionEnd}
use Rattle.reenc_tool.proofs.BesideLemmas.{DeedLaws, served_converting}
use Rattle.reenc_tool.proofs.QuietLemmas.{IsQuiet, quiet}
use Rattle.reenc_tool.proofs.ServedLemmas.{AreFound, VolumeLaws, served_of}
use Rattle.reenc_tool.specs.Beside.{HasServedConverting}
use Rattle.reenc_tool.specs.Outcomes.{Coming}
use Rattle.reenc_tool.specs.Runs.{VolumeKeys}
use Rattle.reenc_tool.specs.Sessions.{cause_of, has_spent, most_events}
use Rattle.reenc_tool.specs.Standings.{AreFaultsOfFirst, HasLive, failed_in}
use Rattle.reenc_tool.specs.Volumes.{IsLeftAlone, IsServedAs}
use Rattle.reenc_tool.specs.declared.ended.Cause.{Cause}
use Rattle.reenc_worker.specs.declared.ends.WorkerEnd.{WorkerEnd}
use Rattle.sector_cipher.specs.declared.disk.DiskCipher.{DiskCipher}
use Rattle.sector_disk.specs.Devices.{Device}
use Rattle.sector_disk.specs.Steps.{Told}
use Rattle.volume_laws.specs.BesideServing.Failing.{BreaksByFaults, FaultsRaise, GoesByDeeds}
use Rattle.volume_laws.specs.BesideServing.Replies.{DeviceErrorsAreExact, PlacesAreExact, ServesWithoutFaults}
use Rattle.volume_laws.specs.BesideServing.Stops.{DeedsStopAnywhere}
use Rattle.volume_laws.specs.BesideServing.Tables.{TellsDeeds}
use Rattle.recovery_laws.specs.Served.Clients.{without_work}
use Rattle.recovery_laws.specs.Served.Serving.{ClientsLeaveWork}
use Rattle.shared_volume.specs.Ciphers.{Context}
use Rattle.shared_volume.specs.Histories.{IsReadSo, MayBeShared}
use Rattle.shared_volume.specs.Lanes.{Knowing}
use Rattle.volume_core.specs.Zones.{IsReadBy}
use Rattle.volume_laws.specs.Converting.{IsInOrder, ServesBeside}
use Rattle.volume_machine.specs.Answers.{AreExchanges, Tagged, untagged}
use Rattle.volume_machine.specs.Beginnings.{IsFresh}
use Rattle.volume_machine.specs.Deeds.{AreDeeds, Deed, answered_over, state_after}
use Rattle.volume_machine.specs.Readings.{Reading}
use Rattle.volume_machine.specs.Runs.{Happening, no_plain}
use Rattle.volume_machine.specs.Seals.{AreLawful, Seals}
use Rattle.volume_machine.specs.Sound.{IsSound}
use Rattle.volume_machine.specs.States.{State}
use Rattle.volume_machine.specs.WorkSteps.{Worked, finished}
use Rattle.volume_machine.specs.Works.{Work}
use Rattle.hotzone.specs.ZoneEvents.Readings.{reading_of}

-- the laws that this stands on
pub record ServingLaws : Type 0 where
  pub leaves : ClientsLeaveWork (DiskCipher Aes)
  pub quiets : (seals : Seals) (start : State VolumeKeys) (deeds : List (Deed VolumeKeys))
      → works_over deeds ≡ [] → (run : List (Happening VolumeKeys)) × IsRunOf start seals deeds run
  pub runs : (start : State VolumeKeys) (seals : Seals) (run : List (Happening VolumeKeys))
      → VolumeLaws start seals run
  pub answers : (reading : Reading) (seals : Seals) (old new : State VolumeKeys)
      (deeds : List (Deed VolumeKeys)) (history : List Tagged)
      → ExecutesBeside reading seals old new deeds history
      → AreExchanges (answered_over seals old no_plain deeds) (untagged history)
  pub reader : (sizes : Sizes) → IsReader (reading_of sizes).reader
  pub serves : (reading : Reading) (start : State VolumeKeys) (seals : Seals)
      → ServesBeside reading start seals
  pub goes : (reading : Reading) (seals : Seals) (start : State VolumeKeys)
      (deeds : List (Deed VolumeKeys)) → BeginsBeside reading start
      → AreDeeds reading seals start deeds → GoesByDeeds start deeds
  pub replies : (reading : Reading) (seals : Seals) (start : State VolumeKeys)
      (earlier later : List (Deed VolumeKeys)) (one : Deed VolumeKeys) → BeginsBeside reading start
      → AreDeeds reading seals start (earlier ++ one ∷ later)
      → DeviceErrorsAreExact seals start earlier one
  pub places : (reading : Reading) (seals : Seals) (start : State VolumeKeys)
      (earlier later : List (Deed VolumeKeys)) (one : Deed VolumeKeys) → BeginsBeside reading start
      → AreLawful start.map.atom seals → AreDeeds reading seals start (earlier ++ one ∷ later)
      → PlacesAreExact seals start earlier one
  pub stops : (reading : Reading) (start : State VolumeKeys) (seals : Seals)
      → DeedsStopAnywhere reading start seals
  pub tables : (reading : Reading) (seals : Seals) (start : State VolumeKeys)
      (deeds : List (Deed VolumeKeys)) (now : Told) → AreDeeds reading seals start deeds
      → (state_after start deeds).disk.told ≡ Some now → TellsDeeds start deeds now
  pub faultless : (reading : Reading) (seals : Seals) (start : State VolumeKeys)
      (deeds : List (Deed VolumeKeys)) → BeginsBeside reading start
      → AreLawful start.map.atom seals → AreDeeds reading seals start deeds
      → ServesWithoutFaults start seals deeds
  pub breaks : (reading : Reading) (seals : Seals) (start : State VolumeKeys)
      (deeds : List (Deed VolumeKeys)) → AreDeeds reading seals start deeds
      → BreaksByFaults start deeds
  pub raised : (reading : Reading) (seals : Seals) (start : State VolumeKeys)
      (deeds : List (Deed VolumeKeys)) → AreDeeds reading seals start deeds
      → FaultsRaise start deeds
  pub ends_so : (reading : Reading) (seals : Seals) (layout : Layout) (header : Header (List ℕ))
      (start : State VolumeKeys) (deeds : List (Deed VolumeKeys)) (earlier : List Worked)
      → MayConvertBeside reading layout header start → AreDeeds reading seals start deeds
      → works_over deeds ≡ earlier ++ finished ∷ []
      → IsConvertedBeside reading layout header start (state_after start deeds)

front-deeds : {K : Type 0} (reading : Reading) (seals : Seals) (old : State K)
    (earlier later : List (Deed K)) → AreDeeds reading seals old (earlier ++ later)
    → AreDeeds reading seals old earlier
unfolding AreDeeds
front-deeds reading seals old [] later are = tt
front-deeds reading seals old (one ∷ earlier) later (does, are) =
    (does, front-deeds reading seals one.after earlier later are)

-- none was wanted, or there is none to be led on
left-alone : (converts : Bool) (work : Option Work)
    → (IsTrue converts × IsSome work → IsSome {T = WorkerEnd} None)
    → (converts ≡ false) ⊎ (work ≡ None)
left-alone false work never = inl refl
left-alone true None never = inr refl
left-alone true (Some w) never = absurd (let e = never (refl, refl) in cc)

module _ (laws : ServingLaws) {L : Type 0} (state : L → LinkState) (left : Device) (begun : List L)
    (link : L) (came : Coming L) (volume final : State VolumeKeys) (seals : Seals)
    (standings : List Standing) (converts : Bool) (fresh : IsFresh (without_work volume))
    (sound : IsSound (without_work volume)) (shared : MayBeShared volume)
    (lawful : AreLawful volume.map.atom seals) (left_is : left ≡ final.disk) (pass : Knowing Context)
    (passed : came.pass ≡ Some pass) where
  abbrev Served : Option WorkerEnd → Type 0
  Served worker = IsServedBeside state seals volume final pass most_events begun came.links
      came.ends standings worker

  -- some sizes by which the header is read, where there is one
  some-sizes : (work : Option Work) → volume.work ≡ work → (sizes : Sizes) × IsReadSo sizes volume
  some-sizes None is = (
    record { atom = 0; header_atoms = 0; main_atoms = 0; detached = false },
    λ some. absurd (let e : IsSome {T = Work} None = subst IsSome is some in cc),
  )
  some-sizes (Some work) is =
      let (sizes, read, order) = shared.order (subst IsSome (sym is) refl) in
      (sizes, λ some. read)

  alone : (s : Served None) → AreFound state final None begun came standings
      → IsLeftAlone converts volume → IsServedAs state converts volume seals left begun came
  alone s found off =
      let (sizes, read) = some-sizes volume.work refl in
      let (run, is) = laws.quiets seals volume s.deeds s.worked in
      let q : IsQuiet seals volume final s.deeds s.operations =
      quiet (reading_of sizes) seals volume final s.deeds s.operations run is (s.did sizes read) in
      inl (
        off,
        served_of state left begun link came volume seals final standings None pass s laws.leaves q
            found passed (laws.runs (without_work volume) seals _) sound fresh lawful left_is,
      )

  -- the conversion is led on
  module _ (end : WorkerEnd) (s : Served (Some end))
      (found : AreFound state final (Some end) begun came standings) (sizes : Sizes)
      (read : IsReadBy sizes volume) (order : IsInOrder (reading_of sizes) volume) where
    did : ExecutesBeside (reading_of sizes) seals volume final s.deeds s.operations
    did = s.did sizes (λ some. read)

    begins : BeginsBeside (reading_of sizes) volume
    begins = record {
      kept = record { sound = shared.sound; order = λ some. order };
      idle = shared.idle;
    }

    abbrev AreSo : List (Deed VolumeKeys) → Type 0
    AreSo deeds = AreDeeds (reading_of sizes) seals volume deeds

    deed-laws : DeedLaws (reading_of sizes) volume seals s.deeds
    deed-laws = record {
      are = did.are;
      reader = laws.reader sizes;
      hash = refl;
      serves = laws.serves (reading_of sizes) volume seals;
      goes = λ earlier later parts. laws.goes (reading_of sizes) seals volume earlier begins
          (front-deeds (reading_of sizes) seals volume earlier later (subst AreSo parts did.are));
      errors = λ earlier later one parts. (
        laws.replies (reading_of sizes) seals volume earlier later one begins
            (subst AreSo parts did.are),
        laws.places (reading_of sizes) seals volume earlier later one begins lawful
            (subst AreSo parts did.are),
      );
      stops = laws.stops (reading_of sizes) volume seals;
      tables = λ now told. laws.tables (reading_of sizes) seals volume s.deeds now did.are told;
      faultless = laws.faultless (reading_of sizes) seals volume s.deeds begins lawful did.are;
      breaks = laws.breaks (reading_of sizes) seals volume s.deeds did.are;
      raised = laws.raised (reading_of sizes) seals volume s.deeds did.are;
      ends_so = λ layout header earlier may works. laws.ends_so (reading_of sizes) seals layout header
          volume s.deeds earlier may did.are works;
    }

    led-on : HasServedConverting state sizes volume seals left begun came
    led-on =
        served_converting state left begun link came volume seals final standings end pass s passed
        found sizes did (laws.answers (reading_of sizes) seals volume final s.deeds s.operations did) deed-laws
        fresh.unbroken lawful left_is

  pub served-as : (worker : Option WorkerEnd)
      → (IsSome worker ↔ (IsTrue converts × IsSome volume.work)) → Served worker
      → AreFound state final worker begun came standings
      → IsServedAs state converts volume seals left begun came
  served-as None led s found = alone s found (left-alone converts volume.work led.1)
  served-as (Some end) led s found =
      let wanted = led.0 refl in
      inr (wanted.0, wanted.1, λ sizes read order. led-on end s found sizes read order)

-- what was found, of what was made of what the server handed back
pub found-of : {L : Type 0} (state : L → LinkState) (final : State VolumeKeys)
    (worker : Option WorkerEnd) (begun links : List L) (came : Coming L) (standings : List Standing)
    (lists : List (List SessionEnd)) (left : Device) (faults : ℕ) (pass : Option (Knowing Context))
    → AreFaultsOfFirst state links standings faults
    → came ≡ record {
      cause = cause_of final.broken left.faults worker (has_spent lists) (failed_in standings) faults
          came.memory;
      memory = came.memory;
      pass = pass;
      links = links;
      ends = lists;
    } → left ≡ final.disk → length standings ≡ length begun
    → (came.memory ≡ true → HasLive (length standings) standings)
    → (came.memory ≡ false → (k : ℕ) → k < length standings → slice_index_or standings k Live ≢ Live)
    → AreFound state final worker begun came standings
found-of {L} state final worker begun links came standings lists left faults pass faults_are is
    left_is count short to_the_end =
    let same-links : came.links ≡ links = ap (λ (k : Coming L). k.links) is in
    let same-ends : came.ends ≡ lists = ap (λ (k : Coming L). k.ends) is in
    record {
      faults = faults;
      faults_are = subst (λ (l : List L). AreFaultsOfFirst state l standings faults) (sym same-links)
          faults_are;
      to_the_end = subst (λ (n : ℕ). came.memory ≡ false → (k : ℕ) → k < n
          → slice_index_or standings k Live ≢ Live) count to_the_end;
      short = subst (λ (n : ℕ). came.memory ≡ true → HasLive n standings) count short;
      cause_is = ap (λ (k : Coming L). k.cause) is
          ∙ ap (λ n. cause_of final.broken n worker (has_spent lists) (failed_in standings) faults
          came.memory) (ap (λ (d : Device). d.faults) left_is)
          ∙ ap (λ l. cause_of final.broken final.disk.faults worker (has_spent l) (failed_in standings)
          faults came.memory) (sym same-ends);
    }

-- what is told is the same where its cause is
pub came-same : {L : Type 0} (one other : Cause) (memory : Bool) (pass : Option (Knowing Context))
    (links : List L) (lists : List (List SessionEnd)) → one ≡ other
    → ◌≡◌ {A = Coming L}
    (record { cause = one; memory = memory; pass = pass; links = links; ends = lists })
    (record { cause = other; memory = memory; pass = pass; links = links; ends = lists })
came-same {L} one other memory pass links lists =
    ap (λ (cause : Cause).
    record { cause = cause; memory = memory; pass = pass; links = links; ends = lists })

pub cause-same : (broken broken' : Bool) (count count' : ℕ) (worker : Option WorkerEnd)
    (spent spent' : Bool) (failed failed' faults : ℕ) (memory : Bool) → broken ≡ broken'
    → count ≡ count' → spent ≡ spent' → failed ≡ failed'
    → cause_of broken count worker spent failed faults memory
    ≡ cause_of broken' count' worker spent' failed' faults memory
cause-same broken broken' count count' worker spent spent' failed failed' faults memory b n s f =
    ap (λ x. cause_of x count worker spent failed faults memory) b
    ∙ ap (λ x. cause_of broken' x worker spent failed faults memory) n
    ∙ ap (λ x. cause_of broken' count' worker x failed faults memory) s
    ∙ ap (λ x. cause_of broken' count' worker spent' x faults memory) f
