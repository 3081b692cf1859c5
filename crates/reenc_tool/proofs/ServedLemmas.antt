-- What came of sessions on a volume of which nothing is converted meanwhile.
use Rattle.std.proofs.Common.{◌≡◌, ◌≢◌, ◌∙◌, ◌<◌, ◌≤◌, Bool, true, false, ℕ, List, ◌∷◌, ◌++◌}
use Rattle.std.proofs.Common.{length, map, Option, None, Some, IsSomeAnd, option_map, slice_index_or}
use Rattle.std.proofs.Common.{ap, arith, refl, subst, sym}
use Rattle.std.proofs.lemmas.List.{length-map}
use Rattle.aes_core.specs.declared.cipher.Aes.{Aes}
use Rattle.base_terms.specs.Causes.{Rose}
use Rattle.bays.specs.Stories.{LinkState}
use Rattle.block_server.specs.Serving.{HasServedBeside as IsServedBeside, KnowsDeeds}
use Rattle.block_server.specs.declared.link.Standing.{Standing}
use Rattle.block_server.specs.declared.link.Standing.TheVariants.{Live}
use Rattle.plain_disk.specs.Plain.{Block, Exchange}
use Rattle.reenc_tool.proofs.PlayedLemmas.{no_link_failed, spent-full}
use Rattle.reenc_tool.proofs.QuietLemmas.{IsQuiet, tells-without}
use Rattle.reenc_tool.specs.Beside.{IsServedAlone}
use Rattle.reenc_tool.specs.Outcomes.{Coming}
use Rattle.reenc_tool.specs.Runs.{HasServed, KnowsRun, VolumeKeys}
use Rattle.reenc_tool.specs.Sessions.{HavePlayed, cause_of, has_spent, most_events}
use Rattle.reenc_tool.specs.Standings.{AreFaultsOfFirst, HasLive, failed_in}
use Rattle.reenc_worker.specs.declared.ends.WorkerEnd.{WorkerEnd}
use Rattle.sector_cipher.specs.declared.disk.DiskCipher.{DiskCipher}
use Rattle.sector_disk.specs.Devices.{Device}
use Rattle.sector_disk.specs.Steps.{Told}
use Rattle.recovery_laws.specs.Served.Clients.{happening_without_work, without_work}
use Rattle.recovery_laws.specs.Served.Serving.{ClientsLeaveWork}
use Rattle.shared_volume.specs.Ciphers.{Context}
use Rattle.shared_volume.specs.Histories.{Tells}
use Rattle.shared_volume.specs.Lanes.{Knowing}
use Rattle.volume_laws.specs.BesideLanes.Executing.{ExecutesBeside}
use Rattle.volume_laws.specs.BesideLanes.Lanes.{deeds_of}
use Rattle.volume_laws.specs.Executing.{BreaksByFaults, Executes, ServesWithoutFaults, StopsAlong}
use Rattle.volume_laws.specs.Executing.{TellsRun}
use Rattle.volume_laws.specs.Promises.{DeviceErrorsAreExact, GoesByEvents, PlacesAreExact}
use Rattle.volume_laws.specs.Promises.{ServesEachRun, Starts, StartsCovered, TellsSettled}
use Rattle.volume_machine.specs.Answers.{AreExchanges, Tagged, untagged}
use Rattle.volume_machine.specs.Beginnings.{IsFresh}
use Rattle.volume_machine.specs.Deeds.{Deed}
use Rattle.volume_machine.specs.Runs.{Happening, IsRun, answered_in, last_of, no_plain}
use Rattle.volume_machine.specs.Seals.{AreLawful, Seals}
use Rattle.volume_machine.specs.Sound.{IsSound}
use Rattle.volume_machine.specs.States.{State}
use Rattle.hotzone.specs.ZoneEvents.Readings.{reading_of}

-- what was found of sessions that came so, whose links stand so, beside a worker that ended so
pub record AreFound {L : Type 0} (state : L → LinkState) (final : State VolumeKeys)
    (worker : Option WorkerEnd) (begun : List L) (came : Coming L) (standings : List Standing) : Type 0
  where
    pub faults : ℕ
    pub faults_are : AreFaultsOfFirst state came.links standings faults
    pub to_the_end : came.memory ≡ false → (k : ℕ) → k < length begun
        → slice_index_or standings k Live ≢ Live
    pub short : came.memory ≡ true → HasLive (length begun) standings
    pub cause_is : came.cause ≡ cause_of final.broken final.disk.faults worker (has_spent came.ends)
        (failed_in standings) faults came.memory

-- the laws of volumes that sessions cite
pub record VolumeLaws (start : State VolumeKeys) (seals : Seals)
    (run : List (Happening VolumeKeys)) : Type 0 where
  pub served : ServesEachRun start seals
  pub answers : (final : State VolumeKeys) (operations : List Tagged) →
      Executes seals start final run operations →
      AreExchanges (answered_in seals start no_plain run) (untagged operations)
  pub events : (earlier later : List (Happening VolumeKeys)) → IsFresh start →
      IsRun start (earlier ++ later) → GoesByEvents start earlier
  pub errors : (earlier later : List (Happening VolumeKeys)) (one : Happening VolumeKeys) →
      IsSound start → IsFresh start → AreLawful start.map.atom seals →
      IsRun start (earlier ++ one ∷ later) →
      DeviceErrorsAreExact seals start earlier one × PlacesAreExact seals start earlier one
  pub stops : (blocks : List Block) (bytes : List ℕ) (exchanges : List Exchange) →
      Starts start seals blocks bytes → IsRun start run →
      AreExchanges (answered_in seals start no_plain run) exchanges →
      StopsAlong start seals blocks run exchanges
  pub tables : (now : Told) → IsRun start run → (last_of start run).disk.told ≡ Some now →
      TellsRun start run now
  pub faultless : IsSound start → IsFresh start → AreLawful start.map.atom seals → IsRun start run →
      ServesWithoutFaults start seals run
  pub breaks : IsFresh start → IsRun start run → BreaksByFaults start run
  pub covered : (blocks : List Block) (bytes : List ℕ) → Starts start seals blocks bytes →
      TellsSettled start bytes → StartsCovered start seals blocks

-- a truth value that isn't one is the other
pub not-true : (b : Bool) → (b ≡ true → ⊥) → b ≡ false
not-true true never = absurd (never refl)
not-true false never = refl

-- what came of sessions, of the parts that their deeds left
module _ {L : Type 0} (state : L → LinkState) (left : Device) (begun : List L) (link : L)
    (came : Coming L) (volume : State VolumeKeys) (seals : Seals) (final : State VolumeKeys)
    (standings : List Standing) (worker : Option WorkerEnd) (pass : Knowing Context)
    (s : IsServedBeside state seals volume final pass most_events begun came.links came.ends standings
    worker) where
  -- where the history isn't full no session found it so
  pub none-spent : length s.deeds < most_events → has_spent came.ends ≡ false
  none-spent few = not-true (has_spent came.ends) (λ spent.
      let full = spent-full state begun came.links came.ends standings s.played _
      (most_events ≤ length s.deeds) s.served link s.sessions spent in
      omega (arith, few, full))

  module _ (leaves : ClientsLeaveWork (DiskCipher Aes))
      (q : IsQuiet seals volume final s.deeds s.operations)
      (found : AreFound state final None begun came standings) (passed : came.pass ≡ Some pass) where
    abbrev run : List (Happening VolumeKeys)
    run = map happening_without_work q.run

    did : Executes seals (without_work volume) (without_work final) run s.operations
    did = leaves seals volume final q.run s.operations q.did

    as-many : length run ≡ length s.deeds
    as-many = length-map q.run happening_without_work ∙ q.count

    told : IsSomeAnd came.pass (KnowsRun (without_work volume) run)
    told = subst (λ (p : Option (Knowing Context)). IsSomeAnd p (KnowsRun (without_work volume) run))
        (sym passed) (record {
          start_is = ap (option_map (λ (v : State VolumeKeys). without_work v)) s.told.start_is;
          tells = tells-without (length volume.lanes) pass.history q.run
              (subst (λ (d : List (Deed VolumeKeys)). Tells (length volume.lanes) pass.history d)
              q.deeds_are s.told.tells);
        })

    played : HavePlayed state (without_work volume) (without_work final) (length run) None begun came
        s.operations
    played =
        subst (λ (n : ℕ). HavePlayed state (without_work volume) (without_work final) n None begun came
        s.operations) (sym as-many) (record {
          played = s.played;
          standings = standings;
          sessions = s.sessions;
          served = s.served;
          each = s.each;
          known = s.known;
          in_turn = s.in_turn;
          left = λ lane o at. (let is = s.left lane o at in
              record { full = is.full; its = is.its });
          to_the_end = found.to_the_end;
          short = found.short;
          faults = found.faults;
          faults_are = found.faults_are;
          cause_is = found.cause_is;
        })

    pub served_of : VolumeLaws (without_work volume) seals run → IsSound (without_work volume)
        → IsFresh (without_work volume) → AreLawful volume.map.atom seals → left ≡ final.disk
        → IsServedAlone state volume seals left begun came
    served_of laws sound fresh lawful left_is =
        let start = without_work volume in
        let end = without_work final in
        let answered = laws.answers end s.operations did in
        let served : HasServed state (without_work volume) seals left begun came = record {
          final = end;
          run = run;
          told = told;
          operations = s.operations;
          did = did;
          left_is = left_is;
          lawful = lawful;
          played = played;
          history = λ blocks bytes starts.
              (let one = laws.served blocks bytes run (untagged s.operations) starts did.is
              answered in (one.left, one.legal));
          covered = laws.covered;
          stops = λ blocks bytes starts covered. record {
            allowed = laws.stops blocks bytes (untagged s.operations) starts did.is answered;
            tables = λ now told. laws.tables now did.is told;
          };
          broke = subst (λ (v : State VolumeKeys).
              v.broken ≡ true → Rose start.disk.faults v.disk.faults) did.last
              (laws.breaks fresh did.is);
          errors = λ earlier later one is.
              laws.errors earlier later one sound fresh lawful
              (subst (λ r. IsRun start r) is did.is);
          fails = λ earlier later is.
              laws.events earlier later fresh (subst (λ r. IsRun start r) is did.is);
          complete = λ stood low links_stood.
              let fine = laws.faultless sound fresh lawful did.is (untagged s.operations)
              answered (ap (λ (v : State VolumeKeys). v.disk.faults) did.last ∙ stood)
              (omega (arith, stood, low)) in
              let unbroken : final.broken ≡ false =
              ap (λ (v : State VolumeKeys). v.broken) (sym did.last) ∙ fine.1 in
              let calm = no_link_failed state begun came.links came.ends standings s.played s.served
              link links_stood in (
                fine.0,
                λ few.
                    (let unspent : has_spent came.ends ≡ false =
                    none-spent (omega (arith, few, as-many)) in
                    found.cause_is
                    ∙ ap (λ b. cause_of b final.disk.faults None (has_spent came.ends)
                    (failed_in standings) found.faults came.memory) unbroken
                    ∙ ap (λ b. cause_of false final.disk.faults None b (failed_in standings)
                    found.faults came.memory) unspent
                    ∙ ap (λ f. cause_of false final.disk.faults None false f found.faults
                    came.memory) calm),
              );
        } in (
          served,
          λ sizes read. record {
            run = q.run;
            run_is = refl;
            final = final;
            final_is = refl;
            did = subst (λ (d : List (Deed VolumeKeys)). ExecutesBeside (reading_of sizes) seals volume
                final d s.operations) q.deeds_are (s.did sizes read);
            told = subst (λ (p : Option (Knowing Context)). IsSomeAnd p
                (λ (pass : Knowing Context). KnowsDeeds volume pass (deeds_of q.run))) (sym passed)
                (subst (λ (d : List (Deed VolumeKeys)). KnowsDeeds volume pass d) q.deeds_are s.told);
          },
        )
