-- A volume that stands for a history goes on to stand for it with each call that fits.
use Rattle.std.proofs.Common.{◌≡◌, ◌<◌, ◌≤◌, ℕ, suc, List, [], ◌∷◌, ◌++◌, IsSome, length, refl, sym}
use Rattle.std.proofs.Common.{ap}
use Rattle.std.proofs.Common.{◌∙◌, subst}
use Rattle.base_terms.specs.declared.disk_sizes.Sizes.{Sizes}
use Rattle.lane_plan.specs.Calls.{outcome_of}
use Rattle.lane_plan.specs.declared.calls.Answer.{Answer}
use Rattle.volume_laws.proofs.BesideLanes.Beside.{are_alone_beside, event_more, next_meets_beside, work_more}
use Rattle.volume_laws.specs.BesideLanes.Lanes.{AreAloneBeside, AreMade, Makes, alone_over, calls_over}
use Rattle.shared_volume.specs.Calling.{IsAnswerOf}
use Rattle.shared_volume.specs.Histories.{FitsLane, FitsWorker, IsReadSo, MayBeShared, StandsFor}
use Rattle.shared_volume.specs.Histories.{Tells, alone_by, event_by, own_calls}
use Rattle.shared_volume.specs.declared.asking.SharedEvent.{SharedEvent}
use Rattle.shared_volume.specs.declared.asking.SharedEvent.TheVariants as Events
use Rattle.shared_volume.specs.declared.asking.SharedOutcome.{SharedOutcome}
use Rattle.shared_volume.specs.declared.asking.SharedOutcome.TheVariants as Outcomes
use Rattle.shared_volume.specs.declared.asking.WorkDone.{WorkDone}
use Rattle.shared_volume.specs.declared.calling.LaneCall.{LaneCall}
use Rattle.shared_volume.proofs.Beginning.{begins-so, some-reading}
use Rattle.shared_volume.proofs.Entries.{lane-of, own-calls, tells-more}
use Rattle.volume_cell.specs.declared.history.Entry.{Entry}
use Rattle.volume_cell.specs.Histories.{calls_of, entry}
use Rattle.sector_disk.specs.JoinedDisks.Counts.{HasSizes}
use Rattle.sector_disk.specs.Devices.{Device}
use Rattle.volume_core.specs.Zones.{IsReadBy, worked_of}
use Rattle.volume_laws.proofs.CoursesKept.{course_same}
use Rattle.volume_machine.proofs.EventEffects.{event_effects}
use Rattle.volume_machine.specs.Alone as Own
use Rattle.volume_machine.specs.Alone.{MeetsAlone, alone_of, idle_lane}
use Rattle.volume_machine.specs.Deeds.{Deed, client, state_after, worker}
use Rattle.volume_machine.specs.Events.{Event, Outcome, lane_of}
use Rattle.volume_machine.specs.Readings.{Reading}
use Rattle.volume_machine.specs.Seals.{Seals}
use Rattle.volume_machine.specs.States.{IsClient, State}
use Rattle.volume_machine.specs.Steps.{Meets, Step}
use Rattle.volume_machine.specs.WorkSteps.{WorkStep}
use Rattle.volume_core.specs.WorkerLoop.Telling.{converted_in}
use Rattle.hotzone.specs.ZoneEvents.Readings.{reading_of}

-- ---- one deed more
made-more : {K : Type 0} (reading : Reading) (seals : Seals) (old now : State K)
    (deeds : List (Deed K)) (one : Deed K) → AreMade reading seals old deeds
    → state_after old deeds ≡ now → Makes reading seals now one.act one.after
    → AreMade reading seals old (deeds ++ one ∷ [])
unfolding AreMade state_after
made-more reading seals old now [] one made last makes =
    (subst (λ s. Makes reading seals s one.act one.after) (sym last) makes, tt)
made-more reading seals old now (first ∷ deeds) one (begins, made) last makes =
    (begins, made-more reading seals first.after now deeds one made last makes)

last-more : {K : Type 0} (old : State K) (deeds : List (Deed K)) (one : Deed K)
    → state_after old (deeds ++ one ∷ []) ≡ one.after
unfolding state_after
last-more old [] one = refl
last-more old (first ∷ deeds) one = last-more first.after deeds one

-- a client's event leaves how the header is read
sized-on : (sizes : Sizes) (old new : Device) → new.size ≡ old.size → new.atoms ≡ old.atoms
    → HasSizes sizes old → HasSizes sizes new
sized-on sizes old new size atoms is = record {
  atom = is.atom ∙ sym size;
  header = subst (λ n. sizes.header_atoms ≤ n) (sym atoms) is.header;
  main = subst (λ n. sizes.main_atoms ≤ n) (sym atoms) is.main;
  all = is.all ∙ sym atoms;
  alone = is.alone;
}

pub read-stays : {K : Type 0} (sizes : Sizes) (old new : State K) (event : Event)
    (outcome : Outcome) → Step old event outcome new → IsReadBy sizes old → IsReadBy sizes new
read-stays sizes old new event outcome step read =
    let goes = event_effects old new event outcome step in record {
      sizes_are = sized-on sizes old.disk new.disk goes.disk.size goes.disk.atoms read.sizes_are;
      some = read.some;
      courses = course_same goes.map goes.disk.atoms goes.work read.courses;
    }

module _ {K : Type 0} (seals : Seals) (start now : State K)
    (history : List (Entry SharedEvent SharedOutcome)) (stands : StandsFor seals start now history)
  where
    abbrev sizes : Sizes
    sizes = (some-reading start stands.shared).0

    abbrev read : IsReadSo sizes start
    read = (some-reading start stands.shared).1

    -- each lane is what its own calls tell
    pub all-alone : AreAloneBeside (reading_of sizes) start seals stands.deeds
    all-alone = are_alone_beside (reading_of sizes) start seals stands.deeds
        (begins-so start stands.shared sizes read) (stands.made sizes read) stands.met

    module _ (name : List ℕ) (asked : LaneCall)
        (fits : FitsLane seals start name (calls_of name history) asked) where
      own : lane_of (event_by asked) ≡ asked.lane
      own = lane-of asked.lane asked.call

      is_client : IsClient start (lane_of (event_by asked))
      is_client = subst (λ k. suc k < length start.lanes) (sym own) fits.client

      -- by its own calls the lane is what the deeds tell
      so : alone_by seals start (calls_of name history)
          ≡ alone_over start seals asked.lane stands.deeds
      so = ap (λ (cs : List Own.Call). alone_of start.map.atom seals idle_lane cs)
          (ap (λ (n : List ℕ). own_calls (calls_of n history)) fits.lane
          ∙ own-calls (length start.lanes) history stands.deeds asked.lane stands.tells)

      meets : MeetsAlone seals (alone_over start seals (lane_of (event_by asked)) stands.deeds)
          (event_by asked)
      meets = subst (λ k. MeetsAlone seals (alone_over start seals k stands.deeds) (event_by asked))
          (sym own) (subst (λ a. MeetsAlone seals a (event_by asked)) so fits.meets)

      -- the call meets its conditions
      pub stands-meets : Meets now (event_by asked)
      stands-meets = subst (λ s. Meets s (event_by asked)) stands.last
          (next_meets_beside (reading_of sizes) start seals stands.deeds (event_by asked)
          (begins-so start stands.shared sizes read) (stands.made sizes read) stands.met is_client
          meets)

      -- and is one more entry
      pub stands-more : (new : State K) (answer : Answer)
          → Step now (event_by asked) (outcome_of answer) new → IsAnswerOf asked.call answer
          → StandsFor seals start new (history
          ++ entry name (Events.Client asked) (Outcomes.Client answer) ∷ [])
      stands-more new answer step answers =
          let act = client (event_by asked) (outcome_of answer) in
          let one : Deed K = record { act = act; after = new } in
          let goes = event_effects now new (event_by asked) (outcome_of answer) step in
          record {
            shared = stands.shared;
            deeds = stands.deeds ++ one ∷ [];
            tells = tells-more (length start.lanes) history stands.deeds
                (entry name (Events.Client asked) (Outcomes.Client answer)) one stands.tells
                (record {
                  lane = fits.lane;
                  deed = record { client_is = fits.client; act = refl; answers = answers };
                });
            made = λ s is. made-more (reading_of s) seals start now stands.deeds one
                (stands.made s is) stands.last step;
            met = event_more start seals stands.deeds (event_by asked) (outcome_of answer) new
                stands.met is_client meets;
            last = last-more start stands.deeds one;
            armed = λ some. subst IsSome (sym goes.work) (stands.armed some);
            read = λ s is. read-stays s now new (event_by asked) (outcome_of answer) step
                (stands.read s is);
          }

    -- the keys and the size of a block stay
    pub stands-atom : now.map.atom ≡ start.map.atom
    stands-atom = ap (λ s. s.map.atom) (sym stands.last) ∙ all-alone.same.atom

    pub stands-keys : now.keys ≡ start.keys
    stands-keys = ap (λ s. s.keys) (sym stands.last) ∙ all-alone.same.keys

-- a step of the worker, by the seals of the volume as it is, is one more entry too
module _ {K : Type 0} (seals_now seals : Seals) (start now new : State K)
    (history : List (Entry SharedEvent SharedOutcome)) (name : List ℕ) (lane : ℕ)
    (stands : StandsFor seals start now history) (fits : FitsWorker start name lane)
    (same : now.map.atom ≡ start.map.atom → now.keys ≡ start.keys → seals_now ≡ seals) where
  pub stands-worked : (made : WorkDone)
      → ((sizes : Sizes) → IsReadBy sizes now
      → WorkStep (reading_of sizes) seals_now now new (worked_of made.worked))
      → ((sizes : Sizes) → IsReadBy sizes now → IsReadBy sizes new) → IsSome new.work
      → made.converted ≡ converted_in new.map
      → StandsFor seals start new
      (history ++ entry name (Events.Worker lane) (Outcomes.Worker made) ∷ [])
  stands-worked made step reads some converted =
      let one : Deed K = record { act = worker (worked_of made.worked); after = new } in
      record {
        shared = stands.shared;
        deeds = stands.deeds ++ one ∷ [];
        tells = tells-more (length start.lanes) history stands.deeds
            (entry name (Events.Worker lane) (Outcomes.Worker made)) one stands.tells
            (record {
              lane = fits.lane_is;
              deed = record { last = fits.last; act = refl; converted = converted };
            });
        made = λ s is. made-more (reading_of s) seals start now stands.deeds one
            (stands.made s is) stands.last
            (subst (λ q. WorkStep (reading_of s) q now new (worked_of made.worked))
            (same (stands-atom seals start now history stands)
            (stands-keys seals start now history stands))
            (step s (stands.read s (is fits.armed))));
        met = work_more start seals stands.deeds (worked_of made.worked) new stands.met;
        last = last-more start stands.deeds one;
        armed = λ was. some;
        read = λ s is. reads s (stands.read s is);
      }

-- a volume that threads may share stands for the empty history
pub stands-first : {K : Type 0} (seals : Seals) (start : State K) → MayBeShared start
    → StandsFor seals start start []
unfolding Tells AreMade state_after Rattle.volume_laws.specs.BesideLanes.Lanes.AreOfClients
    Rattle.volume_machine.specs.Alone.AreMet calls_over
stands-first seals start shared = record {
  shared = shared;
  deeds = [];
  tells = tt;
  made = λ sizes read. tt;
  met = record { clients = tt; met = λ lane. tt };
  last = refl;
  armed = λ some. some;
  read = λ sizes read. read;
}
