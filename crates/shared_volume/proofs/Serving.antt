-- The lanes of a volume that threads shared, and its worker, by the accounts of all calls on it.
use Rattle.std.proofs.Common.{◌≡◌, ◌≤◌, ℕ, suc, List, None, [], ◌∷◌, arith, inl, inr, length}
use Rattle.std.proofs.Common.{sym, ap, ◌∙◌, subst, refl}
use Rattle.std.proofs.lemmas.Bool.{cases_lt}
use Rattle.volume_laws.proofs.BesideLanes.Beside.{are_alone_beside, no_calls}
use Rattle.volume_laws.proofs.BesideLanes.RunsOf.{runs-of}
use Rattle.volume_laws.specs.BesideLanes.Lanes.{AreOfClients, IsKept, answered_on, calls_over, deeds_of}
use Rattle.shared_volume.specs.Histories.{StandsFor, Tells, own_calls}
use Rattle.shared_volume.specs.Serving.{HasServedBeside, HasServedLanes, calls_on, works_in}
use Rattle.shared_volume.specs.declared.asking.SharedEvent.{SharedEvent}
use Rattle.shared_volume.specs.declared.asking.SharedOutcome.{SharedOutcome}
use Rattle.shared_volume.proofs.Beginning.{begins-so, some-reading}
use Rattle.shared_volume.proofs.Entries.{own-calls, works-of}
use Rattle.shared_volume.proofs.Standing.{all-alone}
use Rattle.volume_cell.specs.Passes.{IsAccounted}
use Rattle.volume_cell.specs.declared.history.Call.{Call}
use Rattle.volume_cell.specs.declared.knowledge.Knowledge.{Knowledge}
use Rattle.volume_machine.specs.Alone as Own
use Rattle.volume_machine.specs.Alone.{alone_of, answers_of, idle_lane}
use Rattle.volume_machine.specs.Answers.{Answered, AreTagged}
use Rattle.volume_machine.proofs.EventEffects.{event_effects}
use Rattle.volume_machine.specs.Runs.{Happening, IsRun, last_of, no_plain}
use Rattle.volume_machine.specs.Seals.{Seals}
use Rattle.volume_machine.specs.States.{State, open_at}
use Rattle.hotzone.specs.ZoneEvents.Readings.{reading_of}

-- a lane that is none of clients is left by a run of clients' events
lane-left : {K : Type 0} (count lane : ℕ) (old : State K) (run : List (Happening K))
    → count ≤ suc lane → IsRun old run → AreOfClients count (deeds_of run)
    → open_at (last_of old run).lanes lane ≡ open_at old.lanes lane
unfolding IsRun last_of AreOfClients deeds_of
lane-left count lane old [] past is clients = refl
lane-left count lane old (one ∷ run) past (meets, step, is) (client, clients) =
    lane-left count lane one.after run past is clients
    ∙ (event_effects old one.after one.event one.outcome step).lane_is.others lane
    (λ same. omega (arith, same, past, client))

module _ {K : Type 0} (seals : Seals) (start now : State K)
    (v : Knowledge (State K) SharedEvent SharedOutcome)
    (stands : StandsFor seals start now v.history) (law : IsAccounted v) where
  own : (lane : ℕ) → calls_over lane stands.deeds ≡ own_calls (calls_on lane v)
  own lane = sym (own-calls (length start.lanes) v.history stands.deeds lane stands.tells)
      ∙ ap own_calls (law (lane ∷ []))

  pub serves-beside : HasServedBeside seals start now v
  unfolding alone_of own_calls
  serves-beside =
      let alone = all-alone seals start now v.history stands in
      let lanes : (lane : ℕ) → answered_on lane seals start no_plain stands.deeds
      ≡ answers_of start.map.atom seals idle_lane (own_calls (calls_on lane v)) =
      λ lane. alone.answers lane
      ∙ ap (λ (cs : List Own.Call). answers_of start.map.atom seals idle_lane cs) (own lane) in
      record {
        deeds = stands.deeds;
        tells = stands.tells;
        are = λ sizes read. (are_alone_beside (reading_of sizes) start seals stands.deeds
            (begins-so start stands.shared sizes read) (stands.made sizes read) stands.met).are;
        read = stands.read;
        armed = stands.armed;
        kept = λ sizes read. subst (λ (s : State K). IsKept (reading_of sizes) s) stands.last
            (are_alone_beside (reading_of sizes) start seals stands.deeds
            (begins-so start stands.shared sizes read) (stands.made sizes read) stands.met).kept;
        last = stands.last;
        lanes = lanes;
        under_way = λ lane client. ap (λ (s : State K). open_at s.lanes lane) (sym stands.last)
            ∙ ((alone.lanes lane client).operation
            ∙ ap (λ (cs : List Own.Call). (alone_of start.map.atom seals idle_lane cs).operation)
            (own lane));
        answered = λ lane history has.
            subst (λ (l : List Answered). AreTagged l history)
            (sym (lanes lane ∙ ap (λ (cs : List (Call SharedEvent SharedOutcome)).
            answers_of start.map.atom seals idle_lane (own_calls cs)) has.is)) has.answered;
        worked = λ lane last.
            works-of (length start.lanes) v.history stands.deeds lane last stands.tells
            ∙ ap works_in (law (lane ∷ []));
      }

  -- without a conversion
  pub serves-lanes : start.work ≡ None → HasServedLanes seals start now v
  unfolding alone_of own_calls serves-beside
  serves-lanes none =
      let beside = serves-beside in
      let alone = all-alone seals start now v.history stands in
      let (sizes, read) = some-reading start stands.shared in
      let (run, of) = runs-of (reading_of sizes) seals start stands.deeds none
      (stands.made sizes read) in
      let is : IsRun start run = of.is (reading_of sizes) (beside.are sizes read) in
      let count = length start.lanes in
      let clients : AreOfClients count (deeds_of run) =
      subst (λ d. AreOfClients count d) of.deeds_are stands.met.clients in
      record {
        run = run;
        tells = subst (λ d. Tells count v.history d) of.deeds_are stands.tells;
        is = is;
        last = of.last ∙ stands.last;
        lanes = λ lane. of.answers lane no_plain ∙ beside.lanes lane;
        under_way = λ lane. elim (cases_lt (suc lane) count) [
          | inl below ↦ beside.under_way lane below
          | inr past ↦
              ap (λ (s : State K). open_at s.lanes lane) (sym (of.last ∙ stands.last))
              ∙ (lane-left count lane start run past is clients
              ∙ (stands.shared.idle lane
              ∙ ap (λ (cs : List Own.Call). (alone_of start.map.atom seals idle_lane cs).operation)
              (sym (no_calls count lane past stands.deeds stands.met.clients) ∙ own lane)))
        ];
        answered = λ lane history has.
            subst (λ (l : List Answered). AreTagged l history) (sym (of.answers lane no_plain))
            (beside.answered lane history has);
      }
