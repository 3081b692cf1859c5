-- Lanes of clients in a history of deeds, each by its own calls.
use Rattle.std.proofs.Common.{List, Option, Some, [], ap, append_assoc, arith, inl, inr, length}
use Rattle.std.proofs.Common.{nat_eq, refl, subst, suc, sym, true, false, ℕ, ◌++◌, ◌<◌, ◌∙◌, ◌∷◌}
use Rattle.std.proofs.Common.{◌≡◌, ◌≢◌, ◌≤◌}
use Rattle.std.proofs.lemmas.Bool.{cases_lt, cases_eq as same_or_not}
use Rattle.std.proofs.lemmas.List.{append-nil}
use Rattle.volume_machine.specs.Alone.{Alone, Call, alone_after, answered_alone, idle_lane, AreMet}
use Rattle.volume_machine.specs.Alone.{MeetsAlone, alone_of, answers_of}
use Rattle.volume_machine.specs.Edges.{InPlain}
use Rattle.volume_machine.specs.Events.{Event, Outcome, lane_of}
use Rattle.volume_machine.specs.Runs.{no_plain, answered_by, plain_after}
use Rattle.volume_machine.specs.Seals.{Seals}
use Rattle.volume_machine.specs.States.{IsClient, State}
use Rattle.volume_machine.specs.Steps.{Meets, Step}
use Rattle.std.proofs.Common.{IsSome}
use Rattle.volume_machine.proofs.EventEffects.{event_effects}
use Rattle.volume_machine.proofs.NextPieces.{agrees_now}
use Rattle.volume_machine.proofs.Soundness.{sound_kept}
use Rattle.volume_machine.specs.Deeds.{Act, AreDeeds, Deed, Does, client, plain_by, plain_over}
use Rattle.volume_machine.specs.Deeds.{state_after, worker}
use Rattle.volume_machine.specs.Readings.{Reading}
use Rattle.volume_machine.specs.States.{IsIdle}
use Rattle.volume_machine.specs.WorkSteps.{WorkStep, Worked, begins}
use Rattle.volume_machine.specs.WorkSteps.{concludes, ends, ends_zone, faults, is_hindered}
use Rattle.volume_machine.specs.WorkSteps.{is_unfinished, leaves_blocks, leaves_broken}
use Rattle.volume_machine.specs.WorkSteps.{misses_conclusion, misses_part, misses_wipe, opens_zone}
use Rattle.volume_machine.specs.WorkSteps.{queues, stays, steps, takes, wiped, wipes}
use Rattle.volume_laws.specs.Lanes.{IsLane}
use Rattle.volume_laws.proofs.LanesAlone.{meets_by, other_plain, own_step}
use Rattle.volume_laws.proofs.OtherLanes.{event_left}
use Rattle.volume_laws.proofs.VolumesKept.{event_in_order, step_in_order}
use Rattle.volume_laws.specs.BesideLanes.Clients.{IsLeftBeside}
use Rattle.volume_laws.specs.BesideLanes.Lanes.{AreAloneBeside, AreMade, AreMetBeside, AreOfClients}
use Rattle.volume_laws.specs.BesideLanes.Lanes.{BeginsBeside, IsKept, IsOfClient, Makes, StaysSame, alone_over}
use Rattle.volume_laws.specs.BesideLanes.Lanes.{answered_at, answered_on, call_in, calls_over}
use Rattle.volume_laws.proofs.BesideLanes.ClientsLeft.{clients_left, stays_same}

-- ---- lists of own calls, one after the other
module _ (atom : ℕ) (seals : Seals) where
  alone-joined : (alone : Alone) (xs ys : List Call) → alone_of atom seals alone (xs ++ ys)
      ≡ alone_of atom seals (alone_of atom seals alone xs) ys
  unfolding alone_of
  alone-joined alone [] ys = refl
  alone-joined alone (x ∷ xs) ys =
      alone-joined (alone_after atom seals alone x.event x.outcome) xs ys

  answers-joined : (alone : Alone) (xs ys : List Call) → answers_of atom seals alone (xs ++ ys)
      ≡ answers_of atom seals alone xs ++ answers_of atom seals (alone_of atom seals alone xs) ys
  unfolding alone_of answers_of
  answers-joined alone [] ys = refl
  answers-joined alone (x ∷ xs) ys =
      let next = alone_after atom seals alone x.event x.outcome in
      rw (answers-joined next xs ys) (sym (append_assoc (answered_alone atom alone x.event x.outcome)
      (answers_of atom seals next xs) (answers_of atom seals (alone_of atom seals next xs) ys)))

  met-parts : (alone : Alone) (xs ys : List Call) → AreMet atom seals alone (xs ++ ys) →
      AreMet atom seals alone xs × AreMet atom seals (alone_of atom seals alone xs) ys
  unfolding AreMet alone_of
  met-parts alone [] ys met = (tt, met)
  met-parts alone (x ∷ xs) ys met =
      let parts = met-parts (alone_after atom seals alone x.event x.outcome) xs ys met.1 in
      ((met.0, parts.0), parts.1)

  met-joined : (alone : Alone) (xs ys : List Call) → AreMet atom seals alone xs →
      AreMet atom seals (alone_of atom seals alone xs) ys → AreMet atom seals alone (xs ++ ys)
  unfolding AreMet alone_of
  met-joined alone [] ys first rest = rest
  met-joined alone (x ∷ xs) ys first rest =
      (first.0, met-joined (alone_after atom seals alone x.event x.outcome) xs ys first.1 rest)

-- ---- a deed among a lane's own calls
own-true : (lane : ℕ) → nat_eq lane lane ≡ true
own-true lane = grind arith

not-own : (own lane : ℕ) → own ≢ lane → nat_eq own lane ≡ false
not-own own lane differ = grind arith

call-own : (event : Event) (outcome : Outcome) → call_in (lane_of event) (client event outcome)
    ≡ record { event = event; outcome = outcome } ∷ []
call-own event outcome = rw (own-true (lane_of event)) refl

call-other : (lane : ℕ) (event : Event) (outcome : Outcome) → lane_of event ≢ lane
    → call_in lane (client event outcome) ≡ []
call-other lane event outcome differ = rw (not-own (lane_of event) lane differ) refl

-- ---- what is kept
some-of : {A : Type 0} {o : Option A} (a : A) → o ≡ Some a → IsSome o
some-of a is = subst IsSome (sym is) refl

pub work-some : {K : Type 0} {reading : Reading} {seals : Seals} {old new : State K} {worked : Worked}
    → WorkStep reading seals old new worked → IsSome old.work
work-some (takes grant it) = some-of _ it.was
work-some (queues lane it) = some-of _ it.was
work-some (stays lane it) = some-of _ it.was
work-some (begins it) = some-of _ it.was
work-some (steps it) = some-of _ it.was
work-some (opens_zone it) = some-of _ it.was
work-some (ends_zone it) = some-of _ it.was
work-some (leaves_blocks it) = some-of _ it.was
work-some (concludes it) = some-of _ it.may.was
work-some (wipes it) = some-of _ it.was
work-some (wiped it) = some-of _ it.was
work-some (ends it) = some-of _ it.was
work-some (misses_part it) = some-of _ it.gives_up.was
work-some (is_hindered cause it) = some-of _ it.gives_up.was
work-some (is_unfinished cause it) = some-of _ it.was
work-some (faults it) = some-of _ it.was
work-some (misses_conclusion it) = some-of _ it.may.was
work-some (misses_wipe it) = some-of _ it.was
work-some (leaves_broken it) = some-of _ it.was

same_again : {K : Type 0} (state : State K) → StaysSame state state
same_again state = record { lanes = refl; atom = refl; blocks = refl; keys = refl }

same_on : {K : Type 0} {one two three : State K} → StaysSame one two → StaysSame two three
    → StaysSame one three
same_on first later = record {
  lanes = later.lanes ∙ first.lanes;
  atom = later.atom ∙ first.atom;
  blocks = later.blocks ∙ first.blocks;
  keys = later.keys ∙ first.keys;
}

-- ---- one deed
record Next {K : Type 0} (reading : Reading) (count : ℕ) (seals : Seals) (old : State K)
    (plain : ℕ → InPlain) (alone : ℕ → Alone) (act : Act) (new : State K) : Type 0 where
  does : Does reading seals old act new
  kept : IsKept reading new
  same : StaysSame old new
  lanes : (k : ℕ) → suc k < count → IsLane new (plain_by seals old act plain) k
      (alone_of old.map.atom seals (alone k) (call_in k act))
  answers : (k : ℕ) → suc k < count → answered_at k old act plain
      ≡ answers_of old.map.atom seals (alone k) (call_in k act)

module _ {K : Type 0} (reading : Reading) (seals : Seals) (old new : State K)
    (plain : ℕ → InPlain) (alone : ℕ → Alone) (kept : IsKept reading old)
    (are : (k : ℕ) → IsClient old k → IsLane old plain k (alone k)) where
  other_step : (event : Event) (outcome : Outcome) (k : ℕ) → k ≢ lane_of event
      → IsLane old plain k (alone k) → Step old event outcome new
      → IsLane new (plain_after seals old event outcome plain) k (alone k)
  other_step event outcome k differ is step =
      let left = event_left old new event outcome k step differ in record {
        operation = left.own ∙ is.operation;
        plain_is = other_plain seals old plain event outcome k differ ∙ is.plain_is;
        map = λ map o granted at. agrees_now o.range map old.map new.map left.map
            (is.map map o granted at);
        holds = λ map o granted at has. left.holds (is.holds map o granted at has);
      }

  -- an event of a client
  client_next : (event : Event) (outcome : Outcome) → IsClient old (lane_of event)
      → MeetsAlone seals (alone (lane_of event)) event → Step old event outcome new
      → Next reading (length old.lanes) seals old plain alone (client event outcome) new
  unfolding alone_of answers_of answered_by
  client_next event outcome is_client meets step =
      let own = lane_of event in
      let goes = event_effects old new event outcome step in
      let met : Meets old event =
      meets_by seals old plain event (alone own) kept.sound (are own is_client) is_client meets in record {
        does = (met, step);
        kept = record {
          sound = sound_kept old new event outcome kept.sound met step;
          order = λ some. event_in_order reading old new event outcome
              (kept.order (subst IsSome goes.work some)) met step;
        };
        same = record {
          lanes = goes.lane_is.count;
          atom = ap (λ m. m.atom) goes.map;
          blocks = ap (λ m. m.blocks) goes.map;
          keys = goes.keys;
        };
        lanes = λ k below. elim (same_or_not own k) [
          | inl same ↦ rw (← same, call-own event outcome) (own_step seals old new plain event
              outcome (alone own) kept.sound (are own is_client) meets step)
          | inr differ ↦ rw (call-other k event outcome differ)
              (other_step event outcome k (λ same. differ (sym same)) (are k below) step)
        ];
        answers = λ k below. elim (same_or_not own k) [
          | inl same ↦ (let is = are own is_client in
              rw (← same, own-true own, is.operation, is.plain_is)
              (sym (append-nil (answered_alone old.map.atom (alone own) event outcome))))
          | inr differ ↦ rw (not-own own k differ) refl
        ];
      }

  -- a step of the worker
  left_lane : (k : ℕ) → IsLeftBeside old new k → IsLane old plain k (alone k)
      → IsLane new plain k (alone k)
  left_lane k left is = record {
    operation = left.own ∙ is.operation;
    plain_is = is.plain_is;
    map = λ map o granted at. left.map map o (is.operation ∙ at)
        (λ has. is.holds map o granted at has) (is.map map o granted at);
    holds = λ map o granted at has. left.holds (is.holds map o granted at has);
  }

  worker_next : (worked : Worked) → WorkStep reading seals old new worked
      → Next reading (length old.lanes) seals old plain alone (worker worked) new
  unfolding alone_of answers_of
  worker_next worked step =
      let order = kept.order (work-some step) in
      let next = step_in_order reading seals old new worked order step in record {
        does = step;
        kept = record { sound = next.sound; order = λ some. next };
        same = stays_same reading seals old new worked order step;
        lanes = λ k below.
            left_lane k (clients_left reading seals old new worked k order step below) (are k below);
        answers = λ k below. refl;
      }

  next : (act : Act) → IsOfClient (length old.lanes) act
      → ((k : ℕ) → AreMet old.map.atom seals (alone k) (call_in k act))
      → Makes reading seals old act new → Next reading (length old.lanes) seals old plain alone act new
  unfolding AreMet
  next (client event outcome) is_client met step =
      client_next event outcome is_client (rw (call-own event outcome) at (met (lane_of event))).0
      step
  next (worker worked) tells met step = worker_next worked step

-- ---- many deeds, from any moment at which each lane is what its calls so far tell
record Follows {K : Type 0} (reading : Reading) (atom count : ℕ) (seals : Seals) (old : State K)
    (plain : ℕ → InPlain) (alone : ℕ → Alone) (deeds : List (Deed K)) : Type 0 where
  are : AreDeeds reading seals old deeds
  kept : IsKept reading (state_after old deeds)
  same : StaysSame old (state_after old deeds)
  lanes : (k : ℕ) → suc k < count → IsLane (state_after old deeds) (plain_over seals old plain deeds)
      k (alone_of atom seals (alone k) (calls_over k deeds))
  answers : (k : ℕ) → suc k < count → answered_on k seals old plain deeds
      ≡ answers_of atom seals (alone k) (calls_over k deeds)

follows : {K : Type 0} (reading : Reading) (atom count : ℕ) (seals : Seals) (old : State K)
    (plain : ℕ → InPlain) (alone : ℕ → Alone) (deeds : List (Deed K)) → old.map.atom ≡ atom
    → length old.lanes ≡ count → IsKept reading old
    → ((k : ℕ) → suc k < count → IsLane old plain k (alone k)) → AreMade reading seals old deeds
    → AreOfClients count deeds → ((k : ℕ) → AreMet atom seals (alone k) (calls_over k deeds))
    → Follows reading atom count seals old plain alone deeds
unfolding AreDeeds state_after plain_over AreMade AreOfClients AreMet calls_over answered_on
    alone_of answers_of
follows reading atom count seals old plain alone [] same long kept are made clients met = record {
  are = tt;
  kept = kept;
  same = same_again old;
  lanes = are;
  answers = λ k below. refl;
}
follows reading atom count seals old plain alone (one ∷ rest) same long kept are (makes, made)
    (of_client, clients) met =
    let parts = λ (k : ℕ).
    met-parts atom seals (alone k) (call_in k one.act) (calls_over k rest) (met k) in
    let goes = next reading seals old one.after plain alone kept
    (λ k below. are k (subst (λ n. suc k < n) long below)) one.act
    (subst (λ n. IsOfClient n one.act) (sym long) of_client)
    (λ k. subst (λ a. AreMet a seals (alone k) (call_in k one.act)) (sym same) (parts k).0) makes in
    let below_now = λ (k : ℕ) (below : suc k < count). subst (λ n. suc k < n) (sym long) below in
    let behind = follows reading atom count seals one.after (plain_by seals old one.act plain)
    (λ k. alone_of atom seals (alone k) (call_in k one.act)) rest (goes.same.atom ∙ same)
    (goes.same.lanes ∙ long) goes.kept
    (λ k below. subst (λ a. IsLane one.after (plain_by seals old one.act plain) k
    (alone_of a seals (alone k) (call_in k one.act))) same (goes.lanes k (below_now k below))) made
    clients (λ k. (parts k).1) in
    record {
      are = (goes.does, behind.are);
      kept = behind.kept;
      same = same_on goes.same behind.same;
      lanes = λ k below. rw (alone-joined atom seals (alone k) (call_in k one.act)
          (calls_over k rest)) (behind.lanes k below);
      answers = λ k below.
          (let own : answered_at k old one.act plain
          ≡ answers_of atom seals (alone k) (call_in k one.act) =
          goes.answers k (below_now k below)
          ∙ ap (λ a. answers_of a seals (alone k) (call_in k one.act)) same in
          rw (own, behind.answers k below)
          (sym (answers-joined atom seals (alone k) (call_in k one.act) (calls_over k rest))));
    }

-- ---- a lane that is none of clients
module _ (count lane : ℕ) (past : count ≤ suc lane) where
  no_call : (act : Act) → IsOfClient count act → call_in lane act ≡ []
  no_call (client event outcome) is_client =
      call-other lane event outcome (λ same. omega (arith, same, past, is_client))
  no_call (worker worked) tells = refl

  no_answer : {K : Type 0} (old : State K) (plain : ℕ → InPlain) (act : Act) → IsOfClient count act
      → answered_at lane old act plain ≡ []
  no_answer old plain (client event outcome) is_client =
      rw (not-own (lane_of event) lane (λ same. omega (arith, same, past, is_client))) refl
  no_answer old plain (worker worked) tells = refl

  pub no_calls : {K : Type 0} (deeds : List (Deed K)) → AreOfClients count deeds → calls_over lane deeds ≡ []
  unfolding AreOfClients calls_over
  no_calls [] clients = refl
  no_calls (one ∷ rest) (is_client, clients) =
      rw (no_call one.act is_client) (no_calls rest clients)

  no_answers : {K : Type 0} (seals : Seals) (old : State K) (plain : ℕ → InPlain) (deeds : List (Deed K))
      → AreOfClients count deeds → answered_on lane seals old plain deeds ≡ []
  unfolding AreOfClients answered_on
  no_answers seals old plain [] clients = refl
  no_answers seals old plain (one ∷ rest) (is_client, clients) =
      rw (no_answer old plain one.act is_client)
      (no_answers seals one.after (plain_by seals old one.act plain) rest clients)

-- ---- from a start
idle_is : {K : Type 0} (start : State K) (lane : ℕ) → IsIdle start
    → IsLane start no_plain lane idle_lane
idle_is start lane idle = record {
  operation = idle lane;
  plain_is = refl;
  map = λ map o granted at. absurd (cc);
  holds = λ map o granted. absurd (cc);
}

pub are_alone_beside : {K : Type 0} (reading : Reading) (start : State K) (seals : Seals)
    (deeds : List (Deed K)) → BeginsBeside reading start → AreMade reading seals start deeds
    → AreMetBeside start seals deeds → AreAloneBeside reading start seals deeds
unfolding answers_of
are_alone_beside reading start seals deeds ready made by =
    let count = length start.lanes in
    let all = follows reading start.map.atom count seals start no_plain (λ k. idle_lane) deeds refl
    refl ready.kept (λ k below. idle_is start k ready.idle) made by.clients by.met in record {
      are = all.are;
      kept = all.kept;
      same = all.same;
      lanes = all.lanes;
      answers = λ lane. elim (cases_lt (suc lane) count) [
        | inl below ↦ all.answers lane below
        | inr past ↦ rw (
          no_answers count lane past seals start no_plain deeds by.clients,
          no_calls count lane past deeds by.clients,
        ) refl
      ];
    }

pub next_meets_beside : {K : Type 0} (reading : Reading) (start : State K) (seals : Seals)
    (deeds : List (Deed K)) (event : Event) → BeginsBeside reading start
    → AreMade reading seals start deeds → AreMetBeside start seals deeds
    → IsClient start (lane_of event) → MeetsAlone seals (alone_over start seals (lane_of event) deeds) event
    → Meets (state_after start deeds) event
next_meets_beside reading start seals deeds event ready made by is_client meets =
    let alone = are_alone_beside reading start seals deeds ready made by in
    meets_by seals (state_after start deeds) (plain_over seals start no_plain deeds) event
    (alone_over start seals (lane_of event) deeds) alone.kept.sound
    (alone.lanes (lane_of event) is_client) (rw alone.same.lanes is_client) meets

-- ---- one deed more
calls-more : {K : Type 0} (lane : ℕ) (deeds : List (Deed K)) (one : Deed K)
    → calls_over lane (deeds ++ one ∷ []) ≡ calls_over lane deeds ++ call_in lane one.act
unfolding calls_over
calls-more lane [] one = append-nil (call_in lane one.act)
calls-more lane (x ∷ deeds) one = rw (calls-more lane deeds one)
    (sym (append_assoc (call_in lane x.act) (calls_over lane deeds) (call_in lane one.act)))

clients-more : {K : Type 0} (count : ℕ) (deeds : List (Deed K)) (one : Deed K)
    → AreOfClients count deeds → IsOfClient count one.act → AreOfClients count (deeds ++ one ∷ [])
unfolding AreOfClients
clients-more count [] one are is = (is, tt)
clients-more count (x ∷ deeds) one are is = (are.0, clients-more count deeds one are.1 is)

deed_more : {K : Type 0} (start : State K) (seals : Seals) (deeds : List (Deed K)) (one : Deed K)
    → AreMetBeside start seals deeds → IsOfClient (length start.lanes) one.act
    → ((lane : ℕ) → AreMet start.map.atom seals (alone_over start seals lane deeds)
    (call_in lane one.act)) → AreMetBeside start seals (deeds ++ one ∷ [])
deed_more start seals deeds one by is_client meets = record {
  clients = clients-more (length start.lanes) deeds one by.clients is_client;
  met = λ lane. rw (calls-more lane deeds one) (met-joined start.map.atom seals idle_lane
      (calls_over lane deeds) (call_in lane one.act) (by.met lane) (meets lane));
}

pub event_more : {K : Type 0} (start : State K) (seals : Seals) (deeds : List (Deed K))
    (event : Event) (outcome : Outcome) (after : State K) → AreMetBeside start seals deeds
    → IsClient start (lane_of event)
    → MeetsAlone seals (alone_over start seals (lane_of event) deeds) event
    → AreMetBeside start seals (deeds ++ record { act = client event outcome; after = after } ∷ [])
unfolding AreMet
event_more start seals deeds event outcome after by is_client meets =
    deed_more start seals deeds (record { act = client event outcome; after = after }) by is_client
    (λ lane. elim (same_or_not (lane_of event) lane) [
      | inl own ↦ rw (← own, call-own event outcome) (meets, tt)
      | inr other ↦ rw (call-other lane event outcome other) tt
    ])

pub work_more : {K : Type 0} (start : State K) (seals : Seals) (deeds : List (Deed K))
    (worked : Worked) (after : State K) → AreMetBeside start seals deeds
    → AreMetBeside start seals (deeds ++ record { act = worker worked; after = after } ∷ [])
unfolding AreMet
work_more start seals deeds worked after by =
    deed_more start seals deeds (record { act = worker worked; after = after }) by tt (λ lane. tt)
