-- Executions, one after the other, stops within them, and the tables of a disk along them: each
-- event adds at most one, the one after it.
use Rattle.std.proofs.Common.{All, List, Some, [], ap, append_assoc, inl, inr, refl, subst, sym, ℕ}
use Rattle.std.proofs.Common.{◌++◌, ◌∙◌, ◌∷◌, ◌≡◌}
use Rattle.std.proofs.lemmas.List.{append-nil}
use Rattle.std.proofs.lemmas.List.Elements.{All-cons, All-nil}
use Rattle.plain_disk.specs.Plain.{Block, Exchange}
use Rattle.sector_disk.specs.Cells.{Cell}
use Rattle.sector_disk.specs.Steps.{Told}
use Rattle.volume_machine.specs.Answers.{Answered, Tagged, AreExchanges, AreTagged, untagged}
use Rattle.volume_machine.specs.Edges.{InPlain}
use Rattle.volume_machine.specs.Runs.{Happening, no_plain, IsRun, answered_by, answered_in, last_of}
use Rattle.volume_machine.specs.Runs.{plain_after, plain_in}
use Rattle.volume_machine.specs.Seals.{Seals}
use Rattle.volume_machine.specs.States.{State}
use Rattle.volume_machine.proofs.EventEffects.{event_effects}
use Rattle.volume_laws.specs.Executing.{Executes, StopsAlong, TellsRun, WasTold}
use Rattle.volume_laws.specs.Promises.{Starts}
use Rattle.volume_laws.proofs.RunsServed.{serves_each_run, split_exchanges}

-- runs, one after the other
pub run-joined : {K : Type 0} (old : State K) (xs ys : List (Happening K)) → IsRun old xs
    → IsRun (last_of old xs) ys → IsRun old (xs ++ ys)
unfolding IsRun last_of
run-joined old [] ys first rest = rest
run-joined old (x ∷ xs) ys (meets, step, first) rest =
    (meets, step, run-joined x.after xs ys first rest)

pub run-front : {K : Type 0} (old : State K) (xs ys : List (Happening K)) → IsRun old (xs ++ ys)
    → IsRun old xs
unfolding IsRun
run-front old [] ys is = tt
run-front old (x ∷ xs) ys (meets, step, is) = (meets, step, run-front x.after xs ys is)

pub last-joined : {K : Type 0} (old : State K) (xs ys : List (Happening K))
    → last_of old (xs ++ ys) ≡ last_of (last_of old xs) ys
unfolding last_of
last-joined old [] ys = refl
last-joined old (x ∷ xs) ys = last-joined x.after xs ys

pub answered-joined : {K : Type 0} (seals : Seals) (old : State K) (plain : ℕ → InPlain)
    (xs ys : List (Happening K)) → answered_in seals old plain (xs ++ ys) ≡ answered_in
    seals old plain xs ++ answered_in seals (last_of old xs) (plain_in seals old plain xs) ys
unfolding answered_in last_of plain_in
answered-joined seals old plain [] ys = refl
answered-joined seals old plain (x ∷ xs) ys =
    rw (answered-joined seals x.after (plain_after seals old x.event x.outcome plain) xs ys)
    (sym (append_assoc (answered_by old x.event x.outcome plain) _ _))

tagged-joined : (xs ys : List Answered) (first rest : List Tagged) → AreTagged xs first
    → AreTagged ys rest → AreTagged (xs ++ ys) (first ++ rest)
unfolding AreTagged
tagged-joined [] ys [] rest are_first are_rest = are_rest
tagged-joined [] ys (tagged ∷ first) rest are_first are_rest = absurd are_first
tagged-joined (x ∷ xs) ys [] rest are_first are_rest = absurd are_first
tagged-joined (x ∷ xs) ys (tagged ∷ first) rest (is, session, are_first) are_rest =
    (is, session, tagged-joined xs ys first rest are_first are_rest)

pub tagged-exchanges : (answered : List Answered) (history : List Tagged)
    → AreTagged answered history → AreExchanges answered (untagged history)
unfolding AreTagged AreExchanges untagged
tagged-exchanges [] [] are = tt
tagged-exchanges [] (tagged ∷ history) are = absurd are
tagged-exchanges (one ∷ rest) [] are = absurd are
tagged-exchanges (one ∷ rest) (tagged ∷ history) (is, session, are) =
    (is, tagged-exchanges rest history are)

-- nothing executed, and one execution after the other
pub executes_none : {K : Type 0} (seals : Seals) (state : State K)
    → Executes seals state state [] []
unfolding IsRun last_of answered_in AreTagged
executes_none seals state = record { is = tt; last = refl; answers = λ plain. tt }

pub executes_joined : {K : Type 0} (seals : Seals) (old middle new : State K)
    (xs ys : List (Happening K)) (first rest : List Tagged) → Executes seals old middle xs first
    → Executes seals middle new ys rest → Executes seals old new (xs ++ ys) (first ++ rest)
executes_joined seals old middle new xs ys first rest one other = record {
  is = run-joined old xs ys one.is (rw one.last other.is);
  last = last-joined old xs ys ∙ ap (λ s. last_of s ys) one.last ∙ other.last;
  answers = λ plain. rw (answered-joined seals old plain xs ys) (tagged-joined (answered_in
      seals old plain xs) (answered_in seals (last_of old xs) (plain_in seals old plain xs) ys)
      first rest (one.answers plain) (rw one.last (other.answers (plain_in seals old plain xs))));
}

-- stops along a run
pub stops_along : {K : Type 0} (start : State K) (seals : Seals) (blocks : List Block) (bytes : List
    ℕ) (run : List (Happening K)) (exchanges : List Exchange) → Starts start seals blocks bytes
    → IsRun start run → AreExchanges (answered_in seals start no_plain run) exchanges
    → StopsAlong start seals blocks run exchanges
stops_along start seals blocks bytes run exchanges starts is are = λ earlier later parts.
    let all : AreExchanges (answered_in seals start no_plain earlier ++ answered_in
    seals (last_of start earlier) (plain_in seals start no_plain earlier) later) exchanges =
    subst (λ xs. AreExchanges xs exchanges) (ap (λ r. answered_in seals start no_plain r) parts
    ∙ answered-joined seals start no_plain earlier later) are in
    let (first, rest, is_parts, are_first, are_rest) =
    split_exchanges (answered_in seals start no_plain earlier) (answered_in
    seals (last_of start earlier) (plain_in seals start no_plain earlier) later) exchanges all in
    let served = serves_each_run start seals blocks bytes earlier first starts
    (run-front start earlier later (subst (λ r. IsRun start r) parts is)) are_first in record {
      first = first;
      rest = rest;
      parts = is_parts;
      answered = are_first;
      left = served.left;
      legal = served.legal;
      allowed = served.stops;
    }

-- a table that was told later was told
told_later : {K : Type 0} (start : State K) (one : Happening K) (rest : List (Happening K))
    (cells : List Cell) → WasTold one.after rest cells → WasTold start (one ∷ rest) cells
unfolding last_of
told_later start one rest cells was = record {
  earlier = one ∷ was.earlier;
  later = was.later;
  parts = ap (λ xs. one ∷ xs) was.parts;
  told = was.told;
  is = was.is;
  now = was.now;
}

told_first : {K : Type 0} (start : State K) (one : Happening K) (rest : List (Happening K))
    (told : Told) → one.after.disk.told ≡ Some told → WasTold start (one ∷ rest) told.now
unfolding last_of
told_first start one rest told is =
    record { earlier = one ∷ []; later = rest; parts = refl; told = told; is = is; now = refl }

pub tells_run : {K : Type 0} (start : State K) (run : List (Happening K)) (now : Told)
    → IsRun start run → (last_of start run).disk.told ≡ Some now → TellsRun start run now
unfolding IsRun last_of
tells_run start [] now is told = record {
  before = now;
  was = told;
  tables = [];
  since = sym (append-nil now.past);
  each = All-nil _;
}
tells_run start (one ∷ rest) now (meets, step, is) told =
    let behind = tells_run one.after rest now is told in
    let (before, was, grew) = (event_effects start one.after one.event one.outcome step).disk.tables
    behind.before behind.was in
    let later : All (λ table. WasTold start (one ∷ rest) table.1) behind.tables =
    λ k d below. told_later start one rest _ (behind.each k d below) in
    elim grew [
      | inl same ↦ record {
        before = before;
        was = was;
        tables = behind.tables;
        since = behind.since ∙ ap (λ t. t.past ++ behind.tables) same;
        each = later;
      }
      | inr grown ↦ record {
        before = before;
        was = was;
        tables = (before.mark, behind.before.now) ∷ behind.tables;
        since = behind.since ∙ ap (λ t. t.past ++ behind.tables) grown
            ∙ append_assoc before.past ((before.mark, behind.before.now) ∷ []) behind.tables;
        each = All-cons (λ table. WasTold start (one ∷ rest) table.1)
            (before.mark, behind.before.now) behind.tables
            (told_first start one rest behind.before behind.was) later;
      }
    ]
