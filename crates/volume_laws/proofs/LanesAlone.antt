-- Lanes of a run, each by its own calls.
use Rattle.std.proofs.Common.{List, MatchBool, MatchOption, None, Option, Some, [], ap}
use Rattle.std.proofs.Common.{append_assoc, arith, false, if◌then◌else◌, inl, inr, length, nat_eq}
use Rattle.std.proofs.Common.{refl, subst, suc, sym, true, ℕ, ◌*◌, ◌++◌, ◌<◌, ◌==◌, ◌∙◌, ◌∷◌, ◌≡◌}
use Rattle.std.proofs.Common.{◌≢◌, ◌≤◌}
use Rattle.std.proofs.lemmas.Bool.{MatchBool-at_false, MatchBool-at_true, cases_Bool as either}
use Rattle.std.proofs.lemmas.Bool.{cases_eq as same_or_not}
use Rattle.std.proofs.lemmas.List.{append-nil}
use Rattle.range_lock.specs.Locks.{is_of}
use Rattle.segment_map.specs.declared.map.Map.{Map}
use Rattle.volume_machine.specs.Alone.{Alone, Call, after_edge, after_got, after_put, after_sync}
use Rattle.volume_machine.specs.Alone.{alone_after, answered_alone, edges_with, granted_after}
use Rattle.volume_machine.specs.Alone.{idle_lane, open_after, opened_by, opened_edge, plain_with}
use Rattle.volume_machine.specs.Alone.{with_opened_edge, with_piece, AreMet, MeetsAlone}
use Rattle.volume_machine.specs.Alone.{alone_of, answers_of}
use Rattle.volume_machine.specs.Asks.{entry_of, has_lock}
use Rattle.volume_machine.specs.Beginnings.{IsFresh}
use Rattle.volume_machine.specs.Edges.{InPlain, edge_at, edges_of, nothing, with_bytes, with_edge}
use Rattle.volume_machine.specs.Events.{Event, Outcome, admits, asks, device, done, fetches}
use Rattle.volume_machine.specs.Events.{finishes, got, held, lane_of, reads, refused, settles, writes}
use Rattle.volume_machine.specs.Pieces.{AgreeOn, rest_of}
use Rattle.volume_machine.specs.Runs.{Happening, no_plain, plain_edge, plain_piece, with_plain, IsRun}
use Rattle.volume_machine.specs.Runs.{answered_by, last_of, plain_after, plain_in}
use Rattle.volume_machine.specs.Seals.{Seals}
use Rattle.volume_machine.specs.Sound.{IsSound}
use Rattle.volume_machine.specs.States.{IsClient, State, begun, open_at}
use Rattle.volume_machine.specs.Steps.{CanFetch, CanRead, CanWrite, Holds, IsAdmitted, Meets, Can, Step}
use Rattle.volume_machine.specs.{declared.ask.Ask.Ask, declared.grant.Grant.Grant}
use Rattle.volume_machine.specs.{declared.open.Open.Open}
use Rattle.volume_machine.proofs.EdgeBlocks.{edge_touched}
use Rattle.volume_machine.proofs.EventEffects.{event_effects}
use Rattle.volume_machine.proofs.Locking.{before-last, find-last, is_of-own}
use Rattle.volume_machine.proofs.NextPieces.{agrees_itself, agrees_now, next_agrees}
use Rattle.volume_machine.proofs.Soundness.{sound_kept}
use Rattle.volume_laws.specs.Lanes.{AreAlone, AreMetByLanes, AreOfClients, AreSteps, IsLane}
use Rattle.volume_laws.specs.Lanes.{alone_in, answered_under, call_of, own_calls}
use Rattle.volume_laws.proofs.{Admits.plain-other, Admits.plain-own, Failures.settled_is}
use Rattle.volume_laws.proofs.{OtherLanes.event_left, Reading.reads_lock, Reading.writes_lock}

-- what a grant told
record IsTold {K : Type 0} (old new : State K) (lane : ℕ) (ask : Ask) (grant : Grant) : Type 0 where
  map : grant.map ≡ old.map
  holds : has_lock ask ≡ true → Holds new lane

-- an operation that goes on asks for what it asked for, and has the blocks that it had
abbrev AsksSame : Open → Open → Type 0
AsksSame o next = (next.ask ≡ o.ask) × (next.range ≡ o.range)

got_same : (atom : ℕ) (outcome : Outcome) (o : Open) → AsksSame o (after_got atom outcome o)
got_same atom device o = (refl, refl)
got_same atom _ o = (refl, refl)

pub edge_same : (outcome : Outcome) (o : Open) → AsksSame o (after_edge outcome o)
edge_same device o = (refl, refl)
edge_same _ o = (refl, refl)

pub put_same : (atom : ℕ) (sealed : List ℕ) (outcome : Outcome) (o : Open) →
    AsksSame o (after_put atom sealed outcome o)
put_same atom sealed device o = (refl, refl)
put_same atom sealed _ o = (refl, refl)

pub sync_same : (outcome : Outcome) (o : Open) → AsksSame o (after_sync outcome o)
sync_same device o = (refl, refl)
sync_same _ o = (refl, refl)

module _ {K : Type 0} {old new : State K} where
  admit_told : {lane session : ℕ} {ask : Ask} {grant : Grant} → IsSound old →
      open_at old.lanes lane ≡ None → IsAdmitted old lane session ask (held grant) new →
      IsTold old new lane ask grant
  admit_told {lane} {ask = ask} sound free is = elim (either (has_lock ask)) [
    | inl has ↦
        let enters = MatchBool-at_true _ _ has is.enters in
        let none = sound.entries lane ∙ rw free refl in
        let e = entry_of old.map.atom lane ask in let own = is_of-own lane e refl in
        let before = before-last (is_of lane) old.entries e none own in
        record {
          map = enters.1.1.map;
          holds = λ locks. rw (
            enters.0,
            find-last (is_of lane) old.entries e none own,
            before,
          ) enters.1.0;
        }
    | inr lockless ↦
        let enters = MatchBool-at_false _ _ lockless is.enters in
        record { map = enters.1.1.map; holds = λ locks. absurd (cc) }
  ]

  held_admit : {lane session : ℕ} {ask : Ask} {grant : Grant} (wrong : Option ℕ)
      → MatchOption wrong (MatchBool old.broken ((held grant ≡ refused 5) × (new ≡ old))
      (IsAdmitted old lane session ask (held grant) new)) (λ number. (held grant ≡ refused number)
      × (new ≡ old)) → IsAdmitted old lane session ask (held grant) new
  held_admit (Some number) step = absurd (cc)
  held_admit None step = elim (either old.broken) [
    | inl was ↦ absurd (let no = (MatchBool-at_true _ _ was step).0 in cc)
    | inr whole ↦ MatchBool-at_false _ _ whole step
  ]

module _ {K : Type 0} (seals : Seals) (old new : State K) where
  -- what an operation goes on to have, and to hold
  still_has : {plain : ℕ → InPlain} {lane : ℕ} {alone : Alone} {map : Map} {o q : Open} (f : Open
      → Open) → IsLane old plain lane alone → alone.granted ≡ Some map
      → alone.operation ≡ Some q → AsksSame q (f q) → o ≡ f q → new.entries ≡ old.entries
      → AgreeOn o.range map old.map × (has_lock o.ask ≡ true → Holds new lane)
  still_has {map = map} {q = q} f is granted at same now entries = (
    rw (now, same.1) (is.map map q granted at),
    λ has. rw entries (is.holds map q granted at (rw (now, same.0) at has)),
  )

  -- the lane of an event is after it what it is by its own calls
  own_has : (plain : ℕ → InPlain) (event : Event) (outcome : Outcome) (alone : Alone) (map : Map)
      (o : Open) → IsSound old → IsLane old plain (lane_of event) alone
      → MeetsAlone seals alone event → Step old event outcome new → granted_after event outcome alone.granted ≡ Some map
      → open_after old.map.atom event outcome alone.operation ≡ Some o →
      AgreeOn o.range map old.map × (has_lock o.ask ≡ true → Holds new (lane_of event))
  unfolding MeetsAlone Step
  own_has plain (admits lane session ask) (held grant) alone map o sound is free step granted now =
      let told : IsTold old new lane ask grant =
      admit_told sound (is.operation ∙ free) (held_admit _ step) in
      let same : map ≡ old.map = cc (told.map) in
      let e : o ≡ begun old.map.atom session ask = cc in
      (rw same (agrees_itself o.range old.map), λ has. told.holds (rw e at has))
  own_has plain (admits lane session ask) _ alone map o sound is free step granted now = absurd (cc)
  own_has plain (asks lane) (held grant) alone map o sound is meets ((q, at, tells), same) granted
      now =
      let e : map ≡ old.map = cc (tells.1.map) in
      (rw e (agrees_itself o.range old.map), λ has. rw same tells.0)
  own_has plain (asks lane) _ alone map o sound is meets step granted now = absurd (cc)
  own_has plain (reads lane len) outcome alone map o sound is (q, at, can) step granted now =
      let e : o ≡ after_got old.map.atom outcome q = (let next = rw at at now in cc) in
      still_has (after_got old.map.atom outcome) is granted at (got_same old.map.atom outcome q) e
      (event_effects old new (reads lane len) outcome step).entries_are
  own_has plain (fetches lane which) outcome alone map o sound is (q, at, can) step granted now =
      let e : o ≡ after_edge outcome q = (let next = rw at at now in cc) in
      still_has (after_edge outcome) is granted at (edge_same outcome q) e
      (event_effects old new (fetches lane which) outcome step).entries_are
  own_has plain (writes lane bytes) outcome alone map o sound is (q, at, can) step granted now =
      let e : o ≡ after_put old.map.atom bytes outcome q = (let next = rw at at now in cc) in
      still_has (after_put old.map.atom bytes outcome) is granted at (put_same old.map.atom
      bytes outcome q) e (event_effects old new (writes lane bytes) outcome step).entries_are
  own_has plain (settles lane) outcome alone map o sound is (q, at, can) step granted now =
      still_has (after_sync outcome) is granted at (sync_same outcome q) (settled_is q (after_sync
      outcome q) o (rw at at now)) (event_effects old new (settles lane) outcome step).entries_are
  own_has plain (finishes lane) outcome alone map o sound is meets step granted now = absurd (cc)

-- what its pieces and its edges are in plain
piece_plain : {K : Type 0} (seals : Seals) (old : State K) (plain : ℕ → InPlain) (lane : ℕ)
    (alone : Alone) (map : Map) (o : Open) (sealed : List ℕ) → IsSound old
    → IsLane old plain lane alone → alone.granted ≡ Some map → alone.operation ≡ Some o → o.next
    < o.range.end
    → with_plain plain lane (with_bytes (plain lane) (plain_piece seals old lane sealed)) lane
    ≡ record { edges = alone.edges; bytes = with_piece seals alone sealed alone.granted }
piece_plain seals old plain lane alone map o sealed sound is granted at some =
    let begun = (sound.under_way lane o (is.operation ∙ at)).begun in
    plain-own plain lane (with_bytes (plain lane) (plain_piece seals old lane sealed))
    ∙ rw (is.plain_is, is.operation, at, granted)
    (rw ((is.map map o granted at).sides o.next begun some, opened_by) refl)

edge_plain : {K : Type 0} (seals : Seals) (old : State K) (plain : ℕ → InPlain) (lane which : ℕ)
    (alone : Alone) (map : Map) (o : Open) (sealed : List ℕ) → IsSound old
    → IsLane old plain lane alone → alone.granted ≡ Some map → alone.operation ≡ Some o
    → which < length (edges_of map.atom o.ask)
    → with_plain plain lane (with_edge (plain lane) (plain_edge seals old lane which sealed)) lane
    ≡ record {
      edges = with_opened_edge seals alone which sealed alone.granted;
      bytes = alone.plain;
    }
edge_plain seals old plain lane which alone map o sealed sound is granted at some =
    let agree = is.map map o granted at in
    let range = (sound.under_way lane o (is.operation ∙ at)).range_is in
    let touched = edge_touched map.atom o.ask which map.some_atom some in
    let same : edge_at old.map.atom o.ask which ≡ edge_at map.atom o.ask which =
    ap (λ a. edge_at a o.ask which) (sym agree.atom) in
    let from : o.range.start ≤ edge_at map.atom o.ask which =
    rw (range, ← agree.atom) touched.from in
    let to : edge_at map.atom o.ask which < o.range.end = rw (range, ← agree.atom) touched.to in
    plain-own plain lane (with_edge (plain lane) (plain_edge seals old lane which sealed))
    ∙ rw (is.plain_is, is.operation, at, granted)
    (rw (opened_edge, same, agree.sides (edge_at map.atom o.ask which) from to) refl)

own_plain : {K : Type 0} (seals : Seals) (old : State K) (plain : ℕ → InPlain) (event : Event)
    (outcome : Outcome) (alone : Alone) → IsSound old → IsLane old plain (lane_of event) alone →
    MeetsAlone seals alone event → plain_after seals old event outcome plain (lane_of event)
    ≡ record {
      edges = edges_with seals alone event outcome;
      bytes = plain_with seals alone event outcome;
    }
unfolding MeetsAlone plain_after
own_plain seals old plain (admits lane session ask) outcome alone sound is meets =
    plain-own plain lane nothing
own_plain seals old plain (reads lane len) (got sealed) alone sound is
    (o, at, (map, granted, can)) =
    piece_plain seals old plain lane alone map o sealed sound is granted at can.has.some
own_plain seals old plain (fetches lane which) (got sealed) alone sound is
    (o, at, (map, granted, can)) =
    edge_plain seals old plain lane which alone map o sealed sound is granted at can.some
own_plain seals old plain (writes lane sealed) done alone sound is (o, at, (map, granted, may)) =
    piece_plain seals old plain lane alone map o sealed sound is granted at may.can.has.some
own_plain seals old plain (writes lane sealed) device alone sound is (o, at, (map, granted, may)) =
    piece_plain seals old plain lane alone map o sealed sound is granted at may.can.has.some
own_plain seals old plain (reads lane len) _ alone sound is meets = is.plain_is
own_plain seals old plain (fetches lane which) _ alone sound is meets = is.plain_is
own_plain seals old plain (writes lane sealed) _ alone sound is meets = is.plain_is
own_plain seals old plain _ outcome alone sound is meets = is.plain_is

pub own_step : {K : Type 0} (seals : Seals) (old new : State K) (plain : ℕ → InPlain) (event : Event)
    (outcome : Outcome) (alone : Alone) → IsSound old → IsLane old plain (lane_of event) alone →
    MeetsAlone seals alone event → Step old event outcome new →
    IsLane new (plain_after seals old event outcome plain) (lane_of event)
    (alone_after old.map.atom seals alone event outcome)
own_step seals old new plain event outcome alone sound is meets step =
    let goes = event_effects old new event outcome step in record {
      operation = goes.lane_is.own ∙ ap (λ x. open_after old.map.atom event outcome x) is.operation;
      plain_is = own_plain seals old plain event outcome alone sound is meets;
      map = λ map o granted now. agrees_now o.range map old.map new.map goes.map
          (own_has seals old new plain event outcome alone map o sound is meets step granted now).0;
      holds = λ map o granted now.
          (own_has seals old new plain event outcome alone map o sound is meets step granted now).1;
    }

-- every other lane is what it was
pub other_plain : {K : Type 0} (seals : Seals) (old : State K) (plain : ℕ → InPlain) (event : Event)
    (outcome : Outcome) (lane : ℕ) → lane ≢ lane_of event →
    plain_after seals old event outcome plain lane ≡ plain lane
unfolding plain_after
other_plain seals old plain (admits own session ask) outcome lane differ =
    plain-other plain own nothing lane differ
other_plain seals old plain (reads own len) (got sealed) lane differ =
    plain-other plain own _ lane differ
other_plain seals old plain (fetches own which) (got sealed) lane differ =
    plain-other plain own _ lane differ
other_plain seals old plain (fetches own which) _ lane differ = refl
other_plain seals old plain (writes own sealed) done lane differ =
    plain-other plain own _ lane differ
other_plain seals old plain (writes own sealed) device lane differ =
    plain-other plain own _ lane differ
other_plain seals old plain (reads own len) _ lane differ = refl
other_plain seals old plain (writes own sealed) _ lane differ = refl
other_plain seals old plain _ outcome lane differ = refl

other_step : {K : Type 0} (seals : Seals) (old new : State K) (plain : ℕ → InPlain) (event : Event)
    (outcome : Outcome) (lane : ℕ) (alone : Alone) → lane ≢ lane_of event →
    IsLane old plain lane alone →
    Step old event outcome new → IsLane new (plain_after seals old event outcome plain) lane alone
other_step seals old new plain event outcome lane alone differ is step =
    let left = event_left old new event outcome lane step differ in record {
      operation = left.own ∙ is.operation;
      plain_is = other_plain seals old plain event outcome lane differ ∙ is.plain_is;
      map = λ map o granted at. agrees_now o.range map old.map new.map left.map
          (is.map map o granted at);
      holds = λ map o granted at has. left.holds (is.holds map o granted at has);
    }

-- what the map of a grant lets a lane read and write the state's map does
module _ {one other : Map} {o : Open} (agree : AgreeOn o.range one other)
    (begun : o.range.start ≤ o.next) where
  can_read : {len : ℕ} → CanRead one len o → CanRead other len o
  can_read can = record {
    reads = can.reads;
    has = can.has;
    piece = can.piece;
    next = next_agrees one other (rest_of o) o.range can.piece agree begun (omega arith) can.next;
    size = can.size ∙ ap (λ a. can.piece.count * a) agree.atom;
  }

  can_fetch : {which : ℕ} → CanFetch one which o → CanFetch other which o
  can_fetch {which = which} can = record {
    writes = can.writes;
    goes_on = can.goes_on;
    begins = can.begins;
    next = can.next;
    some = subst (λ a. which < length (edges_of a o.ask)) agree.atom can.some;
  }

  can_write : {bytes : List ℕ} → CanWrite one bytes o → CanWrite other bytes o
  can_write can = record {
    writes = can.writes;
    edges = can.edges ∙ ap (λ a. length (edges_of a o.ask)) agree.atom;
    has = can.has;
    piece = can.piece;
    next = next_agrees one other (rest_of o) o.range can.piece agree begun (omega arith) can.next;
    are = record {
      size = can.are.size ∙ ap (λ a. can.piece.count * a) agree.atom;
      are_bytes = can.are.are_bytes;
    };
  }

-- conditions by own calls are conditions of the state
can_by : {K : Type 0} (seals : Seals) (state : State K) (plain : ℕ → InPlain) (event : Event)
    (alone : Alone) → IsSound state → IsLane state plain (lane_of event) alone →
    MeetsAlone seals alone event → Can state event
unfolding MeetsAlone Can
can_by seals state plain (admits lane session ask) alone sound is meets = is.operation ∙ meets
can_by seals state plain (asks lane) alone sound is (o, at, has) = (o, is.operation ∙ at, has)
can_by seals state plain (reads lane len) alone sound is (o, at, (map, granted, can)) =
    let begun = (sound.under_way lane o (is.operation ∙ at)).begun in
    let can_now = can_read (is.map map o granted at) begun can in
    ((o, is.operation ∙ at, can_now), is.holds map o granted at (reads_lock o.ask can.reads))
can_by seals state plain (fetches lane which) alone sound is (o, at, (map, granted, can)) =
    let begun = (sound.under_way lane o (is.operation ∙ at)).begun in
    let can_now = can_fetch (is.map map o granted at) begun can in
    ((o, is.operation ∙ at, can_now), is.holds map o granted at (writes_lock o.ask can.writes))
can_by seals state plain (writes lane bytes) alone sound is (o, at, (map, granted, may)) =
    let begun = (sound.under_way lane o (is.operation ∙ at)).begun in
    let can_now = can_write (is.map map o granted at) begun may.can in
    ((o, is.operation ∙ at, can_now), is.holds map o granted at (writes_lock o.ask may.can.writes))
can_by seals state plain (settles lane) alone sound is (o, at, can) = (o, is.operation ∙ at, can)
can_by seals state plain (finishes lane) alone sound is (o, at, (map, granted, can)) =
    ((o, is.operation ∙ at, can), is.holds map o granted at can.locks)

pub meets_by : {K : Type 0} (seals : Seals) (state : State K) (plain : ℕ → InPlain) (event : Event)
    (alone : Alone) → IsSound state → IsLane state plain (lane_of event) alone →
    IsClient state (lane_of event) → MeetsAlone seals alone event → Meets state event
meets_by seals state plain event alone sound is client meets =
    record { client = client; can = can_by seals state plain event alone sound is meets }

-- lists of own calls, one after the other
module _ (atom : ℕ) (seals : Seals) where
  alone-joined : (alone : Alone) (xs ys : List Call) → alone_of atom seals alone (xs ++ ys)
      ≡ alone_of atom seals (alone_of atom seals alone xs) ys
  unfolding alone_of
  alone-joined alone [] ys = refl
  alone-joined alone (x ∷ xs) ys =
      alone-joined (alone_after atom seals alone x.event x.outcome) xs ys

  answers-joined : (alone : Alone) (xs ys : List Call) → answers_of atom seals alone (xs ++ ys)
      ≡ answers_of atom seals alone xs ++ answers_of atom seals (alone_of atom seals alone xs) ys
  unfolding alone_of answers_of
  answers-joined alone [] ys = refl
  answers-joined alone (x ∷ xs) ys =
      let next = alone_after atom seals alone x.event x.outcome in
      rw (answers-joined next xs ys) (sym (append_assoc (answered_alone atom alone x.event x.outcome)
      (answers_of atom seals next xs) (answers_of atom seals (alone_of atom seals next xs) ys)))

  met-parts : (alone : Alone) (xs ys : List Call) → AreMet atom seals alone (xs ++ ys) →
      AreMet atom seals alone xs × AreMet atom seals (alone_of atom seals alone xs) ys
  unfolding AreMet alone_of
  met-parts alone [] ys met = (tt, met)
  met-parts alone (x ∷ xs) ys met =
      let parts = met-parts (alone_after atom seals alone x.event x.outcome) xs ys met.1 in
      ((met.0, parts.0), parts.1)

  met-joined : (alone : Alone) (xs ys : List Call) → AreMet atom seals alone xs →
      AreMet atom seals (alone_of atom seals alone xs) ys → AreMet atom seals alone (xs ++ ys)
  unfolding AreMet alone_of
  met-joined alone [] ys first rest = rest
  met-joined alone (x ∷ xs) ys first rest =
      (first.0, met-joined (alone_after atom seals alone x.event x.outcome) xs ys first.1 rest)

-- one event among a lane's own calls
call-own : {K : Type 0} (one : Happening K) →
    call_of (lane_of one.event) one ≡ record { event = one.event; outcome = one.outcome } ∷ []
call-own one = let own : nat_eq (lane_of one.event) (lane_of one.event) ≡ true = grind arith in
    rw own refl

not-own : (own lane : ℕ) → own ≢ lane → nat_eq own lane ≡ false
not-own own lane differ = grind arith

call-other : {K : Type 0} (lane : ℕ) (one : Happening K) → lane_of one.event ≢ lane →
    call_of lane one ≡ []
call-other lane one differ = rw (not-own (lane_of one.event) lane differ) refl

-- each lane after one event
module _ {K : Type 0} (seals : Seals) {old : State K} {plain : ℕ → InPlain} {alone : ℕ → Alone}
    (one : Happening K) (lane : ℕ) (are : (k : ℕ) → IsLane old plain k (alone k)) where
  lane_step : IsSound old → MeetsAlone seals (alone (lane_of one.event)) one.event
      → Step old one.event one.outcome one.after → IsLane one.after (plain_after seals old one.event
      one.outcome plain) lane (alone_of old.map.atom seals (alone lane) (call_of lane one))
  unfolding alone_of
  lane_step sound meets step = elim (same_or_not (lane_of one.event) lane) [
    | inl own ↦ rw (← own, call-own one) (own_step seals old one.after plain one.event one.outcome
        (alone (lane_of one.event)) sound (are (lane_of one.event)) meets step)
    | inr other ↦ rw (call-other lane one other) (other_step seals old one.after plain one.event
        one.outcome lane (alone lane) (λ same. other (sym same)) (are lane) step)
  ]

  answers_step : (atom : ℕ) → old.map.atom ≡ atom →
      (if lane_of one.event == lane then answered_by old one.event one.outcome plain else [])
      ≡ answers_of atom seals (alone lane) (call_of lane one)
  unfolding answers_of answered_by
  answers_step atom sized = elim (same_or_not (lane_of one.event) lane) [
    | inl own ↦ let is = are (lane_of one.event) in
        let same : nat_eq (lane_of one.event) (lane_of one.event) ≡ true = grind arith in
        rw (← own, same, is.operation, is.plain_is, sized)
        (sym (append-nil (answered_alone atom (alone (lane_of one.event)) one.event one.outcome)))
    | inr differ ↦ rw (not-own (lane_of one.event) lane differ) refl
  ]

-- a run, from any moment at which each lane is what its calls so far tell
record Follows {K : Type 0} (atom : ℕ) (seals : Seals) (old : State K) (plain : ℕ → InPlain)
    (alone : ℕ → Alone) (run : List (Happening K)) : Type 0 where
  is : IsRun old run
  lanes : (lane : ℕ) → IsLane (last_of old run) (plain_in seals old plain run) lane
      (alone_of atom seals (alone lane) (own_calls lane run))
  answers : (lane : ℕ) → answered_under lane seals old plain run ≡ answers_of atom seals
      (alone lane) (own_calls lane run)

follows : {K : Type 0} (atom count : ℕ) (seals : Seals) (old : State K) (plain : ℕ → InPlain)
    (alone : ℕ → Alone) (run : List (Happening K)) → old.map.atom ≡ atom → length old.lanes ≡ count
    → IsSound old → ((k : ℕ) → IsLane old plain k (alone k)) → AreSteps old run
    → AreOfClients count run → ((k : ℕ) → AreMet atom seals (alone k) (own_calls k run))
    → Follows atom seals old plain alone run
unfolding IsRun last_of plain_in AreSteps AreOfClients AreMet own_calls answered_under
    alone_of answers_of
follows atom count seals old plain alone [] same long sound are steps clients met =
    record { is = tt; lanes = are; answers = λ lane. refl }
follows atom count seals old plain alone (one ∷ rest) same long sound are (step, steps)
    (client, clients) met =
    let own = lane_of one.event in
    let next = plain_after seals old one.event one.outcome plain in
    let parts = λ (k : ℕ).
    met-parts atom seals (alone k) (call_of k one) (own_calls k rest) (met k) in
    let meets : MeetsAlone seals (alone own) one.event = (rw (call-own one) at (parts own).0).0 in
    let met_so : Meets old one.event =
    meets_by seals old plain one.event (alone own) sound (are own) (rw long client) meets in
    let goes = event_effects old one.after one.event one.outcome step in
    let behind = follows atom count seals one.after next
    (λ k. alone_of atom seals (alone k) (call_of k one)) rest (rw goes.map same) (goes.lane_is.count
    ∙ long) (sound_kept old one.after one.event one.outcome sound met_so step)
    (λ k. subst (λ a. IsLane one.after next k (alone_of a seals (alone k) (call_of k one)))
    same (lane_step seals one k are sound meets step)) steps clients (λ k. (parts k).1) in
    record {
      is = (met_so, step, behind.is);
      lanes = λ k. rw (alone-joined atom seals (alone k) (call_of k one) (own_calls k rest))
          (behind.lanes k);
      answers = λ k. rw (answers_step seals one k are atom same, behind.answers k)
          (sym (answers-joined atom seals (alone k) (call_of k one) (own_calls k rest)));
    }

-- from a fresh start
idle_is : {K : Type 0} (start : State K) (lane : ℕ) → IsFresh start →
    IsLane start no_plain lane idle_lane
idle_is start lane fresh = record {
  operation = fresh.lanes lane;
  plain_is = refl;
  map = λ map o granted at. absurd (cc);
  holds = λ map o granted. absurd (cc);
}

pub are_alone : {K : Type 0} (start : State K) (seals : Seals) (run : List (Happening K)) →
    IsSound start → IsFresh start → AreSteps start run → AreMetByLanes start seals run →
    AreAlone start seals run
are_alone start seals run sound fresh steps by =
    let all = follows start.map.atom (length start.lanes) seals start no_plain
    (λ k. idle_lane) run refl refl sound (λ k. idle_is start k fresh) steps by.clients by.met in
    record { is = all.is; lanes = all.lanes; answers = all.answers }

lanes_stay : {K : Type 0} (start : State K) (run : List (Happening K)) → AreSteps start run →
    length (last_of start run).lanes ≡ length start.lanes
unfolding AreSteps last_of
lanes_stay start [] steps = refl
lanes_stay start (one ∷ rest) (step, steps) = lanes_stay one.after rest steps
    ∙ (event_effects start one.after one.event one.outcome step).lane_is.count

-- a run leaves a sound volume
sound_after : {K : Type 0} (start : State K) (run : List (Happening K)) → IsSound start →
    IsRun start run → IsSound (last_of start run)
unfolding IsRun last_of
sound_after start [] sound is = sound
sound_after start (one ∷ rest) sound (meets, step, is) = sound_after one.after rest
    (sound_kept start one.after one.event one.outcome sound meets step) is

pub next_meets : {K : Type 0} (start : State K)
    (seals : Seals) (run : List (Happening K)) (event : Event) → IsSound start → IsFresh start
    → AreSteps start run → AreMetByLanes start seals run → IsClient start (lane_of event)
    → MeetsAlone seals (alone_in start seals (lane_of event) run) event → Meets (last_of start run) event
next_meets start seals run event sound fresh steps by client meets =
    let alone = are_alone start seals run sound fresh steps by in
    meets_by seals (last_of start run) (plain_in seals start no_plain run)
    event (alone_in start seals (lane_of event) run) (sound_after start run sound alone.is)
    (alone.lanes (lane_of event)) (rw (lanes_stay start run steps) client) meets

-- one event more
calls-joined : {K : Type 0} (lane : ℕ) (run : List (Happening K)) (one : Happening K) →
    own_calls lane (run ++ one ∷ []) ≡ own_calls lane run ++ call_of lane one
unfolding own_calls
calls-joined lane [] one = append-nil (call_of lane one)
calls-joined lane (x ∷ run) one = rw (calls-joined lane run one)
    (sym (append_assoc (call_of lane x) (own_calls lane run) (call_of lane one)))

clients-joined : {K : Type 0} (count : ℕ) (run : List (Happening K)) (one : Happening K) →
    AreOfClients count run → suc (lane_of one.event) < count → AreOfClients count (run ++ one ∷ [])
unfolding AreOfClients
clients-joined count [] one are client = (client, tt)
clients-joined count (x ∷ run) one are client = (are.0, clients-joined count run one are.1 client)

pub more_met : {K : Type 0} (start : State K) (seals : Seals) (run : List (Happening K))
    (one : Happening K) → AreMetByLanes start seals run → IsClient start (lane_of one.event) →
    MeetsAlone seals (alone_in start seals (lane_of one.event) run) one.event →
    AreMetByLanes start seals (run ++ one ∷ [])
unfolding AreMet
more_met start seals run one by client meets = record {
  clients = clients-joined (length start.lanes) run one by.clients client;
  met = λ lane. rw (calls-joined lane run one) (met-joined start.map.atom seals idle_lane (own_calls
      lane run) (call_of lane one) (by.met lane) (elim (same_or_not (lane_of one.event) lane) [
        | inl own ↦ rw (← own, call-own one) (meets, tt)
        | inr other ↦ rw (call-other lane one other) tt
      ]));
}
