-- What each event leaves.
use Rattle.std.proofs.Common.{Bool, List, MatchBool, MatchOption, None, Option, Some, [], ap, arith}
use Rattle.std.proofs.Common.{false, if◌then◌else◌, inl, inr, length, refl, sym, true, ℕ, ◌++◌, ◌+◌}
use Rattle.std.proofs.Common.{◌/◌, ◌||◌, ◌∙◌, ◌∷◌, ◌≡◌}
use Rattle.std.proofs.Math.Nat.{mul-div_cancel}
use Rattle.std.proofs.lemmas.Bool.{MatchBool-at_false, MatchBool-at_true, cases_Bool as either}
use Rattle.base_terms.specs.Causes.{HasCause}
use Rattle.range_lock.specs.Locks.{IsStandingOf}
use Rattle.range_lock.specs.declared.Entry.{Entry}
use Rattle.sector_disk.specs.Cells.{Cell}
use Rattle.sector_disk.specs.Steps.{MovesOrNot, Told}
use Rattle.segment_map.specs.declared.map.Map.{Map}
use Rattle.segment_map.specs.declared.map.Piece.{Piece}
use Rattle.volume_machine.specs.Alone.{open_after, passed}
use Rattle.volume_machine.specs.Asks.{entry_of, has_lock, wrong_ask}
use Rattle.volume_machine.specs.Effects.{DiskGoes, Effects, Grows, breaks, entries_after, is_fault}
use Rattle.volume_machine.specs.Events.{Event, Outcome, admits, asks, broken, device, done}
use Rattle.volume_machine.specs.Events.{fetches, finishes, got, held, lane_of, reads, refused}
use Rattle.volume_machine.specs.Events.{settles, waits, writes}
use Rattle.volume_machine.specs.Pieces.{ArePieceBytes, IsPieceOf, moved}
use Rattle.volume_machine.specs.States.{State, open_at, size_of}
use Rattle.volume_machine.specs.Steps.{EdgeStep, Goes, IsAdmitted, ReadStep, SettleStep}
use Rattle.volume_machine.specs.Steps.{TellsStanding, WriteStep, Step}
use Rattle.volume_machine.specs.declared.ask.Ask.{Ask}
use Rattle.volume_machine.specs.declared.open.Open.{Open}
use Rattle.sector_disk.specs.{Devices.Device, Devices.failed_call, Devices.succeeded, Steps.Moves}

-- what the disk tells after no call, after one that succeeded, and after one that failed
rests_go : {failed : Bool} {old new : Device} → failed ≡ false → new ≡ old → DiskGoes failed old new
rests_go fine same = rw same (record {
  size = refl;
  atoms = refl;
  later = omega arith;
  rose = λ rose. absurd (cc);
  tables = λ now is. (now, is, inl refl);
})

grows : (S : List Cell → List Cell → Type 0) (old new : Option Told) → MovesOrNot S old new
    → Grows old new
grows S old new (inl same) = λ now is. (now, sym same ∙ is, inl refl)
grows S old new (inr moves) = λ now is. let (before, was, moved) = moves now is in
    (before, was, inr moved.one)

call_goes : (S : List Cell → List Cell → Type 0) {old new : Device} → new.size ≡ old.size →
    new.atoms ≡ old.atoms → HasCause old.faults new.faults succeeded → Moves S old.told new.told →
    DiskGoes false old new
call_goes S {old} {new} size atoms cause told = record {
  size = size;
  atoms = atoms;
  later = cause.later;
  rose = λ rose. absurd (cc);
  tables = grows S old.told new.told (inr told);
}

call_fails : (S : List Cell → List Cell → Type 0) {old new : Device} → new.size ≡ old.size →
    new.atoms ≡ old.atoms → HasCause old.faults new.faults failed_call →
    MovesOrNot S old.told new.told → DiskGoes true old new
call_fails S {old} {new} size atoms cause told = record {
  size = size;
  atoms = atoms;
  later = cause.later;
  rose = λ rose. cause.failed refl;
  tables = grows S old.told new.told told;
}

-- a piece that was made moves its operation on by its blocks
pub passed-moved : (map : Map) (o : Open) (piece : Piece) (bytes : List ℕ) → IsPieceOf map o piece →
    ArePieceBytes map piece bytes → passed map.atom bytes o ≡ moved o piece
passed-moved map o piece bytes next are =
    let count : length bytes / map.atom ≡ piece.count = rw are.size
    (mul-div_cancel piece.count map.some_atom) in
    let at : o.next + length bytes / map.atom ≡ piece.first + piece.count = omega arith in
    ap (λ n. record o { next = n }) at

or_false : (b : Bool) → b ≡ (b || false)
or_false true = refl
or_false false = refl

module _ {K : Type 0} {old new : State K} where
  same_effects : (event : Event) (outcome : Outcome) → new ≡ old →
      entries_after old.map.atom event outcome old.entries ≡ old.entries →
      open_after old.map.atom event outcome (open_at old.lanes (lane_of event)) ≡ open_at old.lanes
      (lane_of event) → breaks event outcome ≡ false → is_fault outcome ≡ false →
      Effects event outcome old new
  same_effects event outcome same entries now whole fine = rw same (record {
    map = refl;
    keys = refl;
    room = refl;
    entries_are = sym entries;
    lane_is = record { count = refl; own = sym now; others = λ k other. refl };
    broken_is = rw whole (or_false old.broken);
    work = refl;
    disk = rests_go fine refl;
  })

  goes_effects : (event : Event) (outcome : Outcome) {entries : List Entry} {now : Option Open}
      {is_broken : Bool} → Goes old new (lane_of event) entries now is_broken →
      entries ≡ entries_after old.map.atom event outcome old.entries →
      now ≡ open_after old.map.atom event outcome (open_at old.lanes (lane_of event)) →
      is_broken ≡ (old.broken || breaks event outcome) →
      DiskGoes (is_fault outcome) old.disk new.disk → Effects event outcome old new
  goes_effects event outcome goes entries now broken_so disk = record {
    map = goes.map;
    keys = goes.keys;
    room = goes.room;
    entries_are = goes.entries_are ∙ entries;
    lane_is = rw (← now) goes.lane_is;
    broken_is = goes.broken_is ∙ broken_so;
    work = goes.work;
    disk = disk;
  }

  -- an operation that was admitted waits or holds its blocks
  enters : {lane session : ℕ} {ask : Ask} {outcome : Outcome} →
      IsAdmitted old lane session ask outcome new → new.entries ≡
      (if has_lock ask then old.entries ++ entry_of old.map.atom lane ask ∷ [] else old.entries)
  enters {ask = ask} is = elim (either (has_lock ask)) [
    | inl has ↦ rw has (MatchBool-at_true _ _ has is.enters).0
    | inr none ↦ rw none (MatchBool-at_false _ _ none is.enters).0
  ]

  admitted_effects : (lane session : ℕ) (ask : Ask) (outcome : Outcome) →
      IsAdmitted old lane session ask outcome new →
      Effects (admits lane session ask) outcome old new
  admitted_effects lane session ask (held grant) is = goes_effects (admits lane session ask)
      (held grant) is.goes (enters is) refl (or_false old.broken) (rests_go refl is.rests)
  admitted_effects lane session ask (waits other) is = goes_effects (admits lane session ask)
      (waits other) is.goes (enters is) refl (or_false old.broken) (rests_go refl is.rests)
  admitted_effects lane session ask _ is = absurd (elim (either (has_lock ask)) [
    | inl has ↦ (MatchBool-at_true _ _ has is.enters).1
    | inr none ↦ (MatchBool-at_false _ _ none is.enters).1
  ])

  admit_effects : (lane session : ℕ) (ask : Ask) (outcome : Outcome) (wrong : Option ℕ)
      → wrong_ask old.map.atom (size_of old.map) ask ≡ wrong
      → MatchOption wrong (MatchBool old.broken ((outcome ≡ refused 5) × (new ≡ old)) (IsAdmitted
      old lane session ask outcome new)) (λ number. (outcome ≡ refused number) × (new ≡ old))
      → Effects (admits lane session ask) outcome old new
  admit_effects lane session ask outcome (Some number) why (is, same) =
      rw is (same_effects (admits lane session ask) (refused number) same refl refl refl refl)
  admit_effects lane session ask outcome None why step = elim (either old.broken) [
    | inl was ↦ let (is, same) = MatchBool-at_true _ _ was step in
        rw is (same_effects (admits lane session ask) (refused 5) same refl refl refl refl)
    | inr whole ↦ admitted_effects lane session ask outcome (MatchBool-at_false _ _ whole step)
  ]

  -- asking changes nothing, whatever is answered
  ask_effects : (lane : ℕ) (o : Open) (outcome : Outcome) →
      TellsStanding old o.range (λ standing. IsStandingOf lane old.entries standing) outcome →
      new ≡ old → Effects (asks lane) outcome old new
  ask_effects lane o (held grant) tells same = same_effects (asks lane) _ same refl refl refl refl
  ask_effects lane o (waits other) tells same = same_effects (asks lane) _ same refl refl refl refl
  ask_effects lane o _ tells same = absurd tells

  -- the operation of the lane is known
  read_effects : (lane len : ℕ) (o : Open) (outcome : Outcome) → open_at old.lanes lane ≡ Some o →
      ReadStep old lane o outcome new → Effects (reads lane len) outcome old new
  read_effects lane len o (got bytes) at step =
      let it = step.call in goes_effects (reads lane len) (got bytes) step.goes refl
      (rw (at, passed-moved old.map o step.piece bytes step.next step.are) refl) (rw step.was refl)
      (call_goes _ it.size it.atoms it.cause it.told)
  read_effects lane len o device at step =
      let it = step.call in goes_effects (reads lane len) device step.goes refl (rw at refl)
      (rw step.was refl) (call_fails _ it.size it.atoms it.cause it.told)
  read_effects lane len o broken at step = goes_effects (reads lane len)
      broken step.goes refl (rw at refl) (rw step.was refl) (rests_go refl step.rests)
  read_effects lane len o _ at step = absurd step

  fetch_effects : (lane which : ℕ) (o : Open) (outcome : Outcome) →
      open_at old.lanes lane ≡ Some o → EdgeStep old lane o which outcome new →
      Effects (fetches lane which) outcome old new
  fetch_effects lane which o (got bytes) at step =
      let it = step.call in goes_effects (fetches lane which) (got bytes) step.goes refl
      (rw at refl) (rw step.was refl) (call_goes _ it.size it.atoms it.cause it.told)
  fetch_effects lane which o device at step =
      let it = step.call in goes_effects (fetches lane which) device step.goes refl (rw at refl)
      (rw step.was refl) (call_fails _ it.size it.atoms it.cause it.told)
  fetch_effects lane which o broken at step = goes_effects (fetches lane which)
      broken step.goes refl (rw at refl) (rw step.was refl) (rests_go refl step.rests)
  fetch_effects lane which o _ at step = absurd step

  write_effects : (lane : ℕ) (o : Open) (bytes : List ℕ) (outcome : Outcome) →
      open_at old.lanes lane ≡ Some o → WriteStep old lane o bytes outcome new →
      Effects (writes lane bytes) outcome old new
  write_effects lane o bytes done at step =
      let it = step.call in goes_effects (writes lane bytes) done step.goes refl
      (rw (at, passed-moved old.map o step.piece bytes step.next step.are) refl) (rw step.was refl)
      (call_goes _ it.size it.atoms it.cause it.told)
  write_effects lane o bytes device at step =
      let it = step.call in goes_effects (writes lane bytes) device step.goes refl (rw at refl)
      (rw step.was refl) (call_fails _ it.size it.atoms it.cause it.told)
  write_effects lane o bytes broken at step = goes_effects (writes lane bytes)
      broken step.goes refl (rw at refl) (rw step.was refl) (rests_go refl step.rests)
  write_effects lane o bytes _ at step = absurd step

  settle_effects : (lane : ℕ) (o : Open) (outcome : Outcome) → open_at old.lanes lane ≡ Some o →
      SettleStep old lane o outcome new → Effects (settles lane) outcome old new
  settle_effects lane o done at step =
      let it = step.call in goes_effects (settles lane) done step.goes refl (rw at refl)
      (rw step.was refl) (call_goes _ it.size it.atoms it.cause it.told)
  settle_effects lane o device at step =
      let it = step.call in goes_effects (settles lane) device step.goes refl (rw at refl)
      (rw step.was refl) (call_fails _ it.size it.atoms it.cause it.told)
  settle_effects lane o broken at step = goes_effects (settles lane)
      broken step.goes refl (rw at refl) (rw step.was refl) (rests_go refl step.rests)
  settle_effects lane o _ at step = absurd step

pub event_effects : {K : Type 0} (old new : State K) (event : Event) (outcome : Outcome) →
    Step old event outcome new → Effects event outcome old new
unfolding Step
event_effects old new (admits lane session ask) outcome step =
    admit_effects lane session ask outcome _ refl step
event_effects old new (asks lane) outcome ((o, at, tells), same) =
    ask_effects lane o outcome tells same
event_effects old new (reads lane len) outcome (o, at, step) =
    read_effects lane len o outcome at step
event_effects old new (fetches lane which) outcome (o, at, step) =
    fetch_effects lane which o outcome at step
event_effects old new (writes lane bytes) outcome (o, at, step) =
    write_effects lane o bytes outcome at step
event_effects old new (settles lane) outcome (o, at, step) = settle_effects lane o outcome at step
event_effects old new (finishes lane) outcome step = rw step.outcome_is (goes_effects
    (finishes lane) done step.goes refl refl (or_false old.broken) (rests_go refl step.rests))
