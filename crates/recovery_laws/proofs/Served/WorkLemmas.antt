-- What clients' events do to a volume they do to it without what its conversion takes.
use Rattle.std.proofs.Common.{◌≡◌, ◌∙◌, ℕ, Bool, true, false, List, [], ◌∷◌, ◌++◌, map, Option}
use Rattle.std.proofs.Common.{Some, None, MatchBool, MatchOption, Result, ap, ap₂, refl, sym, subst}
use Rattle.base_terms.specs.declared.failed.Failed.{Failed}
use Rattle.base_terms.specs.declared.block_range.BlockRange.{BlockRange}
use Rattle.range_lock.specs.declared.Entry.{Entry}
use Rattle.range_lock.specs.declared.Standing.{Standing}
use Rattle.range_lock.specs.declared.Standing.TheVariants.{Held}
use Rattle.range_lock.specs.Locks.{IsStanding, IsStandingOf}
use Rattle.segment_map.specs.declared.map.Piece.{Piece}
use Rattle.recovery_laws.specs.Served.Clients.{happening_without_work, without_work}
use Rattle.recovery_laws.specs.Served.Serving.{ClientsLeaveWork}
use Rattle.volume_machine.specs.Answers.{AreTagged, Answered}
use Rattle.volume_machine.specs.Asks.{entry_of, has_lock, range_of, wrong_ask}
use Rattle.volume_machine.specs.Edges.{InPlain}
use Rattle.volume_machine.specs.Events.{Event, Outcome, admits, asks, broken, device, done, fetches}
use Rattle.volume_machine.specs.Events.{finishes, got, held, reads, refused, settles, waits, writes}
use Rattle.volume_machine.specs.Runs.{Happening, IsRun, answered_by, answered_in, last_of, plain_after}
use Rattle.volume_machine.specs.Seals.{Seals}
use Rattle.volume_machine.specs.States.{State, size_of}
use Rattle.volume_machine.specs.Steps.{AdmitStep, Can, EdgeStep, FindsBroken}
use Rattle.volume_machine.specs.Steps.{Goes, IsAdmitted, Meets, PutsPiece, ReadStep}
use Rattle.volume_machine.specs.Steps.{SettleStep, Step, Syncs, TellsStanding, WriteStep}
use Rattle.volume_machine.specs.declared.ask.Ask.{Ask}
use Rattle.volume_machine.specs.declared.keys.Keys.{Keys}
use Rattle.volume_machine.specs.declared.open.Open.{Open}

-- ---- choices whose cases are led over
over-bool : (b : Bool) {P Q P' Q' : Type 0} → (P → P') → (Q → Q') → MatchBool b P Q
    → MatchBool b P' Q'
over-bool true p q is = p is
over-bool false p q is = q is

over-option : {T : Type 0} (o : Option T) {P P' : Type 0} {Q Q' : T → Type 0} → (P → P')
    → ((t : T) → Q t → Q' t) → MatchOption o P Q → MatchOption o P' Q'
over-option None p q is = p is
over-option (Some t) p q is = q t is

module _ {K : Type 0} where
  -- ---- what an event asks
  can-without : (s : State K) (event : Event) → Can s event → Can (without_work s) event
  unfolding Can
  can-without s (admits lane session ask) is = is
  can-without s (asks lane) is = is
  can-without s (reads lane len) is = is
  can-without s (fetches lane which) is = is
  can-without s (writes lane bytes) is = is
  can-without s (settles lane) is = is
  can-without s (finishes lane) is = is

  meets-without : (s : State K) (event : Event) → Meets s event → Meets (without_work s) event
  meets-without s event meets =
      record { client = meets.client; can = can-without s event meets.can }

  -- ---- what it does
  goes-without : (old new : State K) (lane : ℕ) (entries : List Entry) (now : Option Open)
      (is_broken : Bool) → Goes old new lane entries now is_broken
      → Goes (without_work old) (without_work new) lane entries now is_broken
  goes-without old new lane entries now is_broken goes = record {
    map = goes.map;
    keys = goes.keys;
    room = goes.room;
    entries_are = goes.entries_are;
    lane_is = goes.lane_is;
    broken_is = goes.broken_is;
    work = refl;
  }

  tells-without : (s : State K) (range : BlockRange) (stands : Standing → Type 0)
      (outcome : Outcome) → TellsStanding s range stands outcome
      → TellsStanding (without_work s) range stands outcome
  tells-without s range stands (held grant) (here, is) =
      (here, record { map = is.map; range_is = is.range_is })
  tells-without s range stands (waits lane) is = is
  tells-without s range stands (refused number) is = is
  tells-without s range stands (got bytes) is = is
  tells-without s range stands done is = is
  tells-without s range stands device is = is
  tells-without s range stands broken is = is

  admitted-without : (old : State K) (lane session : ℕ) (ask : Ask) (outcome : Outcome)
      (new : State K) → IsAdmitted old lane session ask outcome new
      → IsAdmitted (without_work old) lane session ask outcome (without_work new)
  admitted-without old lane session ask outcome new is = record {
    enters = over-bool (has_lock ask)
        (λ e. (
          e.0,
          tells-without old (range_of old.map.atom ask)
              (IsStanding old.entries (entry_of old.map.atom lane ask)) outcome e.1,
        ))
        (λ e. (
          e.0,
          tells-without old (range_of old.map.atom ask) (λ standing. standing ≡ Held)
              outcome e.1,
        )) is.enters;
    goes = goes-without old new lane _ _ _ is.goes;
    rests = is.rests;
  }

  same-without : (old new : State K) → new ≡ old → without_work new ≡ without_work old
  same-without old new same = ap (λ (s : State K). without_work s) same

  admit-without : (old : State K) (lane session : ℕ) (ask : Ask) (outcome : Outcome)
      (new : State K) → AdmitStep old lane session ask outcome new
      → AdmitStep (without_work old) lane session ask outcome (without_work new)
  admit-without old lane session ask outcome new is =
      over-option (wrong_ask old.map.atom (size_of old.map) ask)
      (over-bool old.broken (λ r. (r.0, same-without old new r.1))
      (admitted-without old lane session ask outcome new))
      (λ number r. (r.0, same-without old new r.1)) is

  finds-without : (old : State K) (lane : ℕ) (now : Option Open) (new : State K)
      → FindsBroken old lane now new
      → FindsBroken (without_work old) lane now (without_work new)
  finds-without old lane now new is =
      record { was = is.was; goes = goes-without old new lane _ _ _ is.goes; rests = is.rests }

  read-without : (old : State K) (lane : ℕ) (o : Open) (outcome : Outcome) (new : State K)
      → ReadStep old lane o outcome new
      → ReadStep (without_work old) lane o outcome (without_work new)
  read-without old lane o (got bytes) new is = record {
    was = is.was;
    piece = is.piece;
    next = is.next;
    are = is.are;
    call = is.call;
    goes = goes-without old new lane _ _ _ is.goes;
  }
  read-without old lane o device new is = record {
    was = is.was;
    piece = is.piece;
    next = is.next;
    bytes = is.bytes;
    call = is.call;
    goes = goes-without old new lane _ _ _ is.goes;
  }
  read-without old lane o broken new is = finds-without old lane _ new is
  read-without old lane o (held grant) new is = absurd is
  read-without old lane o (waits other) new is = absurd is
  read-without old lane o (refused number) new is = absurd is
  read-without old lane o done new is = absurd is

  fetch-without : (old : State K) (lane : ℕ) (o : Open) (which : ℕ) (outcome : Outcome)
      (new : State K) → EdgeStep old lane o which outcome new
      → EdgeStep (without_work old) lane o which outcome (without_work new)
  fetch-without old lane o which (got bytes) new is = record {
    was = is.was;
    some = is.some;
    are = is.are;
    call = is.call;
    goes = goes-without old new lane _ _ _ is.goes;
  }
  fetch-without old lane o which device new is = record {
    was = is.was;
    some = is.some;
    bytes = is.bytes;
    call = is.call;
    goes = goes-without old new lane _ _ _ is.goes;
  }
  fetch-without old lane o which broken new is = finds-without old lane _ new is
  fetch-without old lane o which (held grant) new is = absurd is
  fetch-without old lane o which (waits other) new is = absurd is
  fetch-without old lane o which (refused number) new is = absurd is
  fetch-without old lane o which done new is = absurd is

  puts-without : (old : State K) (lane : ℕ) (o : Open) (bytes : List ℕ)
      (result : Result (Unit {0}) Failed) (after : Piece → Open) (is_broken : Bool) (new : State K)
      → PutsPiece old lane o bytes result after is_broken new
      → PutsPiece (without_work old) lane o bytes result after is_broken (without_work new)
  puts-without old lane o bytes result after is_broken new is = record {
    was = is.was;
    piece = is.piece;
    next = is.next;
    are = is.are;
    call = is.call;
    goes = goes-without old new lane _ _ _ is.goes;
  }

  write-without : (old : State K) (lane : ℕ) (o : Open) (bytes : List ℕ) (outcome : Outcome)
      (new : State K) → WriteStep old lane o bytes outcome new
      → WriteStep (without_work old) lane o bytes outcome (without_work new)
  write-without old lane o bytes done new is = puts-without old lane o bytes _ _ _ new is
  write-without old lane o bytes device new is = puts-without old lane o bytes _ _ _ new is
  write-without old lane o bytes broken new is = finds-without old lane _ new is
  write-without old lane o bytes (held grant) new is = absurd is
  write-without old lane o bytes (waits other) new is = absurd is
  write-without old lane o bytes (refused number) new is = absurd is
  write-without old lane o bytes (got sealed) new is = absurd is

  syncs-without : (old : State K) (lane : ℕ) (result : Result (Unit {0}) Failed)
      (now : Option Open) (is_broken : Bool) (new : State K)
      → Syncs old lane result now is_broken new
      → Syncs (without_work old) lane result now is_broken (without_work new)
  syncs-without old lane result now is_broken new is =
      record { was = is.was; call = is.call; goes = goes-without old new lane _ _ _ is.goes }

  settle-without : (old : State K) (lane : ℕ) (o : Open) (outcome : Outcome) (new : State K)
      → SettleStep old lane o outcome new
      → SettleStep (without_work old) lane o outcome (without_work new)
  settle-without old lane o done new is = syncs-without old lane _ _ _ new is
  settle-without old lane o device new is = syncs-without old lane _ _ _ new is
  settle-without old lane o broken new is = finds-without old lane _ new is
  settle-without old lane o (held grant) new is = absurd is
  settle-without old lane o (waits other) new is = absurd is
  settle-without old lane o (refused number) new is = absurd is
  settle-without old lane o (got sealed) new is = absurd is

  step-without : (old : State K) (event : Event) (outcome : Outcome) (new : State K)
      → Step old event outcome new → Step (without_work old) event outcome (without_work new)
  unfolding Step
  step-without old (admits lane session ask) outcome new is =
      admit-without old lane session ask outcome new is
  step-without old (asks lane) outcome new ((o, here, tells), same) = (
    (o, here, tells-without old o.range (IsStandingOf lane old.entries) outcome tells),
    same-without old new same,
  )
  step-without old (reads lane len) outcome new (o, here, is) =
      (o, here, read-without old lane o outcome new is)
  step-without old (fetches lane which) outcome new (o, here, is) =
      (o, here, fetch-without old lane o which outcome new is)
  step-without old (writes lane bytes) outcome new (o, here, is) =
      (o, here, write-without old lane o bytes outcome new is)
  step-without old (settles lane) outcome new (o, here, is) =
      (o, here, settle-without old lane o outcome new is)
  step-without old (finishes lane) outcome new is = record {
    outcome_is = is.outcome_is;
    goes = goes-without old new lane _ _ _ is.goes;
    rests = is.rests;
  }

  -- ---- runs
  pub run-without : (old : State K) (run : List (Happening K)) → IsRun old run
      → IsRun (without_work old) (map happening_without_work run)
  unfolding IsRun
  run-without old [] is = tt
  run-without old (one ∷ rest) (meets, step, is) = (
    meets-without old one.event meets,
    step-without old one.event one.outcome one.after step,
    run-without one.after rest is,
  )

  pub last-without : (old : State K) (run : List (Happening K))
      → last_of (without_work old) (map happening_without_work run) ≡ without_work (last_of old run)
  unfolding last_of
  last-without old [] = refl
  last-without old (one ∷ rest) = last-without one.after rest

  plain-without : (seals : Seals) (old : State K) (event : Event) (outcome : Outcome)
      (plain : ℕ → InPlain) → plain_after seals (without_work old) event outcome plain
      ≡ plain_after seals old event outcome plain
  unfolding plain_after
  plain-without seals old (admits lane session ask) outcome plain = refl
  plain-without seals old (asks lane) outcome plain = refl
  plain-without seals old (reads lane len) (got bytes) plain = refl
  plain-without seals old (reads lane len) (held grant) plain = refl
  plain-without seals old (reads lane len) (waits other) plain = refl
  plain-without seals old (reads lane len) (refused number) plain = refl
  plain-without seals old (reads lane len) done plain = refl
  plain-without seals old (reads lane len) device plain = refl
  plain-without seals old (reads lane len) broken plain = refl
  plain-without seals old (fetches lane which) (got bytes) plain = refl
  plain-without seals old (fetches lane which) (held grant) plain = refl
  plain-without seals old (fetches lane which) (waits other) plain = refl
  plain-without seals old (fetches lane which) (refused number) plain = refl
  plain-without seals old (fetches lane which) done plain = refl
  plain-without seals old (fetches lane which) device plain = refl
  plain-without seals old (fetches lane which) broken plain = refl
  plain-without seals old (writes lane bytes) done plain = refl
  plain-without seals old (writes lane bytes) device plain = refl
  plain-without seals old (writes lane bytes) (held grant) plain = refl
  plain-without seals old (writes lane bytes) (waits other) plain = refl
  plain-without seals old (writes lane bytes) (refused number) plain = refl
  plain-without seals old (writes lane bytes) (got read) plain = refl
  plain-without seals old (writes lane bytes) broken plain = refl
  plain-without seals old (settles lane) outcome plain = refl
  plain-without seals old (finishes lane) outcome plain = refl

  answered-by-without : (old : State K) (event : Event) (outcome : Outcome) (plain : ℕ → InPlain)
      → answered_by (without_work old) event outcome plain ≡ answered_by old event outcome plain
  unfolding answered_by
  answered-by-without old event outcome plain = refl

  pub answered-without : (seals : Seals) (old : State K) (plain : ℕ → InPlain)
      (run : List (Happening K))
      → answered_in seals (without_work old) plain (map happening_without_work run)
      ≡ answered_in seals old plain run
  unfolding answered_in
  answered-without seals old plain [] = refl
  answered-without seals old plain (one ∷ rest) =
      ap₂ (λ (xs ys : List Answered). xs ++ ys)
      (answered-by-without old one.event one.outcome plain)
      (ap (λ p. answered_in seals (without_work one.after) p (map happening_without_work rest))
      (plain-without seals old one.event one.outcome plain)
      ∙ answered-without seals one.after (plain_after seals old one.event one.outcome plain) rest)

pub clients-leave-work : (C : Type 0) → ClientsLeaveWork C
clients-leave-work C seals old new run history is = record {
  is = run-without old run is.is;
  last = last-without old run ∙ ap (λ (s : State (Keys C)). without_work s) is.last;
  answers = λ plain. subst (λ (answered : List Answered). AreTagged answered history)
      (sym (answered-without seals old plain run)) (is.answers plain);
}
