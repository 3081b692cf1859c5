-- Operations that begin, and those that wait: what holds between events goes on to hold.
use Rattle.std.proofs.Common.{List, None, Option, [], ap, arith, false, inl, inr, length, nat_eq}
use Rattle.std.proofs.Common.{refl, suc, sym, true, ℕ, ◌*◌, ◌-◌, ◌<◌, ◌∙◌, ◌≡◌, ◌≢◌, ◌≤◌}
use Rattle.std.proofs.lemmas.Bool.{cases_Bool as either}
use Rattle.plain_disk.specs.Plain.{Block}
use Rattle.range_lock.specs.Locks.{IsStanding}
use Rattle.range_lock.specs.declared.Standing.{Standing}
use Rattle.range_lock.specs.declared.Standing.TheVariants.{Held}
use Rattle.sector_disk.specs.DiskViews.Views.{IsUnchanged, View}
use Rattle.volume_machine.specs.Answers.{by_admit}
use Rattle.volume_machine.specs.Asks.{entry_of, has_lock, range_of, wrong_ask}
use Rattle.volume_machine.specs.Edges.{InPlain, nothing}
use Rattle.volume_machine.specs.Events.{Outcome, held, waits}
use Rattle.volume_machine.specs.Runs.{with_plain}
use Rattle.volume_machine.specs.Seals.{Seals}
use Rattle.volume_machine.specs.Sound.{IsSound}
use Rattle.volume_machine.specs.States.{LaneBecomes, State, begun, open_at, size_of}
use Rattle.volume_machine.specs.Steps.{Holds, IsAdmitted, TellsStanding}
use Rattle.volume_machine.specs.{declared.ask.Ask.Ask, declared.open.Open.Open}
use Rattle.volume_machine.proofs.{Locking.holds-more, Soundness.begins}
use Rattle.volume_laws.proofs.Invariant.{LaneKnows, Logic, Shown, TriesNothing, goes_stays}
use Rattle.volume_laws.proofs.Invariant.{lanes_still, logic_kept, shown_kept, writes_stay}

-- what is known by other lanes, and by this one
module _ (plain : ℕ → InPlain) (lane : ℕ) (now : InPlain) where
  pub plain-other : (k : ℕ) → k ≢ lane → with_plain plain lane now k ≡ plain k
  plain-other k other = elim (either (nat_eq k lane)) [
    | inl same ↦ absurd (other (grind (arith, same)))
    | inr differs ↦ rw differs refl
  ]

  pub plain-own : with_plain plain lane now lane ≡ now
  plain-own = elim (either (nat_eq lane lane)) [
    | inl same ↦ rw same refl
    | inr differs ↦ absurd (grind (arith, differs))
  ]

module _ {K : Type 0} {state : State K} {plain : ℕ → InPlain} {lane : ℕ} where
  -- a lane that knows nothing has tried nothing
  pub untried : 0 < state.map.atom → plain lane ≡ nothing → TriesNothing state plain lane
  untried some none b value is =
      let size : length (plain lane).bytes ≡ 0 = ap (λ p. length p.bytes) none in
      let least : state.map.atom ≤ suc (b - is.o.range.start) * state.map.atom = grind arith in
      omega arith

  -- a lane without an operation has tried nothing
  pub idle : open_at state.lanes lane ≡ None → TriesNothing state plain lane
  idle free b value is = cc

  -- an operation that was admitted has done nothing yet
  pub knows_nothing : {left : List Block} {o : Open} → plain lane ≡ nothing → o.fetched ≡ 0
      → o.next ≡ o.range.start
      → o.range.start ≤ o.range.end → o.settled ≡ false → o.failed ≡ false
      → LaneKnows state plain left lane o
  knows_nothing none unread first ordered unsettled unfailed = record {
    count = 0;
    are = rw none (record { size = omega arith; are_bytes = λ k. omega arith });
    least = omega arith;
    most = omega arith;
    exact = λ whole. omega arith;
    holds = λ some. absurd (omega arith);
    reads = λ is k below. absurd (omega arith);
    kept = λ settled. absurd (cc);
    breaks = λ writes failed some. absurd (omega arith);
    beside = λ b from to of. absurd (omega arith);
    edges = rw (none, unread) (record {
      size = refl;
      few = omega arith;
      all = λ writes some. absurd (omega arith);
      are = λ which below. absurd (omega arith);
    });
    edges_hold = λ some. absurd (omega (arith, unread, some));
  }

itself : (lanes : List (Option Open)) (lane : ℕ) → LaneBecomes lanes lanes lane (open_at lanes lane)
itself lanes lane = record { count = refl; own = refl; others = λ k other. refl }

-- what an idle lane is said to know doesn't matter
module _ {K : Type 0} {state : State K} {plain : ℕ → InPlain} {left : List Block} (lane : ℕ)
    (now : InPlain) (free : open_at state.lanes lane ≡ None) where
  pub logic_forgets : Logic state plain left → Logic state (with_plain plain lane now) left
  logic_forgets logic = record {
    sound = logic.sound;
    are = logic.are;
    sure = logic.sure;
    lanes = lanes_still (record { map = refl; work = refl }) (itself state.lanes lane) (plain-other
        plain lane now) (λ k other holds. holds) (λ was. was) (λ o is. absurd (cc))
        (λ k other. logic.lanes k);
  }

  pub shown_forgets : {seals : Seals} {view next : View} → IsUnchanged view next
      → Shown state seals plain left view → Shown state seals (with_plain plain lane now) left next
  shown_forgets same = shown_kept (record { map = refl; work = refl })
      (writes_stay refl (itself state.lanes lane) (plain-other plain lane now) (idle free)
      (idle free) (λ o is forced settled. cc)) (λ whole. (whole, same.current)) same.candidates

module _ {K : Type 0} {old new : State K} {lane session : ℕ} {ask : Ask} {outcome : Outcome}
    (is : IsAdmitted old lane session ask outcome new) where
  -- which entries hold stays when another enters
  pub holds_admitted : (k : ℕ) → k ≢ lane → Holds old k → Holds new k
  holds_admitted k other holds = elim (either (has_lock ask)) [
    | inl has ↦ rw (rw has at is.enters).0
        (holds-more k old.entries (entry_of old.map.atom lane ask) (λ same. other (sym same)) holds)
    | inr has_none ↦ rw (rw has_none at is.enters).0 holds
  ]

  pub logic_admitted : {plain : ℕ → InPlain} {left : List Block} → Logic old plain left
      → IsSound new → wrong_ask old.map.atom (size_of old.map) ask ≡ None
      → Logic new (with_plain plain lane nothing) left
  logic_admitted {plain = plain} logic sound proper =
      let under_way = begins old.map session ask proper in
      logic_kept is.goes (λ whole. whole) sound (plain-other plain lane nothing) holds_admitted
      (λ o same. let e : o ≡ begun old.map.atom session ask = cc in
      rw e (knows_nothing (plain-own plain lane nothing) refl refl (omega arith) refl refl)) logic

  pub shown_admitted : {seals : Seals} {plain : ℕ → InPlain} {left : List Block} {view next : View}
      → 0 < old.map.atom → open_at old.lanes lane ≡ None → IsUnchanged view next
      → Shown old seals plain left view → Shown new seals (with_plain plain lane nothing) left next
  shown_admitted {plain = plain} some free same = shown_kept (goes_stays is.goes)
      (writes_stay is.goes.map is.goes.lane_is (plain-other plain lane nothing) (idle free)
      (untried (rw is.goes.map some) (plain-own plain lane nothing))
      (λ o begins_so forced settled. let e : o ≡ begun old.map.atom session ask = cc in
      let never : false ≡ true = rw e at settled in cc))
      (λ whole. (sym is.goes.broken_is ∙ whole, same.current)) same.candidates

  -- an operation that was admitted isn't answered yet
  pub unanswered : by_admit old.map.atom session ask outcome ≡ []
  unanswered = elim (either (has_lock ask)) [
    | inl has ↦ standing_tells outcome
        (IsStanding old.entries (entry_of old.map.atom lane ask)) (rw has at is.enters).1
    | inr has_none ↦ standing_tells outcome (λ standing. standing ≡ Held)
        (rw has_none at is.enters).1
  ]
    where
      standing_tells : (outcome : Outcome) (stands : Standing → Type 0)
          → TellsStanding old (range_of old.map.atom ask) stands outcome
          → by_admit old.map.atom session ask outcome ≡ []
      standing_tells (held grant) stands tells = refl
      standing_tells (waits other) stands tells = refl
      standing_tells _ stands tells = absurd tells
