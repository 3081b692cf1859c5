-- What an event leaves of other lanes.
use Rattle.std.proofs.Common.{inl, inr, length, sym, ℕ, ◌≡◌, ◌≢◌}
use Rattle.std.proofs.lemmas.Bool.{cases_Bool as either}
use Rattle.range_lock.specs.Locks.{IsStandingOf}
use Rattle.range_lock.specs.declared.Standing.TheVariants.{Held}
use Rattle.volume_machine.specs.Asks.{entry_of, has_lock}
use Rattle.volume_machine.specs.Effects.{entered, entries_after}
use Rattle.volume_machine.specs.Events.{Event, Outcome, admits, asks, fetches, finishes, lane_of}
use Rattle.volume_machine.specs.Events.{reads}
use Rattle.volume_machine.specs.Events.{refused, settles, writes}
use Rattle.volume_machine.specs.States.{State, open_at}
use Rattle.volume_machine.specs.Steps.{Holds, Meets, Can, Step}
use Rattle.volume_machine.specs.declared.ask.Ask.{Ask}
use Rattle.volume_machine.proofs.EventEffects.{event_effects}
use Rattle.volume_machine.proofs.Locking.{holds-more, holds-without}

-- what a lane holds it goes on to hold
enters_behind : (atom other : ℕ) (ask : Ask) (outcome : Outcome) (lane : ℕ) (entries : _) →
    lane ≢ other → IsStandingOf lane entries Held →
    IsStandingOf lane (entered atom other ask outcome entries) Held
enters_behind atom other ask (refused number) lane entries differ holds = holds
enters_behind atom other ask _ lane entries differ holds = elim (either (has_lock ask)) [
  | inl has ↦ rw has (holds-more lane entries (entry_of atom other ask)
      (λ same. differ (sym same)) holds)
  | inr has_none ↦ rw has_none holds
]

goes_on_holding : (atom : ℕ) (event : Event) (outcome : Outcome) (lane : ℕ) (entries : _) →
    lane ≢ lane_of event → IsStandingOf lane entries Held →
    IsStandingOf lane (entries_after atom event outcome entries) Held
goes_on_holding atom (admits other session ask) outcome lane entries differ holds =
    enters_behind atom other ask outcome lane entries differ holds
goes_on_holding atom (finishes other) outcome lane entries differ holds =
    holds-without other lane entries (λ same. differ (sym same)) holds
goes_on_holding atom _ outcome lane entries differ holds = holds

-- a lane's operation stays, and what it holds it goes on to hold
pub record IsLeft {K : Type 0} (old new : State K) (lane : ℕ) : Type 0 where
  pub count : length new.lanes ≡ length old.lanes
  pub map : new.map ≡ old.map
  pub own : open_at new.lanes lane ≡ open_at old.lanes lane
  pub holds : Holds old lane → Holds new lane

pub event_left : {K : Type 0} (old new : State K) (event : Event) (outcome : Outcome) (lane : ℕ) →
    Step old event outcome new → lane ≢ lane_of event → IsLeft old new lane
event_left old new event outcome lane step differ =
    let goes = event_effects old new event outcome step in record {
      count = goes.lane_is.count;
      map = goes.map;
      own = goes.lane_is.others lane differ;
      holds = λ holds. rw goes.entries_are
          (goes_on_holding old.map.atom event outcome lane old.entries differ holds);
    }

pub others_left : {K : Type 0} (old new : State K) (event : Event) (outcome : Outcome) (lane : ℕ) →
    Step old event outcome new → lane ≢ lane_of event →
    (open_at new.lanes lane ≡ open_at old.lanes lane) × (Holds old lane → Holds new lane)
others_left old new event outcome lane step differ =
    let left = event_left old new event outcome lane step differ in (left.own, left.holds)

-- what a call of another lane asks of the state is met after the event too
can_left : {K : Type 0} (old new : State K) (next : Event) → IsLeft old new (lane_of next) →
    Can old next → Can new next
unfolding Can
can_left old new (admits lane session ask) left can = rw left.own can
can_left old new (asks lane) left can = rw left.own can
can_left old new (reads lane len) left can = (rw (left.own, left.map) can.0, left.holds can.1)
can_left old new (fetches lane which) left can = (rw (left.own, left.map) can.0, left.holds can.1)
can_left old new (writes lane bytes) left can = (rw (left.own, left.map) can.0, left.holds can.1)
can_left old new (settles lane) left can = rw left.own can
can_left old new (finishes lane) left can = (rw left.own can.0, left.holds can.1)

pub still_meets : {K : Type 0} (old new : State K) (event next : Event) (outcome : Outcome) →
    Step old event outcome new → lane_of next ≢ lane_of event → Meets old next → Meets new next
still_meets old new event next outcome step differ meets =
    let left = event_left old new event outcome (lane_of next) step differ in record {
      client = rw left.count meets.client;
      can = can_left old new next left meets.can;
    }
