-- A session of lanes that its input ended, as one that was read with one request in flight.
use Rattle.std.proofs.Common.{◌≡◌, ℕ, ◌^◌, Bool, false, List, [], ◌∷◌, Option, Some, None, length}
use Rattle.std.proofs.Common.{ap, refl, sym, subst, arith}
use Rattle.base_terms.specs.ErrorNumbers.{invalid, no_memory}
use Rattle.plain_disk.specs.declared.operation.Op.{Op}
use Rattle.plain_disk.specs.declared.operation.Reply.{Reply}
use Rattle.plain_disk.specs.declared.operation.Reply.TheVariants.{Errno}
use Rattle.nbd_stream.specs.declared.ending.Ending.{Ending}
use Rattle.nbd_stream.specs.declared.ending.Ending.TheVariants.{Memory, PortSpent, WriteFault}
use Rattle.nbd_stream.specs.Endings.{IsByInput, IsCount}
use Rattle.nbd_hand.specs.Handshakes.{Stage, agreed_in, greeted, negotiating, served}
use Rattle.nbd_session.specs.Asking.{Asked, SpellsAsked, asked_of}
use Rattle.nbd_session.specs.Flights.{FlightLog, FlightsReadAsSessions, IsEndingOf, handshake_of}
use Rattle.nbd_session.specs.Flights as Flights
use Rattle.nbd_session.specs.Session as Session
use Rattle.nbd_session.specs.Takes.{ReadingEnds}
use Rattle.nbd_session.specs.Turns.{IsAnswered, Spells, Turn}
use Rattle.nbd_session.proofs.OneLaneSessions.{log-of, reads-requests}

-- ---- a request that was answered 22 or 12, and not submitted
abbrev refusal_of : Option Op → Reply
refusal_of None = Errno invalid
refusal_of (Some op) = Errno no_memory

abbrev refused : Asked → Turn
refused one = record {
  cookie = one.cookie;
  asked = one.asked;
  form = one.form;
  reply = refusal_of one.asked;
  tried = 0;
  submitted = false;
}

unfoldable all-refused : List Asked → List Turn
all-refused [] = []
all-refused (one ∷ asked) = refused one ∷ all-refused asked

refused-asked : (asked : List Asked) → asked_of (all-refused asked) ≡ asked
unfolding asked_of all-refused
refused-asked [] = refl
refused-asked (one ∷ asked) = ap (λ rest. one ∷ rest) (refused-asked asked)

refused-length : (asked : List Asked) → length (all-refused asked) ≡ length asked
unfolding all-refused
refused-length [] = refl
refused-length (one ∷ asked) = let rest = refused-length asked in omega (arith, rest)

none-refused : (asked : List Asked) → asked ≡ [] → all-refused asked ≡ []
unfolding all-refused
none-refused [] none = refl
none-refused (one ∷ asked) none = absurd (cc)

refused-so : (asked : Option Op) → IsAnswered asked false (refusal_of asked) 0
refused-so None = (refl, refl, refl)
refused-so (Some op) = (refl, refl)

refused-spells : (structured : Bool) (asked : List Asked) (text : List ℕ)
    → SpellsAsked structured asked text → Spells structured (all-refused asked) text
unfolding Spells SpellsAsked all-refused
refused-spells structured [] text spells = spells
refused-spells structured (one ∷ asked) text spells = (
  spells.0,
  spells.1,
  spells.2,
  record { message = spells.3; answered = refused-so one.asked },
  refused-spells structured asked spells.1 spells.4,
)

-- ---- the session
-- an ending that the input brings is that of the reading
input-read : (depth : ℕ) (read : Option Ending) (asked : List Asked) (ending : Ending)
    → IsByInput ending → IsEndingOf depth read asked ending → read ≡ Some ending
input-read depth read asked WriteFault by is = absurd by
input-read depth read asked PortSpent by is = absurd by
input-read depth read asked Memory by is = absurd by
input-read depth read asked _ by is = is

reads-at : (depth : ℕ) (flight : FlightLog) (ending : Ending) → IsByInput ending → (stage : Stage)
    → Flights.IsInput depth stage flight ending
    → Session.IsInput stage (log-of flight (all-refused flight.asked)) ending
reads-at depth flight ending by served input =
    let structured = (agreed_in (handshake_of flight)).structured in
    let taken = input.4 in
    let ends : ReadingEnds (Some ending) (length flight.asked) flight.ended taken.rest =
    subst (λ (e : Option Ending). ReadingEnds e (length flight.asked) flight.ended taken.rest)
    (input-read depth flight.read flight.asked ending by input.5) taken.ends in (
      input.0,
      input.1,
      record { fit = input.2.fit; parts = input.2.parts },
      input.3,
      record {
        text = taken.text;
        bytes = taken.rest;
        parts = taken.parts;
        spells = refused-spells structured flight.asked taken.text taken.spells;
        ends = (
          reads-requests structured ending flight.ended taken.rest ends.0,
          subst (λ (n : ℕ). IsCount (2 ^ 32) ending n) (sym (refused-length flight.asked)) ends.1,
        );
      },
    )
reads-at depth flight ending by greeted input = (none-refused flight.asked input.0, input.4)
reads-at depth flight ending by negotiating input = (none-refused flight.asked input.0, input.4)

pub flights-read : FlightsReadAsSessions
flights-read depth export end old new flight by is = (
  log-of flight (all-refused flight.asked),
  refused-asked flight.asked,
  refl,
  reads-at depth flight end.ending by flight.stage is.input,
)
