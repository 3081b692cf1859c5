-- A session of one lane, as one with one request in flight.
use Rattle.std.proofs.Common.{◌≡◌, ◌≢◌, ℕ, ◌^◌, ◌+◌, ◌<◌, ◌≤◌, Bool, List, [], ◌∷◌, ◌++◌, Option}
use Rattle.std.proofs.Common.{Some, None, length, refl, sym, ◌∙◌, ap, subst, arith, append_assoc}
use Rattle.std.proofs.Common.{append-nil, length-append}
use Rattle.plain_disk.specs.declared.operation.Op.{Op}
use Rattle.nbd_stream.specs.declared.ending.Ending.{Ending}
use Rattle.nbd_stream.specs.declared.ending.Ending.TheVariants.{Memory, PortSpent, ReadFault, TooMany, WriteFault}
use Rattle.nbd_stream.specs.Endings.{IsCount}
use Rattle.nbd_stream.specs.Moments.{GoesOut, HasCauses, Moment}
use Rattle.nbd_hand.specs.declared.export.Export.{Export}
use Rattle.nbd_hand.specs.Handshakes as Handshakes
use Rattle.nbd_hand.specs.Handshakes.{Stage, agreed_in, greeted, negotiating, served}
use Rattle.nbd_session.specs.declared.ending.SessionEnd.{SessionEnd}
use Rattle.nbd_session.specs.Asking.{Asked, SpellsAsked, asked_of}
use Rattle.nbd_session.specs.Flights.{AreAnswered, AreOperations, AreTaken, FlightLog, IsEndingOf}
use Rattle.nbd_session.specs.Flights.{IsFlight, LacksBy, SinkBy, SourceBy, handshake_of}
use Rattle.nbd_session.specs.Flights as Flights
use Rattle.nbd_session.specs.Grammar.{AreRequests, EndsRequests}
use Rattle.nbd_session.specs.Requests.{IsMessage}
use Rattle.nbd_session.specs.Session as Session
use Rattle.nbd_session.specs.Session.{IsSession, Log}
use Rattle.nbd_session.specs.Takes.{ReadingEnds, StopsReading}
use Rattle.nbd_session.specs.Turns.{Spells, Turn, replies_to}
use Rattle.nbd_session.proofs.OneLaneLemmas.{at-zero, lane-ordered, nothing-asked}
use Rattle.nbd_session.proofs.RequestLemmas.{asked_of-length}

-- ---- what was taken
-- requests that were answered, as turns
spells-turns : (structured : Bool) (turns : List Turn) (text : List ℕ)
    → SpellsAsked structured (asked_of turns) text → AreAnswered turns
    → Spells structured turns text
unfolding Spells SpellsAsked AreAnswered asked_of
spells-turns structured [] text spells answered = spells
spells-turns structured (turn ∷ turns) text spells answered = (
  spells.0,
  spells.1,
  spells.2,
  record { message = spells.3; answered = answered.0 },
  spells-turns structured turns spells.1 spells.4 answered.1,
)

-- the last one by itself
record LastSpelt (structured : Bool) (asked : List Asked) (one : Asked) (text : List ℕ) : Type 0 where
  front : List ℕ
  message : List ℕ
  parts : text ≡ front ++ message
  spells : SpellsAsked structured asked front
  is : IsMessage structured message one.cookie one.asked one.form

last-spelt : (structured : Bool) (asked : List Asked) (one : Asked) (text : List ℕ)
    → SpellsAsked structured (asked ++ one ∷ []) text → LastSpelt structured asked one text
unfolding SpellsAsked
last-spelt structured [] one text spelt = record {
  front = [];
  message = spelt.0;
  parts = spelt.2 ∙ ap (λ x. spelt.0 ++ x) spelt.4 ∙ append-nil spelt.0;
  spells = refl;
  is = spelt.3;
}
last-spelt structured (first ∷ asked) one text spelt =
    let more = last-spelt structured asked one spelt.1 spelt.4 in record {
      front = spelt.0 ++ more.front;
      message = more.message;
      parts = spelt.2 ∙ ap (λ x. spelt.0 ++ x) more.parts
          ∙ sym (append_assoc spelt.0 more.front more.message);
      spells = (spelt.0, more.front, refl, spelt.3, more.spells);
      is = more.is;
    }

-- the one request that was left
record OneLeft (left : List Asked) : Type 0 where
  one : Asked
  is : left ≡ one ∷ []

one-left : (left : List Asked) → left ≢ [] → length left ≤ 1 → OneLeft left
one-left [] some few = absurd (some refl)
one-left (one ∷ []) some few = record { one = one; is = refl }
one-left (one ∷ (other ∷ left)) some few = absurd (omega (arith, few))

first-operation : (one : Asked) → AreOperations (one ∷ []) → (op : Op) × (one.asked ≡ Some op)
unfolding AreOperations
first-operation one are = are.0

some-turns : (turns : List Turn) → replies_to turns ≢ [] → 0 < length turns
unfolding replies_to
some-turns [] some = absurd (some refl)
some-turns (turn ∷ turns) some = omega arith

pub reads-requests : (structured : Bool) (ending : Ending) (ended : Bool) (rest : List ℕ)
    → StopsReading ending ended rest → EndsRequests structured ending ended rest
reads-requests structured (TooMany m) ended rest stops = stops
reads-requests structured WriteFault ended rest stops = absurd stops
reads-requests structured PortSpent ended rest stops = absurd stops
reads-requests structured _ ended rest stops = stops

-- ---- the requests
-- those of a lane that is alone, as those of a session
record AsRequests (structured : Bool) (ending : Ending) (read : Option Ending) (turns : List Turn)
    (sent : List (List ℕ)) (requests : List ℕ) (ended : Bool) : Type 0 where
  are : AreRequests structured (Some ending) turns (length turns) requests ended
  sent_are : sent ≡ replies_to turns
  source : (before now : ℕ) → SourceBy read before now → SourceBy (Some ending) before now

all-asked : (asked : List Asked) (turns : List Turn) (left : List Asked)
    → asked ≡ asked_of turns ++ left → left ≡ [] → asked ≡ asked_of turns
all-asked asked turns left is none =
    is ∙ ap (λ (them : List Asked). asked_of turns ++ them) none ∙ append-nil (asked_of turns)

all-sent : (replies sent unput : List (List ℕ)) → replies ≡ sent ++ unput → unput ≡ []
    → sent ≡ replies
all-sent replies sent unput is none =
    sym (is ∙ ap (λ (them : List (List ℕ)). sent ++ them) none ∙ append-nil sent)

-- all were answered
all-answered : (structured : Bool) (ending : Ending) (turns : List Turn) (asked : List Asked)
    (requests text rest : List ℕ) (ended : Bool) → requests ≡ text ++ rest
    → SpellsAsked structured asked text → asked ≡ asked_of turns → AreAnswered turns
    → EndsRequests structured ending ended rest → IsCount (2 ^ 32) ending (length asked)
    → AreRequests structured (Some ending) turns (length turns) requests ended
all-answered structured ending turns asked requests text rest ended parts spells same answered ends
    count =
    record {
      text = text;
      bytes = rest;
      parts = parts;
      spells = spells-turns structured turns text
          (subst (λ (them : List Asked). SpellsAsked structured them text) same spells) answered;
      ends = (
        ends,
        subst (λ (n : ℕ). IsCount (2 ^ 32) ending n)
            (ap (λ (them : List Asked). length them) same ∙ asked_of-length turns) count,
      );
    }

-- all but the last, which was left
last-left : (structured : Bool) (turns : List Turn) (asked : List Asked) (one : Asked)
    (requests text rest : List ℕ) (ended : Bool) → requests ≡ text ++ rest → rest ≡ []
    → SpellsAsked structured asked text → asked ≡ asked_of turns ++ one ∷ []
    → AreOperations (one ∷ []) → AreAnswered turns → length asked ≤ 2 ^ 32
    → AreRequests structured (Some PortSpent) turns (length turns) requests ended
last-left structured turns asked one requests text rest ended parts none spells same operations
    answered few =
    let last = last-spelt structured (asked_of turns) one text
    (subst (λ (them : List Asked). SpellsAsked structured them text) same spells) in
    let op = first-operation one operations in
    let all : length asked ≡ length (asked_of turns ++ one ∷ []) =
    ap (λ (them : List Asked). length them) same in
    let count : length turns < 2 ^ 32 =
    omega (arith, few, all, length-append (asked_of turns) (one ∷ []), asked_of-length turns) in
    record {
      text = last.front;
      bytes = last.message;
      parts = parts ∙ ap (λ (x : List ℕ). text ++ x) none ∙ append-nil text ∙ last.parts;
      spells = spells-turns structured turns last.front last.spells answered;
      ends = (
        (
          one.cookie,
          op.0,
          one.form,
          subst (λ (a : Option Op). IsMessage structured last.message one.cookie a one.form) op.1
              last.is,
        ),
        count,
      );
    }

nothing-at-zero : {X : Type 0} (items : ℕ → List X) (k : ℕ) → k < 1 → items k ≡ [] → items 0 ≡ []
nothing-at-zero items k below none =
    let first : k ≡ 0 = omega (arith, below) in subst (λ (j : ℕ). items j ≡ []) first none

some-at-zero : {X : Type 0} (items : ℕ → List X) (k : ℕ) → k < 1 → items k ≢ [] → items 0 ≢ []
some-at-zero items k below some = λ none. some (at-zero (λ j. items j ≡ []) none k below)

lane-requests : (structured : Bool) (ending : Ending) (read : Option Ending) (asked : List Asked)
    (turns : List Turn) (left : ℕ → List Asked) (unput : ℕ → List (List ℕ)) (sent : List (List ℕ))
    (requests : List ℕ) (ended : Bool) → ending ≢ Memory
    → AreTaken structured read asked requests ended → IsEndingOf 1 read asked ending
    → AreAnswered turns → asked ≡ asked_of turns ++ left 0 → replies_to turns ≡ sent ++ unput 0
    → length (left 0) + length (unput 0) ≤ 1 → AreOperations (left 0)
    → LacksBy ending 1 (λ k. sent) left unput
    → AsRequests structured ending read turns sent requests ended
lane-requests structured WriteFault read asked turns left unput sent requests ended other taken is
    answered asks replies few operations (k, below, some, none_left, all_put) =
    let none = is refl in
    let stops : ReadingEnds None (length asked) ended taken.rest =
    subst (λ (e : Option Ending). ReadingEnds e (length asked) ended taken.rest) none taken.ends in
    let same = all-asked asked turns (left 0) asks (nothing-at-zero left k below none_left) in
    let out = all-sent (replies_to turns) sent (unput 0) replies
    (nothing-at-zero unput k below all_put) in
    let many = some-turns turns (λ empty. some (out ∙ empty)) in
    let count : length asked ≡ length turns =
    ap (λ (them : List Asked). length them) same ∙ asked_of-length turns in
    let most = stops.2 in
    record {
      are = all-answered structured WriteFault turns asked requests taken.text taken.rest ended
          taken.parts taken.spells same answered stops.0
          (omega (arith, many, count), most);
      sent_are = out;
      source = λ before now by. subst (λ (e : Option Ending). SourceBy e before now) none by;
    }
lane-requests structured PortSpent read asked turns left unput sent requests ended other taken is
    answered asks replies few operations ((k, below, some), all_put) =
    let none = is refl in
    let stops : ReadingEnds None (length asked) ended taken.rest =
    subst (λ (e : Option Ending). ReadingEnds e (length asked) ended taken.rest) none taken.ends in
    let last = one-left (left 0) (some-at-zero left k below some) (omega (arith, few)) in
    record {
      are = last-left structured turns asked last.one requests taken.text taken.rest ended
          taken.parts stops.0 taken.spells
          (asks ∙ ap (λ (them : List Asked). asked_of turns ++ them) last.is)
          (subst (λ (them : List Asked). AreOperations them) last.is operations) answered stops.2;
      sent_are = all-sent (replies_to turns) sent (unput 0) replies (all_put 0 (omega arith));
      source = λ before now by. subst (λ (e : Option Ending). SourceBy e before now) none by;
    }
lane-requests structured Memory read asked turns left unput sent requests ended other taken is
    answered asks replies few operations lacks = absurd (other refl)
lane-requests structured ending read asked turns left unput sent requests ended other taken is
    answered asks replies few operations lacks =
    let none = lacks 0 (omega arith) in
    let stops : ReadingEnds (Some ending) (length asked) ended taken.rest =
    subst (λ (e : Option Ending). ReadingEnds e (length asked) ended taken.rest) is taken.ends in
    record {
      are = all-answered structured ending turns asked requests taken.text taken.rest ended
          taken.parts taken.spells (all-asked asked turns (left 0) asks none.0) answered
          (reads-requests structured ending ended taken.rest stops.0) stops.1;
      sent_are = all-sent (replies_to turns) sent (unput 0) replies none.1;
      source = λ before now by. subst (λ (e : Option Ending). SourceBy e before now) is by;
    }

-- ---- the session
-- the log of a session of lanes with these turns
abbrev pub log-of : FlightLog → List Turn → Log
log-of flight turns = record {
  stage = flight.stage;
  flags = flight.flags;
  options = flight.options;
  last = flight.last;
  turns = turns;
  taken = flight.taken;
  whole = flight.whole;
  front = flight.front;
  ended = flight.ended;
}

-- what failed, by what ended the session
causes-of : (a b : Moment) (ending : Ending) → SourceBy (Some ending) a.source.faults b.source.faults
    → SinkBy ending a.sink.faults b.sink.faults → HasCauses a b ending
causes-of a b ReadFault source sink = (source, sink)
causes-of a b WriteFault source sink = (source, sink)
causes-of a b _ source sink = (source, sink)

-- a session with one request in flight and this log
record AsSession (export : Export) (end : SessionEnd) (old new : Moment) (flight : FlightLog) : Type 0
  where
    session : IsSession export end old new (log-of flight (flight.lanes 0))

as-session : (export : Export) (end : SessionEnd) (old new : Moment) (flight : FlightLog)
    → IsFlight 1 export end old new flight
    → Session.IsInput flight.stage (log-of flight (flight.lanes 0)) end.ending
    → flight.sent ≡ replies_to (flight.lanes 0)
    → SourceBy (Some end.ending) old.source.faults new.source.faults
    → AsSession export end old new flight
as-session export end old new flight is input sent source = record {
  session = record {
    number = is.number;
    input = input;
    talks = record {
      traffic = is.traffic;
      at_end = is.at_end;
      by_case = (
        subst (λ (them : List (List ℕ)). GoesOut end.ending
            (Handshakes.messages_of export (handshake_of flight) ++ them) flight.whole flight.front)
            sent is.goes,
        causes-of old new end.ending source is.sink_failed,
      );
    };
    taken = is.taken;
    put = is.put;
  };
}

session-at : (export : Export) (end : SessionEnd) (old new : Moment) (flight : FlightLog)
    → IsFlight 1 export end old new flight → (stage : Stage) → flight.stage ≡ stage
    → (stage ≡ served → end.ending ≢ Memory) → Flights.IsInput 1 stage flight end.ending
    → AsSession export end old new flight
session-at export end old new flight is served at other input =
    let structured = (agreed_in (handshake_of flight)).structured in
    let ordered = lane-ordered end.ending flight.asked flight.lanes flight.left flight.unput
    flight.sent input.6 in
    let lane = lane-requests structured end.ending flight.read flight.asked (flight.lanes 0)
    flight.left flight.unput flight.sent input.1 flight.ended (other refl) input.4 input.5
    (input.6.answered 0 (omega arith)) ordered.0 ordered.1 ordered.2
    (input.6.operations 0 (omega arith)) ordered.3 in
    as-session export end old new flight is
    (subst (λ (s : Stage). Session.IsInput s (log-of flight (flight.lanes 0)) end.ending) (sym at) (
      input.0,
      input.1,
      record { fit = input.2.fit; parts = input.2.parts },
      input.3,
      lane.are,
    )) lane.sent_are
    (lane.source old.source.faults new.source.faults is.source_failed)
session-at export end old new flight is greeted at other input =
    as-session export end old new flight is
    (subst (λ (s : Stage). Session.IsInput s (log-of flight (flight.lanes 0)) end.ending) (sym at)
    ((input.2 0).0, input.4))
    (input.3 ∙ sym (nothing-asked (flight.lanes 0) (input.2 0).0))
    (subst (λ (e : Option Ending). SourceBy e old.source.faults new.source.faults) input.1
    is.source_failed)
session-at export end old new flight is negotiating at other input =
    as-session export end old new flight is
    (subst (λ (s : Stage). Session.IsInput s (log-of flight (flight.lanes 0)) end.ending) (sym at)
    ((input.2 0).0, input.4))
    (input.3 ∙ sym (nothing-asked (flight.lanes 0) (input.2 0).0))
    (subst (λ (e : Option Ending). SourceBy e old.source.faults new.source.faults) input.1
    is.source_failed)

pub flight-session : Flights.FlightsAreSessions
flight-session export end old new flight is other = (
  log-of flight (flight.lanes 0),
  refl,
  refl,
  (session-at export end old new flight is flight.stage refl other is.input).session,
)
