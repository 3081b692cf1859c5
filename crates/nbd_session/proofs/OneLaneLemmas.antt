-- A session with one request in flight, as one of one lane.
use Rattle.std.proofs.Common.{◌≡◌, ◌≢◌, ℕ, zero, suc, ◌<◌, ◌≤◌, Bool, true, false, List, []}
use Rattle.std.proofs.Common.{◌+◌, ◌∷◌, ◌++◌, Option, Some, None, length, refl, sym, ◌∙◌, ap}
use Rattle.std.proofs.Common.{subst, arith, append_assoc, append-nil, length-append}
use Rattle.nbd_stream.specs.declared.ending.Ending.{Ending}
use Rattle.nbd_stream.specs.declared.ending.Ending.TheVariants.{PortSpent, TooMany, WriteFault}
use Rattle.nbd_stream.specs.Moments.{HasCauses, Moment}
use Rattle.nbd_hand.specs.declared.export.Export.{Export}
use Rattle.nbd_hand.specs.Handshakes.{Stage, agreed_in, greeted, negotiating, served}
use Rattle.nbd_session.specs.declared.ending.SessionEnd.{SessionEnd}
use Rattle.nbd_session.specs.Asking.{Asked, SpellsAsked, asked_of}
use Rattle.nbd_session.specs.Flights.{AreAnswered, AreAnsweredBy, AreOperations, AreTaken, FlightLog}
use Rattle.nbd_session.specs.Flights.{IsEndingOf, IsFlight, IsOneLane, LacksBy, SourceBy, lane_zero}
use Rattle.nbd_session.specs.Flights as Flights
use Rattle.nbd_session.specs.Grammar.{AreRequests}
use Rattle.nbd_session.specs.Merges.{AreFrom, From, IsMerge, from, items_from, items_of}
use Rattle.nbd_session.specs.Requests.{IsMessage}
use Rattle.nbd_session.specs.Takes.{ReadingEnds, StopsReading}
use Rattle.nbd_session.specs.Session.{IsInput, IsSession, Log, handshake_of}
use Rattle.nbd_session.specs.Turns.{Turn, Spells, replies_to}
use Rattle.nbd_session.proofs.FlightLemmas.{causes-sink, causes-source, some-ending, stops-lacks}
use Rattle.nbd_session.proofs.LaneAnswers.{no-operations, one-operation, some-asked}
use Rattle.nbd_session.proofs.MergeLemmas.{one-merged}
use Rattle.nbd_session.proofs.ReaderLemmas.{stops-reading}
use Rattle.nbd_session.proofs.RequestLemmas.{asked_of-length, replies_to-none}

-- ---- what was taken
spells-asked : (structured : Bool) (turns : List Turn) (text : List ℕ) → Spells structured turns text
    → SpellsAsked structured (asked_of turns) text
unfolding Spells SpellsAsked asked_of
spells-asked structured [] text spells = spells
spells-asked structured (turn ∷ turns) text spells = (
  spells.0,
  spells.1,
  spells.2,
  spells.3.message,
  spells-asked structured turns spells.1 spells.4,
)

spells-answered : (structured : Bool) (turns : List Turn) (text : List ℕ)
    → Spells structured turns text → AreAnswered turns
unfolding Spells AreAnswered
spells-answered structured [] text spells = tt
spells-answered structured (turn ∷ turns) text spells =
    (spells.3.answered, spells-answered structured turns spells.1 spells.4)

-- one message more
spells-one-more : (structured : Bool) (asked : List Asked) (one : Asked) (text bytes : List ℕ)
    → SpellsAsked structured asked text
    → IsMessage structured bytes one.cookie one.asked one.form
    → SpellsAsked structured (asked ++ one ∷ []) (text ++ bytes)
unfolding SpellsAsked
spells-one-more structured [] one text bytes spells is =
    (bytes, [], ap (λ x. x ++ bytes) spells ∙ sym (append-nil bytes), is, refl)
spells-one-more structured (first ∷ asked) one text bytes spells is = (
  spells.0,
  spells.1 ++ bytes,
  ap (λ x. x ++ bytes) spells.2 ∙ append_assoc spells.0 spells.1 bytes,
  spells.3,
  spells-one-more structured asked one spells.1 bytes spells.4 is,
)

abbrev no-texts : List (List ℕ)
no-texts = []

abbrev none-left : List Asked
none-left = []

-- what holds of the first of one
pub at-zero : (P : ℕ → Type 0) → P 0 → (k : ℕ) → k < 1 → P k
at-zero P p zero below = p
at-zero P p (suc k) below = absurd (omega (arith, below))

some-replies : (turns : List Turn) → 0 < length turns → replies_to turns ≢ []
unfolding replies_to
some-replies [] some = absurd (omega (arith, some))
some-replies (turn ∷ turns) some = λ is. cc

-- it lacks this much
abbrev Lacks : Ending → List Turn → List Asked → Type 0
Lacks ending turns left =
    LacksBy ending 1 (lane_zero (replies_to turns)) (lane_zero left) (λ k. no-texts)

none-lacks : (k : ℕ) → k < 1 → (lane_zero none-left k ≡ []) × (no-texts ≡ [])
none-lacks = at-zero (λ k. (lane_zero none-left k ≡ []) × (no-texts ≡ [])) (refl, refl)

-- the requests of one lane that ended so
record OneLane (structured : Bool) (ending : Ending) (turns : List Turn) (requests : List ℕ)
    (ended : Bool) : Type 0 where
  left : List Asked
  read : Option Ending
  found : Bool
  taken : AreTaken structured read (asked_of turns ++ left) requests found
  ending_is : IsEndingOf 1 read (asked_of turns ++ left) ending
  few : length left ≤ 1
  operations : AreOperations left
  lacks : Lacks ending turns left
  source : (a b : Moment) → HasCauses a b ending → SourceBy read a.source.faults b.source.faults
  found_so : found ≡ true → ended ≡ true

-- all were answered
lane-whole : (structured : Bool) (ending : Ending) (turns : List Turn) (requests text rest : List ℕ)
    (ended found : Bool) (read : Option Ending) → requests ≡ text ++ rest
    → Spells structured turns text → ReadingEnds read (length turns) found rest
    → IsEndingOf 1 read (asked_of turns ++ []) ending → (found ≡ true → ended ≡ true)
    → Lacks ending turns []
    → ((a b : Moment) → HasCauses a b ending → SourceBy read a.source.faults b.source.faults)
    → OneLane structured ending turns requests ended
lane-whole structured ending turns requests text rest ended found read parts spells ends is so lacks
    source =
    record {
      left = [];
      read = read;
      found = found;
      taken = record {
        text = text;
        rest = rest;
        parts = parts;
        spells = subst (λ (asked : List Asked). SpellsAsked structured asked text)
            (sym (append-nil (asked_of turns))) (spells-asked structured turns text spells);
        ends = subst (λ (n : ℕ). ReadingEnds read n found rest)
            (sym (ap (λ (asked : List Asked). length asked) (append-nil (asked_of turns))
            ∙ asked_of-length turns)) ends;
      };
      ending_is = is;
      few = omega arith;
      operations = no-operations;
      lacks = lacks;
      source = source;
      found_so = so;
    }

no-true : false ≡ true → (b : Bool) → b ≡ true
no-true is b = absurd (cc)

one-lane : (structured : Bool) (ending : Ending) (turns : List Turn) (requests : List ℕ)
    (ended : Bool) → AreRequests structured (Some ending) turns (length turns) requests ended
    → OneLane structured ending turns requests ended
one-lane structured WriteFault turns requests ended are =
    let few = are.ends.1.1 in
    lane-whole structured WriteFault turns requests are.text are.bytes ended false None are.parts
    are.spells (are.ends.0, refl, few) (λ one. refl) (λ is. no-true is ended)
    (0, omega arith, some-replies turns are.ends.1.0, refl, refl) (λ a b causes. causes.0)
one-lane structured PortSpent turns requests ended are =
    let asks = are.ends.0 in
    let few = are.ends.1 in
    let one : Asked = record { cookie = asks.0; asked = Some asks.1; form = asks.2 } in record {
      left = one ∷ [];
      read = None;
      found = false;
      taken = record {
        text = are.text ++ are.bytes;
        rest = [];
        parts = are.parts ∙ sym (append-nil (are.text ++ are.bytes));
        spells = spells-one-more structured (asked_of turns) one are.text are.bytes
            (spells-asked structured turns are.text are.spells) asks.3;
        ends = (
          refl,
          refl,
          omega (arith, few, length-append (asked_of turns) (one ∷ []), asked_of-length turns),
        );
      };
      ending_is = λ one. refl;
      few = omega arith;
      operations = one-operation one asks.1 refl;
      lacks = ((0, omega arith, some-asked one), λ k below. refl);
      source = λ a b causes. causes.0;
      found_so = λ is. no-true is ended;
    }
one-lane structured (TooMany m) turns requests ended are =
    lane-whole structured (TooMany m) turns requests are.text are.bytes ended ended
    (Some (TooMany m)) are.parts are.spells are.ends refl (λ is. is) none-lacks (λ a b causes. causes.0)
one-lane structured ending turns requests ended are =
    let stops : StopsReading ending ended are.bytes =
    stops-reading ending ended are.bytes are.ends.0 in
    lane-whole structured ending turns requests are.text are.bytes ended ended (Some ending)
    are.parts are.spells (stops, are.ends.1)
    (some-ending 1 (Some ending) (asked_of turns ++ []) ending ended are.bytes stops refl) (λ is. is)
    (stops-lacks ending ended are.bytes 1 (lane_zero (replies_to turns)) (lane_zero none-left)
    (λ k. no-texts) stops none-lacks) (λ a b causes. causes-source a b ending causes)

-- ---- a list, as a merge of it alone
unfoldable all-zero : {X : Type 0} → List X → List (From X)
all-zero [] = []
all-zero (x ∷ xs) = from 0 x ∷ all-zero xs

zero-items : {X : Type 0} (xs : List X) → items_of (all-zero xs) ≡ xs
unfolding items_of all-zero
zero-items [] = refl
zero-items (x ∷ xs) = ap (λ rest. x ∷ rest) (zero-items xs)

zero-from : {X : Type 0} (xs : List X) → AreFrom 1 (all-zero xs)
unfolding AreFrom all-zero
zero-from [] = tt
zero-from (x ∷ xs) = (omega arith, zero-from xs)

zero-own : {X : Type 0} (xs : List X) → items_from 0 (all-zero xs) ≡ xs
unfolding items_from all-zero
zero-own [] = refl
zero-own (x ∷ xs) = ap (λ rest. x ∷ rest) (zero-own xs)

merge-one : {X : Type 0} (lists : ℕ → List X) (xs : List X) → xs ≡ lists 0 → IsMerge 1 lists xs
merge-one lists xs is = record {
  parts = all-zero xs;
  is = zero-items xs;
  from_lists = zero-from xs;
  each = at-zero (λ k. items_from k (all-zero xs) ≡ lists k) (zero-own xs ∙ is);
}

-- ---- the session
-- the log, with what was asked and left, how the reading ended, and whether the end of the input was
-- found
abbrev flight-log : Log → (asked left : List Asked) → Option Ending → Bool → FlightLog
flight-log log asked left read found = record {
  stage = log.stage;
  flags = log.flags;
  options = log.options;
  last = log.last;
  asked = asked;
  read = read;
  lanes = lane_zero log.turns;
  left = lane_zero left;
  unput = λ k. no-texts;
  sent = replies_to log.turns;
  taken = log.taken;
  whole = log.whole;
  front = log.front;
  ended = found;
}

-- a session of one lane with this log
abbrev IsAsFlight : Export → SessionEnd → Moment → Moment → Log → Type 0
IsAsFlight export end old new log =
    (flight : FlightLog) × IsOneLane log flight × IsFlight 1 export end old new flight

assembled : (export : Export) (end : SessionEnd) (old new : Moment) (log : Log)
    (asked left : List Asked) (read : Option Ending) (found : Bool)
    → Flights.IsInput 1 log.stage (flight-log log asked left read found) end.ending
    → SourceBy read old.source.faults new.source.faults
    → (found ≡ true → log.ended ≡ true) → IsSession export end old new log
    → IsAsFlight export end old new log
assembled export end old new log asked left read found input source so session = (
  flight-log log asked left read found,
  record { hand = refl; ended = so; lanes = refl; sent = refl },
  record {
    number = session.number;
    input = input;
    traffic = session.talks.traffic;
    at_end = λ e. session.talks.at_end (so e);
    goes = session.talks.by_case.0;
    source_failed = source;
    sink_failed = causes-sink old new end.ending session.talks.by_case.1;
    taken = session.taken;
    put = session.put;
  },
)

pub nothing-asked : (turns : List Turn) → turns ≡ [] → replies_to turns ≡ []
nothing-asked turns none = ap (λ them. replies_to them) none ∙ replies_to-none

nothing-at : (turns : List Turn) → turns ≡ [] → (k : ℕ) → lane_zero turns k ≡ []
nothing-at turns none zero = none
nothing-at turns none (suc k) = refl

none-at : (k : ℕ) → lane_zero none-left k ≡ []
none-at zero = refl
none-at (suc k) = refl

lane-flight : (export : Export) (end : SessionEnd) (old new : Moment) (log : Log)
    → (stage : Stage) → log.stage ≡ stage → IsInput stage log end.ending
    → IsSession export end old new log → IsAsFlight export end old new log
lane-flight export end old new log served is input session =
    let lane = one-lane (agreed_in (handshake_of log)).structured end.ending log.turns input.1 log.ended
    input.4 in
    let asked = asked_of log.turns ++ lane.left in
    assembled export end old new log asked lane.left lane.read lane.found
    (subst (λ (stage : Stage).
    Flights.IsInput 1 stage (flight-log log asked lane.left lane.read lane.found) end.ending)
    (sym is) (
      input.0,
      input.1,
      record { fit = input.2.fit; parts = input.2.parts },
      input.3,
      lane.taken,
      lane.ending_is,
      record {
        answered = at-zero (λ k. AreAnswered (lane_zero log.turns k))
            (spells-answered (agreed_in (handshake_of log)).structured log.turns input.4.text
            input.4.spells);
        operations = at-zero (λ k. AreOperations (lane_zero lane.left k)) lane.operations;
        taken = merge-one (λ k. asked_of (lane_zero log.turns k) ++ lane_zero lane.left k) asked refl;
        puts = lane_zero (replies_to log.turns);
        replies = at-zero
            (λ k. lane_zero (replies_to log.turns) k ++ no-texts ≡ replies_to (lane_zero log.turns k))
            (append-nil (replies_to log.turns));
        sent_are = merge-one (lane_zero (replies_to log.turns)) (replies_to log.turns) refl;
        few = at-zero (λ k. length (lane_zero lane.left k) + length no-texts ≤ 1)
            (let few = lane.few in omega (arith, few));
        lacks = lane.lacks;
      },
    )) (lane.source old new session.talks.by_case.1) lane.found_so session
lane-flight export end old new log greeted is input session =
    assembled export end old new log [] [] (Some end.ending) log.ended
    (subst (λ (stage : Stage).
    Flights.IsInput 1 stage (flight-log log [] [] (Some end.ending) log.ended) end.ending)
    (sym is) (
      refl,
      refl,
      (λ k. (nothing-at log.turns input.0 k, none-at k, refl)),
      nothing-asked log.turns input.0,
      input.1,
    ))
    (causes-source old new end.ending session.talks.by_case.1) (λ e. e) session
lane-flight export end old new log negotiating is input session =
    assembled export end old new log [] [] (Some end.ending) log.ended
    (subst (λ (stage : Stage).
    Flights.IsInput 1 stage (flight-log log [] [] (Some end.ending) log.ended) end.ending)
    (sym is) (
      refl,
      refl,
      (λ k. (nothing-at log.turns input.0 k, none-at k, refl)),
      nothing-asked log.turns input.0,
      input.1,
    ))
    (causes-source old new end.ending session.talks.by_case.1) (λ e. e) session

pub session-flight : Flights.SessionsAreFlights
session-flight export end old new log session =
    lane-flight export end old new log log.stage refl session.input session

-- what the first lane lacks doesn't tell how its replies were told from those of others
lacks-sent : (ending : Ending) (puts : ℕ → List (List ℕ)) (sent : List (List ℕ))
    (left : ℕ → List Asked) (unput : ℕ → List (List ℕ)) → puts 0 ≡ sent
    → LacksBy ending 1 puts left unput → LacksBy ending 1 (λ k. sent) left unput
lacks-sent PortSpent puts sent left unput same lacks = lacks
lacks-sent WriteFault puts sent left unput same (k, below, some, none_left, all_put) = (
  k,
  below,
  λ none. some (at-zero (λ k. puts k ≡ sent) same k below ∙ none),
  none_left,
  all_put,
)
lacks-sent _ puts sent left unput same lacks = lacks

pub lane-ordered : Flights.OneLaneIsInOrder
lane-ordered ending asked lanes left unput sent are =
    let same = one-merged are.puts sent are.sent_are in (
      one-merged (λ k. asked_of (lanes k) ++ left k) asked are.taken,
      sym (are.replies 0 (omega arith)) ∙ ap (λ them. them ++ unput 0) (sym same),
      are.few 0 (omega arith),
      lacks-sent ending are.puts sent left unput (sym same) are.lacks,
    )
