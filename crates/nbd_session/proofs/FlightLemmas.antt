-- A session with several requests in flight, of its parts.
use Rattle.std.proofs.Common.{◌≡◌, ◌≢◌, ◌⊎◌, inl, inr, ℕ, ◌^◌, ◌<◌, ◌≤◌, Bool, true, false, List, [], ◌∷◌, ◌++◌}
use Rattle.std.proofs.Common.{Option, Some, None, Ok, Err, length, ap, ◌∙◌, refl, sym, subst, arith}
use Rattle.std.proofs.Common.{append_assoc, append-nil}
use Rattle.base_terms.specs.Blocks.{joined}
use Rattle.io_edge.specs.Intake.{Intake}
use Rattle.io_edge.specs.Outlet.{Outlet}
use Rattle.nbd_stream.specs.declared.ending.Ending.{Ending}
use Rattle.nbd_stream.specs.declared.ending.Ending.TheVariants.{Memory, PortSpent, ReadFault, WriteFault}
use Rattle.nbd_stream.specs.Moments.{GoesOut, HasCauses, Moment, Talks, Traffic, moment}
use Rattle.nbd_stream.specs.Traffic.{reach}
use Rattle.nbd_stream.proofs.MomentLemmas.{traffic_more}
use Rattle.nbd_stream.proofs.TalkLemmas.{talks-more, talks-on}
use Rattle.nbd_stream.proofs.TrafficLemmas.{ended_later}
use Rattle.nbd_hand.specs.declared.export.Export.{Export}
use Rattle.nbd_hand.specs.declared.negotiation.Agreed.{Agreed}
use Rattle.nbd_hand.specs.Handshakes as Handshakes
use Rattle.nbd_hand.specs.Handshakes.{Handshake, Stage, greeted, negotiating, served, IsUnserved}
use Rattle.nbd_hand.specs.Negotiation.{Negotiates}
use Rattle.nbd_session.specs.declared.lane.Halt.{Halt}
use Rattle.nbd_session.specs.declared.lane.Halt.TheVariants as Halts
use Rattle.nbd_session.specs.declared.reader.Reading.{Reading}
use Rattle.nbd_session.specs.declared.reader.Take.{Take}
use Rattle.nbd_session.specs.declared.reader.Taken.{Taken}
use Rattle.nbd_session.specs.declared.writer.Put.{Put}
use Rattle.nbd_session.specs.declared.writer.Writing.{Writing}
use Rattle.nbd_session.specs.declared.writer.Written.{Written}
use Rattle.nbd_session.specs.Asking.{Asked}
use Rattle.nbd_session.specs.Flights.{AreAnsweredBy, AreTaken, FlightLog, IsEndingOf}
use Rattle.nbd_session.specs.Flights.{IsFlight, IsInput, LacksBy, SinkBy, SourceBy}
use Rattle.nbd_session.specs.Lanes.{HasServed}
use Rattle.nbd_session.specs.Merges.{From, items_from, items_of}
use Rattle.nbd_session.specs.Puts.{HasWritten, Sends, fault_if}
use Rattle.nbd_session.specs.Takes.{HasRead, ReadingEnds, StopsReading}
use Rattle.nbd_session.specs.Turns.{Turn, exchanges_of, replies_to}
use Rattle.nbd_session.specs.Asking.{asked_of}
use Rattle.nbd_session.proofs.LaneAnswers.{IsLaneAnswered, IsWhy, lane-answered, left-by-port}
use Rattle.nbd_session.proofs.LaneHistories.{FailedIn, GivesCalls, SendsCalls, below-or-not}
use Rattle.nbd_session.proofs.LaneHistories.{failed-some, fails-lane, gives-from, gives-lane}
use Rattle.nbd_session.proofs.LaneHistories.{none-failed, sends-from, sends-lane}
use Rattle.nbd_wire.specs.Fields.{u32_text}
use Rattle.volume_cell.specs.declared.history.Call.{Call}
use Rattle.volume_cell.specs.declared.history.Entry.{Entry}
use Rattle.volume_cell.specs.Histories.{calls_of}
use Rattle.volume_cell.proofs.Names.{not-both}

items_of-length : {X : Type 0} (all : List (From X)) → length (items_of all) ≡ length all
unfolding items_of
items_of-length [] = refl
items_of-length (one ∷ all) = omega (arith, items_of-length all)

-- ---- the lanes
-- what a lane of this number did: its calls are those of the two histories; a number that no lane has
-- did nothing
pub record ServedAt (takes_of : List (Entry Take Taken)) (puts_of : List (Entry Put Written)) (k : ℕ)
    : Type 0 where
  pub halt : Halt
  pub takes : List (Call Take Taken)
  pub puts : List (Call Put Written)
  pub turns : List Turn
  pub left : List Asked
  pub served : HasServed halt takes puts turns left
  pub source : calls_of (k ∷ []) takes_of ≡ takes
  pub sink : calls_of (k ∷ []) puts_of ≡ puts

-- Why a session ended so: its sink failed; or a port takes no more; or memory was wanted before the
-- first request was read; or each lane read out the requests, which ended so. A lane that is alone
-- hasn't read them out where its sink failed, or its port takes no more.
pub data EndsSo (depth : ℕ) (halts : ℕ → Halt) (end : Option Ending) (all : List (From Asked))
    (broke : Bool) : Ending → Type 0
  where
    by_sink : broke ≡ true → (depth ≡ 1 → end ≡ None) → EndsSo depth halts end all broke WriteFault
    by_room : broke ≡ false → (depth ≡ 1 → end ≡ None) → (k : ℕ) → k < depth
        → halts k ≡ Halts.PortSpent → ((j : ℕ) → j < depth → halts j ≢ Halts.CellSpent)
        → EndsSo depth halts end all broke PortSpent
    by_memory : broke ≡ false → end ≡ None → all ≡ [] → EndsSo depth halts end all broke Memory
    by_reading : (ending : Ending) → broke ≡ false → end ≡ Some ending
        → ((k : ℕ) → k < depth → (how : Ending) × (halts k ≡ Halts.RequestsEnded how))
        → EndsSo depth halts end all broke ending

-- an ending that the source brings isn't one that hides another
stops-by : (ending : Ending) (ended : Bool) (rest : List ℕ) (ms : List (List ℕ)) (whole front : List ℕ)
    → StopsReading ending ended rest → whole ≡ joined ms → front ≡ []
    → GoesOut ending ms whole front
stops-by WriteFault ended rest ms whole front stops all none = absurd stops
stops-by _ ended rest ms whole front stops all none = (all, none)

-- what failed, by what ended a reading or a session
pub causes-source : (a b : Moment) (ending : Ending) → HasCauses a b ending
    → SourceBy (Some ending) a.source.faults b.source.faults
causes-source a b ReadFault causes = causes.0
causes-source a b WriteFault causes = causes.0
causes-source a b _ causes = causes.0

pub causes-sink : (a b : Moment) (ending : Ending) → HasCauses a b ending
    → SinkBy ending a.sink.faults b.sink.faults
causes-sink a b WriteFault causes = causes.1
causes-sink a b ReadFault causes = causes.1
causes-sink a b _ causes = causes.1

talks-source : (a b : Moment) (read : Option Ending) (taken : List ℕ) (ms : List (List ℕ))
    (whole front : List ℕ) (ended : Bool) → Talks a b read taken ms whole front ended
    → SourceBy read a.source.faults b.source.faults
talks-source a b None taken ms whole front ended talks = talks.by_case.2.0
talks-source a b (Some ending) taken ms whole front ended talks =
    causes-source a b ending talks.by_case.1

-- the sink stands still at an ending that the source brings
stops-still : (ending : Ending) (ended : Bool) (rest : List ℕ) (before now : ℕ)
    → StopsReading ending ended rest → now ≡ before → SinkBy ending before now
stops-still WriteFault ended rest before now stops same = absurd stops
stops-still _ ended rest before now stops same = same

-- then no lane lacks anything
pub stops-lacks : (ending : Ending) (ended : Bool) (rest : List ℕ) (depth : ℕ)
    (puts : ℕ → List (List ℕ)) (left : ℕ → List Asked) (unput : ℕ → List (List ℕ))
    → StopsReading ending ended rest
    → ((k : ℕ) → k < depth → (left k ≡ []) × (unput k ≡ []))
    → LacksBy ending depth puts left unput
stops-lacks WriteFault ended rest depth puts left unput stops none = absurd stops
stops-lacks PortSpent ended rest depth puts left unput stops none = absurd stops
stops-lacks _ ended rest depth puts left unput stops none = none

pub some-ending : (depth : ℕ) (read : Option Ending) (asked : List Asked) (ending : Ending)
    (ended : Bool) (rest : List ℕ) → StopsReading ending ended rest → read ≡ Some ending
    → IsEndingOf depth read asked ending
some-ending depth read asked WriteFault ended rest stops is = absurd stops
some-ending depth read asked PortSpent ended rest stops is = absurd stops
some-ending depth read asked Memory ended rest stops is = absurd stops
some-ending depth read asked _ ended rest stops is = is

-- a lane that was given nothing lacks nothing
given-nothing : (them : List Turn) (left : List Asked) (texts unput : List (List ℕ))
    → asked_of them ++ left ≡ [] → texts ++ unput ≡ replies_to them
    → (left ≡ []) × (unput ≡ [])
unfolding asked_of replies_to
given-nothing [] left [] unput none replies = (none, replies)
given-nothing [] left (text ∷ texts) unput none replies = absurd (cc)
given-nothing (turn ∷ them) left texts unput none replies = absurd (cc)

none-from : (k : ℕ) (all : List (From Asked)) → all ≡ [] → items_from k all ≡ []
unfolding items_from
none-from k all none = rw none refl

none-of : (all : List (From Asked)) → all ≡ [] → items_of all ≡ []
unfolding items_of
none-of all none = rw none refl

pub broken : (history : List (Entry Put Written)) (all : List (From (List ℕ))) (failed : Bool)
    → failed ≡ true → Sends history all failed → Sends history all true
broken history all failed is sends = subst (λ (f : Bool). Sends history all f) is sends

module _ {S K : Type 0} (intake : S → Intake) (outlet : K → Outlet) (depth : ℕ)
    (begun read : Reading S) (start now : Writing K) (takes_of : List (Entry Take Taken))
    (puts_of : List (Entry Put Written))
    (has_read : HasRead intake begun read takes_of)
    (has_written : HasWritten outlet start now puts_of)
    (at : (k : ℕ) → ServedAt takes_of puts_of k)
    (no_takes : (k : ℕ) → depth ≤ k → calls_of (k ∷ []) takes_of ≡ [])
    (no_puts : (k : ℕ) → depth ≤ k → calls_of (k ∷ []) puts_of ≡ [])
  where
    pub answers : (k : ℕ) → IsLaneAnswered read.ending now.failed (at k).halt (at k).puts (at k).turns
        (items_from k has_read.all) (items_from k has_written.all)
    answers k = lane-answered read.ending now.failed (at k).halt (at k).takes (at k).puts (at k).turns
        (at k).left (items_from k has_read.all) (items_from k has_written.all) (at k).served
        (subst (λ (calls : List (Call Take Taken)).
        GivesCalls read.ending calls (items_from k has_read.all)) (at k).source
        (gives-lane k 0 takes_of has_read.all read.ending has_read.gives))
        (subst (λ (calls : List (Call Put Written)).
        SendsCalls now.failed calls (items_from k has_written.all)) (at k).sink
        (sends-lane k puts_of has_written.all now.failed has_written.sends))

    -- the turns of the lane of this number
    abbrev pub turns_at : ℕ → List Turn
    turns_at k = (answers k).them

    -- they did what the lane's turns did
    pub turns-did : (k : ℕ) → exchanges_of (turns_at k) ≡ exchanges_of (at k).turns
    turns-did k = (answers k).did

    -- a lane that read out the requests found the ending of all
    pub lane-ended : (k : ℕ) (how : Ending) → (at k).halt ≡ Halts.RequestsEnded how
        → read.ending ≡ Some how
    lane-ended k how is = (subst (λ (h : Halt). IsWhy read.ending now.failed h (answers k).left
        (answers k).unput) is (answers k).why).0

    why-at : (k : ℕ) (halt : Halt) → (at k).halt ≡ halt
        → IsWhy read.ending now.failed halt (answers k).left (answers k).unput
    why-at k halt is = subst (λ (h : Halt). IsWhy read.ending now.failed h (answers k).left
        (answers k).unput) is (answers k).why

    -- a lane halts by a failed sink only where it failed
    pub lane-broke : (k : ℕ) → (at k).halt ≡ Halts.SinkFailed → now.failed ≡ true
    lane-broke k is = (why-at k Halts.SinkFailed is).0

    -- a lane left a request only since its port is spent
    pub lane-left : (k : ℕ) → (answers k).left ≢ [] → (at k).halt ≡ Halts.PortSpent
    lane-left k some = left-by-port read.ending now.failed (at k).halt (answers k).left
        (answers k).unput (answers k).why some

    stops : (ending : Ending) → read.ending ≡ Some ending
        → StopsReading ending has_read.ended has_read.rest
    stops ending is = (subst (λ e. ReadingEnds e (length has_read.all) has_read.ended
        has_read.rest) is has_read.ends).0

    -- a lane that no cell refused put all its replies, where the sink goes on
    all-put : (k : ℕ) (halt : Halt) → (at k).halt ≡ halt → now.failed ≡ false
        → halt ≢ Halts.CellSpent → (answers k).unput ≡ []
    all-put k (Halts.RequestsEnded how) is still not = (why-at k (Halts.RequestsEnded how) is).2
    all-put k Halts.SinkFailed is still not =
        absurd (not-both (why-at k Halts.SinkFailed is).0 still)
    all-put k Halts.PortSpent is still not = (why-at k Halts.PortSpent is).1
    all-put k Halts.CellSpent is still not = absurd (not refl)

    -- the lane at whose reply the sink failed
    broke-at : now.failed ≡ true → LacksBy WriteFault depth (λ k. items_from k has_written.all)
        (λ k. (answers k).left) (λ k. (answers k).unput)
    broke-at broke =
        let found = fails-lane puts_of has_written.all
        (broken puts_of has_written.all now.failed broke has_written.sends) in
        by found.0 found.1 (below-or-not found.0 depth)
      where
        by : (k : ℕ) → FailedIn (calls_of (k ∷ []) puts_of) (items_from k has_written.all)
            → (k < depth) ⊎ (depth ≤ k)
            → LacksBy WriteFault depth (λ k. items_from k has_written.all) (λ k. (answers k).left)
            (λ k. (answers k).unput)
        by k failed (inl below) =
            let none = (answers k).fails (subst (λ (calls : List (Call Put Written)).
            FailedIn calls (items_from k has_written.all)) (at k).sink failed) in (
              k,
              below,
              failed-some (calls_of (k ∷ []) puts_of) (items_from k has_written.all) failed,
              none.0,
              none.1,
            )
        by k failed (inr beyond) = absurd (none-failed (items_from k has_written.all)
            (subst (λ (calls : List (Call Put Written)).
            FailedIn calls (items_from k has_written.all)) (no_puts k beyond) failed))

    lacks : (ending : Ending)
        → EndsSo depth (λ k. (at k).halt) read.ending has_read.all now.failed ending
        → LacksBy ending depth (λ k. items_from k has_written.all) (λ k. (answers k).left)
        (λ k. (answers k).unput)
    lacks _ (by_sink broke alone) = broke-at broke
    lacks _ (by_room still alone k below spent none) = (
      (k, below, (why-at k Halts.PortSpent spent).0),
      λ j less. all-put j (at j).halt refl still (none j less),
    )
    lacks _ (by_memory still none nothing) = λ k below.
        given-nothing (answers k).them (answers k).left (items_from k has_written.all)
        (answers k).unput ((answers k).asked_are ∙ none-from k has_read.all nothing) (answers k).replies
    lacks ending (by_reading _ still is all) =
        stops-lacks ending has_read.ended has_read.rest depth (λ k. items_from k has_written.all)
        (λ k. (answers k).left) (λ k. (answers k).unput) (stops ending is)
        (λ k below. let why = why-at k (Halts.RequestsEnded (all k below).0) (all k below).1 in
        (why.1, why.2))

    -- of the requests that were asked each lane answered those that it took
    pub lanes-answered : (ending : Ending)
        → EndsSo depth (λ k. (at k).halt) read.ending has_read.all now.failed ending
        → AreAnsweredBy depth ending (items_of has_read.all) turns_at (λ k. (answers k).left)
        (λ k. (answers k).unput) (items_of has_written.all)
    lanes-answered ending ends = record {
      answered = λ k below. (answers k).answered;
      operations = λ k below. (answers k).operations;
      taken = record {
        parts = has_read.all;
        is = refl;
        from_lists = gives-from depth 0 takes_of has_read.all read.ending has_read.gives no_takes;
        each = λ k below. sym (answers k).asked_are;
      };
      puts = λ k. items_from k has_written.all;
      replies = λ k below. (answers k).replies;
      sent_are = record {
        parts = has_written.all;
        is = refl;
        from_lists = sends-from depth puts_of has_written.all now.failed has_written.sends no_puts;
        each = λ k below. refl;
      };
      few = λ k below. (answers k).few;
      lacks = lacks ending ends;
    }

    -- ---- the bytes
    abbrev before : Moment
    before = moment (intake begun.source) (outlet start.sink) begun.taken start.put

    abbrev after : Moment
    after = moment (intake read.source) (outlet now.sink) read.taken now.put

    -- what was read, and then what was written
    traffic : Traffic before after (has_read.text ++ has_read.rest) has_written.whole
        has_written.front
    traffic = subst (λ (t : List ℕ). Traffic before after t has_written.whole has_written.front)
        (append-nil (has_read.text ++ has_read.rest))
        (traffic_more _ _ _ (has_read.text ++ has_read.rest) [] [] has_written.whole
        has_written.front (has_read.talks (outlet start.sink) start.put).traffic
        (has_written.talks (reach (intake read.source) read.taken)).traffic)

    -- ---- behind a negotiation
    module _ (a : Moment) (taken : List ℕ) (said : List (List ℕ)) (whole : List ℕ)
        (talks : Talks a before None taken said whole [] false)
      where
        -- all that was put, whatever was read
        put : Talks a (moment (intake begun.source) (outlet now.sink) begun.taken now.put)
            (fault_if now.failed) (taken ++ []) (said ++ items_of has_written.all)
            (whole ++ has_written.whole) has_written.front false
        put = talks-more _ _ _ (fault_if now.failed) taken [] said (items_of has_written.all) whole
            has_written.whole has_written.front false talks
            (has_written.talks (reach (intake begun.source) begun.taken))

        -- all that was read, whatever was put
        got : Talks a (moment (intake read.source) (outlet start.sink) read.taken start.put)
            read.ending (taken ++ (has_read.text ++ has_read.rest)) (said ++ []) (whole ++ []) []
            has_read.ended
        got = talks-more _ _ _ read.ending taken (has_read.text ++ has_read.rest) said [] whole [] []
            has_read.ended talks (has_read.talks (outlet start.sink) start.put)

        -- where the sink failed
        put-fault : now.failed ≡ true
            → Talks a (moment (intake begun.source) (outlet now.sink) begun.taken now.put)
            (Some WriteFault) (taken ++ []) (said ++ items_of has_written.all)
            (whole ++ has_written.whole) has_written.front false
        put-fault broke = subst (λ (f : Bool).
            Talks a (moment (intake begun.source) (outlet now.sink) begun.taken now.put) (fault_if f)
            (taken ++ []) (said ++ items_of has_written.all) (whole ++ has_written.whole)
            has_written.front false) broke put

        -- where it didn't
        put-all : now.failed ≡ false
            → Talks a (moment (intake begun.source) (outlet now.sink) begun.taken now.put) None
            (taken ++ []) (said ++ items_of has_written.all) (whole ++ has_written.whole)
            has_written.front false
        put-all still = subst (λ (f : Bool).
            Talks a (moment (intake begun.source) (outlet now.sink) begun.taken now.put) (fault_if f)
            (taken ++ []) (said ++ items_of has_written.all) (whole ++ has_written.whole)
            has_written.front false) still put

        -- the replies went out
        pub goes-out : (ending : Ending)
            → EndsSo depth (λ k. (at k).halt) read.ending has_read.all now.failed ending
            → GoesOut ending (said ++ items_of has_written.all) (whole ++ has_written.whole)
            has_written.front
        goes-out _ (by_sink broke alone) = (put-fault broke).by_case.0
        goes-out _ (by_room still alone k below spent none) = ((put-all still).by_case.0, (put-all still).by_case.1)
        goes-out _ (by_memory still none nothing) = ((put-all still).by_case.0, (put-all still).by_case.1)
        goes-out ending (by_reading _ still is all) = stops-by ending has_read.ended has_read.rest
            (said ++ items_of has_written.all) (whole ++ has_written.whole) has_written.front
            (stops ending is) (put-all still).by_case.0 (put-all still).by_case.1

        -- the source failed as the reading tells
        pub source-by : SourceBy read.ending a.source.faults (intake read.source).faults
        source-by = talks-source _ _ read.ending _ _ _ _ _ got

        -- and the sink as the session does
        pub sink-by : (ending : Ending)
            → EndsSo depth (λ k. (at k).halt) read.ending has_read.all now.failed ending
            → SinkBy ending a.sink.faults (outlet now.sink).faults
        sink-by _ (by_sink broke alone) = (put-fault broke).by_case.1.1
        sink-by _ (by_room still alone k below spent none) = (put-all still).by_case.2.1
        sink-by _ (by_memory still none nothing) = (put-all still).by_case.2.1
        sink-by ending (by_reading _ still is all) = stops-still ending has_read.ended has_read.rest _ _
            (stops ending is) (put-all still).by_case.2.1

    -- ---- the session
    -- one that came to its requests
    abbrev pub served-flight : Handshake → FlightLog
    served-flight hand = record {
      stage = served;
      flags = hand.flags;
      options = hand.options;
      last = hand.last;
      asked = items_of has_read.all;
      read = read.ending;
      lanes = turns_at;
      left = λ k. (answers k).left;
      unput = λ k. (answers k).unput;
      sent = items_of has_written.all;
      taken = hand.taken ++ (has_read.text ++ has_read.rest);
      whole = hand.whole ++ has_written.whole;
      front = has_written.front;
      ended = has_read.ended;
    }

    requests-taken : AreTaken begun.structured read.ending (items_of has_read.all)
        (has_read.text ++ has_read.rest) has_read.ended
    requests-taken = record {
      text = has_read.text;
      rest = has_read.rest;
      parts = refl;
      spells = has_read.spells;
      ends = subst (λ (n : ℕ). ReadingEnds read.ending n has_read.ended has_read.rest)
          (sym (items_of-length has_read.all)) has_read.ends;
    }

    ends-by : (ending : Ending)
        → EndsSo depth (λ k. (at k).halt) read.ending has_read.all now.failed ending
        → IsEndingOf depth read.ending (items_of has_read.all) ending
    ends-by _ (by_sink broke alone) = alone
    ends-by _ (by_room still alone k below spent none) = alone
    ends-by _ (by_memory still none nothing) = (none, none-of has_read.all nothing)
    ends-by ending (by_reading _ still is all) = some-ending depth read.ending
        (items_of has_read.all) ending has_read.ended has_read.rest (stops ending is) is

    pub flight-served : (export : Export) (a : Moment) (agreed : Agreed) (ending : Ending)
        (hand : Handshake) → a.taken ≡ 0 → a.put ≡ 0 → read.taken < 2 ^ 64 → now.put < 2 ^ 64
        → begun.structured ≡ agreed.structured → Negotiates export a before (Ok agreed) hand
        → EndsSo depth (λ k. (at k).halt) read.ending has_read.all now.failed ending
        → IsFlight depth export
        (record { number = export.number; ending = ending; taken = read.taken; put = now.put }) a
        after (served-flight hand)
    flight-served export a agreed ending hand none_taken none_put taken_fits put_fits structured n
        ends =
        let chosen = n.by_case.1 in
        let said = Handshakes.messages_of export hand in
        let requests = has_read.text ++ has_read.rest in
        let on = talks-on a before hand.taken said hand.whole hand.front hand.ended n.talks in
        let all : Traffic a after (hand.taken ++ requests) (hand.whole ++ has_written.whole)
        has_written.front = traffic_more a before after hand.taken requests hand.whole
        has_written.whole has_written.front on.traffic traffic in
        record {
          number = refl;
          input = (
            chosen.0,
            requests,
            record {
              fit = chosen.1.fit;
              parts = ap (λ x. x ++ requests) chosen.1.parts
                  ∙ append_assoc (u32_text hand.flags) chosen.0 requests;
            },
            chosen.2,
            subst (λ (s : Bool). AreTaken s read.ending (items_of has_read.all) requests
                has_read.ended) (structured ∙ ap (λ (a : Agreed). a.structured) n.by_case.0)
                requests-taken,
            ends-by ending ends,
            lanes-answered ending ends,
          );
          traffic = all;
          at_end = λ e. ended_later a.source (intake begun.source) (intake read.source) hand.taken
              on.traffic.took ((has_read.talks (outlet start.sink) start.put).at_end e);
          goes = goes-out a hand.taken said hand.whole on ending ends;
          source_failed = source-by a hand.taken said hand.whole on;
          sink_failed = sink-by a hand.taken said hand.whole on ending ends;
          taken = omega (arith, all.counted_in);
          put = omega (arith, all.counted_out);
        }

-- ---- the session
-- one that ended before its requests
abbrev pub early-flight : Ending → Handshake → FlightLog
early-flight ending hand = record {
  stage = hand.stage;
  flags = hand.flags;
  options = hand.options;
  last = hand.last;
  asked = [];
  read = Some ending;
  lanes = λ k. [];
  left = λ k. [];
  unput = λ k. [];
  sent = [];
  taken = hand.taken;
  whole = hand.whole;
  front = hand.front;
  ended = hand.ended;
}

unserved-flight : (depth : ℕ) (stage : Stage) (hand : Handshake) (ending : Ending)
    → IsUnserved stage hand ending → IsInput depth stage (early-flight ending hand) ending
unserved-flight depth served hand ending is = absurd is
unserved-flight depth greeted hand ending is = (refl, refl, (λ k. (refl, refl, refl)), refl, is)
unserved-flight depth negotiating hand ending is = (refl, refl, (λ k. (refl, refl, refl)), refl, is)

pub flight-early : (depth : ℕ) (export : Export) (a b : Moment) (ending : Ending) (hand : Handshake)
    → a.taken ≡ 0 → a.put ≡ 0 → b.taken < 2 ^ 64 → b.put < 2 ^ 64
    → Negotiates export a b (Err ending) hand
    → IsFlight depth export
    (record { number = export.number; ending = ending; taken = b.taken; put = b.put }) a b
    (early-flight ending hand)
flight-early depth export a b ending hand none_taken none_put taken_fits put_fits n = record {
  number = refl;
  input = unserved-flight depth hand.stage hand ending n.by_case;
  traffic = n.talks.traffic;
  at_end = n.talks.at_end;
  goes = subst (λ ms. GoesOut ending ms hand.whole hand.front)
      (sym (append-nil (Handshakes.messages_of export hand))) n.talks.by_case.0;
  source_failed = causes-source a b ending n.talks.by_case.1;
  sink_failed = causes-sink a b ending n.talks.by_case.1;
  taken = omega (arith, n.talks.traffic.counted_in);
  put = omega (arith, n.talks.traffic.counted_out);
}
