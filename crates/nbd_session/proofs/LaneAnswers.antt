-- The requests of one lane with their replies, by what the reader gave and the writer put.
use Rattle.std.proofs.Common.{◌≡◌, ◌≢◌, ℕ, ◌+◌, ◌≤◌, Bool, true, List, [], ◌∷◌, ◌++◌, Option, Some}
use Rattle.std.proofs.Common.{length, ap, ◌∙◌, refl, sym, subst, arith, append-nil, append_assoc}
use Rattle.plain_disk.specs.declared.operation.Op.{Op}
use Rattle.plain_disk.specs.Plain.{Exchange}
use Rattle.nbd_stream.specs.declared.ending.Ending.{Ending}
use Rattle.nbd_session.specs.declared.lane.Halt.{Halt}
use Rattle.nbd_session.specs.declared.lane.Halt.TheVariants as Halts
use Rattle.nbd_session.specs.declared.reader.Take.{Take}
use Rattle.nbd_session.specs.declared.reader.Taken.{Taken}
use Rattle.nbd_session.specs.declared.requests.Next.{Next}
use Rattle.nbd_session.specs.declared.requests.Next.TheVariants.{Ask, Refuse, Stop}
use Rattle.nbd_session.specs.declared.writer.Put.{Put}
use Rattle.nbd_session.specs.declared.writer.Written.{Written}
use Rattle.nbd_session.specs.declared.writer.Written.TheVariants.{Done, SinkFailed}
use Rattle.nbd_session.specs.Asking.{Asked, asked_of}
use Rattle.nbd_session.specs.Flights.{AreAnswered, AreOperations}
use Rattle.nbd_session.specs.Lanes.{AreServed, HasServed, IsLast, IsLeft, IsReplied, IsTurnOf}
use Rattle.nbd_session.specs.Lanes.{port_spent, read_out, reader_spent, sink_failed}
use Rattle.nbd_session.specs.Lanes.{writer_spent}
use Rattle.nbd_session.specs.Puts.{IfDone, text_of}
use Rattle.nbd_session.specs.Replies.{reply_text}
use Rattle.nbd_session.specs.Requests.{IsRefusal}
use Rattle.nbd_session.specs.Takes.{IsGivenBy}
use Rattle.nbd_session.specs.Turns.{Turn, IsAnswered, exchange_of, exchanges_of, replies_to}
use Rattle.nbd_session.proofs.LaneHistories.{AreStops, AreUnput, FailedIn, GivesCalls, SendsCalls}
use Rattle.nbd_session.proofs.LaneHistories.{none-failed}
use Rattle.nbd_session.proofs.RequestLemmas.{exchanges_of-append, refused-answered, refused-exchanges}
use Rattle.nbd_session.proofs.RequestLemmas.{replies_to-append, replies_to-none, replies_to-one}
use Rattle.volume_cell.specs.declared.history.Call.{Call}

-- ---- a turn
-- the turn of a lane, as the turn of this request: where memory was wanted the lane doesn't know the
-- operation
abbrev pub asking : Asked → Turn → Turn
asking asked turn = record {
  cookie = asked.cookie;
  asked = asked.asked;
  form = asked.form;
  reply = turn.reply;
  tried = turn.tried;
  submitted = turn.submitted;
}

abbrev reply_of : Turn → List ℕ
reply_of turn = reply_text turn.form turn.cookie turn.reply

abbrev did_by : Turn → List Exchange
did_by turn = exchange_of turn.asked turn.submitted turn.reply turn.tried

-- it is the same turn to the port and to the client
record IsAsking (asked : Asked) (turn : Turn) : Type 0 where
  answered : IsAnswered asked.asked turn.submitted turn.reply turn.tried
  reply : reply_of (asking asked turn) ≡ reply_of turn
  did : did_by (asking asked turn) ≡ did_by turn

asks-same : (op : Op) (asked : Asked) (turn : Turn)
    → asked ≡ record { cookie = turn.cookie; asked = turn.asked; form = turn.form }
    → turn.asked ≡ Some op → IsAnswered (Some op) turn.submitted turn.reply turn.tried
    → IsAsking asked turn
asks-same op asked turn is asks answered = record {
  answered = subst (λ (a : Option Op). IsAnswered a turn.submitted turn.reply turn.tried)
      (sym asks ∙ sym (ap (λ (a : Asked). a.asked) is)) answered;
  reply = ap (λ (a : Asked). reply_text a.form a.cookie turn.reply) is;
  did = ap (λ (a : Asked). exchange_of a.asked turn.submitted turn.reply turn.tried) is;
}

refused-same : (asked : Asked) (number : ℕ) (turn : Turn) → asked.cookie ≡ turn.cookie
    → asked.form ≡ turn.form → IsRefusal asked.asked number → IsRefusal turn.asked number
    → IsTurnOf (Refuse turn.cookie turn.form number) turn → IsAsking asked turn
refused-same asked number turn cookie form refusal its is = record {
  answered = rw (is.3, is.4, is.5) (refused-answered asked.asked number refusal);
  reply = rw (cookie, form) refl;
  did = rw (is.3, is.4, is.5)
      (refused-exchanges asked.asked number ∙ sym (refused-exchanges turn.asked number));
}

turn-asking : (next : Next) (asked : Asked) (turn : Turn) → IsGivenBy asked next
    → IsTurnOf next turn → IsAsking asked turn
turn-asking (Ask cookie form op) asked turn given is =
    asks-same op asked turn (given ∙ sym is.0) (ap (λ (a : Asked). a.asked) is.0) is.1
turn-asking (Refuse cookie form number) asked turn given is =
    refused-same asked number turn (given.0 ∙ sym is.0) (given.1 ∙ sym is.1) given.2 is.2
    (refl, refl, is.2, is.3, is.4, is.5)
turn-asking (Stop ending) asked turn given is = absurd is

-- ---- some turns
-- the turns of a lane, as the turns of these requests
record AreAsking (asked : List Asked) (turns : List Turn) : Type 0 where
  them : List Turn
  asked_are : asked_of them ≡ asked
  answered : AreAnswered them
  replies : replies_to them ≡ replies_to turns
  did : exchanges_of them ≡ exchanges_of turns

none-asking : AreAsking [] []
unfolding asked_of AreAnswered replies_to exchanges_of
none-asking = record { them = []; asked_are = refl; answered = tt; replies = refl; did = refl }

more-asking : (asked : Asked) (turn : Turn) (all : List Asked) (turns : List Turn)
    → IsAsking asked turn → AreAsking all turns → AreAsking (asked ∷ all) (turn ∷ turns)
unfolding asked_of AreAnswered replies_to exchanges_of
more-asking asked turn all turns is are = record {
  them = asking asked turn ∷ are.them;
  asked_are = ap (λ them. asked ∷ them) are.asked_are;
  answered = (is.answered, are.answered);
  replies = ap (λ text. text ∷ replies_to are.them) is.reply
      ∙ ap (λ them. reply_of turn ∷ them) are.replies;
  did = ap (λ them. them ++ exchanges_of are.them) is.did
      ∙ ap (λ them. did_by turn ++ them) are.did;
}

-- ---- what a lane served
-- it served a front of the requests that it was given, and put these replies
record Fronts (end : Option Ending) (broke : Bool) (puts : List (Call Put Written)) (last_takes : List (Call Take Taken)) (last_puts : List (Call Put Written))
    (turns last : List Turn) (asked : List Asked) (texts : List (List ℕ)) : Type 0 where
  them : List Turn
  rest : List Asked
  rear : List (List ℕ)
  asked_are : asked ≡ asked_of them ++ rest
  answered : AreAnswered them
  texts_are : texts ≡ replies_to them ++ rear
  replies : replies_to them ++ replies_to last ≡ replies_to (turns ++ last)
  did : exchanges_of them ++ exchanges_of last ≡ exchanges_of (turns ++ last)
  gives : GivesCalls end last_takes rest
  sends : SendsCalls broke last_puts rear
  fails : FailedIn (puts ++ last_puts) texts → FailedIn last_puts rear

pub done-goes : (outcome : Written) (P Q : Type 0) → IfDone outcome (Unit {0}) ⊥ → IfDone outcome P Q
    → P
done-goes (Done reply) P Q done is = is
done-goes (SinkFailed reply) P Q done is = absurd done

done-refused : (outcome : Written) → IfDone outcome (Unit {0}) ⊥ → IfDone outcome ⊥ (Unit {0}) → ⊥
done-refused (Done reply) done refused = refused
done-refused (SinkFailed reply) done refused = done

text-of-turn : (take : Call Take Taken) (put : Call Put Written) (turn : Turn)
    → IsReplied take put turn → text_of put.event ≡ reply_of turn
text-of-turn take put turn is = ap (λ (p : Put). text_of p) is.put_is

-- the end isn't a request that was answered
pub stop-turn : (next : Next) (turn : Turn) → IsTurnOf next turn → (ending : Ending) → next ≡ Stop ending → ⊥
stop-turn next turn is ending stops = subst (λ n. IsTurnOf n turn) stops is

fronts : (end : Option Ending) (broke : Bool) (takes last_takes : List (Call Take Taken)) (puts last_puts : List (Call Put Written))
    (turns last : List Turn) (asked : List Asked) (texts : List (List ℕ))
    → AreServed takes puts turns → GivesCalls end (takes ++ last_takes) asked
    → SendsCalls broke (puts ++ last_puts) texts → Fronts end broke puts last_takes last_puts turns last asked texts
unfolding AreServed FailedIn GivesCalls SendsCalls AreUnput AreStops asked_of AreAnswered replies_to exchanges_of
fronts end broke [] last_takes [] last_puts [] last asked texts served gives sends = record {
  them = [];
  rest = asked;
  rear = texts;
  asked_are = refl;
  answered = tt;
  texts_are = refl;
  replies = refl;
  did = refl;
  gives = gives;
  sends = sends;
  fails = λ failed. failed;
}
fronts end broke (take ∷ takes) last_takes (put ∷ puts) last_puts (turn ∷ turns) last [] texts
    (is, done, served) gives sends =
    absurd (stop-turn take.outcome.next turn is.turn_of gives.0 gives.2.0)
fronts end broke (take ∷ takes) last_takes (put ∷ puts) last_puts (turn ∷ turns) last (asked ∷ all) []
    (is, done, served) gives sends = absurd (done-refused put.outcome done sends.1.0)
fronts end broke (take ∷ takes) last_takes (put ∷ puts) last_puts (turn ∷ turns) last (asked ∷ all)
    (text ∷ texts) (is, done, served) gives sends =
    let so = turn-asking take.outcome.next asked turn gives.0 is.turn_of in
    let more = fronts end broke takes last_takes puts last_puts turns last all texts served gives.1
    (done-goes put.outcome _ _ done sends.1) in
    record {
      them = asking asked turn ∷ more.them;
      rest = more.rest;
      rear = more.rear;
      asked_are = ap (λ them. asked ∷ them) more.asked_are;
      answered = (so.answered, more.answered);
      texts_are = ap (λ t. t ∷ texts) (sends.0 ∙ text-of-turn take put turn is ∙ sym so.reply)
          ∙ ap (λ them. reply_of (asking asked turn) ∷ them) more.texts_are;
      replies = ap (λ t. t ∷ (replies_to more.them ++ replies_to last)) so.reply
          ∙ ap (λ them. reply_of turn ∷ them) more.replies;
      did = append_assoc (did_by (asking asked turn)) (exchanges_of more.them) (exchanges_of last)
          ∙ ap (λ them. them ++ (exchanges_of more.them ++ exchanges_of last)) so.did
          ∙ ap (λ them. did_by turn ++ them) more.did;
      gives = more.gives;
      sends = more.sends;
      fails = λ failed. more.fails (done-goes put.outcome _ _ done failed);
    }
fronts end broke [] last_takes [] last_puts (turn ∷ turns) last asked texts served gives sends = absurd served
fronts end broke [] last_takes (put ∷ puts) last_puts turns last asked texts served gives sends = absurd served
fronts end broke (take ∷ takes) last_takes [] last_puts turns last asked texts served gives sends =
    absurd served
fronts end broke (take ∷ takes) last_takes (put ∷ puts) last_puts [] last asked texts served gives sends =
    absurd served

-- ---- and at last
-- what holds by a lane's halt: it left a request only where its port is spent
abbrev pub IsWhy : Option Ending → Bool → Halt → List Asked → List (List ℕ) → Type 0
IsWhy end broke (Halts.RequestsEnded ending) left unput = (end ≡ Some ending) × (left ≡ []) × (unput ≡ [])
IsWhy end broke Halts.SinkFailed left unput = (broke ≡ true) × (left ≡ [])
IsWhy end broke Halts.PortSpent left unput = (left ≢ []) × (unput ≡ [])
IsWhy end broke Halts.CellSpent left unput = left ≡ []

pub left-by-port : (end : Option Ending) (broke : Bool) (halt : Halt) (left : List Asked)
    (unput : List (List ℕ)) → IsWhy end broke halt left unput → left ≢ []
    → halt ≡ Halts.PortSpent
left-by-port end broke (Halts.RequestsEnded ending) left unput why some = absurd (some why.1)
left-by-port end broke Halts.SinkFailed left unput why some = absurd (some why.1)
left-by-port end broke Halts.PortSpent left unput why some = refl
left-by-port end broke Halts.CellSpent left unput why some = absurd (some why)

-- a lane that halted so: the requests that it was given, with their replies
pub record IsLaneAnswered (end : Option Ending) (broke : Bool) (halt : Halt)
    (puts : List (Call Put Written)) (turns : List Turn) (asked : List Asked)
    (texts : List (List ℕ)) : Type 0 where
  pub them : List Turn
  pub left : List Asked
  pub unput : List (List ℕ)
  pub asked_are : asked_of them ++ left ≡ asked
  pub answered : AreAnswered them
  pub replies : texts ++ unput ≡ replies_to them
  pub few : length left + length unput ≤ 1
  pub did : exchanges_of them ≡ exchanges_of turns
  pub why : IsWhy end broke halt left unput
  pub operations : AreOperations left
  -- the lane at whose reply the sink failed lacks nothing
  pub fails : FailedIn puts texts → (left ≡ []) × (unput ≡ [])

asked_of-append : (xs ys : List Turn) → asked_of (xs ++ ys) ≡ asked_of xs ++ asked_of ys
unfolding asked_of
asked_of-append [] ys = refl
asked_of-append (x ∷ xs) ys =
    ap (λ them. record { cookie = x.cookie; asked = x.asked; form = x.form } ∷ them)
    (asked_of-append xs ys)

answered-append : (xs ys : List Turn) → AreAnswered xs → AreAnswered ys → AreAnswered (xs ++ ys)
unfolding AreAnswered
answered-append [] ys first second = second
answered-append (x ∷ xs) ys (is, first) second = (is, answered-append xs ys first second)

finished : (end : Option Ending) (broke : Bool) (halt : Halt) (puts : List (Call Put Written))
    (last_takes : List (Call Take Taken)) (last_puts : List (Call Put Written))
    (turns last : List Turn) (asked last_asked left : List Asked) (texts unput : List (List ℕ))
    → (front : Fronts end broke puts last_takes last_puts turns last asked texts)
    → AreAsking last_asked last → front.rest ≡ last_asked ++ left
    → front.rear ++ unput ≡ replies_to last → length left + length unput ≤ 1
    → IsWhy end broke halt left unput → AreOperations left
    → (FailedIn last_puts front.rear → (left ≡ []) × (unput ≡ []))
    → IsLaneAnswered end broke halt (puts ++ last_puts) (turns ++ last) asked texts
finished end broke halt puts last_takes last_puts turns last asked last_asked left texts unput front
    rear_turns rest rear few why operations fails = record {
      them = front.them ++ rear_turns.them;
      left = left;
      unput = unput;
      asked_are = ap (λ xs. xs ++ left) (asked_of-append front.them rear_turns.them)
          ∙ append_assoc (asked_of front.them) (asked_of rear_turns.them) left
          ∙ ap (λ xs. asked_of front.them ++ (xs ++ left)) rear_turns.asked_are
          ∙ ap (λ xs. asked_of front.them ++ xs) (sym rest) ∙ sym front.asked_are;
      answered = answered-append front.them rear_turns.them front.answered rear_turns.answered;
      replies = ap (λ xs. xs ++ unput) front.texts_are
          ∙ append_assoc (replies_to front.them) front.rear unput
          ∙ ap (λ xs. replies_to front.them ++ xs) (rear ∙ sym rear_turns.replies)
          ∙ replies_to-append front.them rear_turns.them;
      few = few;
      did = exchanges_of-append front.them rear_turns.them
          ∙ ap (λ xs. exchanges_of front.them ++ xs) rear_turns.did ∙ front.did;
      why = why;
      operations = operations;
      fails = λ failed. fails (front.fails failed);
    }

-- what the last call gave
stop-same : (ending other : Ending) → Stop ending ≡ Stop other → ending ≡ other
stop-same ending other is = cc

gave-end : (end : Option Ending) (take : Call Take Taken) (ending : Ending) (rest : List Asked)
    → take.outcome.next ≡ Stop ending → GivesCalls end (take ∷ []) rest
    → (rest ≡ []) × (end ≡ Some ending)
unfolding GivesCalls AreStops
gave-end end take ending [] is gives =
    (refl, gives.1 ∙ ap (λ e. Some e) (stop-same gives.0 ending (sym gives.2.0 ∙ is)))
gave-end end take ending (asked ∷ rest) is gives =
    absurd (subst (λ n. IsGivenBy asked n) is gives.0)

gave-none : (end : Option Ending) (rest : List Asked) → GivesCalls end [] rest → rest ≡ []
unfolding GivesCalls
gave-none end [] gives = refl
gave-none end (asked ∷ rest) gives = absurd gives

record GaveOne (take : Call Take Taken) (rest : List Asked) : Type 0 where
  one : Asked
  is : rest ≡ one ∷ []
  given : IsGivenBy one take.outcome.next

gave-one : (end : Option Ending) (take : Call Take Taken) (rest : List Asked)
    → ((ending : Ending) → take.outcome.next ≡ Stop ending → ⊥) → GivesCalls end (take ∷ []) rest
    → GaveOne take rest
unfolding GivesCalls AreStops
gave-one end take [] goes gives = absurd (goes gives.0 gives.2.0)
gave-one end take (asked ∷ rest) goes gives = record {
  one = asked;
  is = ap (λ them. asked ∷ them) (gave-none end rest gives.1);
  given = gives.0;
}

pub left-goes : (next : Next) (asked : Asked) → IsLeft next asked → (ending : Ending) → next ≡ Stop ending → ⊥
left-goes next asked is ending stops = subst (λ n. IsLeft n asked) stops is

-- what the last put put: its reply, or nothing
record PutLast (broke : Bool) (put : Call Put Written) (turn : Turn) (rear : List (List ℕ)) : Type 0 where
  unput : List (List ℕ)
  is : rear ++ unput ≡ replies_to (turn ∷ [])
  few : length unput ≤ 1
  fault : broke ≡ true
  fails : FailedIn (put ∷ []) rear → unput ≡ []

refused-goes : (outcome : Written) (P Q : Type 0) → IfDone outcome ⊥ (Unit {0}) → IfDone outcome P Q
    → Q
refused-goes (Done reply) P Q refused is = absurd refused
refused-goes (SinkFailed reply) P Q refused is = is

put-last : (broke : Bool) (take : Call Take Taken) (put : Call Put Written) (turn : Turn) (rear : List (List ℕ))
    → IsReplied take put turn → IfDone put.outcome ⊥ (Unit {0}) → SendsCalls broke (put ∷ []) rear
    → PutLast broke put turn rear
unfolding FailedIn SendsCalls replies_to
put-last broke take put turn [] is refused sends = record {
  unput = reply_of turn ∷ [];
  is = refl;
  few = omega arith;
  fault = sends.0;
  fails = λ failed. absurd failed;
}
put-last broke take put turn (text ∷ texts) is refused sends = record {
  unput = [];
  is = append-nil (text ∷ texts)
      ∙ ap (λ them. text ∷ them) (refused-goes put.outcome _ _ refused sends.1).0
      ∙ ap (λ t. t ∷ []) (sends.0 ∙ text-of-turn take put turn is);
  few = omega arith;
  fault = (refused-goes put.outcome _ _ refused sends.1).1;
  fails = λ failed. refl;
}

put-none : (broke : Bool) (rear : List (List ℕ)) → SendsCalls broke [] rear → rear ≡ []
unfolding SendsCalls
put-none broke rear sends = sends

one-asking : (asked : Asked) (next : Next) (turn : Turn) → IsGivenBy asked next → IsTurnOf next turn
    → AreAsking (asked ∷ []) (turn ∷ [])
one-asking asked next turn given is =
    more-asking asked turn [] [] (turn-asking next asked turn given is) none-asking

pub no-operations : AreOperations []
unfolding AreOperations
no-operations = tt

pub one-operation : (one : Asked) (op : Op) → one.asked ≡ Some op → AreOperations (one ∷ [])
unfolding AreOperations
one-operation one op is = ((op, is), tt)

-- what a lane left is an operation
left-asks : (one : Asked) (next : Next) (asked : Asked) → IsLeft next asked → IsGivenBy one next
    → AreOperations (one ∷ [])
left-asks one (Ask cookie form op) asked is given =
    one-operation one op (ap (λ (a : Asked). a.asked) given)
left-asks one (Refuse cookie form number) asked is given = absurd is
left-asks one (Stop ending) asked is given = absurd is

pub some-asked : (one : Asked) → (one ∷ []) ≢ []
some-asked one is = cc

lane-ends : (end : Option Ending) (broke : Bool) (halt : Halt) (puts : List (Call Put Written)) (last_takes : List (Call Take Taken))
    (last_puts : List (Call Put Written)) (turns last : List Turn) (left asked : List Asked)
    (texts : List (List ℕ)) → IsLast halt last_takes last_puts last left
    → Fronts end broke puts last_takes last_puts turns last asked texts
    → IsLaneAnswered end broke halt (puts ++ last_puts) (turns ++ last) asked texts
lane-ends end broke _ puts _ _ turns _ _ asked texts (read_out take ending is) front =
    let rest = gave-end end take ending front.rest is front.gives in
    let rear = put-none broke front.rear front.sends in
    finished end broke (Halts.RequestsEnded ending) puts _ _ turns [] asked [] [] texts [] front none-asking
    rest.0 (append-nil front.rear ∙ rear ∙ sym replies_to-none) (omega arith) (rest.1, refl, refl) no-operations
    (λ failed. (refl, refl))
lane-ends end broke _ puts _ _ turns _ _ asked texts (sink_failed take put turn is refused) front =
    let one = gave-one end take front.rest (stop-turn take.outcome.next turn is.turn_of) front.gives in
    let rear = put-last broke take put turn front.rear is refused front.sends in
    finished end broke Halts.SinkFailed puts _ _ turns (turn ∷ []) asked (one.one ∷ []) [] texts rear.unput
    front (one-asking one.one take.outcome.next turn one.given is.turn_of) one.is rear.is
    (omega (arith, rear.few)) (rear.fault, refl) no-operations (λ failed. (refl, rear.fails failed))
lane-ends end broke _ puts _ _ turns _ _ asked texts (port_spent take asks is) front =
    let one = gave-one end take front.rest (left-goes take.outcome.next asks is) front.gives in
    let rear = put-none broke front.rear front.sends in
    finished end broke Halts.PortSpent puts _ _ turns [] asked [] (one.one ∷ []) texts [] front none-asking
    one.is (append-nil front.rear ∙ rear ∙ sym replies_to-none) (omega arith)
    (some-asked one.one, refl) (left-asks one.one take.outcome.next asks is one.given)
    (λ failed. absurd (none-failed front.rear failed))
lane-ends end broke _ puts _ _ turns _ _ asked texts reader_spent front =
    let rest = gave-none end front.rest front.gives in
    let rear = put-none broke front.rear front.sends in
    finished end broke Halts.CellSpent puts _ _ turns [] asked [] [] texts [] front none-asking rest
    (append-nil front.rear ∙ rear ∙ sym replies_to-none) (omega arith) refl no-operations
    (λ failed. (refl, refl))
lane-ends end broke _ puts _ _ turns _ _ asked texts (writer_spent take turn is) front =
    let one = gave-one end take front.rest (stop-turn take.outcome.next turn is) front.gives in
    let rear = put-none broke front.rear front.sends in
    finished end broke Halts.CellSpent puts _ _ turns (turn ∷ []) asked (one.one ∷ []) [] texts
    (reply_of turn ∷ []) front (one-asking one.one take.outcome.next turn one.given is) one.is
    (ap (λ them. them ++ reply_of turn ∷ []) rear ∙ replies_to-one turn) (omega arith) refl no-operations
    (λ failed. absurd (none-failed front.rear failed))

-- A lane served requests until it halted: those that its calls to the reader gave, with the replies
-- that its calls to the writer put.
pub lane-answered : (end : Option Ending) (broke : Bool) (halt : Halt) (takes : List (Call Take Taken))
    (puts : List (Call Put Written)) (turns : List Turn) (left asked : List Asked)
    (texts : List (List ℕ)) → HasServed halt takes puts turns left → GivesCalls end takes asked
    → SendsCalls broke puts texts → IsLaneAnswered end broke halt puts turns asked texts
lane-answered end broke halt takes puts turns left asked texts is gives sends =
    subst (λ (them : List Turn). IsLaneAnswered end broke halt puts them asked texts) (sym is.turns_are)
    (subst (λ (them : List (Call Put Written)).
    IsLaneAnswered end broke halt them (is.served ++ is.last) asked texts) (sym is.puts_are)
    (lane-ends end broke halt is.served_puts is.last_takes is.last_puts is.served is.last left asked texts is.is_last
    (fronts end broke is.served_takes is.last_takes is.served_puts is.last_puts is.served is.last asked
    texts is.are_served
    (subst (λ (them : List (Call Take Taken)). GivesCalls end them asked) is.takes_are gives)
    (subst (λ (them : List (Call Put Written)). SendsCalls broke them texts) is.puts_are sends))))
