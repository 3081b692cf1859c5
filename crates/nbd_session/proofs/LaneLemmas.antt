-- What a lane did, request by request.
use Rattle.std.proofs.Common.{◌≡◌, ℕ, suc, Bool, List, [], ◌∷◌, ◌++◌, Option, Some, None, ap, ◌∙◌}
use Rattle.std.proofs.Common.{refl, sym, subst, append_assoc, append-nil}
use Rattle.std.specs.Prelude.{MatchOption}
use Rattle.io_edge.specs.Intake.{Intake}
use Rattle.nbd_stream.specs.declared.ending.Ending.{Ending}
use Rattle.nbd_session.specs.declared.lane.Halt.{Halt}
use Rattle.nbd_session.specs.declared.lane.Halt.TheVariants as Halts
use Rattle.nbd_session.specs.declared.reader.Reading.{Reading}
use Rattle.nbd_session.specs.declared.reader.Take.{Take}
use Rattle.nbd_session.specs.declared.reader.Taken.{Taken}
use Rattle.nbd_session.specs.declared.requests.Next.{Next}
use Rattle.nbd_session.specs.declared.requests.Next.TheVariants.{Ask, Refuse, Stop}
use Rattle.nbd_session.specs.declared.writer.Put.{Put}
use Rattle.nbd_session.specs.declared.writer.Written.{Written}
use Rattle.nbd_session.specs.Asking.{Asked, SpellsAsked}
use Rattle.nbd_session.specs.Lanes.{AreServed, HasCalled, HasServed, IsLane, IsLast, IsPut, IsReplied}
use Rattle.nbd_session.specs.Lanes.{IsTurnOf, WasTaken, put_of, sink_failed, writer_spent}
use Rattle.nbd_session.specs.Merges.{From, items_of}
use Rattle.nbd_session.specs.Puts.{IfDone}
use Rattle.nbd_session.specs.Requests.{IsMessage}
use Rattle.nbd_session.specs.Takes.{AreEnds, Gives, HasRead, IsGivenBy}
use Rattle.nbd_session.specs.Turns.{Turn}
use Rattle.volume_cell.specs.declared.history.Call.{Call}
use Rattle.volume_cell.specs.declared.history.Entry.{Entry}
use Rattle.volume_cell.specs.declared.knowledge.Knowledge.{Knowledge}
use Rattle.volume_cell.specs.declared.spent.Spent.{Spent}
use Rattle.volume_cell.specs.Histories.{Begins, call}
use Rattle.volume_cell.specs.Passes.{IsAnswered, IsSamePass, IsSpent}

-- ---- the request that was given
-- behind the end no request is given
ends-last : (ending : Ending) (found : List (Entry Take Taken)) (one : Entry Take Taken)
    → AreEnds ending (found ++ one ∷ []) → one.outcome.next ≡ Stop ending
unfolding AreEnds
ends-last ending [] one are = are.0
ends-last ending (first ∷ found) one are = ends-last ending found one are.1

-- what is given isn't the end
abbrev pub Asks : Next → Type 0
Asks (Stop ending) = ⊥
Asks _ = Unit {0}

asks-not : (next : Next) (ending : Ending) → next ≡ Stop ending → Asks next → ⊥
asks-not next ending is asks = subst Asks is asks

-- a request that was given last is a message that was read
record IsRead (structured : Bool) (next : Next) : Type 0 where
  asked : Asked
  bytes : List ℕ
  given_by : IsGivenBy asked next
  message : IsMessage structured bytes asked.cookie asked.asked asked.form

last-read : (structured : Bool) (n : ℕ) (found : List (Entry Take Taken)) (one : Entry Take Taken)
    (all : List (From Asked)) (end : Option Ending) (text : List ℕ)
    → Gives n (found ++ one ∷ []) all end → SpellsAsked structured (items_of all) text
    → Asks one.outcome.next → IsRead structured one.outcome.next
unfolding Gives AreEnds SpellsAsked items_of
last-read structured n [] one [] None text gives spells asks = absurd gives
last-read structured n [] one [] (Some ending) text gives spells asks =
    absurd (asks-not one.outcome.next ending gives.0 asks)
last-read structured n [] one (given ∷ all) end text gives spells asks = record {
  asked = given.item;
  bytes = spells.0;
  given_by = gives.0.given_by;
  message = spells.3;
}
last-read structured n (first ∷ found) one [] None text gives spells asks = absurd gives
last-read structured n (first ∷ found) one [] (Some ending) text gives spells asks =
    absurd (asks-not one.outcome.next ending (ends-last ending found one gives.1) asks)
last-read structured n (first ∷ found) one (given ∷ all) end text gives spells asks =
    last-read structured (suc n) found one all end spells.1 gives.1 spells.4 asks

was-read : {S : Type 0} (intake : S → Intake) (start now : Reading S)
    (history found : List (Entry Take Taken)) (one : Entry Take Taken)
    → HasRead intake start now history → history ≡ found ++ one ∷ [] → Asks one.outcome.next
    → IsRead start.structured one.outcome.next
was-read intake start now history found one read is asks =
    last-read start.structured 0 found one read.all now.ending read.text
    (subst (λ (h : List (Entry Take Taken)). Gives 0 h read.all now.ending) is read.gives)
    read.spells asks

read-taken : (structured : Bool) (next : Next) → IsRead structured next → WasTaken next
read-taken structured (Ask cookie form op) is = (
  structured,
  is.bytes,
  subst (λ (a : Asked). IsMessage structured is.bytes a.cookie a.asked a.form) is.given_by is.message,
)
read-taken structured (Refuse cookie form number) is = (is.asked.asked, is.given_by.2)
read-taken structured (Stop ending) is = tt

-- what is given last was taken
last-taken : {S : Type 0} (intake : S → Intake) (start now : Reading S)
    (history found : List (Entry Take Taken)) (one : Entry Take Taken) (next : Next)
    → HasRead intake start now history → history ≡ found ++ one ∷ [] → one.outcome.next ≡ next
    → WasTaken next
last-taken intake start now history found one (Stop ending) read is same = tt
last-taken intake start now history found one (Ask cookie form op) read is same =
    read-taken start.structured (Ask cookie form op)
    (subst (IsRead start.structured) same
    (was-read intake start now history found one read is (subst Asks (sym same) tt)))
last-taken intake start now history found one (Refuse cookie form number) read is same =
    read-taken start.structured (Refuse cookie form number)
    (subst (IsRead start.structured) same
    (was-read intake start now history found one read is (subst Asks (sym same) tt)))

pub turn-taken : {S : Type 0} (intake : S → Intake) (start now : Reading S) (limit : ℕ)
    (v w : Knowledge (Reading S) Take Taken) (event : Take) (taken : Taken)
    → HasRead intake start now w.history → IsAnswered limit v w event taken → WasTaken taken.next
turn-taken intake start now limit v w event taken read is =
    last-taken intake start now w.history is.found _ taken.next read is.last refl

-- ---- calls of a pass
same-none : {S E O : Type 0} (v : Knowledge S E O) → IsSamePass v v
same-none v = record { start = refl; name = refl; joined = refl; splits = refl; away = refl }

pub called-none : {S E O : Type 0} (v : Knowledge S E O) → HasCalled v v []
called-none v = record {
  same = same-none v;
  calls_are = sym (append-nil v.calls);
  later = record { rest = []; is = sym (append-nil v.history) };
}

begins-on : {X : Type 0} (a b : List X) (x : X) (c : List X) → Begins a b → c ≡ b ++ x ∷ []
    → Begins a c
begins-on a b x c begins is = record {
  rest = begins.rest ++ x ∷ [];
  is = is ∙ ap (λ t. t ++ x ∷ []) begins.is ∙ append_assoc a begins.rest (x ∷ []);
}

begins-more : {X : Type 0} (a b c : List X) → Begins a b → Begins b c → Begins a c
begins-more a b c first second = record {
  rest = first.rest ++ second.rest;
  is = second.is ∙ ap (λ t. t ++ second.rest) first.is ∙ append_assoc a first.rest second.rest;
}

pub called-one : {S E O : Type 0} (limit : ℕ) (v w : Knowledge S E O) (event : E) (outcome : O)
    → IsSamePass v w → IsAnswered limit v w event outcome
    → HasCalled v w (call event outcome ∷ [])
called-one limit v w event outcome same is = record {
  same = same;
  calls_are = is.calls;
  later = begins-on v.history is.found _ w.history is.later is.last;
}

pub called-spent : {S E O : Type 0} (limit : ℕ) (v w : Knowledge S E O) (event : E)
    (spent : Spent E) → IsSamePass v w → IsSpent limit v w event spent → HasCalled v w []
called-spent limit v w event spent same is = record {
  same = same;
  calls_are = is.calls ∙ sym (append-nil v.calls);
  later = is.later;
}

pub called-more : {S E O : Type 0} (u v w : Knowledge S E O) (xs ys : List (Call E O))
    → HasCalled u v xs → HasCalled v w ys → HasCalled u w (xs ++ ys)
called-more u v w xs ys first second = record {
  same = record {
    start = second.same.start ∙ first.same.start;
    name = second.same.name ∙ first.same.name;
    joined = second.same.joined ∙ first.same.joined;
    splits = second.same.splits ∙ first.same.splits;
    away = second.same.away ∙ first.same.away;
  };
  calls_are = second.calls_are ∙ ap (λ t. t ++ ys) first.calls_are ∙ append_assoc u.calls xs ys;
  later = begins-more u.history v.history w.history first.later second.later;
}

-- ---- requests that were served
pub served-none : AreServed [] [] []
unfolding AreServed
served-none = tt

pub served-one : (take : Call Take Taken) (put : Call Put Written) (turn : Turn)
    → IsReplied take put turn → IfDone put.outcome (Unit {0}) ⊥
    → AreServed (take ∷ []) (put ∷ []) (turn ∷ [])
unfolding AreServed
served-one take put turn is done = (is, done, tt)

pub served-more : (takes : List (Call Take Taken)) (puts : List (Call Put Written))
    (turns : List Turn) (takes' : List (Call Take Taken)) (puts' : List (Call Put Written))
    (turns' : List Turn) → AreServed takes puts turns → AreServed takes' puts' turns'
    → AreServed (takes ++ takes') (puts ++ puts') (turns ++ turns')
unfolding AreServed
served-more [] [] [] takes' puts' turns' first second = second
served-more (take ∷ takes) (put ∷ puts) (turn ∷ turns) takes' puts' turns' (is, done, first) second =
    (is, done, served-more takes puts turns takes' puts' turns' first second)
served-more [] [] (turn ∷ turns) takes' puts' turns' first second = absurd first
served-more [] (put ∷ puts) turns takes' puts' turns' first second = absurd first
served-more (take ∷ takes) [] turns takes' puts' turns' first second = absurd first
served-more (take ∷ takes) (put ∷ puts) [] takes' puts' turns' first second = absurd first

pub halted : (halt : Halt) (takes : List (Call Take Taken)) (puts : List (Call Put Written))
    (turns : List Turn) (takes' : List (Call Take Taken)) (puts' : List (Call Put Written))
    (turns' : List Turn) (left : List Asked) → AreServed takes puts turns
    → IsLast halt takes' puts' turns' left
    → HasServed halt (takes ++ takes') (puts ++ puts') (turns ++ turns') left
halted halt takes puts turns takes' puts' turns' left are last = record {
  served_takes = takes;
  served_puts = puts;
  served = turns;
  last_takes = takes';
  last_puts = puts';
  last = turns';
  are_served = are;
  is_last = last;
  takes_are = refl;
  puts_are = refl;
  turns_are = refl;
}

-- ---- behind a put
-- the request was answered, and its reply handed to the writer
pub after-put : (take : Call Take Taken) (turn : Turn) (puts : List (Call Put Written))
    (result : Option Halt) → IsTurnOf take.outcome.next turn
    → IsPut (put_of take.outcome.number turn) puts result
    → MatchOption result (AreServed (take ∷ []) puts (turn ∷ []))
    (λ halt. (left : List Asked) × IsLast halt (take ∷ []) puts (turn ∷ []) left)
after-put take turn puts None is put =
    subst (λ (them : List (Call Put Written)). AreServed (take ∷ []) them (turn ∷ [])) (sym put.1)
    (served-one take _ turn (record { turn_of = is; put_is = refl }) put.2)
after-put take turn puts (Some Halts.SinkFailed) is put = (
  [],
  subst (λ (them : List (Call Put Written)).
      IsLast Halts.SinkFailed (take ∷ []) them (turn ∷ []) []) (sym put.1)
      (sink_failed take _ turn (record { turn_of = is; put_is = refl }) put.2),
)
after-put take turn puts (Some Halts.CellSpent) is put = (
  [],
  subst (λ (them : List (Call Put Written)). IsLast Halts.CellSpent (take ∷ []) them (turn ∷ []) [])
      (sym put) (writer_spent take turn is),
)
after-put take turn puts (Some Halts.PortSpent) is put = absurd put
after-put take turn puts (Some (Halts.RequestsEnded ending)) is put = absurd put

-- a put isn't answered that the port is spent
pub put-unspent : (put : Put) (puts : List (Call Put Written)) (result : Option Halt)
    → IsPut put puts result → result ≡ Some Halts.PortSpent → ⊥
put-unspent put puts result is spent = subst (λ r. IsPut put puts r) spent is

-- the passes stay those of the lane
pub lane-more : {A B C D E F : Type 0} (v w : Knowledge A B C) (x y : Knowledge D E F)
    (takes : List (Call B C)) (puts : List (Call E F)) → IsLane v x → HasCalled v w takes
    → HasCalled x y puts → IsLane w y
lane-more v w x y takes puts is took put =
    (is.0, took.same.name ∙ is.1, put.same.name ∙ is.2)
