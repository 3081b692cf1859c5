-- What a reader gave, call by call.
use Rattle.std.proofs.Common.{◌≡◌, ℕ, suc, ◌+◌, ◌^◌, ◌<◌, ◌≤◌, Bool, false, List, [], ◌∷◌, ◌++◌, Some}
use Rattle.std.proofs.Common.{None, length, ap, ◌∙◌, refl, sym, subst, arith, append_assoc, append-nil}
use Rattle.std.proofs.Common.{length-append}
use Rattle.io_edge.specs.Intake.{Intake}
use Rattle.io_edge.specs.Outlet.{Outlet}
use Rattle.nbd_stream.specs.declared.ending.Ending.{Ending}
use Rattle.nbd_stream.specs.declared.ending.Ending.TheVariants.{TooMany}
use Rattle.nbd_stream.specs.Moments.{moment, Talks}
use Rattle.nbd_stream.specs.Traffic.{reach, Takes}
use Rattle.nbd_stream.proofs.TalkLemmas.{talks-none, talks-took, talks-stopped, talks-more}
use Rattle.nbd_stream.proofs.TalkLemmas.{talks-on, talks-enough}
use Rattle.nbd_session.specs.declared.reader.Reading.{Reading}
use Rattle.nbd_session.specs.declared.reader.Take.{Take}
use Rattle.nbd_session.specs.declared.reader.Taken.{Taken}
use Rattle.nbd_session.specs.declared.requests.Next.{Next}
use Rattle.nbd_session.specs.declared.requests.Next.TheVariants.{Ask, Refuse, Stop}
use Rattle.nbd_session.specs.Asking.{Asked, SpellsAsked}
use Rattle.nbd_session.specs.Grammar.{StopsRequests}
use Rattle.nbd_session.specs.Merges.{From, from, items_of}
use Rattle.nbd_session.specs.Requests.{IsMessage}
use Rattle.nbd_session.specs.Takes.{AreEnds, Gives, HasRead, HasTaken, IsGivenBy, IsTakeOf}
use Rattle.nbd_session.specs.Takes.{ReadingEnds, StopsReading, TakesNext, behind_end, too_many, took}
use Rattle.nbd_session.specs.Taking.{NextIs}
use Rattle.nbd_session.proofs.RequestLemmas.{stops-count}
use Rattle.volume_cell.specs.declared.history.Entry.{Entry}
use Rattle.volume_cell.specs.Histories.{entry}

-- ---- one entry more
ends-more : (ending : Ending) (history : List (Entry Take Taken)) (one : Entry Take Taken)
    → AreEnds ending history → one.outcome.next ≡ Stop ending → AreEnds ending (history ++ one ∷ [])
unfolding AreEnds
ends-more ending [] one are is = (is, tt)
ends-more ending (first ∷ history) one (begins, are) is =
    (begins, ends-more ending history one are is)

-- a request more
gives-more : (n : ℕ) (history : List (Entry Take Taken)) (all : List (From Asked))
    (one : Entry Take Taken) (given : From Asked) → Gives n history all None
    → IsTakeOf (n + length all) one given → Gives n (history ++ one ∷ []) (all ++ given ∷ []) None
unfolding Gives
gives-more n [] [] one given gives is =
    (subst (λ (k : ℕ). IsTakeOf k one given) (omega arith) is, tt)
gives-more n [] (other ∷ all) one given gives is = absurd gives
gives-more n (first ∷ history) [] one given gives is = absurd gives
gives-more n (first ∷ history) (other ∷ all) one given (begins, gives) is = (
  begins,
  gives-more (suc n) history all one given gives
      (subst (λ (k : ℕ). IsTakeOf k one given) (omega arith) is),
)

-- the end
gives-end : (n : ℕ) (history : List (Entry Take Taken)) (all : List (From Asked))
    (one : Entry Take Taken) (ending : Ending) → Gives n history all None
    → one.outcome.next ≡ Stop ending → Gives n (history ++ one ∷ []) all (Some ending)
unfolding Gives AreEnds
gives-end n [] [] one ending gives is = (is, tt)
gives-end n [] (other ∷ all) one ending gives is = absurd gives
gives-end n (first ∷ history) [] one ending gives is = absurd gives
gives-end n (first ∷ history) (other ∷ all) one ending (begins, gives) is =
    (begins, gives-end (suc n) history all one ending gives is)

-- and once more
gives-again : (n : ℕ) (history : List (Entry Take Taken)) (all : List (From Asked))
    (one : Entry Take Taken) (ending : Ending) → Gives n history all (Some ending)
    → one.outcome.next ≡ Stop ending → Gives n (history ++ one ∷ []) all (Some ending)
unfolding Gives
gives-again n [] [] one ending gives is = absurd gives
gives-again n [] (other ∷ all) one ending gives is = absurd gives
gives-again n (first ∷ history) [] one ending gives is =
    ends-more ending (first ∷ history) one gives is
gives-again n (first ∷ history) (other ∷ all) one ending (begins, gives) is =
    (begins, gives-again (suc n) history all one ending gives is)

-- ---- the bytes
spells-more : (structured : Bool) (all : List (From Asked)) (given : From Asked) (a b : List ℕ)
    → SpellsAsked structured (items_of all) a
    → IsMessage structured b given.item.cookie given.item.asked given.item.form
    → SpellsAsked structured (items_of (all ++ given ∷ [])) (a ++ b)
unfolding SpellsAsked items_of
spells-more structured [] given a b spells is =
    (b, [], ap (λ x. x ++ b) spells ∙ sym (append-nil b), is, refl)
spells-more structured (first ∷ all) given a b spells is = (
  spells.0,
  spells.1 ++ b,
  ap (λ x. x ++ b) spells.2 ∙ append_assoc spells.0 spells.1 b,
  spells.3,
  spells-more structured all given spells.1 b spells.4 is,
)

pub stops-reading : (ending : Ending) (ended : Bool) (rest : List ℕ) → StopsRequests ending ended rest
    → StopsReading ending ended rest
stops-reading (TooMany m) ended rest stops = absurd stops
stops-reading _ ended rest stops = stops

module _ {S : Type 0} (intake : S → Intake) where
  -- ---- a reading that goes on
  -- what was read of a reading whose requests go on
  record ReadsOn (start now : Reading S) (all : List (From Asked)) : Type 0 where
    text : List ℕ
    spells : SpellsAsked start.structured (items_of all) text
    few : length all ≤ 2 ^ 32
    talks : (sink : Outlet) (put : ℕ) → Talks (moment (intake start.source) sink start.taken put)
        (moment (intake now.source) sink now.taken put) None text [] [] [] false

  reads-on : (start now : Reading S) (history : List (Entry Take Taken)) → now.ending ≡ None
      → (read : HasRead intake start now history) → ReadsOn start now read.all
  reads-on start now history none read =
      let ends : ReadingEnds None (length read.all) read.ended read.rest =
      subst (λ e. ReadingEnds e (length read.all) read.ended read.rest) none read.ends in
      record {
        text = read.text;
        spells = read.spells;
        few = ends.2;
        talks = λ sink put. talks-on _ _ read.text [] [] [] read.ended
            (subst (λ (t : List ℕ). Talks (moment (intake start.source) sink start.taken put)
            (moment (intake now.source) sink now.taken put) None t [] [] [] read.ended)
            (ap (λ r. read.text ++ r) ends.0 ∙ append-nil read.text)
            (subst (λ e. Talks (moment (intake start.source) sink start.taken put)
            (moment (intake now.source) sink now.taken put) e (read.text ++ read.rest) [] [] []
            read.ended) none (read.talks sink put)));
      }

  -- nothing was asked yet
  pub read-none : (reading : Reading S) → reading.next ≡ 0 → reading.ending ≡ None
      → HasRead intake reading reading []
  unfolding Gives SpellsAsked items_of
  read-none reading number none = record {
    all = [];
    gives = subst (λ e. Gives 0 [] [] e) (sym none) tt;
    text = [];
    rest = [];
    ended = false;
    spells = refl;
    ends = subst (λ e. ReadingEnds e 0 false []) (sym none) (refl, refl, omega arith);
    talks = λ sink put. subst (λ e. Talks (moment (intake reading.source) sink reading.taken put)
        (moment (intake reading.source) sink reading.taken put) e [] [] [] [] false) (sym none)
        (talks-none (moment (intake reading.source) sink reading.taken put));
    next = number;
    same = refl;
  }

  -- a request was given to a lane
  read-given : (start old new : Reading S) (history : List (Entry Take Taken)) (lane : ℕ)
      (event : Take) (taken : Taken) (asked : Asked) (bytes : List ℕ) → old.ending ≡ None
      → HasRead intake start old history
      → Takes (reach (intake old.source) old.taken) (reach (intake new.source) new.taken) bytes
      → (intake new.source).faults ≡ (intake old.source).faults
      → IsMessage old.structured bytes asked.cookie asked.asked asked.form
      → taken.number ≡ old.next → IsGivenBy asked taken.next → old.next < 2 ^ 32
      → new.next ≡ suc old.next → new.ending ≡ None → new.structured ≡ old.structured
      → HasRead intake start new (history ++ entry (lane ∷ []) event taken ∷ [])
  read-given start old new history lane event taken asked bytes none read takes held message number
      given fewer next_is still same =
      let on = reads-on start old history none read in
      let one : Entry Take Taken = entry (lane ∷ []) event taken in
      let all = read.all ++ from lane asked ∷ [] in
      let long = length-append read.all (from lane asked ∷ []) in
      let was = read.next in
      record {
        all = all;
        gives = subst (λ e. Gives 0 (history ++ one ∷ []) all e) (sym still)
            (gives-more 0 history read.all one (from lane asked)
            (subst (λ e. Gives 0 history read.all e) none read.gives)
            (record { name = refl; number = omega (arith, number, was); given_by = given }));
        text = on.text ++ bytes;
        rest = [];
        ended = false;
        spells = spells-more start.structured read.all (from lane asked) on.text bytes on.spells
            (subst (λ (s : Bool). IsMessage s bytes asked.cookie asked.asked asked.form) read.same
            message);
        ends = subst (λ e. ReadingEnds e (length all) false []) (sym still)
            (refl, refl, omega (arith, long, was, fewer));
        talks = λ sink put. subst (λ e. Talks (moment (intake start.source) sink start.taken put)
            (moment (intake new.source) sink new.taken put) e ((on.text ++ bytes) ++ []) [] [] []
            false) (sym still)
            (subst (λ (t : List ℕ). Talks (moment (intake start.source) sink start.taken put)
            (moment (intake new.source) sink new.taken put) None t [] [] [] false)
            (sym (append-nil (on.text ++ bytes)))
            (talks-more _ _ _ None on.text bytes [] [] [] [] [] false (on.talks sink put)
            (talks-took (reach (intake old.source) old.taken) (reach (intake new.source) new.taken) sink
            put bytes takes held)));
        next = omega (arith, next_is, was, long);
        same = same ∙ read.same;
      }

  -- the source ended the requests
  read-stopped : (start old new : Reading S) (history : List (Entry Take Taken)) (lane : ℕ)
      (event : Take) (taken : Taken) (ending : Ending) (bytes : List ℕ) (ended : Bool)
      → old.ending ≡ None → HasRead intake start old history
      → NextIs old.structured (reach (intake old.source) old.taken)
      (reach (intake new.source) new.taken) (Stop ending) bytes ended
      → taken.next ≡ Stop ending → old.next < 2 ^ 32 → new.next ≡ old.next
      → new.ending ≡ Some ending → new.structured ≡ old.structured
      → HasRead intake start new (history ++ entry (lane ∷ []) event taken ∷ [])
  read-stopped start old new history lane event taken ending bytes ended none read next is fewer
      next_is stops same =
      let on = reads-on start old history none read in
      let one : Entry Take Taken = entry (lane ∷ []) event taken in
      let was = read.next in
      record {
        all = read.all;
        gives = subst (λ e. Gives 0 (history ++ one ∷ []) read.all e) (sym stops)
            (gives-end 0 history read.all one ending
            (subst (λ e. Gives 0 history read.all e) none read.gives) is);
        text = on.text;
        rest = bytes;
        ended = ended;
        spells = on.spells;
        ends = subst (λ e. ReadingEnds e (length read.all) ended bytes) (sym stops) (
          stops-reading ending ended bytes next.by_case.1,
          stops-count ending ended bytes (length read.all) next.by_case.1 (omega (arith, was, fewer)),
        );
        talks = λ sink put. subst (λ e. Talks (moment (intake start.source) sink start.taken put)
            (moment (intake new.source) sink new.taken put) e (on.text ++ bytes) [] [] [] ended)
            (sym stops)
            (talks-more _ _ _ (Some ending) on.text bytes [] [] [] [] [] ended (on.talks sink put)
            (talks-stopped (reach (intake old.source) old.taken)
            (reach (intake new.source) new.taken) sink put ending bytes ended next.takes next.at_end
            next.by_case.0));
        next = next_is ∙ was;
        same = same ∙ read.same;
      }

  read-next : (start old new : Reading S) (history : List (Entry Take Taken)) (lane : ℕ)
      (event : Take) (spare : List ℕ) (next : Next) → old.ending ≡ None
      → HasRead intake start old history → TakesNext intake old new next
      → HasRead intake start new (history ++ entry (lane ∷ []) event
      (record { number = old.next; next = next; spare = spare }) ∷ [])
  read-next start old new history lane event spare (Ask cookie form op) none read takes =
      read-given start old new history lane event _
      (record { cookie = cookie; asked = Some op; form = form }) takes.bytes none read takes.is.takes
      takes.is.by_case.1 takes.is.by_case.0 refl refl takes.fewer takes.next_is takes.ending
      takes.same
  read-next start old new history lane event spare (Refuse cookie form number) none read takes =
      let is = takes.is.by_case in
      read-given start old new history lane event _
      (record { cookie = cookie; asked = is.0; form = form }) takes.bytes none read takes.is.takes
      is.3 is.1 refl (refl, refl, is.2) takes.fewer takes.next_is takes.ending takes.same
  read-next start old new history lane event spare (Stop ending) none read takes =
      read-stopped start old new history lane event _ ending takes.bytes takes.ended none read
      takes.is refl takes.fewer takes.next_is takes.ending takes.same

  -- as many requests were given as a session may have
  read-full : (start old : Reading S) (history : List (Entry Take Taken)) (lane : ℕ)
      (event : Take) (taken : Taken) → old.ending ≡ None → HasRead intake start old history
      → 2 ^ 32 ≤ old.next → taken.next ≡ Stop (TooMany (2 ^ 32))
      → HasRead intake start (record old { ending = Some (TooMany (2 ^ 32)) })
      (history ++ entry (lane ∷ []) event taken ∷ [])
  read-full start old history lane event taken none read full is =
      let on = reads-on start old history none read in
      let was = read.next in
      let few = on.few in
      record {
        all = read.all;
        gives = gives-end 0 history read.all (entry (lane ∷ []) event taken) (TooMany (2 ^ 32))
            (subst (λ e. Gives 0 history read.all e) none read.gives) is;
        text = on.text;
        rest = [];
        ended = false;
        spells = on.spells;
        ends = (refl, (omega (arith, full, was, few), omega (arith, full, was, few)));
        talks = λ sink put. subst (λ (t : List ℕ).
            Talks (moment (intake start.source) sink start.taken put)
            (moment (intake old.source) sink old.taken put) (Some (TooMany (2 ^ 32))) t [] [] []
            false) (sym (append-nil on.text))
            (talks-enough _ _ (TooMany (2 ^ 32)) on.text [] [] [] refl (on.talks sink put));
        next = was;
        same = read.same;
      }

  -- the requests had ended
  read-over : (start now : Reading S) (history : List (Entry Take Taken)) (one : Entry Take Taken)
      (ending : Ending) → now.ending ≡ Some ending → HasRead intake start now history
      → one.outcome.next ≡ Stop ending → HasRead intake start now (history ++ one ∷ [])
  read-over start now history one ending over read is = record {
    all = read.all;
    gives = subst (λ e. Gives 0 (history ++ one ∷ []) read.all e) (sym over)
        (gives-again 0 history read.all one ending
        (subst (λ e. Gives 0 history read.all e) over read.gives) is);
    text = read.text;
    rest = read.rest;
    ended = read.ended;
    spells = read.spells;
    ends = read.ends;
    talks = read.talks;
    next = read.next;
    same = read.same;
  }

  -- one call more, of a lane
  pub read-more : (start old new : Reading S) (history : List (Entry Take Taken)) (lane : ℕ)
      (event : Take) (spare : List ℕ) (next : Next) → HasRead intake start old history
      → HasTaken intake old new next
      → HasRead intake start new (history ++ entry (lane ∷ []) event
      (record { number = old.next; next = next; spare = spare }) ∷ [])
  read-more start old new history lane event spare _ read (behind_end ending over same) =
      subst (λ now. HasRead intake start now (history ++ entry (lane ∷ []) event
      (record { number = old.next; next = Stop ending; spare = spare }) ∷ [])) (sym same)
      (read-over start old history _ ending over read refl)
  read-more start old new history lane event spare _ read (too_many none full same) =
      subst (λ now. HasRead intake start now (history ++ entry (lane ∷ []) event
      (record { number = old.next; next = Stop (TooMany (2 ^ 32)); spare = spare }) ∷ []))
      (sym same) (read-full start old history lane event _ none read full refl)
  read-more start old new history lane event spare _ read (took next none takes) =
      read-next start old new history lane event spare next none read takes
