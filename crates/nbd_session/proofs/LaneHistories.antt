-- What the calls of one lane are of the histories of the reader and the writer.
use Rattle.std.proofs.Common.{◌≡◌, ◌≢◌, ◌⊎◌, ◌<◌, ◌≤◌, inl, inr, ℕ, suc, Bool, true, false, List, [], ◌∷◌, ◌++◌}
use Rattle.std.proofs.Common.{Option, Some, None, if◌then◌else◌, nat_eq, refl, sym, ◌∙◌, ap, subst}
use Rattle.std.proofs.Common.{arith}
use Rattle.std.proofs.lemmas.Bool.{cases_eq}
use Rattle.nbd_stream.specs.declared.ending.Ending.{Ending}
use Rattle.nbd_session.specs.declared.reader.Take.{Take}
use Rattle.nbd_session.specs.declared.reader.Taken.{Taken}
use Rattle.nbd_session.specs.declared.requests.Next.TheVariants.{Stop}
use Rattle.nbd_session.specs.declared.writer.Put.{Put}
use Rattle.nbd_session.specs.declared.writer.Written.{Written}
use Rattle.nbd_session.specs.declared.writer.Written.TheVariants.{Done, SinkFailed}
use Rattle.nbd_session.specs.Asking.{Asked}
use Rattle.nbd_session.specs.Merges.{AreFrom, From, items_from}
use Rattle.nbd_session.specs.Puts.{AreRefused, IfDone, Sends, text_of}
use Rattle.nbd_session.specs.Takes.{AreEnds, Gives, IsGivenBy}
use Rattle.volume_cell.specs.declared.history.Call.{Call}
use Rattle.volume_cell.specs.declared.history.Entry.{Entry}
use Rattle.volume_cell.specs.Histories.{call, calls_of, is_same}
use Rattle.volume_cell.proofs.Names.{names-same, names-differ}

-- ---- lanes by their names
pub differ-eqb : (a b : ℕ) → a ≢ b → nat_eq a b ≡ false
differ-eqb a b differ = grind arith

pub same-eqb : (a : ℕ) → nat_eq a a ≡ true
same-eqb a = grind arith

pub one-name : (a b : ℕ) → (a ∷ []) ≡ (b ∷ []) → a ≡ b
one-name a b is = cc

-- a pass has the name of a lane where the lane is the one
pub same-lane : (k lane : ℕ) (name : List ℕ) → name ≡ lane ∷ []
    → is_same (k ∷ []) name ≡ nat_eq lane k
same-lane k lane name is = decide (cases_eq lane k)
  where
    decide : (lane ≡ k) ⊎ (lane ≢ k) → is_same (k ∷ []) name ≡ nat_eq lane k
    decide (inl same) = names-same (k ∷ []) name (ap (λ n. n ∷ []) (sym same) ∙ sym is)
        ∙ sym (subst (λ (n : ℕ). nat_eq lane n ≡ true) same (same-eqb lane))
    decide (inr differ) =
        names-differ (k ∷ []) name (λ same. differ (sym (one-name k lane (same ∙ is))))
        ∙ sym (differ-eqb lane k differ)

-- ---- the reader's
-- the calls gave these requests, and behind them the end, if there is one
unfoldable pub AreStops : Ending → List (Call Take Taken) → Type 0
AreStops ending [] = Unit {0}
AreStops ending (take ∷ takes) = (take.outcome.next ≡ Stop ending) × AreStops ending takes

unfoldable pub GivesCalls : Option Ending → List (Call Take Taken) → List Asked → Type 0
GivesCalls end [] [] = Unit {0}
GivesCalls end [] (asked ∷ rest) = ⊥
GivesCalls end (take ∷ takes) [] =
    (ending : Ending) × (end ≡ Some ending) × AreStops ending (take ∷ takes)
GivesCalls end (take ∷ takes) (asked ∷ rest) =
    IsGivenBy asked take.outcome.next × GivesCalls end takes rest

stops-give : (ending : Ending) (takes : List (Call Take Taken)) → AreStops ending takes
    → GivesCalls (Some ending) takes []
unfolding GivesCalls
stops-give ending [] are = tt
stops-give ending (take ∷ takes) are = (ending, refl, are)

ends-lane : (name : List ℕ) (ending : Ending) (history : List (Entry Take Taken))
    → AreEnds ending history → AreStops ending (calls_of name history)
unfolding AreEnds AreStops calls_of
ends-lane name ending [] are = tt
ends-lane name ending (one ∷ history) (is, are) =
    both (is_same name one.name) (ends-lane name ending history are)
  where
    both : (its : Bool) → AreStops ending (calls_of name history)
        → AreStops ending
        ((if its then call one.event one.outcome ∷ [] else []) ++ calls_of name history)
    both true rest = (is, rest)
    both false rest = rest

pub gives-lane : (k n : ℕ) (history : List (Entry Take Taken)) (all : List (From Asked))
    (end : Option Ending) → Gives n history all end
    → GivesCalls end (calls_of (k ∷ []) history) (items_from k all)
unfolding Gives GivesCalls calls_of items_from
gives-lane k n [] [] end gives = tt
gives-lane k n [] (given ∷ all) end gives = absurd gives
gives-lane k n (one ∷ history) [] None gives = absurd gives
gives-lane k n (one ∷ history) [] (Some ending) gives = stops-give ending
    (calls_of (k ∷ []) (one ∷ history)) (ends-lane (k ∷ []) ending (one ∷ history) gives)
gives-lane k n (one ∷ history) (given ∷ all) end (is, gives) =
    rw (same-lane k given.list one.name is.name)
    (both (nat_eq given.list k) (gives-lane k (suc n) history all end gives))
  where
    both : (its : Bool) → GivesCalls end (calls_of (k ∷ []) history) (items_from k all)
        → GivesCalls end
        ((if its then call one.event one.outcome ∷ [] else []) ++ calls_of (k ∷ []) history)
        (if its then given.item ∷ items_from k all else items_from k all)
    both true rest = (is.given_by, rest)
    both false rest = rest

-- ---- the writer's
-- none of these replies was put
unfoldable pub AreUnput : List (Call Put Written) → Type 0
AreUnput [] = Unit {0}
AreUnput (put ∷ puts) = IfDone put.outcome ⊥ (Unit {0}) × AreUnput puts

-- the calls put these texts; where the sink failed at one, none behind it
unfoldable pub SendsCalls : Bool → List (Call Put Written) → List (List ℕ) → Type 0
SendsCalls failed [] texts = texts ≡ []
SendsCalls failed (put ∷ puts) [] = (failed ≡ true) × AreUnput (put ∷ puts)
SendsCalls failed (put ∷ puts) (text ∷ texts) = (text ≡ text_of put.event)
    × IfDone put.outcome (SendsCalls failed puts texts)
    ((texts ≡ []) × (failed ≡ true) × AreUnput puts)

unput-sends : (failed : Bool) (puts : List (Call Put Written)) → failed ≡ true → AreUnput puts
    → SendsCalls failed puts []
unfolding SendsCalls
unput-sends failed [] is are = refl
unput-sends failed (put ∷ puts) is are = (is, are)

refused-lane : (name : List ℕ) (history : List (Entry Put Written)) → AreRefused history
    → AreUnput (calls_of name history)
unfolding AreRefused AreUnput calls_of
refused-lane name [] are = tt
refused-lane name (one ∷ history) (is, are) =
    both (is_same name one.name) (refused-lane name history are)
  where
    both : (its : Bool) → AreUnput (calls_of name history)
        → AreUnput ((if its then call one.event one.outcome ∷ [] else []) ++ calls_of name history)
    both true rest = (is, rest)
    both false rest = rest

if-both : (outcome : Written) (P Q P' Q' : Type 0) → (P → P') → (Q → Q') → IfDone outcome P Q
    → IfDone outcome P' Q'
if-both (Done reply) P Q P' Q' p q is = p is
if-both (SinkFailed reply) P Q P' Q' p q is = q is

-- it holds whatever came of the put
if-any : (outcome : Written) (P Q R : Type 0) → (P → R) → (Q → R) → IfDone outcome P Q → R
if-any (Done reply) P Q R p q is = p is
if-any (SinkFailed reply) P Q R p q is = q is

pub sends-lane : (k : ℕ) (history : List (Entry Put Written)) (all : List (From (List ℕ)))
    (failed : Bool) → Sends history all failed
    → SendsCalls failed (calls_of (k ∷ []) history) (items_from k all)
unfolding Sends SendsCalls calls_of items_from
sends-lane k [] [] false sends = refl
sends-lane k [] [] true sends = absurd sends
sends-lane k [] (sent ∷ all) failed sends = absurd sends
sends-lane k (one ∷ history) [] failed sends = absurd sends
sends-lane k (one ∷ history) (sent ∷ all) failed (is, sends) =
    rw (same-lane k sent.list one.name is.name)
    (both (nat_eq sent.list k) (λ rest. sends-lane k history all failed rest))
  where
    behind : (all ≡ []) × (failed ≡ true) × AreRefused history
        → (items_from k all ≡ []) × (failed ≡ true) × AreUnput (calls_of (k ∷ []) history)
    behind rest = (
      ap (λ them. items_from k them) rest.0,
      rest.1,
      refused-lane (k ∷ []) history rest.2,
    )

    both : (its : Bool)
        → (Sends history all failed
        → SendsCalls failed (calls_of (k ∷ []) history) (items_from k all)) → SendsCalls failed
        ((if its then call one.event one.outcome ∷ [] else []) ++ calls_of (k ∷ []) history)
        (if its then sent.item ∷ items_from k all else items_from k all)
    both true more = (
      is.text,
      if-both one.outcome _ _ _ _ more behind sends,
    )
    both false more = if-any one.outcome _ _ _ more
        (λ rest. subst (λ texts. SendsCalls failed (calls_of (k ∷ []) history) texts)
        (sym (behind rest).0)
        (unput-sends failed (calls_of (k ∷ []) history) (behind rest).1 (behind rest).2)) sends

-- ---- where the sink failed
-- it failed at one of these calls, which put the last of these texts as far as it went
unfoldable pub FailedIn : List (Call Put Written) → List (List ℕ) → Type 0
FailedIn [] texts = ⊥
FailedIn (put ∷ puts) [] = ⊥
FailedIn (put ∷ puts) (text ∷ texts) = IfDone put.outcome (FailedIn puts texts) (Unit {0})

pub none-failed : (texts : List (List ℕ)) → FailedIn [] texts → ⊥
unfolding FailedIn
none-failed texts failed = failed

pub failed-some : (puts : List (Call Put Written)) (texts : List (List ℕ)) → FailedIn puts texts
    → texts ≢ []
unfolding FailedIn
failed-some [] texts failed = absurd failed
failed-some (put ∷ puts) [] failed = absurd failed
failed-some (put ∷ puts) (text ∷ texts) failed = λ is. cc

if-so : (outcome : Written) (P : Type 0) → P → IfDone outcome P (Unit {0})
if-so (Done reply) P p = p
if-so (SinkFailed reply) P p = tt

-- a put was done, or not, whatever that says
which : (outcome : Written) (P Q : Type 0) → IfDone outcome P Q
    → P ⊎ ((R : Type 0) → IfDone outcome R (Unit {0}))
which (Done reply) P Q is = inl is
which (SinkFailed reply) P Q is = inr (λ R. tt)

fails-here : (one : Entry Put Written) (history : List (Entry Put Written)) (sent : From (List ℕ))
    (all : List (From (List ℕ))) → one.name ≡ sent.list ∷ []
    → ((R : Type 0) → IfDone one.outcome R (Unit {0}))
    → FailedIn (calls_of (sent.list ∷ []) (one ∷ history)) (items_from sent.list (sent ∷ all))
unfolding FailedIn calls_of items_from
fails-here one history sent all name refused =
    rw (same-lane sent.list sent.list one.name name, same-eqb sent.list)
    (refused (FailedIn (calls_of (sent.list ∷ []) history) (items_from sent.list all)))

fails-more : (k : ℕ) (one : Entry Put Written) (history : List (Entry Put Written))
    (sent : From (List ℕ)) (all : List (From (List ℕ))) → one.name ≡ sent.list ∷ []
    → FailedIn (calls_of (k ∷ []) history) (items_from k all)
    → FailedIn (calls_of (k ∷ []) (one ∷ history)) (items_from k (sent ∷ all))
unfolding FailedIn calls_of items_from
fails-more k one history sent all name failed =
    rw (same-lane k sent.list one.name name) (both (nat_eq sent.list k))
  where
    both : (its : Bool) → FailedIn
        ((if its then call one.event one.outcome ∷ [] else []) ++ calls_of (k ∷ []) history)
        (if its then sent.item ∷ items_from k all else items_from k all)
    both true = if-so one.outcome (FailedIn (calls_of (k ∷ []) history) (items_from k all)) failed
    both false = failed

-- where it failed it did so at a call of one lane
pub fails-lane : (history : List (Entry Put Written)) (all : List (From (List ℕ)))
    → Sends history all true
    → (k : ℕ) × FailedIn (calls_of (k ∷ []) history) (items_from k all)
unfolding Sends
fails-lane [] [] sends = absurd sends
fails-lane [] (sent ∷ all) sends = absurd sends
fails-lane (one ∷ history) [] sends = absurd sends
fails-lane (one ∷ history) (sent ∷ all) (is, sends) =
    by (which one.outcome _ _ sends) (λ rest. fails-lane history all rest)
  where
    by : (Sends history all true) ⊎ ((R : Type 0) → IfDone one.outcome R (Unit {0}))
        → (Sends history all true
        → (k : ℕ) × FailedIn (calls_of (k ∷ []) history) (items_from k all))
        → (k : ℕ) × FailedIn (calls_of (k ∷ []) (one ∷ history)) (items_from k (sent ∷ all))
    by (inl rest) more =
        let found = more rest in
        (found.0, fails-more found.0 one history sent all is.name found.1)
    by (inr refused) more = (sent.list, fails-here one history sent all is.name refused)

-- ---- no other lane's
pub nothing : {X : Type 0} (x : X) (xs ys : List X) → (x ∷ xs) ++ ys ≡ [] → ⊥
nothing x xs ys is = cc

pub below-or-not : (k count : ℕ) → (k < count) ⊎ (count ≤ k)
below-or-not k count = grind arith

-- no request is another lane's, where no other made a call
pub gives-from : (count n : ℕ) (history : List (Entry Take Taken)) (all : List (From Asked))
    (end : Option Ending) → Gives n history all end
    → ((k : ℕ) → count ≤ k → calls_of (k ∷ []) history ≡ []) → AreFrom count all
unfolding Gives AreFrom calls_of
gives-from count n [] [] end gives none = tt
gives-from count n [] (given ∷ all) end gives none = absurd gives
gives-from count n (one ∷ history) [] end gives none = tt
gives-from count n (one ∷ history) (given ∷ all) end (is, gives) none = (
  mine (below-or-not given.list count),
  gives-from count (suc n) history all end gives
      (λ k beyond. behind (is_same (k ∷ []) one.name) k (none k beyond)),
)
  where
    mine : (given.list < count) ⊎ (count ≤ given.list) → given.list < count
    mine (inl below) = below
    mine (inr beyond) = absurd (nothing (call one.event one.outcome) []
        (calls_of (given.list ∷ []) history)
        (subst (λ (b : Bool). (if b then call one.event one.outcome ∷ [] else [])
        ++ calls_of (given.list ∷ []) history ≡ [])
        (names-same (given.list ∷ []) one.name (sym is.name)) (none given.list beyond)))

    behind : (its : Bool) (k : ℕ)
        → (if its then call one.event one.outcome ∷ [] else []) ++ calls_of (k ∷ []) history ≡ []
        → calls_of (k ∷ []) history ≡ []
    behind true k none =
        absurd (nothing (call one.event one.outcome) [] (calls_of (k ∷ []) history) none)
    behind false k none = none

pub sends-from : (count : ℕ) (history : List (Entry Put Written)) (all : List (From (List ℕ)))
    (failed : Bool) → Sends history all failed
    → ((k : ℕ) → count ≤ k → calls_of (k ∷ []) history ≡ []) → AreFrom count all
unfolding Sends AreFrom calls_of
sends-from count [] [] failed sends none = tt
sends-from count [] (sent ∷ all) failed sends none = absurd sends
sends-from count (one ∷ history) [] failed sends none = absurd sends
sends-from count (one ∷ history) (sent ∷ all) failed (is, sends) none = (
  mine (below-or-not sent.list count),
  if-any one.outcome _ _ _
      (λ rest. sends-from count history all failed rest
      (λ k beyond. behind (is_same (k ∷ []) one.name) k (none k beyond)))
      (λ rest. subst (λ them. AreFrom count them) (sym rest.0) tt) sends,
)
  where
    mine : (sent.list < count) ⊎ (count ≤ sent.list) → sent.list < count
    mine (inl below) = below
    mine (inr beyond) = absurd (nothing (call one.event one.outcome) []
        (calls_of (sent.list ∷ []) history)
        (subst (λ (b : Bool). (if b then call one.event one.outcome ∷ [] else [])
        ++ calls_of (sent.list ∷ []) history ≡ [])
        (names-same (sent.list ∷ []) one.name (sym is.name)) (none sent.list beyond)))

    behind : (its : Bool) (k : ℕ)
        → (if its then call one.event one.outcome ∷ [] else []) ++ calls_of (k ∷ []) history ≡ []
        → calls_of (k ∷ []) history ≡ []
    behind true k none =
        absurd (nothing (call one.event one.outcome) [] (calls_of (k ∷ []) history) none)
    behind false k none = none
