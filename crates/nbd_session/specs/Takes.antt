-- What a reader gave the lanes of a session, request by request.
use Rattle.std.specs.Prelude.{ℕ, suc, ◌≡◌, ◌^◌, ◌<◌, ◌≤◌, Bool, false, List, [], ◌∷◌, ◌++◌, length}
use Rattle.std.specs.Prelude.{Option, Some, None}
use Rattle.io_edge.specs.Intake.{Intake}
use Rattle.io_edge.specs.Outlet.{Outlet}
use Rattle.nbd_stream.specs.declared.ending.Ending.{Ending}
use Rattle.nbd_stream.specs.declared.ending.Ending.TheVariants.{TooMany}
use Rattle.nbd_stream.specs.Endings.{IsCount}
use Rattle.nbd_stream.specs.Moments.{moment, Talks}
use Rattle.nbd_stream.specs.Traffic.{reach}
use Rattle.nbd_session.specs.declared.reader.Reading.{Reading}
use Rattle.nbd_session.specs.declared.reader.Take.{Take}
use Rattle.nbd_session.specs.declared.reader.Taken.{Taken}
use Rattle.nbd_session.specs.declared.requests.Next.{Next}
use Rattle.nbd_session.specs.declared.requests.Next.TheVariants.{Ask, Refuse, Stop}
use Rattle.nbd_session.specs.Asking.{Asked, SpellsAsked}
use Rattle.nbd_session.specs.Grammar.{StopsRequests}
use Rattle.nbd_session.specs.Merges.{From, items_of}
use Rattle.nbd_session.specs.Requests.{IsRefusal}
use Rattle.nbd_session.specs.Taking.{NextIs}
use Rattle.volume_cell.specs.declared.history.Entry.{Entry}

-- ---- one request
-- the request that was given; one that the session itself answers may be an operation for which
-- memory was wanted
abbrev pub IsGivenBy : Asked → Next → Type 0
IsGivenBy asked (Ask cookie form op) =
    asked ≡ record { cookie = cookie; asked = Some op; form = form }
IsGivenBy asked (Refuse cookie form number) = (asked.cookie ≡ cookie) × (asked.form ≡ form)
    × IsRefusal asked.asked number
IsGivenBy asked (Stop ending) = ⊥

-- ---- one call
-- it is a lane's: its pass has the lane's number for a name
abbrev pub MayTake : List ℕ → Type 0
MayTake name = (lane : ℕ) × (name ≡ lane ∷ [])

-- how the requests ended, if they did
abbrev pub ending_by : Next → Option Ending
ending_by (Stop ending) = Some ending
ending_by _ = None

-- how many requests were given
abbrev pub number_after : Next → ℕ → ℕ
number_after (Stop ending) n = n
number_after _ n = suc n

module _ {S : Type 0} (intake : S → Intake) where
  -- the next request, or the end, was taken from the source
  pub record TakesNext (old new : Reading S) (next : Next) : Type 0 where
    pub bytes : List ℕ
    pub ended : Bool
    pub is : NextIs old.structured (reach (intake old.source) old.taken)
        (reach (intake new.source) new.taken) next bytes ended
    pub fewer : old.next < 2 ^ 32
    pub next_is : new.next ≡ number_after next old.next
    pub ending : new.ending ≡ ending_by next
    pub same : new.structured ≡ old.structured

-- A call takes nothing once the requests ended, whose ending it answers, or once there were as many as
-- a session may have, which ends them.
pub data HasTaken {S : Type 0} (intake : S → Intake) (old new : Reading S) : Next → Type 0 where
  behind_end : (ending : Ending) → old.ending ≡ Some ending → new ≡ old
      → HasTaken intake old new (Stop ending)
  too_many : old.ending ≡ None → 2 ^ 32 ≤ old.next
      → new ≡ record old { ending = Some (TooMany (2 ^ 32)) }
      → HasTaken intake old new (Stop (TooMany (2 ^ 32)))
  took : (next : Next) → old.ending ≡ None → TakesNext intake old new next
      → HasTaken intake old new next

-- ---- all calls
-- the entry gave this request to the lane of its name, by this number
pub record IsTakeOf (n : ℕ) (one : Entry Take Taken) (given : From Asked) : Type 0 where
  pub name : one.name ≡ given.list ∷ []
  pub number : one.outcome.number ≡ n
  pub given_by : IsGivenBy given.item one.outcome.next

-- each entry answers this ending
unfoldable pub AreEnds : Ending → List (Entry Take Taken) → Type 0
AreEnds ending [] = Unit {0}
AreEnds ending (one ∷ history) = (one.outcome.next ≡ Stop ending) × AreEnds ending history

-- The history is these requests, each given to one lane and numbered one by one, and then one ending
-- for all, if there is one.
unfoldable pub Gives : ℕ → List (Entry Take Taken) → List (From Asked) → Option Ending → Type 0
Gives n [] [] None = Unit {0}
Gives n [] _ _ = ⊥
Gives n (one ∷ history) [] None = ⊥
Gives n (one ∷ history) [] (Some ending) = AreEnds ending (one ∷ history)
Gives n (one ∷ history) (given ∷ all) end = IsTakeOf n one given × Gives (suc n) history all end

-- these bytes are behind the last request
abbrev pub StopsReading : Ending → Bool → List ℕ → Type 0
StopsReading (TooMany m) ended rest = rest ≡ []
StopsReading ending ended rest = StopsRequests ending ended rest

-- how the requests came to an end, of which there are so many, or that they go on
abbrev pub ReadingEnds : Option Ending → ℕ → Bool → List ℕ → Type 0
ReadingEnds None n ended rest = (rest ≡ []) × (ended ≡ false) × (n ≤ 2 ^ 32)
ReadingEnds (Some ending) n ended rest = StopsReading ending ended rest × IsCount (2 ^ 32) ending n

module _ {S : Type 0} (intake : S → Intake) where
  -- From one reading to another the history gave these requests: they are the bytes that were taken,
  -- one message after the other, with what came then. No sink has a part in it.
  pub record HasRead (start now : Reading S) (history : List (Entry Take Taken)) : Type 0 where
    pub all : List (From Asked)
    pub gives : Gives 0 history all now.ending
    pub text : List ℕ
    pub rest : List ℕ
    pub ended : Bool
    pub spells : SpellsAsked start.structured (items_of all) text
    pub ends : ReadingEnds now.ending (length all) ended rest
    pub talks : (sink : Outlet) (put : ℕ) → Talks (moment (intake start.source) sink start.taken put)
        (moment (intake now.source) sink now.taken put) now.ending (text ++ rest) [] [] [] ended
    pub next : now.next ≡ length all
    pub same : now.structured ≡ start.structured
