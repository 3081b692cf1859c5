-- What a writer put of the replies of a session's lanes.
use Rattle.std.specs.Prelude.{ℕ, ◌≡◌, Bool, true, false, List, [], ◌∷◌, Ok, Err, Option, Some, None}
use Rattle.base_terms.specs.declared.failed.Failed.{Failed}
use Rattle.io_edge.specs.Outlet.{Outlet}
use Rattle.nbd_stream.specs.declared.ending.Ending.{Ending}
use Rattle.nbd_stream.specs.declared.ending.Ending.TheVariants.{WriteFault}
use Rattle.nbd_stream.specs.Moments.{moment, Talks}
use Rattle.nbd_stream.specs.Putting.{IsOut, Puts}
use Rattle.nbd_stream.specs.Traffic.{Reach}
use Rattle.nbd_session.specs.declared.writer.Put.{Put}
use Rattle.nbd_session.specs.declared.writer.Writing.{Writing}
use Rattle.nbd_session.specs.declared.writer.Written.{Written}
use Rattle.nbd_session.specs.declared.writer.Written.TheVariants.{Done, SinkFailed}
use Rattle.nbd_session.specs.Merges.{From, items_of}
use Rattle.nbd_session.specs.Replies.{IsAnswerIn, reply_text}
use Rattle.volume_cell.specs.declared.history.Entry.{Entry}

-- ---- one call
-- it is a lane's, whose number is its pass's name, and the reply fits its form
abbrev pub MayPut : List ℕ → Put → Type 0
MayPut name put = (lane : ℕ) × (name ≡ lane ∷ []) × IsAnswerIn put.form put.reply

abbrev pub text_of : Put → List ℕ
text_of put = reply_text put.form put.cookie put.reply

module _ {K : Type 0} (outlet : K → Outlet) where
  -- this text went to the sink, whole or, where that failed, a front of it
  abbrev pub PutsText : Writing K → Writing K → List ℕ → Bool → Type 0
  PutsText old new text true = (whole : List ℕ) × (front : List ℕ)
      × Puts {T = Unit {0}} (outlet old.sink) (outlet new.sink) old.put new.put text (Ok tt) whole
      front
  PutsText old new text false = (whole : List ℕ) × (front : List ℕ) × (failed : Failed)
      × Puts {T = Unit {0}} (outlet old.sink) (outlet new.sink) old.put new.put text (Err failed)
      whole front

-- A call puts its text, and tells whether the sink took it; once the sink failed it puts nothing more.
pub data HasPut {K : Type 0} (outlet : K → Outlet) (old new : Writing K) (text : List ℕ) : Bool → Type 0
  where
    put_refused : old.failed ≡ true → new ≡ old → HasPut outlet old new text false
    put_failed : old.failed ≡ false → new.failed ≡ true → PutsText outlet old new text false
        → HasPut outlet old new text false
    put_done : old.failed ≡ false → new.failed ≡ false → PutsText outlet old new text true
        → IsOut (outlet new.sink) → HasPut outlet old new text true

-- ---- all calls
-- the entry asked to put this text, for the lane of its name
pub record IsPutOf (one : Entry Put Written) (sent : From (List ℕ)) : Type 0 where
  pub name : one.name ≡ sent.list ∷ []
  pub text : sent.item ≡ text_of one.event

-- what holds where the reply was put, and where it wasn't
abbrev pub IfDone : Written → Type 0 → Type 0 → Type 0
IfDone (Done reply) P Q = P
IfDone (SinkFailed reply) P Q = Q

-- none of these replies was put
unfoldable pub AreRefused : List (Entry Put Written) → Type 0
AreRefused [] = Unit {0}
AreRefused (one ∷ history) = IfDone one.outcome ⊥ (Unit {0}) × AreRefused history

-- The history is these texts, each for one lane; where the sink failed the last of them is the one
-- that it failed at, and behind it none was put.
unfoldable pub Sends : List (Entry Put Written) → List (From (List ℕ)) → Bool → Type 0
Sends [] [] false = Unit {0}
Sends [] _ _ = ⊥
Sends (one ∷ history) [] failed = ⊥
Sends (one ∷ history) (sent ∷ all) failed = IsPutOf one sent
    × IfDone one.outcome (Sends history all failed)
    ((all ≡ []) × (failed ≡ true) × AreRefused history)

-- how a session ends where its sink failed
abbrev pub fault_if : Bool → Option Ending
fault_if true = Some WriteFault
fault_if false = None

module _ {K : Type 0} (outlet : K → Outlet) where
  -- From one writing to another the history put these texts, in its order: all of them, or where the
  -- sink failed a front, which lacks no more than the last one. No source has a part in it.
  pub record HasWritten (start now : Writing K) (history : List (Entry Put Written)) : Type 0 where
    pub all : List (From (List ℕ))
    pub sends : Sends history all now.failed
    pub whole : List ℕ
    pub front : List ℕ
    pub talks : (source : Reach)
        → Talks (moment source.source (outlet start.sink) source.taken start.put)
        (moment source.source (outlet now.sink) source.taken now.put) (fault_if now.failed) []
        (items_of all) whole front false
    pub out : now.failed ≡ false → IsOut (outlet now.sink)
