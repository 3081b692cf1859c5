-- The state of a session's source and sink at a moment, and what went between two moments.
use Rattle.std.specs.Prelude.{ℕ, ◌≡◌, ◌+◌, ◌≤◌, Bool, true, List, [], ◌∷◌, ◌++◌, length, Option}
use Rattle.std.specs.Prelude.{MatchOption}
use Rattle.base_terms.specs.Blocks.{joined}
use Rattle.base_terms.specs.Causes.{Rose}
use Rattle.io_edge.specs.Intake.{Intake}
use Rattle.io_edge.specs.Outlet.{Outlet}
use Rattle.nbd_stream.specs.declared.ending.Ending.{Ending}
use Rattle.nbd_stream.specs.declared.ending.Ending.TheVariants.{ReadFault, WriteFault}
use Rattle.nbd_stream.specs.Counts.{capped}
use Rattle.nbd_stream.specs.Traffic.{Took, Sent, HasEnded}

-- the source and the sink, and the session's counts of the bytes that it took and put
pub record Moment : Type 0 where
  pub source : Intake
  pub sink : Outlet
  pub taken : ℕ
  pub put : ℕ

abbrev pub moment : Intake → Outlet → (taken put : ℕ) → Moment
moment source sink taken put = record { source = source; sink = sink; taken = taken; put = put }

-- between two moments these bytes were taken, and these put whole, with this front of a piece that
-- failed
pub record Traffic (old new : Moment) (taken whole front : List ℕ) : Type 0 where
  pub took : Took old.source new.source taken
  pub sent : Sent old.sink new.sink (whole ++ front)
  pub later_in : old.source.faults ≤ new.source.faults
  pub later_out : old.sink.faults ≤ new.sink.faults
  pub counted_in : capped new.taken ≡ capped (old.taken + length taken)
  pub counted_out : capped new.put ≡ capped (old.put + length whole)

-- what failed at an ending
pub data Trouble : Type 0 where
  calm : Trouble
  source_failed : Trouble
  sink_failed : Trouble

abbrev pub trouble_of : Ending → Trouble
trouble_of ReadFault = source_failed
trouble_of WriteFault = sink_failed
trouble_of _ = calm

-- no count of faults rose between two moments
abbrev pub NoneRose : Moment → Moment → Type 0
NoneRose old new = (new.source.faults ≡ old.source.faults) × (new.sink.faults ≡ old.sink.faults)

-- the count of the one that failed rose
abbrev pub RoseBy : Moment → Moment → Trouble → Type 0
RoseBy old new calm = NoneRose old new
RoseBy old new source_failed = Rose old.source.faults new.source.faults
    × (new.sink.faults ≡ old.sink.faults)
RoseBy old new sink_failed = (new.source.faults ≡ old.source.faults)
    × Rose old.sink.faults new.sink.faults

-- a session ends by a fault of the source or the sink exactly where its count rose
abbrev pub HasCauses : Moment → Moment → Ending → Type 0
HasCauses old new ending = RoseBy old new (trouble_of ending)

-- the last of some messages
unfoldable pub last_of : List (List ℕ) → List ℕ
last_of [] = []
last_of (message ∷ []) = message
last_of (message ∷ (next ∷ messages)) = last_of (next ∷ messages)

-- All of some messages went out; where the sink failed, a front of them, which lacks no more than
-- the last one.
abbrev pub GoesOutBy : Trouble → List (List ℕ) → List ℕ → List ℕ → Type 0
GoesOutBy sink_failed messages whole front =
    (rest : List ℕ) × (joined messages ≡ whole ++ (front ++ rest))
    × (length (front ++ rest) ≤ length (last_of messages))
GoesOutBy _ messages whole front = (whole ≡ joined messages) × (front ≡ [])

abbrev pub GoesOut : Ending → List (List ℕ) → List ℕ → List ℕ → Type 0
GoesOut ending messages whole front = GoesOutBy (trouble_of ending) messages whole front

-- Between two moments these bytes were taken and these messages answered; the session ended so, or
-- goes on where there is no ending.
pub record Talks (old new : Moment) (result : Option Ending) (taken : List ℕ)
    (messages : List (List ℕ))
    (whole front : List ℕ) (ended : Bool) : Type 0 where
  pub traffic : Traffic old new taken whole front
  pub at_end : ended ≡ true → HasEnded old.source new.source
  pub by_case : MatchOption result ((whole ≡ joined messages) × (front ≡ []) × NoneRose old new)
      (λ ending. GoesOut ending messages whole front × HasCauses old new ending)
