-- The events of a volume and their outcomes. An event is one call on the volume.
use Rattle.std.specs.Prelude.{ℕ, List}
use Rattle.volume_machine.specs.declared.ask.Ask.{Ask}
use Rattle.volume_machine.specs.declared.grant.Grant.{Grant}

pub data Event : Type 0 where
  -- a lane begins an operation of a session
  admits : (lane session : ℕ) (ask : Ask) → Event
  -- a lane that waits asks again
  asks : (lane : ℕ) → Event
  -- a lane reads its next piece, of so many bytes
  reads : (lane len : ℕ) → Event
  -- a lane reads an edge of its write, the first of them or the second
  fetches : (lane which : ℕ) → Event
  -- a lane writes its next piece, sealed
  writes : (lane : ℕ) (sealed : List ℕ) → Event
  -- a lane waits until what was written is certain to be kept
  settles : (lane : ℕ) → Event
  -- a lane ends its operation
  finishes : (lane : ℕ) → Event

-- the lane whose event it is
abbrev pub lane_of : Event → ℕ
lane_of (admits lane session ask) = lane
lane_of (asks lane) = lane
lane_of (reads lane len) = lane
lane_of (fetches lane which) = lane
lane_of (writes lane sealed) = lane
lane_of (settles lane) = lane
lane_of (finishes lane) = lane

pub data Outcome : Type 0 where
  -- the blocks are held
  held : (grant : Grant) → Outcome
  -- the entry of this lane is earlier and conflicts
  waits : (lane : ℕ) → Outcome
  -- the operation is refused with this number
  refused : (number : ℕ) → Outcome
  -- these bytes were read, sealed as they are on the disk
  got : (sealed : List ℕ) → Outcome
  done : Outcome
  -- the device call failed
  device : Outcome
  -- an earlier write or sync failed
  broken : Outcome
