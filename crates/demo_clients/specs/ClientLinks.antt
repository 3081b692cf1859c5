-- What a link tells whose calls never fail.
use Rattle.std.specs.Prelude.{length}
use Rattle.bays.specs.Memory.{Line, story_of}
use Rattle.bays.specs.Stories.{LinkState}

-- its story and its counts, as those of a link in memory, and no fault
abbrev pub client_state : Line → LinkState
client_state line = record {
  story = story_of line;
  bound = length line.ahead;
  lent = line.lent;
  faults = 0;
}
