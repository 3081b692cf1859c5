-- What callers see of a link and a bay in memory, and what these tell.
use Rattle.std.specs.Prelude.{ℕ, ◌≡◌, ◌+◌, ◌<◌, ◌≤◌, ◌==◌, ◌&&◌, Bool, true, false, if◌then◌else◌}
use Rattle.std.specs.Prelude.{List, [], length, map, take, drop, slice_index_or, Option, Some, None}
use Rattle.std.specs.Prelude.{Result, Ok, Err}
use Rattle.std.specs.List.{list_all}
use Rattle.std.specs.Option.{option_map_or}
use Rattle.std.specs.Str.{bytes_eq}
use Rattle.std.specs.declared.alloc.Global.{Global}
use Rattle.std.specs.declared.string.String.{String}
use Rattle.io_edge.specs.FaultPlan.{Plan, fresh_plan}
use Rattle.io_edge.specs.Memory.{Input, Output}
use Rattle.memory_disks.specs.Mem.{atom_of}
use Rattle.memory_disks.specs.declared.mem_disk.MemDisk.{MemDisk}
use Rattle.bays.specs.declared.bay.BayFault.{BayFault}
use Rattle.bays.specs.declared.bay.BayFault.TheVariants.{Failed, Memory}
use Rattle.bays.specs.Bays.{Holdings, share}
use Rattle.bays.specs.Names.{named}
use Rattle.bays.specs.Stories.{Script, Handed, LinkState, Story}

-- of a link: the connections ahead, how many it gave and didn't get back, those it got back, how
-- many it has room for, and the plan of its faults
pub record Line : Type 0 where
  pub ahead : List (Input × Output)
  pub lent : ℕ
  pub handed : List (Input × Output)
  pub room : ℕ
  pub plan : Plan

-- of a bay: the disks and keys by name, the address, the connections by session number, the calls
-- to fail of each link, and the plan of its own faults
pub record Stock : Type 0 where
  pub disks : List (String Global × MemDisk)
  pub keys : List (String Global × List ℕ)
  pub address : List ℕ
  pub connections : List (Input × Output)
  pub link_fails : List (List ℕ)
  pub plan : Plan

-- whether nothing was taken from a connection's source, and nothing was put to its sink
abbrev pub is_fresh : Input × Output → Bool
is_fresh connection =
    (length connection.0.given == 0)
    && ((length connection.1.had == 0) && (length connection.1.held_back == 0))

-- a connection as one to come
abbrev pub script_of : Input × Output → Script
script_of connection = record {
  input = connection.0.left;
  in_faults = connection.0.plan.faults;
  out_faults = connection.1.plan.faults;
}

-- a connection as one that was handed back
abbrev pub handed_of : Input × Output → Handed
handed_of connection = record {
  given = connection.0.given;
  left = connection.0.left;
  had = connection.1.had;
  held_back = connection.1.held_back;
  in_faults = connection.0.plan.faults;
  out_faults = connection.1.plan.faults;
}

-- the inputs to come, told where each connection is fresh
abbrev pub inputs_of : Stock → Option (List Script)
inputs_of stock = if list_all is_fresh stock.connections then Some (map script_of stock.connections)
    else None

-- the story of a link, told where each connection ahead is fresh
abbrev pub story_of : Line → Option Story
story_of line =
    if list_all is_fresh line.ahead
    then Some (record { ahead = map script_of line.ahead; handed = map handed_of line.handed })
    else None

-- all that a link tells
abbrev pub link_state : Line → LinkState
link_state line = record {
  story = story_of line;
  bound = length line.ahead;
  lent = line.lent;
  faults = line.plan.faults;
}

-- all that a bay tells
abbrev pub holdings_of : Stock → Holdings MemDisk
holdings_of stock = record {
  shelf = λ name. named name stock.disks;
  keyring = λ name. named name stock.keys;
  inputs = λ address. if bytes_eq address stock.address then inputs_of stock else None;
  faults = stock.plan.faults;
}

-- whether there is a disk of that name, with atoms of so many bytes
abbrev pub has_disk : List ℕ → ℕ → List (String Global × MemDisk) → Bool
has_disk name atom disks = option_map_or (λ disk. atom_of disk == atom) (named name disks) false

-- a link as a bay makes it, with these connections ahead and these calls to fail
abbrev pub new_line : List (Input × Output) → ℕ → List ℕ → Line
new_line ahead room fails =
    record { ahead = ahead; lent = 0; handed = []; room = room; plan = fresh_plan fails }

-- the numbers of the calls of a link that are to fail; none where it has no list
abbrev pub fails_of : List (List ℕ) → ℕ → List ℕ
fails_of link_fails k = slice_index_or link_fails k []

-- a link that has none ahead and room for so many more
pub record IsIdle (more : ℕ) (line : Line) : Type 0 where
  pub none_ahead : line.ahead ≡ []
  pub free : more + line.lent + length line.handed ≤ line.room

-- each link has its share of the connections from number `n` on ahead, and stands otherwise
abbrev pub HaveShares : List (Input × Output) → ℕ → List Line → List Line → Type 0
HaveShares connections n old new = (k : ℕ) (d : Line) → k < length old →
    slice_index_or new k d
    ≡ record (slice_index_or old k d) { ahead = share (length old) k n (drop n connections) }

-- each link has its share of the first so many connections ahead, and nothing lent or handed back
abbrev pub AreDealt : List (Input × Output) → List (List ℕ) → ℕ → ℕ → List Line → Type 0
AreDealt connections link_fails workers sessions links = (k : ℕ) (d : Line) → k < workers →
    slice_index_or links k d ≡ new_line (share workers k 0 (take sessions connections))
    (length connections) (fails_of link_fails k)

-- whether a call of a bay was answered that it failed
abbrev pub is_failed : {T : Type 0} → Result T BayFault → Bool
is_failed (Ok _) = false
is_failed (Err Failed) = true
is_failed (Err Memory) = false
