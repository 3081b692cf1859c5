-- The connections by which the clients of the demonstration come.
use Rattle.std.specs.Prelude.{ℕ, ◌+◌, ◌*◌, List, [], map}
use Rattle.std.specs.List.{range_with_len}
use Rattle.io_edge.specs.FaultPlan.{fresh_plan}
use Rattle.io_edge.specs.Memory.{Input, Output}
use Rattle.demo_clients.specs.Contents.{share_count}
use Rattle.demo_clients.specs.Inputs.{demo_input}

-- how many bytes a session puts that serves a client with so many blocks: 104 up to the first
-- reply, 16 for the reply to a write or a flush, and 528 for the reply to a read
abbrev pub output_size : (count : ℕ) → ℕ
output_size count = 120 + 544 * count

-- the connection of session `i` of `k`, which have `m` blocks among them: the source gives what the
-- client sends, the sink has room for all that it is answered, and neither fails
abbrev pub connection_of : (seed m k i : ℕ) → Input × Output
connection_of seed m k i = (
  record { given = []; left = demo_input seed m k i; piece = 65536; plan = fresh_plan [] },
  record { had = []; held_back = []; room = output_size (share_count i m k); plan = fresh_plan [] },
)

-- one a session, in order of their numbers
unfoldable pub demo_connections : (seed m k : ℕ) → List (Input × Output)
demo_connections seed m k = map (connection_of seed m k) (range_with_len 0 k)
