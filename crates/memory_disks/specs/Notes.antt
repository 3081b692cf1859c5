-- How device calls are kept in memory: a note of each, and the bytes of all one after the other.
use Rattle.std.specs.Prelude.{ℕ, ◌≡◌, ◌+◌, ◌*◌, ◌≤◌, List, [], ◌∷◌, length, take, drop}
use Rattle.memory_disks.specs.Calls.{Call}
use Rattle.memory_disks.specs.declared.call_record.Note.{Note}

-- how many bytes the noted calls have
unfoldable pub noted_bytes : List Note → ℕ
noted_bytes [] = 0
noted_bytes (note ∷ notes) = note.len + noted_bytes notes

-- the calls of notes whose bytes are those of the log
unfoldable pub calls_of : List Note → List ℕ → List Call
calls_of [] log = []
calls_of (note ∷ notes) log =
    record {
      kind = note.kind;
      at = note.at;
      body = take note.len log;
      mark = note.mark;
    } ∷ calls_of notes (drop note.len log)

-- the log has the bytes of the notes, and what is used of the room leaves memory for the rest of it
pub record HasRoom (atom room used : ℕ) (notes : List Note) (log : List ℕ)
    (notes_room log_room : ℕ) : Type 0 where
  pub logged : length log ≡ noted_bytes notes
  pub within : used ≤ room
  pub noted : length notes ≤ used
  pub written : length log ≤ used * atom
  pub notes_fit : room ≤ notes_room
  pub log_fits : room * atom ≤ log_room
