-- Requests and how they come to an end, on whole strings of bytes.
use Rattle.std.specs.Prelude.{ℕ, ◌≡◌, ◌≢◌, ◌<◌, ◌^◌, Bool, true, List, [], ◌++◌, length, take}
use Rattle.std.specs.Prelude.{Option, Some, None}
use Rattle.plain_disk.specs.declared.operation.Op.{Op}
use Rattle.nbd_stream.specs.declared.ending.Ending.{Ending}
use Rattle.nbd_stream.specs.declared.ending.Ending.TheVariants.{Disconnected, Closed, Truncated}
use Rattle.nbd_stream.specs.declared.ending.Ending.TheVariants.{BadMagic, TooLong, TooMany}
use Rattle.nbd_stream.specs.declared.ending.Ending.TheVariants.{PortSpent, ReadFault, WriteFault}
use Rattle.nbd_stream.specs.Endings.{IsCount}
use Rattle.nbd_session.specs.declared.forms.Form.{Form}
use Rattle.nbd_session.specs.Requests.{IsMessage, IsCutRequest, IsLastHead}
use Rattle.nbd_session.specs.Turns.{Turn, Spells}
use Rattle.nbd_wire.specs.Fields.{u32_text}
use Rattle.nbd_wire.specs.Magic.{request_magic}

-- the bytes that a session took where a request was to come, by the ending that they brought
abbrev pub StopsRequests : Ending → Bool → List ℕ → Type 0
StopsRequests Disconnected ended bytes = IsLastHead bytes Disconnected
StopsRequests Closed ended bytes = (bytes ≡ []) × (ended ≡ true)
StopsRequests (Truncated n) ended bytes = (length bytes ≡ n) × (0 < n) × (ended ≡ true)
    × IsCutRequest bytes
StopsRequests (BadMagic n) ended bytes = (length bytes ≡ 28) × (u32_text n ≡ take 4 bytes)
    × (n ≢ request_magic) × (n < 2 ^ 32)
StopsRequests (TooLong n) ended bytes = IsLastHead bytes (TooLong n)
StopsRequests ReadFault ended bytes = IsCutRequest bytes
StopsRequests _ ended bytes = ⊥

-- these bytes are behind the last request that was answered
abbrev pub EndsRequests : (structured : Bool) → Ending → Bool → List ℕ → Type 0
EndsRequests structured (TooMany m) ended bytes = bytes ≡ []
EndsRequests structured WriteFault ended bytes = bytes ≡ []
EndsRequests structured PortSpent ended bytes = (cookie : ℕ) × (op : Op) × (form : Form)
    × IsMessage structured bytes cookie (Some op) form
EndsRequests structured ending ended bytes = StopsRequests ending ended bytes

-- how the requests came to an end, or that they go on
abbrev pub RequestsEnd : (structured : Bool) → Option Ending → ℕ → Bool → List ℕ → Type 0
RequestsEnd structured None n ended bytes = bytes ≡ []
RequestsEnd structured (Some ending) n ended bytes = EndsRequests structured ending ended bytes
    × IsCount (2 ^ 32) ending n

-- These bytes are some requests, of `n` in all, with what comes then.
pub record AreRequests (structured : Bool) (result : Option Ending) (turns : List Turn) (n : ℕ)
    (taken : List ℕ) (ended : Bool) : Type 0 where
  pub text : List ℕ
  pub bytes : List ℕ
  pub parts : taken ≡ text ++ bytes
  pub spells : Spells structured turns text
  pub ends : RequestsEnd structured result n ended bytes
