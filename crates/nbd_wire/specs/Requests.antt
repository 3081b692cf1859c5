-- The head of a request ("Request message", "Request types" and "Command flags" of the NBD protocol
-- document).
use Rattle.std.specs.Prelude.{ℕ, ◌≡◌, ◌<◌, ◌^◌, ◌==◌, nat_lt, if◌then◌else◌, List, [], ◌∷◌}
use Rattle.std.specs.Prelude.{Bool, true, ◌||◌}
use Rattle.nbd_wire.specs.declared.requests.CommandType.{CommandType}
use Rattle.nbd_wire.specs.declared.requests.CommandType.TheVariants.{Read, Write, Disc, Flush, Trim}
use Rattle.nbd_wire.specs.declared.requests.CommandType.TheVariants.{WriteZeroes, Other}
use Rattle.nbd_wire.specs.declared.requests.RequestHead.{RequestHead}
use Rattle.nbd_wire.specs.Magic.{request_magic}
use Rattle.nbd_wire.specs.Fields.{message, u16_text, u32_text, u64_text}

-- the number of each type
abbrev pub command_number : CommandType → ℕ
command_number Read = 0
command_number Write = 1
command_number Disc = 2
command_number Flush = 3
command_number Trim = 4
command_number WriteZeroes = 6
command_number (Other number) = number

-- the type of a number: by its name where it has one
abbrev pub command_of : ℕ → CommandType
command_of n =
    if n == 0 then Read
    else (if n == 1 then Write
    else (if n == 2 then Disc
    else (if n == 3 then Flush
    else (if n == 4 then Trim
    else (if n == 6 then WriteZeroes
    else Other n)))))

-- The flags of a request of this type are some that it may have: FUA (1) with every type, NO_HOLE
-- (2) with a WRITE_ZEROES alone, and DF (4) with a READ alone, where structured replies were agreed
-- on.
abbrev pub are_allowed : (structured : Bool) → CommandType → (flags : ℕ) → Bool
are_allowed true Read flags = flags == 0 || flags == 1 || flags == 4 || flags == 5
are_allowed structured WriteZeroes flags = nat_lt flags 4
are_allowed structured command flags = nat_lt flags 2

-- The fields are in their ranges, and a type that has a name goes by it.
pub record IsRequestHead (head : RequestHead) : Type 0 where
  pub flags : head.flags.bits < 2 ^ 16
  pub command : command_number head.command < 2 ^ 16
  pub named : command_of (command_number head.command) ≡ head.command
  pub cookie : head.cookie < 2 ^ 64
  pub offset : head.offset < 2 ^ 64
  pub size : head.length < 2 ^ 32

-- u32 magic, u16 flags, u16 type, u64 cookie, u64 offset, u32 length
unfoldable pub request_text : RequestHead → List ℕ
request_text head =
    message (u32_text request_magic ∷ u16_text head.flags.bits
    ∷ u16_text (command_number head.command)
    ∷ u64_text head.cookie ∷ u64_text head.offset ∷ u32_text head.length ∷ [])
