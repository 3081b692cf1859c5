-- What a client sends that asks some operations, one after the other ("Fixed newstyle negotiation"
-- and "Transmission" of the NBD protocol document).
use Rattle.std.specs.Prelude.{ℕ, ◌+◌, Bool, true, false, List, [], ◌∷◌, ◌++◌, length, replicate}
use Rattle.plain_disk.specs.declared.operation.Op.{Op}
use Rattle.plain_disk.specs.declared.operation.Op.TheVariants as Ops
use Rattle.nbd_wire.specs.declared.options.OptionType.TheVariants.{Go}
use Rattle.nbd_wire.specs.declared.requests.CommandType.{CommandType}
use Rattle.nbd_wire.specs.declared.requests.CommandType.TheVariants.{Read, Write, Disc, Flush}
use Rattle.nbd_wire.specs.declared.requests.CommandType.TheVariants.{WriteZeroes}
use Rattle.nbd_wire.specs.declared.requests.RequestHead.{RequestHead}
use Rattle.nbd_wire.specs.Fields.{u32_text}
use Rattle.nbd_wire.specs.Options.{option_text}
use Rattle.nbd_wire.specs.Requests.{request_text}
use Rattle.demo_clients.specs.Operations.{demo_operations}

-- the data of GO: an empty name, and no request for information
abbrev pub go_data : List ℕ
go_data = replicate 6 0

unfoldable pub go_text : List ℕ
go_text = option_text (record { option = Go; length = 6 }) ++ go_data

-- the head of a request under a cookie; `fua` is bit 0 of its flags
abbrev pub fua_flag : Bool → ℕ
fua_flag true = 1
fua_flag false = 0

abbrev pub head_of : ℕ → CommandType → Bool → (offset len : ℕ) → RequestHead
head_of cookie command fua offset len = record {
  flags = record { bits = fua_flag fua };
  command = command;
  cookie = cookie;
  offset = offset;
  length = len;
}

-- the head of the request for an operation, and the data behind it
abbrev pub asking_head : ℕ → Op → RequestHead
asking_head cookie (Ops.Read offset len) = head_of cookie Read false offset len
asking_head cookie (Ops.Write offset body fua) = head_of cookie Write fua offset (length body)
asking_head cookie (Ops.Zeroes offset len fua) = head_of cookie WriteZeroes fua offset len
asking_head cookie Ops.Flush = head_of cookie Flush false 0 0

abbrev pub asking_data : Op → List ℕ
asking_data (Ops.Read offset len) = []
asking_data (Ops.Write offset body fua) = body
asking_data (Ops.Zeroes offset len fua) = []
asking_data Ops.Flush = []

-- the request for an operation under a cookie
unfoldable pub asking_text : ℕ → Op → List ℕ
asking_text cookie op = request_text (asking_head cookie op) ++ asking_data op

-- requests for operations, one after the other, under rising cookies
unfoldable pub requests_text : ℕ → List Op → List ℕ
requests_text cookie [] = []
requests_text cookie (op ∷ ops) = asking_text cookie op ++ requests_text (cookie + 1) ops

-- the request to disconnect
unfoldable pub parting_text : ℕ → List ℕ
parting_text cookie = request_text (head_of cookie Disc false 0 0)

-- All that a client sends: the flags "fixed newstyle" (bit 0) and "no zeroes" (1), the option GO,
-- the requests from cookie 0 on, and that it disconnects.
unfoldable pub input_asking : List Op → List ℕ
input_asking ops =
    u32_text 3 ++ (go_text ++ (requests_text 0 ops ++ parting_text (length ops)))

-- what session `i` of `k` sends, which have `m` blocks among them
abbrev pub demo_input : (seed m k i : ℕ) → List ℕ
demo_input seed m k i = input_asking (demo_operations seed m k i)
