-- What a client asks by a request.
use Rattle.std.specs.Prelude.{ℕ, ◌≡◌, ◌⊎◌, ◌<◌, ◌==◌, Bool, not, bit_and, nat_lt}
use Rattle.std.specs.Prelude.{if◌then◌else◌, List, ◌++◌, length, Option, Some, None}
use Rattle.base_terms.specs.ErrorNumbers.{invalid, no_memory}
use Rattle.plain_disk.specs.declared.operation.Op.{Op}
use Rattle.plain_disk.specs.declared.operation.Op.TheVariants as Ops
use Rattle.nbd_stream.specs.declared.ending.Ending.{Ending}
use Rattle.nbd_stream.specs.declared.ending.Ending.TheVariants.{Disconnected, TooLong}
use Rattle.nbd_session.specs.declared.forms.Form.{Form}
use Rattle.nbd_session.specs.Forms.{form_of}
use Rattle.nbd_wire.specs.declared.requests.CommandType.{CommandType}
use Rattle.nbd_wire.specs.declared.requests.CommandType.TheVariants.{Read, Write, Disc, Flush}
use Rattle.nbd_wire.specs.declared.requests.CommandType.TheVariants.{WriteZeroes}
use Rattle.nbd_wire.specs.declared.requests.RequestHead.{RequestHead}
use Rattle.nbd_wire.specs.Requests.{IsRequestHead, are_allowed, request_text}

-- the ending that a request's head brings: DISC, and a write of more than 33554432 bytes
abbrev pub ending_by : CommandType → ℕ → Option Ending
ending_by Disc len = Some Disconnected
ending_by Write len = if nat_lt 33554432 len then Some (TooLong len) else None
ending_by _ len = None

unfoldable pub ending_of : RequestHead → Option Ending
ending_of head = ending_by head.command head.length

-- how many bytes of data are behind a request's head
abbrev pub data_length_by : CommandType → ℕ → ℕ
data_length_by Write len = len
data_length_by _ len = 0

unfoldable pub data_length : RequestHead → ℕ
data_length head = data_length_by head.command head.length

-- what is written is to be kept for certain: "force unit access", bit 0 of the flags
abbrev pub is_forced : ℕ → Bool
is_forced flags = not (bit_and flags 1 == 0)

-- the operation of a type that is served
abbrev pub operation_by : CommandType → ℕ → ℕ → ℕ → List ℕ → Option Op
operation_by Read flags offset len body = Some (Ops.Read offset len)
operation_by Write flags offset len body = Some (Ops.Write offset body (is_forced flags))
operation_by WriteZeroes flags offset len body = Some (Ops.Zeroes offset len (is_forced flags))
operation_by Flush flags offset len body = Some Ops.Flush
operation_by _ flags offset len body = None

-- the operation of a request with this data; None of a type that isn't served, and where there is a
-- flag that the type may not have, which structured replies decide of one
unfoldable pub operation_of : (structured : Bool) → RequestHead → List ℕ → Option Op
operation_of structured head body =
    if are_allowed structured head.command head.flags.bits
    then operation_by head.command head.flags.bits head.offset head.length body
    else None

-- the bytes are one whole request under this cookie, with this operation if any and answered in
-- this form, after which the session goes on
pub record IsMessage (structured : Bool) (bytes : List ℕ) (cookie : ℕ) (asked : Option Op)
    (form : Form) : Type 0 where
  pub head : RequestHead
  pub body : List ℕ
  pub is_head : IsRequestHead head
  pub parts : bytes ≡ request_text head ++ body
  pub size : length body ≡ data_length head
  pub goes_on : ending_of head ≡ None
  pub cookie_is : cookie ≡ head.cookie
  pub asks : asked ≡ operation_of structured head body
  pub form_is : form ≡ form_of structured head

-- a front of such a request, and less than all of it: of its head, or of its data
pub record IsCutData (bytes : List ℕ) : Type 0 where
  pub head : RequestHead
  pub body : List ℕ
  pub is_head : IsRequestHead head
  pub parts : bytes ≡ request_text head ++ body
  pub fewer : length body < data_length head
  pub goes_on : ending_of head ≡ None

abbrev pub IsCutRequest : List ℕ → Type 0
IsCutRequest bytes = (length bytes < 28) ⊎ IsCutData bytes

-- the bytes are the head of a request that brings this ending
pub record IsLastHead (bytes : List ℕ) (ending : Ending) : Type 0 where
  pub head : RequestHead
  pub is_head : IsRequestHead head
  pub parts : bytes ≡ request_text head
  pub brings : ending_of head ≡ Some ending

-- the number with which the session itself answers: 22 what is no operation, 12 where memory is
-- wanted
abbrev pub IsRefusal : Option Op → ℕ → Type 0
IsRefusal None number = number ≡ invalid
IsRefusal (Some op) number = number ≡ no_memory
