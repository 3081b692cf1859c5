-- How requests are answered.
use Rattle.std.specs.Prelude.{ℕ, ◌==◌, Bool, true, bit_and, not}
use Rattle.nbd_session.specs.declared.forms.Form.{Form}
use Rattle.nbd_session.specs.declared.forms.Form.TheVariants.{Simple, Chunks}
use Rattle.nbd_wire.specs.declared.requests.CommandType.{CommandType}
use Rattle.nbd_wire.specs.declared.requests.CommandType.TheVariants.{Read}
use Rattle.nbd_wire.specs.declared.requests.RequestHead.{RequestHead}

-- a READ is to come in one chunk: "don't fragment", bit 2 of the flags
abbrev pub is_whole : ℕ → Bool
is_whole flags = not (bit_and flags 4 == 0)

-- a READ is answered by chunks where structured replies were agreed on, every other request, and a
-- READ else, by a simple reply
abbrev pub form_by : (structured : Bool) → CommandType → (flags offset : ℕ) → Form
form_by true Read flags offset = Chunks (is_whole flags) offset
form_by structured command flags offset = Simple

unfoldable pub form_of : (structured : Bool) → RequestHead → Form
form_of structured head = form_by structured head.command head.flags.bits head.offset
