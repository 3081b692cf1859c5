-- Replies fit the forms in which they are put.
use Rattle.std.proofs.Common.{◌≡◌, ℕ, Bool, true, false, if◌then◌else◌, List}
use Rattle.std.proofs.Common.{Option, Some, None, length, refl, subst, arith}
use Rattle.base_terms.specs.ErrorNumbers.{invalid, no_memory}
use Rattle.plain_disk.specs.declared.operation.Op.{Op}
use Rattle.plain_disk.specs.declared.operation.Op.TheVariants as Ops
use Rattle.plain_disk.specs.declared.operation.Reply.{Reply}
use Rattle.plain_disk.specs.declared.operation.Reply.TheVariants.{Content, Done, Errno, ErrnoAt}
use Rattle.plain_disk.specs.Outcomes.{IsErrorNumber, IsReplyTo}
use Rattle.nbd_wire.specs.ReadReplying.Replies.{IsAnswer}
use Rattle.nbd_session.specs.declared.forms.Form.{Form}
use Rattle.nbd_session.specs.declared.forms.Form.TheVariants.{Simple, Chunks}
use Rattle.nbd_session.specs.Forms.{form_by, form_of}
use Rattle.nbd_session.specs.Replies.{IsAnswerIn, answer_in}
use Rattle.nbd_session.specs.Requests.{IsMessage, IsRefusal, operation_by, operation_of}
use Rattle.nbd_session.specs.Turns.{IsAnswered, Turn, IsTurn}
use Rattle.nbd_wire.specs.declared.requests.CommandType.{CommandType}
use Rattle.nbd_wire.specs.declared.requests.CommandType.TheVariants.{Read}
use Rattle.nbd_wire.specs.Requests.{are_allowed}

-- an error that isn't 0 fits every form
error-fits : (form : Form) (number : ℕ) → IsErrorNumber number → IsAnswerIn form (Errno number)
error-fits Simple number is = tt
error-fits (Chunks whole offset) number is = is

pub memory-fits : (form : Form) → IsAnswerIn form (Errno no_memory)
memory-fits form = error-fits form no_memory (omega arith, omega arith)

pub refusal-fits : (form : Form) (asked : Option Op) (number : ℕ) → IsRefusal asked number →
    IsAnswerIn form (Errno number)
refusal-fits form None number is =
    error-fits form number (omega (arith, is), omega (arith, is))
refusal-fits form (Some op) number is =
    error-fits form number (omega (arith, is), omega (arith, is))

-- what is answered by chunks is a READ, from their offset on
some-op : (allowed : Bool) (op asked : Op) →
    Some op ≡ (if allowed then Some asked else None) → op ≡ asked
some-op true op asked is = cc
some-op false op asked is = absurd (cc)

pub chunked-by : (structured : Bool) (command : CommandType) (flags offset len : ℕ) (body : List ℕ)
    (op : Op) (whole : Bool) (at : ℕ) →
    Chunks whole at ≡ form_by structured command flags offset →
    Some op ≡ (if are_allowed structured command flags
    then operation_by command flags offset len body else None) → op ≡ Ops.Read at len
chunked-by true Read flags offset len body op whole at form asks =
    let read = some-op (are_allowed true Read flags) op (Ops.Read offset len) asks in
    let from : at ≡ offset = cc in
    cc
chunked-by true _ flags offset len body op whole at form asks = absurd (cc)
chunked-by false _ flags offset len body op whole at form asks = absurd (cc)

read-fits : (offset len : ℕ) (reply : Reply) → IsReplyTo (Ops.Read offset len) reply →
    IsAnswer offset (answer_in reply)
read-fits offset len (Content bytes) is =
    (omega (arith, is.0, is.2), omega (arith, is.0, is.1))
read-fits offset len Done is = absurd is
read-fits offset len (Errno number) is = is
read-fits offset len (ErrnoAt number place) is = (is.0, is.1.2)

pub reply-fits : (structured : Bool) (bytes : List ℕ) (cookie : ℕ) (op : Op) (form : Form)
    (reply : Reply) → IsMessage structured bytes cookie (Some op) form → IsReplyTo op reply →
    IsAnswerIn form reply
unfolding form_of operation_of
reply-fits structured bytes cookie op Simple reply message is = tt
reply-fits structured bytes cookie op (Chunks whole offset) reply message is =
    let head = message.head in
    let read = chunked-by structured head.command head.flags.bits head.offset head.length
    message.body op whole offset message.form_is message.asks in
    read-fits offset head.length reply (subst (λ (o : Op). IsReplyTo o reply) read is)

-- what is known of a turn says that its reply fits
answered-fits : (structured : Bool) (bytes : List ℕ) (cookie : ℕ) (asked : Option Op) (form : Form)
    (submitted : Bool) (reply : Reply) (tried : ℕ) → IsMessage structured bytes cookie asked form →
    IsAnswered asked submitted reply tried → IsAnswerIn form reply
answered-fits structured bytes cookie None form submitted reply tried message is =
    rw is.1 (refusal-fits form None invalid refl)
answered-fits structured bytes cookie (Some op) form true reply tried message is =
    reply-fits structured bytes cookie op form reply message is
answered-fits structured bytes cookie (Some op) form false reply tried message is =
    rw is.0 (memory-fits form)

pub turn-fits : (structured : Bool) (bytes : List ℕ) (turn : Turn) → IsTurn structured bytes turn →
    IsAnswerIn turn.form turn.reply
turn-fits structured bytes turn is = answered-fits structured bytes turn.cookie turn.asked turn.form
    turn.submitted turn.reply turn.tried is.message is.answered

-- the content of a READ has as many bytes as it asks for
pub content-size : (offset len : ℕ) (bytes : List ℕ) (submitted : Bool) (tried : ℕ) →
    IsAnswered (Some (Ops.Read offset len)) submitted (Content bytes) tried → length bytes ≡ len
content-size offset len bytes true tried is = is.0
content-size offset len bytes false tried is = let e = is.0 in absurd (cc)
