-- The texts of replies.
use Rattle.std.specs.Prelude.{ℕ, ◌≡◌, List, [], ◌++◌, Option, MatchOption, Ok, Err}
use Rattle.base_terms.specs.declared.failed.Failed.{Failed}
use Rattle.io_edge.specs.Outlet.{Outlet}
use Rattle.nbd_stream.specs.declared.ending.Ending.{Ending}
use Rattle.nbd_stream.specs.declared.ending.Ending.TheVariants.{WriteFault}
use Rattle.nbd_stream.specs.Putting.{Puts}
use Rattle.plain_disk.specs.declared.operation.Reply.{Reply}
use Rattle.plain_disk.specs.declared.operation.Reply.TheVariants.{Content, Done, Errno, ErrnoAt}
use Rattle.nbd_wire.specs.ReadReplying.Parts.{parts_text}
use Rattle.nbd_wire.specs.ReadReplying.Replies.{Answer, IsAnswer, chunks_of, content, error, error_at}
use Rattle.nbd_session.specs.declared.forms.Form.{Form}
use Rattle.nbd_session.specs.declared.forms.Form.TheVariants.{Simple, Chunks}
use Rattle.nbd_wire.specs.Replies.{simple_reply_text}

-- the error number of a reply, whose place, if it has one, isn't told
abbrev pub errno_of : Reply → ℕ
errno_of (Content bytes) = 0
errno_of Done = 0
errno_of (Errno number) = number
errno_of (ErrnoAt number place) = number

-- the data of a reply
abbrev pub data_of : Reply → List ℕ
data_of (Content bytes) = bytes
data_of Done = []
data_of (Errno number) = []
data_of (ErrnoAt number place) = []

-- a simple reply: its head, and the data of a read
abbrev pub simple_text : ℕ → Reply → List ℕ
simple_text cookie reply =
    simple_reply_text (record { error = errno_of reply; cookie = cookie }) ++ data_of reply

-- what a READ comes to by its reply, which is never just done: its bytes, or its error
abbrev pub answer_in : Reply → Answer
answer_in (Content bytes) = content bytes
answer_in Done = content []
answer_in (Errno number) = error number
answer_in (ErrnoAt number place) = error_at number place

-- a reply in its form
unfoldable pub reply_text : Form → ℕ → Reply → List ℕ
reply_text Simple cookie reply = simple_text cookie reply
reply_text (Chunks whole offset) cookie reply =
    parts_text cookie (chunks_of whole offset (answer_in reply))

-- what a READ in chunks comes to by its reply has its numbers in their ranges
abbrev pub IsAnswerIn : Form → Reply → Type 0
IsAnswerIn Simple reply = Unit {0}
IsAnswerIn (Chunks whole offset) reply = IsAnswer offset (answer_in reply)

-- a reply was put whole, or the sink failed
abbrev pub Replies : Outlet → Outlet → ℕ → ℕ → List ℕ → Option Ending → List ℕ → List ℕ → Type 0
Replies old new old_put new_put text result whole front =
    MatchOption result (Puts {T = Unit {0}} old new old_put new_put text (Ok tt) whole front)
    (λ ending. (ending ≡ WriteFault)
    × ((failed : Failed) × Puts {T = Unit {0}} old new old_put new_put text (Err failed) whole
    front))
