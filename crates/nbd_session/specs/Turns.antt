-- The requests of a session, each with its reply.
use Rattle.std.specs.Prelude.{ℕ, ◌≡◌, Bool, true, false, List, [], ◌∷◌, ◌++◌, map, Option, Some}
use Rattle.std.specs.Prelude.{None}
use Rattle.base_terms.specs.ErrorNumbers.{invalid, no_memory}
use Rattle.plain_disk.specs.declared.operation.Op.{Op}
use Rattle.plain_disk.specs.declared.operation.Reply.{Reply}
use Rattle.plain_disk.specs.declared.operation.Reply.TheVariants.{Errno}
use Rattle.plain_disk.specs.Outcomes.{IsReplyTo}
use Rattle.plain_disk.specs.Plain.{Exchange}
use Rattle.nbd_session.specs.declared.forms.Form.{Form}
use Rattle.nbd_session.specs.Replies.{reply_text}
use Rattle.nbd_session.specs.Requests.{IsMessage}

-- A request that was answered: its cookie, its operation, None where it has none, the reply and its
-- form; of a write, how many bytes were tried; and whether it was submitted.
pub record Turn : Type 0 where
  pub cookie : ℕ
  pub asked : Option Op
  pub form : Form
  pub reply : Reply
  pub tried : ℕ
  pub submitted : Bool

-- Nothing was tried of a request that wasn't submitted. It is answered 22 where it is no operation,
-- and else 12: memory was wanted for it. One that was submitted is answered by what the operation
-- may be replied.
abbrev pub IsAnswered : Option Op → Bool → Reply → ℕ → Type 0
IsAnswered None submitted reply tried = (submitted ≡ false) × (reply ≡ Errno invalid) × (tried ≡ 0)
IsAnswered (Some op) true reply tried = IsReplyTo op reply
IsAnswered (Some op) false reply tried = (reply ≡ Errno no_memory) × (tried ≡ 0)

-- the bytes are the turn's request, which was answered so
pub record IsTurn (structured : Bool) (bytes : List ℕ) (turn : Turn) : Type 0 where
  pub message : IsMessage structured bytes turn.cookie turn.asked turn.form
  pub answered : IsAnswered turn.asked turn.submitted turn.reply turn.tried

-- the bytes are these requests, one message after the other
unfoldable pub Spells : (structured : Bool) → List Turn → List ℕ → Type 0
Spells structured [] bytes = bytes ≡ []
Spells structured (turn ∷ turns) bytes =
    (message : List ℕ) × (rest : List ℕ) × (bytes ≡ message ++ rest)
    × IsTurn structured message turn × Spells structured turns rest

-- what the port was asked by one request
abbrev pub exchange_of : Option Op → Bool → Reply → ℕ → List Exchange
exchange_of None submitted reply tried = []
exchange_of (Some op) true reply tried = record { op = op; reply = reply; tried = tried } ∷ []
exchange_of (Some op) false reply tried = []

-- what the port was asked
unfoldable pub exchanges_of : List Turn → List Exchange
exchanges_of [] = []
exchanges_of (turn ∷ turns) =
    exchange_of turn.asked turn.submitted turn.reply turn.tried ++ exchanges_of turns

-- the replies
unfoldable pub replies_to : List Turn → List (List ℕ)
replies_to turns = map (λ turn. reply_text turn.form turn.cookie turn.reply) turns
