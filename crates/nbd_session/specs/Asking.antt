-- What a client asks by some requests.
use Rattle.std.specs.Prelude.{ℕ, ◌≡◌, Bool, List, [], ◌∷◌, ◌++◌, map, Option}
use Rattle.plain_disk.specs.declared.operation.Op.{Op}
use Rattle.nbd_session.specs.declared.forms.Form.{Form}
use Rattle.nbd_session.specs.Requests.{IsMessage}
use Rattle.nbd_session.specs.Turns.{Turn}

-- what a client asks: its cookie, the operation, if it is one, and the form of the reply
pub record Asked : Type 0 where
  pub cookie : ℕ
  pub asked : Option Op
  pub form : Form

-- what was asked of a session
abbrev pub asked_by : Turn → Asked
asked_by turn = record { cookie = turn.cookie; asked = turn.asked; form = turn.form }

unfoldable pub asked_of : List Turn → List Asked
asked_of turns = map asked_by turns

-- the bytes are these requests, one message after the other
unfoldable pub SpellsAsked : (structured : Bool) → List Asked → List ℕ → Type 0
SpellsAsked structured [] bytes = bytes ≡ []
SpellsAsked structured (one ∷ others) bytes =
    (message : List ℕ) × (rest : List ℕ) × (bytes ≡ message ++ rest)
    × IsMessage structured message one.cookie one.asked one.form
    × SpellsAsked structured others rest
