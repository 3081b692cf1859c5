-- What a port did with an operation.
use Rattle.std.specs.Prelude.{ℕ, List, [], ◌∷◌}
use Rattle.plain_disk.specs.declared.operation.Op.{Op}
use Rattle.plain_disk.specs.Outcomes.{IsReplyTo}
use Rattle.plain_disk.specs.Plain.{Exchange}
use Rattle.nbd_session.specs.declared.port.Submitted.{Submitted}
use Rattle.nbd_session.specs.declared.port.Submitted.TheVariants.{Replied, Spent}

-- the operation, of which so many bytes were tried where it is a write, was answered; a spent port
-- did nothing
abbrev pub exchanges_by : Op → ℕ → Submitted → List Exchange
exchanges_by op n (Replied reply buffer) = record { op = op; reply = reply; tried = n } ∷ []
exchanges_by op n Spent = []

-- the operation is answered by what it may be replied
abbrev pub IsRepliedTo : Op → Submitted → Type 0
IsRepliedTo op (Replied reply buffer) = IsReplyTo op reply
IsRepliedTo op Spent = Unit {0}

-- what holds where nothing came of the operation, since the port is spent
abbrev pub IfSpent : Submitted → Type 0 → Type 0
IfSpent (Replied reply buffer) P = Unit {0}
IfSpent Spent P = P
