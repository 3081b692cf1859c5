-- What the sessions of the demonstration were put, as its clients read it.
use Rattle.std.specs.Prelude.{ℕ, zero, suc, ◌≡◌, ◌+◌, List, [], ◌∷◌, ◌++◌, length}
use Rattle.bays.specs.Memory.{Line}
use Rattle.io_edge.specs.Memory.{Input, Output}
use Rattle.nbd_session.specs.Replies.{data_of, simple_text}
use Rattle.nbd_wire.specs.Replies.{simple_reply_text}
use Rattle.plain_disk.specs.declared.operation.Op.{Op}
use Rattle.plain_disk.specs.declared.operation.Reply.{Reply}
use Rattle.plain_disk.specs.Outcomes.{IsServed}
use Rattle.demo_clients.specs.Operations.{demo_operations}

-- how many bytes a client is put before its first reply: the greeting, and the answer to GO
abbrev pub hand_size : ℕ
hand_size = 104

-- The text is simple replies to these operations, one behind the other, none of them an error; the
-- content is the data of the reads, one behind the other.
unfoldable pub AreReplies : List Op → (text content : List ℕ) → Type 0
AreReplies [] text content = (text ≡ []) × (content ≡ [])
AreReplies (op ∷ ops) text content =
    (cookie : ℕ) × (reply : Reply) × (behind : List ℕ) × (later : List ℕ) × IsServed op reply
    × (text ≡ simple_text cookie reply ++ behind) × (content ≡ data_of reply ++ later)
    × AreReplies ops behind later

-- a client was put its handshake, and then such replies
pub record IsReadBack (ops : List Op) (had content : List ℕ) : Type 0 where
  pub hand : List ℕ
  pub text : List ℕ
  pub size : length hand ≡ hand_size
  pub parts : had ≡ hand ++ text
  pub replies : AreReplies ops text content

-- a link was handed back one connection, whose client was put that
pub record IsLinkReadBack (ops : List Op) (line : Line) (content : List ℕ) : Type 0 where
  pub connection : Input × Output
  pub handed : line.handed ≡ connection ∷ []
  pub is : IsReadBack ops connection.1.had content

-- Link `i`, and those behind it, were handed back the connections of session `i`, and of those behind
-- it, of `k` that have `m` blocks among them; the content is what all their reads were answered.
unfoldable pub AreReadBack : (seed m k i : ℕ) → List Line → (content : List ℕ) → Type 0
AreReadBack seed m k i [] content = content ≡ []
AreReadBack seed m k i (line ∷ lines) content =
    (own : List ℕ) × (later : List ℕ) × IsLinkReadBack (demo_operations seed m k i) line own
    × (content ≡ own ++ later) × AreReadBack seed m k (i + 1) lines later

-- ---- reply by reply
-- the head of a simple reply without error
abbrev pub granting_head : (cookie : ℕ) → List ℕ
granting_head cookie = simple_reply_text (record { error = 0; cookie = cookie })

-- the text begins with a simple reply without error that has so many bytes of data
pub record IsFirstReply (size : ℕ) (text own behind : List ℕ) : Type 0 where
  pub cookie : ℕ
  pub long : length own ≡ size
  pub parts : text ≡ granting_head cookie ++ (own ++ behind)

-- the text begins with so many of them, whose data are the content
unfoldable pub AreFirstReplies : (count size : ℕ) → (text content behind : List ℕ) → Type 0
AreFirstReplies zero size text content behind = (content ≡ []) × (text ≡ behind)
AreFirstReplies (suc count) size text content behind =
    (own : List ℕ) × (rest : List ℕ) × (later : List ℕ) × IsFirstReply size text own rest
    × (content ≡ own ++ later) × AreFirstReplies count size rest later behind
