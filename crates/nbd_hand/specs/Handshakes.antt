-- A handshake, from the greeting to the option that begins the requests or to the session's end, on
-- whole strings of bytes.
use Rattle.std.specs.Prelude.{ℕ, ◌≡◌, ◌<◌, ◌⊎◌, Bool, false, not, ◌==◌, List, [], ◌∷◌, ◌++◌, length}
use Rattle.std.specs.Prelude.{bit_and, Option, None}
use Rattle.nbd_stream.specs.declared.ending.Ending.{Ending}
use Rattle.nbd_stream.specs.declared.ending.Ending.TheVariants.{WriteFault}
use Rattle.nbd_hand.specs.declared.export.Export.{Export}
use Rattle.nbd_hand.specs.declared.options.ClientOption.{ClientOption}
use Rattle.nbd_hand.specs.declared.options.Course.TheVariants.{Begins, Ends}
use Rattle.nbd_hand.specs.declared.negotiation.Agreed.{Agreed}
use Rattle.nbd_hand.specs.Grammar.{StopsFlags, AreOptions, agreed_after, answers_to, last_answer}
use Rattle.nbd_wire.specs.Fields.{u32_text}
use Rattle.nbd_wire.specs.Handshake.{greeting_text}

-- how far a session came: to the client's flags, to its options, or to the requests
pub data Stage : Type 0 where
  greeted : Stage
  negotiating : Stage
  served : Stage

-- what a handshake took and put
pub record Handshake : Type 0 where
  pub stage : Stage
  -- the client's flags, 0 where they didn't come
  pub flags : ℕ
  -- the options after which the negotiation went on, and the one that ended it, if one did
  pub options : List ClientOption
  pub last : Option ClientOption
  pub taken : List ℕ
  -- the pieces that were put whole, and what may have gone out of the piece that failed
  pub whole : List ℕ
  pub front : List ℕ
  pub ended : Bool

-- whether the zeros are left out, bit 1 of the client's flags
unfoldable pub no_zeroes : ℕ → Bool
no_zeroes flags = not (bit_and flags 2 == 0)

-- the greeting, with the flags "fixed newstyle" (bit 0) and "no zeroes" (1)
unfoldable pub greeting : List ℕ
greeting = greeting_text (record { flags = record { bits = 3 } })

-- what is agreed on by the client's flags, and after the options that came then
abbrev pub agreed_at_first : Handshake → Agreed
agreed_at_first hand = record { no_zeroes = no_zeroes hand.flags; structured = false }

abbrev pub agreed_in : Handshake → Agreed
agreed_in hand = agreed_after (agreed_at_first hand) hand.options

-- all that a handshake answers, message after message
abbrev pub messages_of : Export → Handshake → List (List ℕ)
messages_of export hand =
    greeting ∷ (answers_to export (agreed_at_first hand) hand.options ++ last_answer export
    (agreed_in hand) hand.last)

-- the client gave its flags, and then these bytes
pub record HasFlags (hand : Handshake) (rest : List ℕ) : Type 0 where
  pub fit : hand.flags < 4
  pub parts : hand.taken ≡ u32_text hand.flags ++ rest

-- all that was taken of a session that ended before its requests; nothing where the greeting didn't
-- go out
abbrev pub IsUnserved : Stage → Handshake → Ending → Type 0
IsUnserved greeted hand ending =
    (hand.flags ≡ 0) × (hand.options ≡ []) × (hand.last ≡ None)
    × (((ending ≡ WriteFault) × (hand.taken ≡ [])) ⊎ StopsFlags ending hand.ended hand.taken)
IsUnserved negotiating hand ending =
    (rest : List ℕ) × HasFlags hand rest
    × AreOptions (Ends ending) hand.options hand.last (length hand.options) rest hand.ended
IsUnserved served hand ending = ⊥

-- all that was taken of one that came to its requests, and has taken none
abbrev pub IsBegun : Handshake → Type 0
IsBegun hand = (rest : List ℕ) × HasFlags hand rest
    × AreOptions Begins hand.options hand.last (length hand.options) rest false
