-- The head of the reply to an option ("Option reply types" of the NBD protocol document).
use Rattle.std.specs.Prelude.{ℕ, ◌≡◌, ◌<◌, ◌+◌, ◌^◌, ◌==◌, if◌then◌else◌, List, [], ◌∷◌}
use Rattle.nbd_wire.specs.declared.option_replies.ReplyType.{ReplyType}
use Rattle.nbd_wire.specs.declared.option_replies.ReplyType.TheVariants.{Ack, Server, Info, Unsup}
use Rattle.nbd_wire.specs.declared.option_replies.ReplyType.TheVariants.{Policy, Invalid, Unknown}
use Rattle.nbd_wire.specs.declared.option_replies.ReplyType.TheVariants.{TooBig, Other}
use Rattle.nbd_wire.specs.declared.option_replies.OptionReplyHead.{OptionReplyHead}
use Rattle.nbd_wire.specs.Magic.{option_reply_magic}
use Rattle.nbd_wire.specs.Fields.{message, u32_text, u64_text}
use Rattle.nbd_wire.specs.Options.{option_number, option_of}

-- the number of each reply type
abbrev pub reply_type_number : ReplyType → ℕ
reply_type_number Ack = 1
reply_type_number Server = 2
reply_type_number Info = 3
reply_type_number Unsup = 2 ^ 31 + 1
reply_type_number Policy = 2 ^ 31 + 2
reply_type_number Invalid = 2 ^ 31 + 3
reply_type_number Unknown = 2 ^ 31 + 6
reply_type_number TooBig = 2 ^ 31 + 9
reply_type_number (Other number) = number

-- the reply type of a number: by its name where it has one
abbrev pub reply_type_of : ℕ → ReplyType
reply_type_of n =
    if n == 1 then Ack
    else (if n == 2 then Server
    else (if n == 3 then Info
    else (if n == 2 ^ 31 + 1 then Unsup
    else (if n == 2 ^ 31 + 2 then Policy
    else (if n == 2 ^ 31 + 3 then Invalid
    else (if n == 2 ^ 31 + 6 then Unknown
    else (if n == 2 ^ 31 + 9 then TooBig
    else Other n)))))))

-- The fields are in their ranges, and an option and a reply type that have names go by them.
pub record IsOptionReplyHead (head : OptionReplyHead) : Type 0 where
  pub option : option_number head.option < 2 ^ 32
  pub option_named : option_of (option_number head.option) ≡ head.option
  pub reply : reply_type_number head.reply < 2 ^ 32
  pub reply_named : reply_type_of (reply_type_number head.reply) ≡ head.reply
  pub size : head.length < 2 ^ 32

-- u64 magic, u32 option, u32 reply type, u32 length
unfoldable pub option_reply_text : OptionReplyHead → List ℕ
option_reply_text head =
    message (u64_text option_reply_magic ∷ u32_text (option_number head.option)
    ∷ u32_text (reply_type_number head.reply)
    ∷ u32_text head.length ∷ [])
