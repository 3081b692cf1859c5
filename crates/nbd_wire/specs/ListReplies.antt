-- The answer to LIST where there is one export ("NBD_OPT_LIST" of the NBD protocol document).
use Rattle.std.specs.Prelude.{ℕ, ◌+◌, List, [], ◌∷◌, length}
use Rattle.nbd_wire.specs.declared.option_replies.ReplyType.TheVariants.{Server, Ack}
use Rattle.nbd_wire.specs.declared.options.OptionType.TheVariants as Options
use Rattle.nbd_wire.specs.Fields.{message, u32_text}
use Rattle.nbd_wire.specs.InfoReplies.{reply_head}
use Rattle.nbd_wire.specs.OptionReplies.{option_reply_text}

-- u32 length of the name, and the name
unfoldable pub name_text : List ℕ → List ℕ
name_text name = message (u32_text (length name) ∷ name ∷ [])

-- SERVER with the name, ACK without data
unfoldable pub list_replies_text : List ℕ → List ℕ
list_replies_text name =
    message (option_reply_text (reply_head Options.List Server (4 + length name)) ∷ name_text name
    ∷ option_reply_text (reply_head Options.List Ack 0) ∷ [])
