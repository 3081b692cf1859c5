-- The answer to INFO and GO where the export is there ("NBD_OPT_INFO and NBD_OPT_GO" of the NBD
-- protocol document).
use Rattle.std.specs.Prelude.{ℕ, List, [], ◌∷◌}
use Rattle.nbd_wire.specs.declared.info_replies.InfoReplies.{InfoReplies}
use Rattle.nbd_wire.specs.declared.option_replies.OptionReplyHead.{OptionReplyHead}
use Rattle.nbd_wire.specs.declared.option_replies.ReplyType.{ReplyType}
use Rattle.nbd_wire.specs.declared.option_replies.ReplyType.TheVariants.{Info, Ack}
use Rattle.nbd_wire.specs.declared.options.OptionType.{OptionType}
use Rattle.nbd_wire.specs.Exports.{export_info_text, block_size_text}
use Rattle.nbd_wire.specs.Fields.{message}
use Rattle.nbd_wire.specs.OptionReplies.{option_reply_text}

-- the head of a reply with so many bytes of data
abbrev pub reply_head : OptionType → ReplyType → ℕ → OptionReplyHead
reply_head option reply size = record { option = option; reply = reply; length = size }

-- INFO with the export, INFO with the sizes of blocks, ACK without data
unfoldable pub info_replies_text : InfoReplies → List ℕ
info_replies_text replies =
    message (option_reply_text (reply_head replies.option Info 12) ∷ export_info_text replies.export
    ∷ option_reply_text (reply_head replies.option Info 14) ∷ block_size_text replies.blocks
    ∷ option_reply_text (reply_head replies.option Ack 0) ∷ [])
