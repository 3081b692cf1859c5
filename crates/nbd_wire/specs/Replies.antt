-- The head of a simple reply ("Simple reply message" of the NBD protocol document).
use Rattle.std.specs.Prelude.{ℕ, ◌<◌, ◌^◌, List, [], ◌∷◌}
use Rattle.nbd_wire.specs.declared.replies.SimpleReplyHead.{SimpleReplyHead}
use Rattle.nbd_wire.specs.Magic.{simple_reply_magic}
use Rattle.nbd_wire.specs.Fields.{message, u32_text, u64_text}

-- The fields are in their ranges.
pub record IsSimpleReplyHead (head : SimpleReplyHead) : Type 0 where
  pub error : head.error < 2 ^ 32
  pub cookie : head.cookie < 2 ^ 64

-- u32 magic, u32 error, u64 cookie
unfoldable pub simple_reply_text : SimpleReplyHead → List ℕ
simple_reply_text head =
    message (u32_text simple_reply_magic ∷ u32_text head.error ∷ u64_text head.cookie ∷ [])
