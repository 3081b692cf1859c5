-- The texts of the heads of option replies.
use Rattle.std.proofs.Common.{refl, ◌≡◌, ℕ, ◌^◌, ◌<◌, List, length, ap, ◌∙◌, sym, arith}
use Rattle.std.proofs.Common.{slice_range}
use Rattle.nbd_wire.specs.Magic.{option_reply_magic}
use Rattle.nbd_wire.specs.declared.option_replies.OptionReplyHead.{OptionReplyHead}
use Rattle.nbd_wire.specs.Fields.{u16_text, u32_text, u64_text}
use Rattle.nbd_wire.specs.Options.{option_number, option_of}
use Rattle.nbd_wire.specs.OptionReplies.{IsOptionReplyHead, reply_type_number, reply_type_of}
use Rattle.nbd_wire.specs.OptionReplies.{option_reply_text}
use Rattle.nbd_wire.proofs.FieldLemmas.{u32-first, u64-first, u64-front, field-behind}
use Rattle.nbd_wire.proofs.FieldLemmas.{nothing-behind}

-- a text is that of one head
pub option_reply-once : (a b : OptionReplyHead) → IsOptionReplyHead a → IsOptionReplyHead b
    → option_reply_text a ≡ option_reply_text b → a ≡ b
unfolding option_reply_text
option_reply-once a b ia ib e =
    let magic = u64-first _ _ _ _ (omega arith) (omega arith) e in
    let option = u32-first _ _ _ _ ia.option ib.option magic.1 in
    let reply = u32-first _ _ _ _ ia.reply ib.reply option.1 in
    let size = u32-first _ _ _ _ ia.size ib.size reply.1 in
    let option_named : a.option ≡ b.option =
    sym ia.option_named ∙ ap option_of option.0 ∙ ib.option_named in
    let reply_named : a.reply ≡ b.reply =
    sym ia.reply_named ∙ ap reply_type_of reply.0 ∙ ib.reply_named in
    let same : ◌≡◌ {A = OptionReplyHead}
    (record { option = a.option; reply = a.reply; length = a.length })
    (record { option = b.option; reply = b.reply; length = b.length }) = cc in
    same

-- the head whose fields stand at their places
pub option_reply-there : (bytes : List ℕ) (head : OptionReplyHead) → length bytes ≡ 20
    → u64_text option_reply_magic ≡ slice_range bytes 0 8 →
    u32_text (option_number head.option) ≡ slice_range bytes 8 12
    → u32_text (reply_type_number head.reply) ≡ slice_range bytes 12 16 →
    u32_text head.length ≡ slice_range bytes 16 20 → option_reply_text head ≡ bytes
unfolding option_reply_text
option_reply-there bytes head size magic option reply len =
    field-behind bytes _ _ 0 8 (omega arith) magic (field-behind bytes _ _ 8 12 (omega arith) option
    (field-behind bytes _ _ 12 16 (omega arith) reply
    (field-behind bytes _ _ 16 20 (omega arith) len (nothing-behind bytes 20 size))))

-- a text has the magic at its front
pub option_reply-magic : (bytes : List ℕ) (head : OptionReplyHead) (n : ℕ) → n < 2 ^ 64
    → option_reply_text head ≡ bytes →
    u64_text n ≡ slice_range bytes 0 8 → n ≡ option_reply_magic
unfolding option_reply_text
option_reply-magic bytes head n hn e here =
    u64-front option_reply_magic n _ bytes (omega arith) hn e here

-- how long a text is
pub option_reply-size : (message : OptionReplyHead) → length (option_reply_text message) ≡ 20
unfolding option_reply_text u16_text u32_text u64_text
option_reply-size message = refl
