-- The texts of the heads of simple replies.
use Rattle.std.proofs.Common.{refl, ◌≡◌, ℕ, ◌^◌, ◌<◌, List, length, arith, slice_range}
use Rattle.nbd_wire.specs.Magic.{simple_reply_magic}
use Rattle.nbd_wire.specs.declared.replies.SimpleReplyHead.{SimpleReplyHead}
use Rattle.nbd_wire.specs.Fields.{u16_text, u32_text, u64_text}
use Rattle.nbd_wire.specs.Replies.{IsSimpleReplyHead, simple_reply_text}
use Rattle.nbd_wire.proofs.FieldLemmas.{u32-first, u64-first, u32-front, field-behind}
use Rattle.nbd_wire.proofs.FieldLemmas.{nothing-behind}

-- a text is that of one head
pub simple_reply-once : (a b : SimpleReplyHead) → IsSimpleReplyHead a → IsSimpleReplyHead b
    → simple_reply_text a ≡ simple_reply_text b → a ≡ b
unfolding simple_reply_text
simple_reply-once a b ia ib e =
    let magic = u32-first _ _ _ _ (omega arith) (omega arith) e in
    let error = u32-first _ _ _ _ ia.error ib.error magic.1 in
    let cookie = u64-first _ _ _ _ ia.cookie ib.cookie error.1 in
    let same : ◌≡◌ {A = SimpleReplyHead} (record { error = a.error; cookie = a.cookie })
    (record { error = b.error; cookie = b.cookie }) = cc in
    same

-- the head whose fields stand at their places
pub simple_reply-there : (bytes : List ℕ) (head : SimpleReplyHead) → length bytes ≡ 16
    → u32_text simple_reply_magic ≡ slice_range bytes 0 4 →
    u32_text head.error ≡ slice_range bytes 4 8 → u64_text head.cookie ≡ slice_range bytes 8 16
    → simple_reply_text head ≡ bytes
unfolding simple_reply_text
simple_reply-there bytes head size magic error cookie =
    field-behind bytes _ _ 0 4 (omega arith) magic (field-behind bytes _ _ 4 8 (omega arith) error
    (field-behind bytes _ _ 8 16 (omega arith) cookie (nothing-behind bytes 16 size)))

-- a text has the magic at its front
pub simple_reply-magic : (bytes : List ℕ) (head : SimpleReplyHead) (n : ℕ) → n < 2 ^ 32
    → simple_reply_text head ≡ bytes →
    u32_text n ≡ slice_range bytes 0 4 → n ≡ simple_reply_magic
unfolding simple_reply_text
simple_reply-magic bytes head n hn e here =
    u32-front simple_reply_magic n _ bytes (omega arith) hn e here

-- how long a text is
pub simple_reply-size : (message : SimpleReplyHead) → length (simple_reply_text message) ≡ 16
unfolding simple_reply_text u16_text u32_text u64_text
simple_reply-size message = refl
