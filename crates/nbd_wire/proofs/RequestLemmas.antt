-- The texts of request heads.
use Rattle.std.proofs.Common.{refl, ◌≡◌, ℕ, ◌^◌, ◌<◌, List, length, ap, ◌∙◌, sym, arith}
use Rattle.std.proofs.Common.{slice_range}
use Rattle.nbd_wire.specs.Magic.{request_magic}
use Rattle.nbd_wire.specs.declared.requests.RequestHead.{RequestHead}
use Rattle.nbd_wire.specs.Fields.{u16_text, u32_text, u64_text}
use Rattle.nbd_wire.specs.Requests.{IsRequestHead, command_number, command_of, request_text}
use Rattle.nbd_wire.proofs.FieldLemmas.{u16-first, u32-first, u64-first, u32-front, field-behind}
use Rattle.nbd_wire.proofs.FieldLemmas.{nothing-behind}

-- a text is that of one head
pub request-once : (a b : RequestHead) → IsRequestHead a → IsRequestHead b
    → request_text a ≡ request_text b → a ≡ b
unfolding request_text
request-once a b ia ib e =
    let magic = u32-first _ _ _ _ (omega arith) (omega arith) e in
    let flags = u16-first _ _ _ _ ia.flags ib.flags magic.1 in
    let command = u16-first _ _ _ _ ia.command ib.command flags.1 in
    let cookie = u64-first _ _ _ _ ia.cookie ib.cookie command.1 in
    let offset = u64-first _ _ _ _ ia.offset ib.offset cookie.1 in
    let size = u32-first _ _ _ _ ia.size ib.size offset.1 in
    let type : a.command ≡ b.command = sym ia.named ∙ ap command_of command.0 ∙ ib.named in
    let same : ◌≡◌ {A = RequestHead}
    (record {
      flags = record { bits = a.flags.bits };
      command = a.command;
      cookie =
          a.cookie;
      offset = a.offset;
      length = a.length;
    })
    (record {
      flags = record { bits = b.flags.bits };
      command = b.command;
      cookie =
          b.cookie;
      offset = b.offset;
      length = b.length;
    }) = cc in
    same

-- the head whose fields stand at their places
pub request-there : (bytes : List ℕ) (head : RequestHead) → length bytes ≡ 28
    → u32_text request_magic ≡ slice_range bytes 0 4 →
    u16_text head.flags.bits ≡ slice_range bytes 4 6
    → u16_text (command_number head.command) ≡ slice_range bytes 6 8 →
    u64_text head.cookie ≡ slice_range bytes 8 16 → u64_text head.offset ≡ slice_range bytes 16 24 →
    u32_text head.length ≡ slice_range bytes 24 28 → request_text head ≡ bytes
unfolding request_text
request-there bytes head size magic flags command cookie offset len =
    field-behind bytes _ _ 0 4 (omega arith) magic (field-behind bytes _ _ 4 6 (omega arith) flags
    (field-behind bytes _ _ 6 8 (omega arith) command
    (field-behind bytes _ _ 8 16 (omega arith) cookie
    (field-behind bytes _ _ 16 24 (omega arith) offset
    (field-behind bytes _ _ 24 28 (omega arith) len (nothing-behind bytes 28 size))))))

-- a text has the magic at its front
pub request-magic : (bytes : List ℕ) (head : RequestHead) (n : ℕ) → n < 2 ^ 32
    → request_text head ≡ bytes →
    u32_text n ≡ slice_range bytes 0 4 → n ≡ request_magic
unfolding request_text
request-magic bytes head n hn e here = u32-front request_magic n _ bytes (omega arith) hn e here

-- how long a text is
pub request-size : (message : RequestHead) → length (request_text message) ≡ 28
unfolding request_text u16_text u32_text u64_text
request-size message = refl
