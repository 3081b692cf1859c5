-- The texts of greetings.
use Rattle.std.proofs.Common.{◌≡◌, ℕ, ◌^◌, ◌<◌, List, ◌++◌, length, arith, slice_range, ◌∙◌, sym}
use Rattle.std.proofs.Common.{refl, drop}
use Rattle.nbd_wire.specs.declared.handshake.Greeting.{Greeting}
use Rattle.nbd_wire.specs.Magic.{greeting_magic, option_magic}
use Rattle.nbd_wire.specs.Fields.{u16_text, u32_text, u64_text}
use Rattle.nbd_wire.specs.Handshake.{IsGreeting, greeting_text}
use Rattle.nbd_wire.proofs.FieldLemmas.{u16-first, u64-first, u64-front, field-behind}
use Rattle.nbd_wire.proofs.FieldLemmas.{nothing-behind}

-- a text is that of one greeting
pub greeting-once : (a b : Greeting) → IsGreeting a → IsGreeting b
    → greeting_text a ≡ greeting_text b → a ≡ b
unfolding greeting_text
greeting-once a b ia ib e =
    let magic = u64-first _ _ _ _ (omega arith) (omega arith) e in
    let second = u64-first _ _ _ _ (omega arith) (omega arith) magic.1 in
    let flags = u16-first _ _ _ _ ia ib second.1 in
    let same : ◌≡◌ {A = Greeting} (record { flags = record { bits = a.flags.bits } })
    (record { flags = record { bits = b.flags.bits } }) = cc in
    same

-- the greeting whose flags stand behind the two magics
pub greeting-there : (bytes : List ℕ) (greeting : Greeting) → length bytes ≡ 18
    → u64_text greeting_magic ≡ slice_range bytes 0 8 →
    u64_text option_magic ≡ slice_range bytes 8 16
    → u16_text greeting.flags.bits ≡ slice_range bytes 16 18 → greeting_text greeting ≡ bytes
unfolding greeting_text
greeting-there bytes greeting size magic second flags =
    field-behind bytes _ _ 0 8 (omega arith) magic (field-behind bytes _ _ 8 16 (omega arith) second
    (field-behind bytes _ _ 16 18 (omega arith) flags (nothing-behind bytes 18 size)))

-- a text has the first magic at its front
pub greeting-magic : (bytes : List ℕ) (greeting : Greeting) (n : ℕ) → n < 2 ^ 64
    → greeting_text greeting ≡ bytes →
    u64_text n ≡ slice_range bytes 0 8 → n ≡ greeting_magic
unfolding greeting_text
greeting-magic bytes greeting n hn e here =
    u64-front greeting_magic n _ bytes (omega arith) hn e here

-- and the second behind it
pub greeting-option_magic : (bytes : List ℕ) (greeting : Greeting) (n : ℕ) → n < 2 ^ 64
    → greeting_text greeting ≡ bytes →
    u64_text greeting_magic ≡ slice_range bytes 0 8 → u64_text n ≡ slice_range bytes 8 16
    → n ≡ option_magic
unfolding greeting_text
greeting-option_magic bytes greeting n hn e magic here =
    let read : u64_text greeting_magic ++ (u64_text n ++ drop 16 bytes) ≡ bytes =
    field-behind bytes _ _ 0 8 (omega arith) magic
    (field-behind bytes _ _ 8 16 (omega arith) here refl) in
    let behind = u64-first _ _ _ _ (omega arith) (omega arith) (read ∙ sym e) in
    (u64-first _ _ _ _ hn (omega arith) behind.1).0

-- how long a text is
pub greeting-size : (message : Greeting) → length (greeting_text message) ≡ 18
unfolding greeting_text u16_text u32_text u64_text
greeting-size message = refl
