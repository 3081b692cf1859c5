-- The texts of option heads.
use Rattle.std.proofs.Common.{refl, ◌≡◌, ℕ, ◌^◌, ◌<◌, List, length, ap, ◌∙◌, sym, arith}
use Rattle.std.proofs.Common.{slice_range}
use Rattle.nbd_wire.specs.Magic.{option_magic}
use Rattle.nbd_wire.specs.declared.options.OptionHead.{OptionHead}
use Rattle.nbd_wire.specs.Fields.{u16_text, u32_text, u64_text}
use Rattle.nbd_wire.specs.Options.{IsOptionHead, option_number, option_of, option_text}
use Rattle.nbd_wire.proofs.FieldLemmas.{u32-first, u64-first, u64-front, field-behind}
use Rattle.nbd_wire.proofs.FieldLemmas.{nothing-behind}

-- a text is that of one head
pub option-once : (a b : OptionHead) → IsOptionHead a → IsOptionHead b
    → option_text a ≡ option_text b → a ≡ b
unfolding option_text
option-once a b ia ib e =
    let magic = u64-first _ _ _ _ (omega arith) (omega arith) e in
    let option = u32-first _ _ _ _ ia.option ib.option magic.1 in
    let size = u32-first _ _ _ _ ia.size ib.size option.1 in
    let named : a.option ≡ b.option = sym ia.named ∙ ap option_of option.0 ∙ ib.named in
    let same : ◌≡◌ {A = OptionHead} (record { option = a.option; length = a.length })
    (record { option = b.option; length = b.length }) = cc in
    same

-- the head whose fields stand at their places
pub option-there : (bytes : List ℕ) (head : OptionHead) → length bytes ≡ 16
    → u64_text option_magic ≡ slice_range bytes 0 8 →
    u32_text (option_number head.option) ≡ slice_range bytes 8 12
    → u32_text head.length ≡ slice_range bytes 12 16 → option_text head ≡ bytes
unfolding option_text
option-there bytes head size magic option len =
    field-behind bytes _ _ 0 8 (omega arith) magic (field-behind bytes _ _ 8 12 (omega arith) option
    (field-behind bytes _ _ 12 16 (omega arith) len (nothing-behind bytes 16 size)))

-- a text has the magic at its front
pub option-magic : (bytes : List ℕ) (head : OptionHead) (n : ℕ) → n < 2 ^ 64
    → option_text head ≡ bytes →
    u64_text n ≡ slice_range bytes 0 8 → n ≡ option_magic
unfolding option_text
option-magic bytes head n hn e here = u64-front option_magic n _ bytes (omega arith) hn e here

-- how long a text is
pub option-size : (message : OptionHead) → length (option_text message) ≡ 16
unfolding option_text u16_text u32_text u64_text
option-size message = refl
