-- The server's greeting ("Fixed newstyle negotiation" of the NBD protocol document).
use Rattle.std.specs.Prelude.{ℕ, ◌≡◌, ◌≢◌, ◌<◌, ◌^◌, ◌⊎◌, List, [], ◌∷◌, take, slice_range}
use Rattle.nbd_wire.specs.declared.handshake.Greeting.{Greeting}
use Rattle.nbd_wire.specs.Magic.{greeting_magic, option_magic}
use Rattle.nbd_wire.specs.Fields.{message, u16_text, u64_text}

-- The flags are in their range.
abbrev pub IsGreeting : Greeting → Type 0
IsGreeting greeting = greeting.flags.bits < 2 ^ 16

-- u64 "NBDMAGIC", u64 "IHAVEOPT", u16 handshake flags
unfoldable pub greeting_text : Greeting → List ℕ
greeting_text greeting =
    message (u64_text greeting_magic ∷ u64_text option_magic ∷ u16_text greeting.flags.bits ∷ [])

-- another number stands in place of the first magic, or, where that is right, of the second
abbrev pub IsNotGreeting : List ℕ → ℕ → Type 0
IsNotGreeting bytes number =
    ((u64_text number ≡ take 8 bytes) × (number ≢ greeting_magic))
    ⊎ ((u64_text greeting_magic ≡ take 8 bytes) × (u64_text number ≡ slice_range bytes 8 16)
    × (number ≢ option_magic))
