-- Which of the copies on a disk is used (LUKS2 On-Disk Format Specification 1.1, section 2.1).
use Rattle.std.specs.Prelude.{◌≡◌, ◌≢◌, ◌⊎◌, ℕ, nat_lt, List, [], ◌∷◌, Option, Some, None, Result}
use Rattle.std.specs.Prelude.{Ok, Err, if◌then◌else◌}
use Rattle.std.specs.Str.{bytes_eq}
use Rattle.luks_bin.specs.Copies.{IsCopy}
use Rattle.luks_bin.specs.declared.header.BinFault.{BinFault}
use Rattle.luks_store.specs.Copying.Meanings.{meaning_of}
use Rattle.json_members.specs.declared.faults.JsonFault.{JsonFault}
use Rattle.luks_rules.specs.declared.fault.RuleFault.{RuleFault}
use Rattle.luks_store.specs.Found.{copy_at, first_at}
use Rattle.luks_store.specs.declared.copies.Copies.{Copies}
use Rattle.luks_store.specs.declared.copies.CopyPlace.{CopyPlace}
use Rattle.luks_store.specs.declared.copies.CopyState.{CopyState}
use Rattle.luks_store.specs.declared.copies.CopyState.TheVariants.{Good, Older, Lacking}
use Rattle.luks_store.specs.declared.copies.HeaderCopy.{HeaderCopy}

-- Why a disk has no header that can be used: no copy is valid, with what is wrong at 0 and at the
-- nearest place of a secondary; two copies of one number mean something else; the text, or a rule.
pub data Refusal : Type 0 where
  no_header : BinFault → BinFault → Refusal
  differ : ℕ → List ℕ → List ℕ → Refusal
  text : JsonFault → Refusal
  rule : RuleFault → Refusal

-- the places of a secondary: the nearest, and those farther off
abbrev pub nearest : ℕ
nearest = 16384

abbrev pub farther : List ℕ
farther = 32768 ∷ 65536 ∷ 131072 ∷ 262144 ∷ 524288 ∷ 1048576 ∷ 2097152 ∷ 4194304 ∷ []

-- A place with a copy keeps this copy's salt; one without takes the other's.
abbrev pub kept : CopyState → HeaderCopy → CopyPlace
kept state copy = record { state = state; salt = copy.header.salt }

abbrev pub primary_alone : HeaderCopy → Copies
primary_alone copy = record { used = copy; primary = kept Good copy; secondary = kept Lacking copy }

abbrev pub secondary_alone : HeaderCopy → Copies
secondary_alone copy =
    record { used = copy; primary = kept Lacking copy; secondary = kept Good copy }

-- Of two copies the one of the higher number; of two with equal numbers that mean the same, the
-- primary.
unfoldable pub newer_of : HeaderCopy → HeaderCopy → Result Copies Refusal
newer_of first second =
    if nat_lt second.header.seqid first.header.seqid
    then Ok (record { used = first; primary = kept Good first; secondary = kept Older second })
    else (if nat_lt first.header.seqid second.header.seqid
    then Ok (record { used = second; primary = kept Older first; secondary = kept Good second })
    else (if bytes_eq (meaning_of first.bytes) (meaning_of second.bytes)
    then Ok (record { used = first; primary = kept Good first; secondary = kept Good second })
    else Err (differ first.header.seqid first.bytes second.bytes)))

-- A primary, and what stands at its size.
abbrev pub beside : HeaderCopy → Result HeaderCopy BinFault → Result Copies Refusal
beside first (Ok second) = newer_of first second
beside first (Err fault) = Ok (primary_alone first)

-- No primary: the first copy at the other places counts.
abbrev pub at_farther : BinFault → BinFault → Option HeaderCopy → Result Copies Refusal
at_farther fault near (Some copy) = Ok (secondary_alone copy)
at_farther fault near None = Err (no_header fault near)

abbrev pub at_nearest : BinFault → List ℕ → Result HeaderCopy BinFault → Result Copies Refusal
at_nearest fault bytes (Ok copy) = Ok (secondary_alone copy)
at_nearest fault bytes (Err near) = at_farther fault near (first_at farther bytes)

abbrev pub copies_by : List ℕ → Result HeaderCopy BinFault → Result Copies Refusal
copies_by bytes (Ok first) = beside first (copy_at first.header.hdr_size bytes)
copies_by bytes (Err fault) = at_nearest fault bytes (copy_at nearest bytes)

-- the copies that a disk's bytes hold, or why none can be used
unfoldable pub copies_in : List ℕ → Result Copies Refusal
copies_in bytes = copies_by bytes (copy_at 0 bytes)

-- ---- what is known of them
-- the copy that is used stands at 0, or, where the primary isn't good, at its size
abbrev pub StandsWell : Copies → Type 0
StandsWell copies =
    ((copies.primary.state ≡ Good) × (copies.used.header.hdr_offset ≡ 0))
    ⊎ ((copies.primary.state ≢ Good) × (copies.secondary.state ≡ Good)
    × (copies.used.header.hdr_offset ≡ copies.used.header.hdr_size))

-- it is whole, and stands at a good place
pub record AreCopies (copies : Copies) : Type 0 where
  pub whole : IsCopy copies.used.bytes copies.used.header
  pub stands : StandsWell copies
