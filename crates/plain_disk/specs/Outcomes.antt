-- What operations may be answered, and what they were where nothing failed.
use Rattle.std.specs.Prelude.{ℕ, ◌≡◌, ◌⊎◌, ◌+◌, ◌^◌, ◌<◌, ◌≤◌, List, [], ◌∷◌, length, MatchOption}
use Rattle.base_terms.specs.ErrorNumbers.{device_error}
use Rattle.plain_disk.specs.declared.operation.Op.{Op}
use Rattle.plain_disk.specs.declared.operation.Op.TheVariants.{Read, Write, Zeroes, Flush}
use Rattle.plain_disk.specs.declared.operation.Reply.{Reply}
use Rattle.plain_disk.specs.declared.operation.Reply.TheVariants.{Content, Done, Errno, ErrnoAt}
use Rattle.plain_disk.specs.Operations.{wrong_of}
use Rattle.plain_disk.specs.Plain.{Exchange}

-- a read got its bytes; a write or a flush is done
abbrev pub IsServed : Op → Reply → Type 0
IsServed (Read offset len) (Content bytes) = length bytes ≡ len
IsServed (Read offset len) Done = ⊥
IsServed (Read offset len) (Errno number) = ⊥
IsServed (Read offset len) (ErrnoAt number place) = ⊥
IsServed (Write offset body fua) reply = reply ≡ Done
IsServed (Zeroes offset len fua) reply = reply ≡ Done
IsServed Flush reply = reply ≡ Done

-- a content is a read's, of as many bytes as it asks for, at most 33554432, ending within 2^64
abbrev pub IsContentOf : List ℕ → Op → Type 0
IsContentOf bytes (Read offset len) =
    (length bytes ≡ len) × (len ≤ 33554432) × (offset + len < 2 ^ 64)
IsContentOf bytes _ = ⊥

-- a read is never just done
abbrev pub MayBeDone : Op → Type 0
MayBeDone (Read offset len) = ⊥
MayBeDone _ = Unit {0}

-- the number of an error, in four bytes, isn't 0
abbrev pub IsErrorNumber : ℕ → Type 0
IsErrorNumber number = (0 < number) × (number < 2 ^ 32)

-- the place of an error is a read's, an offset in its range
abbrev pub IsPlaceIn : Op → ℕ → Type 0
IsPlaceIn (Read offset len) place = (offset ≤ place) × (place < offset + len) × (place < 2 ^ 64)
IsPlaceIn _ place = ⊥

-- what an operation may be replied: a read its content, any other that it is done, and each an
-- error; only a read's may have a place
abbrev pub IsReplyTo : Op → Reply → Type 0
IsReplyTo op (Content bytes) = IsContentOf bytes op
IsReplyTo op Done = MayBeDone op
IsReplyTo op (Errno number) = IsErrorNumber number
IsReplyTo op (ErrnoAt number place) = IsErrorNumber number × IsPlaceIn op place

-- error 5, of a device, with its place or without
abbrev pub IsDeviceError : Reply → Type 0
IsDeviceError reply = (reply ≡ Errno device_error)
    ⊎ ((place : ℕ) × (reply ≡ ErrnoAt device_error place))

-- each operation on a disk of `size` bytes was served, or refused with its number where it is wrong
unfoldable pub AreServed : ℕ → ℕ → List Exchange → Type 0
AreServed atom size [] = Unit {0}
AreServed atom size (exchange ∷ exchanges) =
    MatchOption (wrong_of atom size exchange.op) (IsServed exchange.op exchange.reply)
    (λ number. exchange.reply ≡ Errno number)
    × AreServed atom size exchanges
