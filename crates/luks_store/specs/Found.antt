-- The copies that stand on a disk.
use Rattle.std.specs.Prelude.{◌≡◌, ℕ, List, [], ◌∷◌, take, drop, Option, Some, None, Result, Ok}
use Rattle.std.specs.Prelude.{Err}
use Rattle.luks_bin.specs.Copies.{copy_of, IsCopy, ◌>>=◌}
use Rattle.luks_bin.specs.declared.header.BinFault.{BinFault}
use Rattle.luks_store.specs.declared.copies.HeaderCopy.{HeaderCopy}

-- The copy that bytes from a place on begin with, or what is wrong with them first.
unfoldable pub copy_from : ℕ → List ℕ → Result HeaderCopy BinFault
copy_from place bytes = do
  header ← copy_of place bytes
  Ok (record { header = header; bytes = take header.hdr_size bytes })

-- the copy that stands at a place of a disk
abbrev pub copy_at : ℕ → List ℕ → Result HeaderCopy BinFault
copy_at place disk = copy_from place (drop place disk)

abbrev pub or_later : Result HeaderCopy BinFault → Option HeaderCopy → Option HeaderCopy
or_later (Ok copy) later = Some copy
or_later (Err fault) later = later

-- the copy at the first of these places where one stands
unfoldable pub first_at : List ℕ → List ℕ → Option HeaderCopy
first_at [] disk = None
first_at (place ∷ places) disk = or_later (copy_at place disk) (first_at places disk)

-- all bytes of a copy, and what they are read as; the place is its own
pub record IsWholeAt (place : ℕ) (copy : HeaderCopy) : Type 0 where
  pub whole : IsCopy copy.bytes copy.header
  pub here : copy.header.hdr_offset ≡ place

-- the copy that was found at one of these places
abbrev pub IsWholeBehind : HeaderCopy → Type 0
IsWholeBehind copy = IsWholeAt copy.header.hdr_size copy
