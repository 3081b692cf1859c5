-- What a copy of a header means: all that both copies share. Copies of one header mean the same.
use Rattle.std.specs.Prelude.{ℕ, ◌++◌, List, take, drop, Option, Some, None, Result, Ok, Err}
use Rattle.crash_laws.specs.HeaderAreas.Headers.{Header, Reader}
use Rattle.luks_bin.specs.Copies.{copy_of}
use Rattle.luks_bin.specs.Fields.{field, u64_in}
use Rattle.luks_bin.specs.declared.header.BinFault.{BinFault}
use Rattle.luks_bin.specs.declared.header.BinHeader.{BinHeader}

-- the bytes of a whole copy outside magic, salt, hdr_offset and csum
unfoldable pub meaning_of : List ℕ → List ℕ
meaning_of copy = field 6 98 copy ++ (field 168 88 copy ++ (field 264 184 copy ++ drop 512 copy))

-- in a meaning two bytes of version stand in front of hdr_size, and eight of that in front of seqid
unfoldable pub size_in : List ℕ → ℕ
size_in meaning = u64_in 2 meaning

unfoldable pub seqid_in : List ℕ → ℕ
seqid_in meaning = u64_in 10 meaning

-- what the copy means that bytes from a place on begin with
abbrev pub meaning_if : List ℕ → Result BinHeader BinFault → Option (List ℕ)
meaning_if bytes (Ok h) = Some (meaning_of (take h.hdr_size bytes))
meaning_if bytes (Err fault) = None

unfoldable pub meaning_at : ℕ → List ℕ → Option (List ℕ)
meaning_at place bytes = meaning_if bytes (copy_of place bytes)

-- how the copies of a LUKS2 header are read
abbrev pub header_reader : Reader (List ℕ)
header_reader = record { decode = meaning_at; seq = seqid_in; size = size_in }

-- the header of two whole copies
abbrev pub header_of : List ℕ → List ℕ → Header (List ℕ)
header_of first second = record { means = meaning_of first; first = first; second = second }
