-- Edges: the blocks that a write covers in part. They are read before it, and keep their other bytes.
use Rattle.std.specs.Prelude.{ℕ, ◌≡◌, ◌⊎◌, ◌+◌, ◌*◌, ◌/◌, ◌%◌, ◌<◌, ◌≤◌, Bool, true, false, not, ◌&&◌}
use Rattle.std.specs.Prelude.{◌==◌, if◌then◌else◌, List, [], ◌∷◌, ◌++◌, length, take, drop}
use Rattle.std.specs.Prelude.{slice_index_or}
use Rattle.volume_machine.specs.Asks.{offset_of}
use Rattle.volume_machine.specs.declared.ask.Ask.{Ask}
use Rattle.volume_machine.specs.declared.ask.Ask.TheVariants.{Read, Write, Flush}

-- whether a range begins inside of a block, and whether it ends inside of one
abbrev pub begins_inside : ℕ → ℕ → ℕ → Bool
begins_inside atom offset len = not (len == 0) && not (offset % atom == 0)

abbrev pub ends_inside : ℕ → ℕ → ℕ → Bool
ends_inside atom offset len = not (len == 0) && not ((offset + len) % atom == 0)

-- of a first block and a last one those that count, a block that is both once
abbrev pub edge_blocks : Bool → Bool → ℕ → ℕ → List ℕ
edge_blocks false false first last = []
edge_blocks true false first last = first ∷ []
edge_blocks false true first last = last ∷ []
edge_blocks true true first last = if first == last then first ∷ [] else first ∷ last ∷ []

-- the edges of an operation, in order: none, one or two
unfoldable pub edges_of : ℕ → Ask → List ℕ
edges_of atom (Read offset len) = []
edges_of atom (Write offset len fua) =
    edge_blocks (begins_inside atom offset len) (ends_inside atom offset len) (offset / atom)
    ((offset + len) / atom)
edges_of atom Flush = []

-- the block of one of them
abbrev pub edge_at : ℕ → Ask → ℕ → ℕ
edge_at atom ask which = slice_index_or (edges_of atom ask) which 0

-- a byte of the volume that a write leaves as it is
abbrev pub IsBeside : Ask → ℕ → Type 0
IsBeside (Write offset len fua) place = (place < offset) ⊎ (offset + len ≤ place)
IsBeside _ place = ⊥

-- what a lane has in plain of its operation: its edges, as they were read, and the bytes of the
-- whole blocks that it has read, or tried to write
pub record InPlain : Type 0 where
  pub edges : List (List ℕ)
  pub bytes : List ℕ

abbrev pub nothing : InPlain
nothing = record { edges = []; bytes = [] }

-- with one more edge, and with the bytes of one more piece
abbrev pub with_edge : InPlain → List ℕ → InPlain
with_edge plain edge = record { edges = plain.edges ++ edge ∷ []; bytes = plain.bytes }

abbrev pub with_bytes : InPlain → List ℕ → InPlain
with_bytes plain bytes = record { edges = plain.edges; bytes = plain.bytes ++ bytes }

-- of the bytes that a write tries of its edges, those beside its range are the ones that were read
pub record KeepsEdges (atom : ℕ) (ask : Ask) (plain : InPlain) : Type 0 where
  pub each : (which k : ℕ) → which < length (edges_of atom ask) → k < length plain.bytes
      → edge_at atom ask which ≡ offset_of ask / atom + k / atom
      → IsBeside ask (offset_of ask / atom * atom + k)
      → slice_index_or plain.bytes k 0
      ≡ slice_index_or (slice_index_or plain.edges which []) (k % atom) 0

-- the bytes of a range, out of those of the blocks that it touches
abbrev pub in_range : ℕ → ℕ → ℕ → List ℕ → List ℕ
in_range atom offset len bytes = take len (drop (offset % atom) bytes)
