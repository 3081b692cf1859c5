-- Copies as they are written.
use Rattle.std.specs.Prelude.{◌≡◌, ◌⊎◌, ℕ, ◌+◌, ◌<◌, ◌≢◌, List, [], ◌∷◌, length, replicate, true}
use Rattle.std.specs.Int.{w16, w64, to_be_bytes}
use Rattle.base_terms.specs.Blocks.{pasted}
use Rattle.luks_bin.specs.Fields.{is_size}
use Rattle.luks_bin.specs.Copies.{magic_of, algorithm, sum_of, sum_field, holds_nul}
use Rattle.luks_bin.specs.declared.header.BinHeader.{BinHeader}

-- bytes for a place, and how many they are
pub record Piece : Type 0 where
  pub at : ℕ
  pub len : ℕ
  pub bytes : List ℕ

-- a text with the pieces put in place of its own bytes, one after the other
abbrev pub paste_all : List Piece → List ℕ → List ℕ
paste_all [] old = old
paste_all (p ∷ ps) old = paste_all ps (pasted old p.at p.bytes)

-- what stands in both copies of a header
abbrev pub common_pieces : BinHeader → List ℕ → List Piece
common_pieces h json =
    record { at = 6; len = 2; bytes = to_be_bytes w16 2 }
    ∷ record { at = 8; len = 8; bytes = to_be_bytes w64 h.hdr_size }
    ∷ record { at = 16; len = 8; bytes = to_be_bytes w64 h.seqid }
    ∷ record { at = 24; len = 48; bytes = h.label }
    ∷ record { at = 72; len = 7; bytes = algorithm }
    ∷ record { at = 168; len = 40; bytes = h.uuid }
    ∷ record { at = 208; len = 48; bytes = h.subsystem }
    ∷ record { at = 4096; len = length json; bytes = json } ∷ []

unfoldable pub common : BinHeader → List ℕ → List ℕ
common h json = paste_all (common_pieces h json) (replicate h.hdr_size 0)

-- what belongs to one copy alone, but for its sum
abbrev pub own_pieces : ℕ → List ℕ → List Piece
own_pieces place salt =
    record { at = 0; len = 6; bytes = magic_of place }
    ∷ record { at = 104; len = 64; bytes = salt }
    ∷ record { at = 256; len = 8; bytes = to_be_bytes w64 place } ∷ []

-- a copy with its sum
unfoldable pub summed : List ℕ → List ℕ
summed copy = pasted copy 448 (sum_field (sum_of copy))

-- The bytes of a copy, as those of the copy at another place, with a salt of its own.
unfoldable pub moved : ℕ → List ℕ → List ℕ → List ℕ
moved place salt copy = summed (paste_all (own_pieces place salt) copy)

-- the copy of a header with this JSON text
unfoldable pub written : BinHeader → List ℕ → List ℕ
written h json = moved h.hdr_offset h.salt (common h json)

-- A header that can be written: its size is one of nine, its place fits it, its texts end.
pub record IsWritable (h : BinHeader) : Type 0 where
  pub one_of_nine : is_size h.hdr_size ≡ true
  pub place : (h.hdr_offset ≡ 0) ⊎ (h.hdr_offset ≡ h.hdr_size)
  pub label_ends : holds_nul h.label ≡ true
  pub uuid_ends : holds_nul h.uuid ≡ true
  pub subsystem_ends : holds_nul h.subsystem ≡ true

-- A text for a JSON area: without a NUL, and shorter than the area.
pub record FitsArea (size : ℕ) (json : List ℕ) : Type 0 where
  pub room : 4096 + length json < size
  pub plain : holds_nul json ≢ true
