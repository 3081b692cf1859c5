-- What is promised of copies and their meanings.
use Rattle.std.specs.Prelude.{ℕ, ◌≡◌, ◌≤◌, ◌↔◌, List, length, Some, Ok}
use Rattle.crash_laws.specs.HeaderAreas.Headers.{IsHeader}
use Rattle.luks_bin.specs.Copies.{copy_of}
use Rattle.luks_bin.specs.Shares.{Agree}
use Rattle.luks_bin.specs.declared.header.BinHeader.{BinHeader}
use Rattle.luks_store.specs.Copying.Meanings.{header_of, header_reader, meaning_at, meaning_of, seqid_in}
use Rattle.luks_store.specs.Copying.Meanings.{size_in}

-- whole copies of one size mean the same exactly where they share all bytes that copies share
abbrev pub MeanTheSame : Type 0
MeanTheSame =
    (a b : List ℕ) → 512 ≤ length a → length a ≡ length b
    → (meaning_of a ≡ meaning_of b) ↔ Agree a b

-- bytes that are the whole copy of this header mean themselves, with its number and its size
pub record MeansHeader (place : ℕ) (copy : List ℕ) (h : BinHeader) : Type 0 where
  pub means : meaning_at place copy ≡ Some (meaning_of copy)
  pub number : seqid_in (meaning_of copy) ≡ h.seqid
  pub size : size_in (meaning_of copy) ≡ h.hdr_size

abbrev pub MeanTheirHeaders : Type 0
MeanTheirHeaders =
    (place : ℕ) (copy : List ℕ) (h : BinHeader) → copy_of place copy ≡ Ok h
    → length copy ≡ h.hdr_size
    → MeansHeader place copy h

-- two whole copies of one size, the primary and the secondary, that share all bytes that copies
-- share are the header of a disk
abbrev pub AreOneHeader : Type 0
AreOneHeader =
    (a b : List ℕ) (one two : BinHeader) → copy_of 0 a ≡ Ok one → copy_of one.hdr_size b ≡ Ok two
    → length a ≡ one.hdr_size → length b ≡ one.hdr_size → two.hdr_size ≡ one.hdr_size → Agree a b
    → IsHeader header_reader (header_of a b)
