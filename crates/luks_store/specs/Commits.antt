-- Commits and repairs of a header that was loaded.
use Rattle.std.specs.Prelude.{◌≡◌, ◌≢◌, ℕ, ◌+◌, ◌*◌, ◌/◌, ◌<◌, ◌≤◌, List, ◌++◌, length}
use Rattle.std.specs.Prelude.{replicate, false, Ok, IsOk}
use Rattle.crash_laws.specs.HeaderAreas.Commits.{Follows}
use Rattle.crash_laws.specs.HeaderAreas.Headers.{Header, IsHeader}
use Rattle.base_terms.specs.declared.disk_sizes.Sizes.{Sizes}
use Rattle.sector_disk.specs.JoinedDisks.Counts.{HasSizes}
use Rattle.luks_bin.specs.Copies.{copy_of, text_of}
use Rattle.luks_bin.specs.Hidden.{hides_copy}
use Rattle.luks_bin.specs.Shares.{Agree}
use Rattle.luks_bin.specs.declared.header.BinHeader.{BinHeader}
use Rattle.luks_store.specs.Copying.Meanings.{header_of, header_reader, meaning_of}
use Rattle.luks_store.specs.Copying.Steps.{FitDisk, IsRefusal}
use Rattle.luks_store.specs.Copying.Held.{primary_of, secondary_of, size_in_bytes, copy_in, place_in}
use Rattle.luks_store.specs.Copying.Held.{repair_stage_in}
use Rattle.luks_store.specs.declared.header_copies.commit.CommitError.{CommitError}
use Rattle.luks_store.specs.declared.header_copies.commit.CommitError.TheVariants.{Memory}
use Rattle.luks_store.specs.declared.header_copies.repair.Repair.{Repair}
use Rattle.luks_store.specs.declared.header_copies.repair.RepairStage.TheVariants.{Broken}
use Rattle.luks_json.specs.Metas.{data_of, meta_from}
use Rattle.luks_meta.specs.declared.meta.Parts.{Parts}
use Rattle.luks_bin.specs.Writing.{written}
use Rattle.luks_store.specs.Devices.{header_room}
use Rattle.luks_store.specs.Loads.{judged, stored_in, IsStored}
use Rattle.luks_store.specs.Found.{IsWholeAt}
use Rattle.luks_store.specs.declared.commit.Prepared.{Prepared}
use Rattle.luks_store.specs.declared.copies.Copies.{Copies}
use Rattle.luks_store.specs.declared.copies.CopyState.TheVariants.{Good}
use Rattle.luks_store.specs.declared.loaded.Stored.{Stored}
use Rattle.sector_disk.specs.Devices.{Device}
use Rattle.sector_disk.specs.Geometry.{IsAtom, IsInDisk}
use Rattle.serde_json.specs.Written.{compact_text}

-- the text of metadata
abbrev pub text_for : Parts → List ℕ
text_for meta = compact_text (data_of meta)

-- The header that comes before the first one of a volume: it stands on no disk.
abbrev pub header_before : List ℕ → List ℕ → Parts → BinHeader
header_before uuid salt meta = record {
  hdr_size = meta.config.json_size + 4096;
  seqid = 0;
  label = replicate 48 0;
  salt = salt;
  uuid = uuid;
  subsystem = replicate 48 0;
  hdr_offset = 0;
}

-- why a commit isn't made; want of memory says nothing
abbrev pub IsRefused : BinHeader → List ℕ → CommitError → Type 0
IsRefused header json Memory = Unit {0}
IsRefused header json error = IsRefusal header json error

-- the copies that a commit leaves
abbrev pub committed : Prepared → Copies
committed p = record {
  used = record { header = p.header; bytes = primary_of p.copies };
  primary = record { state = Good; salt = p.header.salt };
  secondary = record { state = Good; salt = p.second_salt };
}

-- the binary header of its secondary
abbrev pub second_header : Prepared → BinHeader
second_header p = record p.header { salt = p.second_salt; hdr_offset = p.header.hdr_size }

-- Both copies are, byte for byte, what is written of their headers with this text: zeros stand
-- behind it.
pub record HoldsText (text : List ℕ) (p : Prepared) : Type 0 where
  pub first : primary_of p.copies ≡ written p.header text
  pub second : secondary_of p.copies ≡ written (second_header p) text

-- Both copies are whole, of one number, mean the same, hold metadata that break no rule, and have
-- room on the header's disk. No magic of a secondary stands within the primary.
pub record IsPrepared (p : Prepared) : Type 0 where
  pub first : IsWholeAt 0 (record { header = p.header; bytes = primary_of p.copies })
  pub second : IsWholeAt p.header.hdr_size (record {
    header = second_header p;
    bytes = secondary_of p.copies;
  })
  pub same : meaning_of (primary_of p.copies) ≡ meaning_of (secondary_of p.copies)
  pub size : size_in_bytes p.copies ≡ p.header.hdr_size
  pub atom : 0 < p.sizes.atom
  pub held : IsOk (judged p.sizes (committed p))
  pub room : 2 * p.header.hdr_size ≤ header_room p.sizes
  pub hidden : hides_copy (primary_of p.copies) ≡ false

-- The commit that follows a header, of these metadata.
pub record IsNext (stored : Stored) (parts : Parts) (p : Prepared) : Type 0 where
  pub header : p.header ≡ record stored.copies.used.header {
    seqid = stored.copies.used.header.seqid + 1;
    salt = stored.copies.primary.salt;
    hdr_offset = 0;
  }
  pub second_salt : p.second_salt ≡ stored.copies.secondary.salt
  pub sizes : p.sizes ≡ stored.valid.sizes
  pub bytes : HoldsText (text_for parts) p
  pub meta : meta_from p.header.hdr_size (text_of (primary_of p.copies)) ≡ Ok parts
  pub whole : IsHeader header_reader (header_of (primary_of p.copies) (secondary_of p.copies))
  pub follows : Follows header_reader (meaning_of stored.copies.used.bytes)
      (meaning_of (primary_of p.copies))

-- both copies lie on each disk of these sizes
abbrev pub CopiesFit : Prepared → Type 0
CopiesFit p = (device : Device) → HasSizes p.sizes device → IsAtom device.size
    → FitDisk (primary_of p.copies) (secondary_of p.copies) p.header.hdr_size device

-- The header that is loaded once both copies stand on a disk, whatever stands behind them.
pub record IsNextStored (p : Prepared) (next : Stored) : Type 0 where
  pub copies : next.copies ≡ committed p
  pub sizes : next.valid.sizes ≡ p.sizes
  pub stored : IsStored next
  pub loads : (rest : List ℕ)
      → stored_in p.sizes (primary_of p.copies ++ (secondary_of p.copies ++ rest)) ≡ Ok next

-- ---- a repair
-- both places hold the header
pub record AreGood (copies : Copies) : Type 0 where
  pub primary : copies.primary.state ≡ Good
  pub secondary : copies.secondary.state ≡ Good

-- A repair that writes the copy that is used, but for magic, salt, hdr_offset and checksum, to the
-- other place, under that place's salt; and the header that both copies are then. It hides a copy
-- exactly where the one that is used does.
pub record IsRepairOf (copies : Copies) (place : ℕ) (salt : List ℕ) (header : Header (List ℕ))
    (repair : Repair) : Type 0 where
  pub begun : repair_stage_in repair ≡ Broken
  pub at : place_in repair ≡ place
  pub copy : copy_of place (copy_in repair)
      ≡ Ok (record copies.used.header { hdr_offset = place; salt = salt })
  pub size : length (copy_in repair) ≡ copies.used.header.hdr_size
  pub shared : Agree (copy_in repair) copies.used.bytes
  pub hidden : hides_copy (copy_in repair) ≡ hides_copy copies.used.bytes
  pub whole : IsHeader header_reader header

-- of the primary, where it isn't good, else of the secondary
abbrev pub Repairs : Copies → Repair → Type 0
Repairs copies repair =
    (copies.primary.state ≢ Good
    → IsRepairOf copies 0 copies.primary.salt (header_of (copy_in repair) copies.used.bytes) repair)
    × (copies.primary.state ≡ Good → (copies.secondary.state ≢ Good)
    × IsRepairOf copies copies.used.header.hdr_size copies.secondary.salt
    (header_of copies.used.bytes (copy_in repair)) repair)

-- what it writes lies on each disk of these sizes
abbrev pub FitsDisks : Sizes → Repair → Type 0
FitsDisks sizes repair = (device : Device) → HasSizes sizes device → IsAtom device.size
    → IsInDisk device.size device.atoms (place_in repair / device.size) (length (copy_in repair))
