-- The device calls of a commit and of a repair, and what stands after each.
use Rattle.std.specs.Prelude.{ℕ, ◌≡◌, ◌≢◌, ◌-◌, ◌/◌, ◌^◌, ◌<◌, ◌≤◌, Bool, true, false, List, length}
use Rattle.std.specs.Prelude.{Result, Ok, Err}
use Rattle.base_terms.specs.declared.failed.Failed.{Failed}
use Rattle.luks_bin.specs.declared.header.BinHeader.{BinHeader}
use Rattle.luks_store.specs.declared.header_copies.commit.CommitError.{CommitError}
use Rattle.luks_store.specs.declared.header_copies.commit.CommitError.TheVariants.{Memory, SeqEnd, JsonFull}
use Rattle.luks_store.specs.declared.header_copies.commit.Stage.{Stage}
use Rattle.luks_store.specs.declared.header_copies.commit.Stage.TheVariants.{Begun, FirstWritten, FirstKept}
use Rattle.luks_store.specs.declared.header_copies.commit.Stage.TheVariants.{SecondWritten, Ended}
use Rattle.luks_store.specs.declared.header_copies.repair.RepairStage.{RepairStage}
use Rattle.luks_store.specs.declared.header_copies.repair.RepairStage.TheVariants.{Broken, Written, Over}
use Rattle.sector_disk.specs.Devices.{Device, WriteCall, SyncCall}
use Rattle.sector_disk.specs.Geometry.{IsInDisk}

-- whether the device call was done
abbrev pub done_of : {T : Type 0} → Result T Failed → Result (Unit {0}) Failed
done_of (Ok value) = Ok tt
done_of (Err failed) = Err failed

-- the device call that comes next: write the primary, sync, write the secondary at its size, sync
abbrev pub CopyCall : Stage → List ℕ → List ℕ → ℕ → Device → Device → Result (Unit {0}) Failed
    → Type 0
CopyCall Begun first second size old = WriteCall old.size 0 first old
CopyCall FirstWritten first second size old = SyncCall old
CopyCall FirstKept first second size old = WriteCall old.size (size / old.size) second old
CopyCall SecondWritten first second size old = SyncCall old
CopyCall Ended first second size old = λ new result. ⊥

abbrev pub is_last : Stage → Bool
is_last Begun = false
is_last FirstWritten = false
is_last FirstKept = false
is_last SecondWritten = true
is_last Ended = false

-- how far a commit is after a call: one that failed ends it
abbrev pub next_of : Stage → Stage
next_of Begun = FirstWritten
next_of FirstWritten = FirstKept
next_of FirstKept = SecondWritten
next_of SecondWritten = Ended
next_of Ended = Ended

abbrev pub stage_after : {T : Type 0} → Stage → Result T Failed → Stage
stage_after stage (Ok value) = next_of stage
stage_after stage (Err failed) = Ended

-- the header that one of a commit's copies has: the number, the salt and the place are its own
abbrev pub copy_header : BinHeader → ℕ → List ℕ → ℕ → BinHeader
copy_header header seqid salt place =
    record header { seqid = seqid; salt = salt; hdr_offset = place }

-- both copies lie on the disk
pub record FitDisk (one two : List ℕ) (size : ℕ) (disk : Device) : Type 0 where
  pub first : IsInDisk disk.size disk.atoms 0 (length one)
  pub second : IsInDisk disk.size disk.atoms (size / disk.size) (length two)

-- the last number of a commit
abbrev pub last_seqid : ℕ
last_seqid = 2 ^ 64 - 1

-- the longest text for an area: a NUL stands behind it
abbrev pub longest_text : BinHeader → ℕ
longest_text header = header.hdr_size - 4097

-- there is a next number, and the text has room
pub record HasNext (header : BinHeader) (json : List ℕ) : Type 0 where
  pub number : header.seqid ≢ last_seqid
  pub room : length json ≤ longest_text header

-- why a commit isn't made
abbrev pub IsRefusal : BinHeader → List ℕ → CommitError → Type 0
IsRefusal header json SeqEnd = header.seqid ≡ last_seqid
IsRefusal header json (JsonFull len limit) =
    (header.seqid ≢ last_seqid) × (len ≡ length json) × (limit ≡ longest_text header)
    × (limit < len)
IsRefusal header json Memory = HasNext header json

-- ---- a repair
-- the device call that comes next: write the copy at its place, sync
abbrev pub RepairCall : RepairStage → List ℕ → ℕ → Device → Device → Result (Unit {0}) Failed
    → Type 0
RepairCall Broken copy place old = WriteCall old.size (place / old.size) copy old
RepairCall Written copy place old = SyncCall old
RepairCall Over copy place old = λ new result. ⊥

abbrev pub is_last_repair : RepairStage → Bool
is_last_repair Broken = false
is_last_repair Written = true
is_last_repair Over = false

abbrev pub repair_next : RepairStage → RepairStage
repair_next Broken = Written
repair_next Written = Over
repair_next Over = Over

abbrev pub repair_after : {T : Type 0} → RepairStage → Result T Failed → RepairStage
repair_after stage (Ok value) = repair_next stage
repair_after stage (Err failed) = Over
