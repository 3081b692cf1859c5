-- The steps by which a zone is written again: the device call of each, and what comes next.
use Rattle.std.specs.Prelude.{ℕ, ◌≡◌, ◌≢◌, ◌+◌, ◌<◌, Bool, true, false, List, length, take, Result, Ok}
use Rattle.std.specs.Prelude.{Err, IfErr, IfOk}
use Rattle.base_terms.specs.declared.failed.Failed.{Failed as Failure}
use Rattle.sector_disk.specs.DiskViews.Parts.{block_at}
use Rattle.hotzone.specs.Headings.{IsSame}
use Rattle.hotzone.specs.Known.{part_of}
use Rattle.hotzone.specs.Sites.{part_at, saved_at}
use Rattle.hotzone.specs.Steps.{Commits, IsCommitted, resealed}
use Rattle.hotzone.specs.declared.site.Guard.{Guard}
use Rattle.hotzone.specs.declared.site.Guard.TheVariants as guards
use Rattle.hotzone.specs.declared.site.Site.{Site}
use Rattle.sector_disk.specs.JoinedDisks.Counts.{HasSizes}
use Rattle.luks_store.specs.declared.header_copies.commit.Stage.TheVariants.{SecondWritten}
use Rattle.luks_store.specs.declared.commit.Prepared.{Prepared}
use Rattle.resil_checksum.specs.Digests.{saved_len}
use Rattle.sector_disk.specs.Devices.{Device, ReadCall, SyncCall, WriteCall, failed_call, succeeded}
use Rattle.sha2.specs.Sha256.{sha256}
use Rattle.volume_machine.specs.Seals.{Seals}
use Rattle.zone_mending.specs.Menders.{IsMending, LeavesNext, after_write, stage_of_move}
use Rattle.zone_mending.specs.declared.mender.MendCall.{MendCall}
use Rattle.zone_mending.specs.declared.mender.MendCall.TheVariants.{ReadSaved, ReadOwn, Write}
use Rattle.zone_mending.specs.declared.mender.MendCall.TheVariants.{Settle, Move, Done, Failed}
use Rattle.zone_mending.specs.declared.mender.Mender.{Mender}

-- ---- device calls
-- by journal the saved atoms of a part come into the buffer
abbrev pub ReadsSaved : Site → ℕ → List ℕ → Device → Device → Result (Unit {0}) Failure → Type 0
ReadsSaved site done buffer old new result =
    ReadCall old.size (site.store + done) (part_of site buffer done) old new result

-- by checksum the saved digests of its atoms come where these are laid, and the part as it stands in
-- the zone into the buffer
abbrev pub digests_of : Site → List ℕ → ℕ → List ℕ
digests_of site digests done = take (saved_len (part_at site done) site.atom) digests

abbrev pub ReadsDigests : Site → ℕ → List ℕ → Device → Device → Result (Unit {0}) Failure
    → Type 0
ReadsDigests site done digests old new result =
    ReadCall old.size (site.store + saved_at site done) (digests_of site digests done) old new
    result

abbrev pub ReadsOwn : Site → ℕ → List ℕ → Device → Device → Result (Unit {0}) Failure → Type 0
ReadsOwn site done buffer old new result =
    ReadCall old.size (site.own + done) (part_of site buffer done) old new result

-- ---- what is written
-- Of so many blocks from one on each whose digest was saved is sealed anew: it is the old one; any
-- other is new, and stays.
pub record IsJudged (seals : Seals) (atom first count : ℕ) (digests part text : List ℕ) : Type 0
  where
    pub size : length text ≡ length part
    pub old : (k : ℕ) → k < count
        → sha256 (block_at atom part k) ≡ block_at 32 digests k
        → block_at atom text k ≡ resealed seals (first + k) (block_at atom part k)
    pub new : (k : ℕ) → k < count
        → sha256 (block_at atom part k) ≢ block_at 32 digests k
        → block_at atom text k ≡ block_at atom part k

-- By journal all are old ones.
abbrev pub IsAnewBy : Guard → Seals → ℕ → ℕ → ℕ → List ℕ → List ℕ → List ℕ → Type 0
IsAnewBy guards.Journal seals atom first count digests part text =
    text ≡ resealed seals first part
IsAnewBy guards.Checksum seals atom first count digests part text =
    IsJudged seals atom first count digests part text

abbrev pub IsAnew : Seals → Site → ℕ → List ℕ → List ℕ → List ℕ → Type 0
IsAnew seals site done digests buffer text =
    IsAnewBy site.guard seals site.atom (site.blocks.start + done) (part_at site done)
    (digests_of site digests done) (part_of site buffer done) text

-- it goes where the zone has the part
pub record WritesAgain (seals : Seals) (site : Site) (done : ℕ) (digests buffer : List ℕ)
    (old new : Device) (result : Result (Unit {0}) Failure) : Type 0 where
  pub text : List ℕ
  pub is : IsAnew seals site done digests buffer text
  pub call : WriteCall old.size (site.own + done) text old new result

-- ---- what stands behind one
-- the buffer has other bytes, as many as before; or the digests have
pub record HasFilled {C : Type 0} (before after : Mender C) (next : MendCall) : Type 0 where
  pub is : after ≡ record before { buffer = after.buffer; next = next }
  pub long : length after.buffer ≡ length before.buffer

pub record HasLaid {C : Type 0} (before after : Mender C) (next : MendCall) : Type 0 where
  pub is : after ≡ record before { digests = after.digests; next = next }
  pub long : length after.digests ≡ length before.digests

-- the commit has one call more
abbrev pub committed_to : {C : Type 0} → Mender C → Prepared → MendCall → Mender C
committed_to before commit next =
    record before { moved = record before.moved { commit = commit }; next = next }

-- ---- A step that is made: its device call, and what comes next. It answers true at the last one.
pub data Goes {C : Type 0} (seals : Seals) (old new : Device) (before after : Mender C) : Bool
    → Type 0 where
  reads : (done : ℕ) → before.site.guard ≡ guards.Journal → before.next ≡ ReadSaved done
      → ReadsSaved before.site done after.buffer old new succeeded
      → HasFilled before after (Write done) → Goes seals old new before after false
  lays : (done : ℕ) → before.site.guard ≡ guards.Checksum → before.next ≡ ReadSaved done
      → ReadsDigests before.site done after.digests old new succeeded
      → HasLaid before after (ReadOwn done) → Goes seals old new before after false
  finds : (done : ℕ) → before.next ≡ ReadOwn done
      → ReadsOwn before.site done after.buffer old new succeeded
      → HasFilled before after (Write done) → Goes seals old new before after false
  writes : (done : ℕ) → before.next ≡ Write done
      → WritesAgain seals before.site done before.digests before.buffer old new succeeded
      → HasFilled before after (after_write before.site done)
      → Goes seals old new before after false
  settles : before.next ≡ Settle → SyncCall old new succeeded
      → after ≡ record before { next = Move } → Goes seals old new before after false
  moves : (commit : Prepared) → before.next ≡ Move
      → Commits before.moved.commit old new succeeded → IsCommitted before.moved.commit commit
      → stage_of_move before ≢ SecondWritten → after ≡ committed_to before commit Move
      → Goes seals old new before after false
  ends : (commit : Prepared) → before.next ≡ Move
      → Commits before.moved.commit old new succeeded → IsCommitted before.moved.commit commit
      → stage_of_move before ≡ SecondWritten → after ≡ committed_to before commit Done
      → Goes seals old new before after true

-- ---- A step whose device call failed: none follows it.
pub record IsFailed {C : Type 0} (before after : Mender C) : Type 0 where
  pub commit : Prepared
  pub same : IsSame before.moved.commit commit
  pub is : after
      ≡ record (committed_to before commit Failed)
      { buffer = after.buffer; digests = after.digests }
  pub long : length after.buffer ≡ length before.buffer
  pub digests_long : length after.digests ≡ length before.digests

pub data Fails {C : Type 0} (seals : Seals) (old new : Device) (before after : Mender C) : Type 0
  where
    read_fails : (done : ℕ) → before.site.guard ≡ guards.Journal → before.next ≡ ReadSaved done
        → ReadsSaved before.site done after.buffer old new failed_call → IsFailed before after
        → Fails seals old new before after
    lay_fails : (done : ℕ) → before.site.guard ≡ guards.Checksum → before.next ≡ ReadSaved done
        → ReadsDigests before.site done after.digests old new failed_call
        → IsFailed before after → Fails seals old new before after
    find_fails : (done : ℕ) → before.next ≡ ReadOwn done
        → ReadsOwn before.site done after.buffer old new failed_call → IsFailed before after
        → Fails seals old new before after
    write_fails : (done : ℕ) → before.next ≡ Write done
        → WritesAgain seals before.site done before.digests before.buffer old new failed_call
        → IsFailed before after → Fails seals old new before after
    settle_fails : before.next ≡ Settle → SyncCall old new failed_call → IsFailed before after
        → Fails seals old new before after
    move_fails : before.next ≡ Move → Commits before.moved.commit old new failed_call
        → IsFailed before after → Fails seals old new before after

-- ---- one step
abbrev pub Steps : {C : Type 0} → Seals → Device → Device → Mender C → Mender C
    → Result Bool Failure → Type 0
Steps seals old new before after (Ok last) = Goes seals old new before after last
Steps seals old new before after (Err failed) = Fails seals old new before after

-- what a step leaves: what holds between two steps, the sizes of the disk, and whether another one
-- follows
pub record HasStepped {C : Type 0} (sector : C → ℕ) (seals : Seals) (old new : Device)
    (before after : Mender C) (result : Result Bool Failure) : Type 0 where
  pub steps : Steps seals old new before after result
  pub mends : IsMending sector after
  pub sizes : HasSizes after.loaded.valid.sizes new
  pub left : IfOk result (λ last. LeavesNext last after.next)
  pub failed : IfErr result (λ _. after.next ≡ Failed)
