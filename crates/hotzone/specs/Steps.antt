-- The steps of a zone: the device call of each, and what comes next.
use Rattle.std.specs.Prelude.{ℕ, ◌≡◌, ◌≢◌, ◌+◌, ◌==◌, List, length, take, Result, Ok, Err, Some}
use Rattle.std.specs.Prelude.{if◌then◌else◌}
use Rattle.base_terms.specs.declared.failed.Failed.{Failed as CallFailed}
use Rattle.sector_disk.specs.DiskViews.Parts.{block_at}
use Rattle.hotzone.specs.Endings.{IsEnding, IsFinishing, WipesArea, after_wipe}
use Rattle.hotzone.specs.Headings.{AreOf, IsSame, IsToCome, IsUnmade}
use Rattle.hotzone.specs.Sites.{bytes_at, count_of, part_at, saved_at}
use Rattle.hotzone.specs.Workers.{IsNextZone, first_call}
use Rattle.hotzone.specs.declared.site.Guard.{Guard}
use Rattle.hotzone.specs.declared.site.Guard.TheVariants as guards
use Rattle.hotzone.specs.declared.site.Site.{Site}
use Rattle.hotzone.specs.declared.worker.Ending.{Ending}
use Rattle.hotzone.specs.declared.worker.Halt.{Halt}
use Rattle.hotzone.specs.declared.worker.Halt.TheVariants.{GivenUp, Failed, InCommit}
use Rattle.hotzone.specs.declared.worker.Headers.{Headers}
use Rattle.hotzone.specs.declared.worker.NextCall.{NextCall}
use Rattle.hotzone.specs.declared.worker.NextCall.TheVariants.{Begin, ReadFirst, SaveFirst, Read}
use Rattle.hotzone.specs.declared.worker.NextCall.TheVariants.{Save, Keep, Open, ReadAgain, Write}
use Rattle.hotzone.specs.declared.worker.NextCall.TheVariants.{Settle, Move, Finish, End, Wipe, Rest, Over}
use Rattle.hotzone.specs.declared.worker.Stepped.{Stepped}
use Rattle.hotzone.specs.declared.worker.Stepped.TheVariants.{Went, ZoneDone, AllDone}
use Rattle.hotzone.specs.declared.worker.Worker.{Worker}
use Rattle.hotzone.specs.declared.worker.ZoneFault.{ZoneFault}
use Rattle.hotzone.specs.declared.worker.ZoneFault.TheVariants as faults
use Rattle.luks_store.specs.Copying.Held.{primary_of, secondary_of, stage_in}
use Rattle.luks_store.specs.Copying.Steps.{CopyCall, next_of}
use Rattle.luks_store.specs.declared.header_copies.commit.Stage.TheVariants.{Begun, SecondWritten, Ended}
use Rattle.luks_store.specs.declared.commit.Prepared.{Prepared}
use Rattle.luks_store.specs.declared.loaded.Stored.{Stored}
use Rattle.resil_checksum.specs.Clashes.{AllDiffer, IsLowestClash}
use Rattle.resil_checksum.specs.Digests.{AreSaved, saved_len}
use Rattle.sector_disk.specs.Devices.{Device, ReadCall, SyncCall, WriteCall, failed_call, succeeded}
use Rattle.segment_map.specs.declared.Side.TheVariants.{Old, New}
use Rattle.sha2.specs.Sha256.{sha256}
use Rattle.volume_machine.specs.Seals.{Seals}

-- ---- the bytes of a part
-- what blocks from one on become that were sealed on the old side
abbrev pub resealed : Seals → ℕ → List ℕ → List ℕ
resealed seals first bytes = seals.sealed New first (seals.opened Old first bytes)

-- the part at hand that begins behind so many blocks of the zone
abbrev pub part_in : {C : Type 0} → Worker C → ℕ → List ℕ
part_in worker done = take (bytes_at worker.site done) worker.buffer

-- ---- what is saved of a part
-- By journal it is saved as it is, by checksum as the digests of its atoms, in whole atoms.
abbrev pub IsSavedText : Guard → ℕ → ℕ → List ℕ → List ℕ → Type 0
IsSavedText guards.Journal atom count part text = text ≡ part
IsSavedText guards.Checksum atom count part text =
    AreSaved atom count part text × (length text ≡ saved_len count atom)

-- by checksum the digests of its old atoms are others than those of the new ones
abbrev pub TellsBy : Guard → ℕ → ℕ → List ℕ → List ℕ → Type 0
TellsBy guards.Journal atom count old new = Unit {0}
TellsBy guards.Checksum atom count old new = AllDiffer atom count old new

abbrev pub TellsPart : {C : Type 0} → Seals → Worker C → ℕ → Type 0
TellsPart seals worker done =
    TellsBy worker.site.guard worker.site.atom (part_at worker.site done) (part_in worker done)
    (resealed seals (worker.site.blocks.start + done) (part_in worker done))

-- the first of so many blocks of which they aren't, and its digest
pub record IsClashBy (by : Guard) (atom first count : ℕ) (old new : List ℕ) (block : ℕ)
    (digest : List ℕ) : Type 0 where
  pub guard : by ≡ guards.Checksum
  pub k : ℕ
  pub is : block ≡ first + k
  pub lowest : IsLowestClash atom count old new k
  pub digest_is : digest ≡ sha256 (block_at atom old k)

abbrev pub IsClash : {C : Type 0} → Seals → Worker C → ℕ → ℕ → List ℕ → Type 0
IsClash seals worker done block digest =
    IsClashBy worker.site.guard worker.site.atom (worker.site.blocks.start + done)
    (part_at worker.site done) (part_in worker done)
    (resealed seals (worker.site.blocks.start + done) (part_in worker done)) block digest

abbrev pub Clashes : {C : Type 0} → Seals → Worker C → ℕ → ZoneFault → Type 0
Clashes seals worker done (faults.DigestClash block digest) =
    IsClash seals worker done block digest
Clashes seals worker done _ = ⊥

-- ---- device calls
-- a part of the old atoms comes into the buffer
abbrev pub ReadsPart : {C : Type 0} → Worker C → ℕ → List ℕ → Device → Device
    → Result (Unit {0}) CallFailed → Type 0
ReadsPart worker done buffer old new result =
    ReadCall old.size (worker.site.own + done) (take (bytes_at worker.site done) buffer) old new
    result

-- so many atoms are saved from a place on, by what guards them
pub record SavesBy (guard : Guard) (atom count : ℕ) (part : List ℕ) (place : ℕ)
    (old new : Device) (result : Result (Unit {0}) CallFailed) : Type 0 where
  pub text : List ℕ
  pub is : IsSavedText guard atom count part text
  pub call : WriteCall old.size place text old new result

-- so the part is saved
abbrev pub SavesPart : {C : Type 0} → Worker C → ℕ → Device → Device
    → Result (Unit {0}) CallFailed → Type 0
SavesPart worker done old new result =
    SavesBy worker.site.guard worker.site.atom (part_at worker.site done) (part_in worker done)
    (worker.site.store + saved_at worker.site done) old new result

-- it is written anew
abbrev pub WritesPart : {C : Type 0} → Seals → Worker C → ℕ → Device → Device
    → Result (Unit {0}) CallFailed → Type 0
WritesPart seals worker done old new result =
    WriteCall old.size (worker.site.own + done)
    (resealed seals (worker.site.blocks.start + done) (part_in worker done)) old new result

-- the next call of a commit
abbrev pub Commits : Prepared → Device → Device → Result (Unit {0}) CallFailed → Type 0
Commits commit old new result =
    CopyCall (stage_in commit.copies) (primary_of commit.copies) (secondary_of commit.copies)
    commit.header.hdr_size old new result

-- ---- a part read into the buffer, which stays as long as it is
pub record HasRead {C : Type 0} (before after : Worker C) (next : NextCall) : Type 0 where
  pub is : after ≡ record before { buffer = after.buffer; next = next }
  pub long : length after.buffer ≡ length before.buffer

-- a commit with one call more; one of which a call failed
pub record IsCommitted (before after : Prepared) : Type 0 where
  pub same : IsSame before after
  pub stage : stage_in after.copies ≡ next_of (stage_in before.copies)

pub record IsBroken (before after : Prepared) : Type 0 where
  pub same : IsSame before after
  pub ended : stage_in after.copies ≡ Ended

-- ---- headers and endings with their commit so far
abbrev pub opened_by : Headers → Prepared → Headers
opened_by headers commit = record headers { opened = commit }

abbrev pub moved_by : Headers → Prepared → Headers
moved_by headers commit = record headers { moved = record headers.moved { commit = commit } }

abbrev pub ended_by : Ending → Prepared → Ending
ended_by ending commit = record ending { commit = commit }

-- ---- what comes next
-- behind a part that was saved: the next one, or a sync
abbrev pub after_save : Site → ℕ → Headers → NextCall
after_save site done headers =
    if done + part_at site done == count_of site then Keep headers
    else Read (done + part_at site done) headers

-- behind the commit that opens the zone: of a zone of one part that is still at hand
abbrev pub after_open : Site → Headers → NextCall
after_open site headers =
    if part_at site 0 == count_of site then Write 0 headers else ReadAgain 0 headers

-- behind a part that was written: the next one, or a sync
abbrev pub after_write : Site → ℕ → Headers → NextCall
after_write site done headers =
    if done + part_at site done == count_of site then Settle headers
    else ReadAgain (done + part_at site done) headers

-- behind the zone's last call: the header is the one with the boundary moved, and the next zone
-- begins, or the finish where no old block is left
pub record HasMoved {C : Type 0} (before after : Worker C) (header : Stored) : Type 0 where
  pub keys : after.keys ≡ before.keys
  pub buffer : after.buffer ≡ before.buffer
  pub loaded : after.loaded ≡ header
  pub zone : IsNextZone after.loaded after.map after.site
  pub next : after.next ≡ first_call after.site
  pub halted : after.halted ≡ before.halted

-- ---- A step that is made: its device call, and what comes next.
pub data Goes {C : Type 0} (seals : Seals) (old new : Device) (before after : Worker C) : Stepped
    → Type 0 where
  begins : before.next ≡ Begin → SyncCall old new succeeded
      → after ≡ record before { next = ReadFirst } → Goes seals old new before after Went
  reads_first : before.next ≡ ReadFirst → ReadsPart before 0 after.buffer old new succeeded
      → HasRead before after SaveFirst → Goes seals old new before after Went
  saves_first : before.next ≡ SaveFirst → TellsPart seals before 0
      → SavesPart before 0 old new succeeded
      → (headers : Headers) → AreOf before.loaded (count_of before.site) headers.opened headers.moved
      → (stage_in headers.opened.copies ≡ Begun) × (stage_in headers.moved.commit.copies ≡ Begun)
      → after ≡ record before { next = after_save before.site 0 headers }
      → Goes seals old new before after Went
  reads : (done : ℕ) (headers : Headers) → before.next ≡ Read done headers
      → ReadsPart before done after.buffer old new succeeded
      → HasRead before after (Save done headers) → Goes seals old new before after Went
  saves : (done : ℕ) (headers : Headers) → before.next ≡ Save done headers
      → TellsPart seals before done → SavesPart before done old new succeeded
      → after ≡ record before { next = after_save before.site done headers }
      → Goes seals old new before after Went
  keeps : (headers : Headers) → before.next ≡ Keep headers → SyncCall old new succeeded
      → after ≡ record before { next = Open headers } → Goes seals old new before after Went
  opens : (headers : Headers) (commit : Prepared) → before.next ≡ Open headers
      → Commits headers.opened old new succeeded → IsCommitted headers.opened commit
      → stage_in headers.opened.copies ≢ SecondWritten
      → after ≡ record before { next = Open (opened_by headers commit) }
      → Goes seals old new before after Went
  opened : (headers : Headers) (commit : Prepared) → before.next ≡ Open headers
      → Commits headers.opened old new succeeded → IsCommitted headers.opened commit
      → stage_in headers.opened.copies ≡ SecondWritten
      → after ≡ record before { next = after_open before.site (opened_by headers commit) }
      → Goes seals old new before after Went
  reads_again : (done : ℕ) (headers : Headers) → before.next ≡ ReadAgain done headers
      → ReadsPart before done after.buffer old new succeeded
      → HasRead before after (Write done headers) → Goes seals old new before after Went
  writes : (done : ℕ) (headers : Headers) → before.next ≡ Write done headers
      → WritesPart seals before done old new succeeded
      → HasRead before after (after_write before.site done headers)
      → Goes seals old new before after Went
  settles : (headers : Headers) → before.next ≡ Settle headers → SyncCall old new succeeded
      → after ≡ record before { next = Move headers } → Goes seals old new before after Went
  moves : (headers : Headers) (commit : Prepared) → before.next ≡ Move headers
      → Commits headers.moved.commit old new succeeded → IsCommitted headers.moved.commit commit
      → stage_in headers.moved.commit.copies ≢ SecondWritten
      → after ≡ record before { next = Move (moved_by headers commit) }
      → Goes seals old new before after Went
  ends : (headers : Headers) → before.next ≡ Move headers
      → Commits headers.moved.commit old new succeeded
      → stage_in headers.moved.commit.copies ≡ SecondWritten
      → HasMoved before after headers.moved.loaded → Goes seals old new before after ZoneDone
  finishes : (ending : Ending) (commit : Prepared) → before.next ≡ Finish
      → IsEnding before.loaded ending → Commits ending.commit old new succeeded
      → IsCommitted ending.commit commit
      → after ≡ record before { next = End (ended_by ending commit) }
      → Goes seals old new before after Went
  finishes_on : (ending : Ending) (commit : Prepared) → before.next ≡ End ending
      → Commits ending.commit old new succeeded → IsCommitted ending.commit commit
      → stage_in ending.commit.copies ≢ SecondWritten
      → after ≡ record before { next = End (ended_by ending commit) }
      → Goes seals old new before after Went
  finished : (ending : Ending) (commit : Prepared) → before.next ≡ End ending
      → Commits ending.commit old new succeeded → IsCommitted ending.commit commit
      → stage_in ending.commit.copies ≡ SecondWritten
      → after ≡ record before { next = after_wipe 0 (ended_by ending commit) }
      → Goes seals old new before after Went
  wipes : (done : ℕ) (ending : Ending) → before.next ≡ Wipe done ending
      → WipesArea done ending.wipes old new succeeded
      → after ≡ record before { next = after_wipe (done + 1) ending }
      → Goes seals old new before after Went
  rests : (ending : Ending) → before.next ≡ Rest ending → SyncCall old new succeeded
      → after ≡ record before { next = Over ending } → Goes seals old new before after AllDone

-- ---- A step that isn't made, or whose device call failed: the call stays, and none follows it.
pub record IsHalted {C : Type 0} (before after : Worker C) (next : NextCall) (halt : Halt) : Type 0
  where
    pub is : after ≡ record before { next = next; halted = Some halt }

-- so where it had to do with the buffer, which stays as long as it is
pub record IsStopped {C : Type 0} (before after : Worker C) (next : NextCall) (halt : Halt) : Type 0
  where
    pub is : after ≡ record before { buffer = after.buffer; next = next; halted = Some halt }
    pub long : length after.buffer ≡ length before.buffer

pub data Stops {C : Type 0} (seals : Seals) (old new : Device) (before after : Worker C) : ZoneFault
    → Type 0 where
  clashes_first : (block : ℕ) (digest : List ℕ) → before.next ≡ SaveFirst
      → IsClash seals before 0 block digest → new ≡ old → IsHalted before after SaveFirst GivenUp
      → Stops seals old new before after (faults.DigestClash block digest)
  clashes : (done : ℕ) (headers : Headers) (block : ℕ) (digest : List ℕ)
      → before.next ≡ Save done headers → IsClash seals before done block digest → new ≡ old
      → IsHalted before after (Save done headers) GivenUp
      → Stops seals old new before after (faults.DigestClash block digest)
  refuses : (fault : ZoneFault) → before.next ≡ SaveFirst → TellsPart seals before 0
      → IsUnmade before.loaded 2 (IsToCome before.loaded (count_of before.site)) fault
      → new ≡ old → IsHalted before after SaveFirst GivenUp
      → Stops seals old new before after fault
  begin_fails : before.next ≡ Begin → SyncCall old new failed_call
      → IsHalted before after Begin Failed → Stops seals old new before after faults.Device
  read_first_fails : before.next ≡ ReadFirst → ReadsPart before 0 after.buffer old new failed_call
      → IsStopped before after ReadFirst GivenUp
      → Stops seals old new before after faults.Device
  save_first_fails : before.next ≡ SaveFirst → TellsPart seals before 0
      → SavesPart before 0 old new failed_call → IsHalted before after SaveFirst Failed
      → Stops seals old new before after faults.Device
  read_fails : (done : ℕ) (headers : Headers) → before.next ≡ Read done headers
      → ReadsPart before done after.buffer old new failed_call
      → IsStopped before after (Read done headers) GivenUp
      → Stops seals old new before after faults.Device
  save_fails : (done : ℕ) (headers : Headers) → before.next ≡ Save done headers
      → TellsPart seals before done → SavesPart before done old new failed_call
      → IsHalted before after (Save done headers) Failed
      → Stops seals old new before after faults.Device
  keep_fails : (headers : Headers) → before.next ≡ Keep headers → SyncCall old new failed_call
      → IsHalted before after (Keep headers) Failed
      → Stops seals old new before after faults.Device
  open_fails : (headers : Headers) (commit : Prepared) → before.next ≡ Open headers
      → Commits headers.opened old new failed_call → IsBroken headers.opened commit
      → IsHalted before after (Open (opened_by headers commit))
      (InCommit (stage_in headers.opened.copies))
      → Stops seals old new before after faults.Device
  read_again_fails : (done : ℕ) (headers : Headers) → before.next ≡ ReadAgain done headers
      → ReadsPart before done after.buffer old new failed_call
      → IsStopped before after (ReadAgain done headers) Failed
      → Stops seals old new before after faults.Device
  write_fails : (done : ℕ) (headers : Headers) → before.next ≡ Write done headers
      → WritesPart seals before done old new failed_call
      → IsStopped before after (Write done headers) Failed
      → part_in after done
      ≡ resealed seals (before.site.blocks.start + done) (part_in before done)
      → Stops seals old new before after faults.Device
  settle_fails : (headers : Headers) → before.next ≡ Settle headers → SyncCall old new failed_call
      → IsHalted before after (Settle headers) Failed
      → Stops seals old new before after faults.Device
  move_fails : (headers : Headers) (commit : Prepared) → before.next ≡ Move headers
      → Commits headers.moved.commit old new failed_call → IsBroken headers.moved.commit commit
      → IsHalted before after (Move (moved_by headers commit))
      (InCommit (stage_in headers.moved.commit.copies))
      → Stops seals old new before after faults.Device
  finish_refuses : (fault : ZoneFault) → before.next ≡ Finish
      → IsUnmade before.loaded 1 (IsFinishing before.loaded) fault
      → new ≡ old → IsHalted before after Finish GivenUp
      → Stops seals old new before after fault
  finish_fails : (ending : Ending) (commit : Prepared) → before.next ≡ Finish
      → IsEnding before.loaded ending → Commits ending.commit old new failed_call
      → IsBroken ending.commit commit
      → IsHalted before after (End (ended_by ending commit))
      (InCommit (stage_in ending.commit.copies))
      → Stops seals old new before after faults.Device
  end_fails : (ending : Ending) (commit : Prepared) → before.next ≡ End ending
      → Commits ending.commit old new failed_call → IsBroken ending.commit commit
      → IsHalted before after (End (ended_by ending commit))
      (InCommit (stage_in ending.commit.copies))
      → Stops seals old new before after faults.Device
  wipe_fails : (done : ℕ) (ending : Ending) → before.next ≡ Wipe done ending
      → WipesArea done ending.wipes old new failed_call
      → IsHalted before after (Wipe done ending) Failed
      → Stops seals old new before after faults.Device
  rest_fails : (ending : Ending) → before.next ≡ Rest ending → SyncCall old new failed_call
      → IsHalted before after (Rest ending) Failed
      → Stops seals old new before after faults.Device

-- ---- one step
abbrev pub Steps : {C : Type 0} → Seals → Device → Device → Worker C → Worker C
    → Result Stepped ZoneFault → Type 0
Steps seals old new before after (Ok stepped) = Goes seals old new before after stepped
Steps seals old new before after (Err fault) = Stops seals old new before after fault
