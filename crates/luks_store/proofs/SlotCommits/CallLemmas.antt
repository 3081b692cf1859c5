-- The calls of a commit that are left, before a call and after it.
use Rattle.std.proofs.Common.{◌≡◌, ◌≢◌, inl, inr, ◌<◌, Result, length, refl, arith}
use Rattle.base_terms.specs.declared.failed.Failed.{Failed}
use Rattle.luks_store.specs.SlotCommits.Calls.{MakesCalls, calls_from}
use Rattle.luks_store.specs.declared.slot_commit.writing.SlotCommit.{SlotCommit}
use Rattle.luks_store.specs.Copying.Held.{primary_of, secondary_of}
use Rattle.luks_store.specs.Copying.Steps.{CopyCall, next_of}
use Rattle.luks_store.specs.declared.header_copies.commit.Stage.{Stage}
use Rattle.luks_store.specs.declared.header_copies.commit.Stage.TheVariants.{Begun, FirstWritten, FirstKept}
use Rattle.luks_store.specs.declared.header_copies.commit.Stage.TheVariants.{SecondWritten, Ended}
use Rattle.luks_store.specs.declared.commit.Prepared.{Prepared}
use Rattle.sector_disk.specs.Devices.{Device, failed_call, succeeded}

-- two commits have the same copies
pub record AreSame (one other : Prepared) : Type 0 where
  pub first : primary_of other.copies ≡ primary_of one.copies
  pub second : secondary_of other.copies ≡ secondary_of one.copies
  pub header : other.header ≡ one.header

-- one call less is left
pub fewer : (stage : Stage) → stage ≢ Ended
    → length (calls_from (next_of stage)) < length (calls_from stage)
fewer Begun under_way = omega arith
fewer FirstWritten under_way = omega arith
fewer FirstKept under_way = omega arith
fewer SecondWritten under_way = omega arith
fewer Ended under_way = absurd (under_way refl)

module _ (slot : SlotCommit) where
  abbrev CommitCall : Stage → Device → Device → Result (Unit {0}) Failed → Type 0
  CommitCall stage old new result = CopyCall stage (primary_of slot.commit.copies)
      (secondary_of slot.commit.copies) slot.commit.header.hdr_size old new result

  -- a call of a commit with the same copies
  pub same-call : (now : Prepared) → AreSame slot.commit now → (stage : Stage) (old new : Device)
      (result : Result (Unit {0}) Failed)
      → CopyCall stage (primary_of now.copies) (secondary_of now.copies) now.header.hdr_size old new
      result → CommitCall stage old new result
  same-call now same stage old new result call =
      rw (same.first, same.second, same.header) at call

  -- one that succeeded, and those behind it
  pub goes-on : (stage : Stage) (old between new : Device) (result : Result (Unit {0}) Failed)
      → CommitCall stage old between succeeded
      → MakesCalls slot (calls_from (next_of stage)) between new result
      → MakesCalls slot (calls_from stage) old new result
  unfolding MakesCalls
  goes-on Begun old between new result call rest = inr (between, call, rest)
  goes-on FirstWritten old between new result call rest = inr (between, call, rest)
  goes-on FirstKept old between new result call rest = inr (between, call, rest)
  goes-on SecondWritten old between new result call rest = inr (between, call, rest)
  goes-on Ended old between new result call rest = absurd call

  -- one that failed is the last
  pub stops : (stage : Stage) (old new : Device) → CommitCall stage old new failed_call
      → MakesCalls slot (calls_from stage) old new failed_call
  unfolding MakesCalls
  stops Begun old new call = inl (call, refl)
  stops FirstWritten old new call = inl (call, refl)
  stops FirstKept old new call = inl (call, refl)
  stops SecondWritten old new call = inl (call, refl)
  stops Ended old new call = absurd call

  -- where all are made, none is left
  pub none-left : (stage : Stage) (device : Device) → stage ≡ Ended
      → MakesCalls slot (calls_from stage) device device succeeded
  unfolding MakesCalls
  none-left stage device over = rw over (refl, refl)
