-- The headers of a zone.
use Rattle.std.specs.Prelude.{ℕ, ◌≡◌, ◌+◌, ◌<◌, ◌≤◌, ◌⊎◌, length, Some, IsSomeAnd}
use Rattle.hotzone.specs.declared.worker.Headers.{Headers}
use Rattle.hotzone.specs.declared.worker.NextHeader.{NextHeader}
use Rattle.hotzone.specs.declared.worker.ZoneFault.{ZoneFault}
use Rattle.hotzone.specs.declared.worker.ZoneFault.TheVariants as faults
use Rattle.sector_disk.specs.JoinedDisks.Counts.{HasSizes}
use Rattle.luks_store.specs.Copying.Held.{primary_of, secondary_of, stage_in}
use Rattle.luks_store.specs.Copying.Steps.{last_seqid, longest_text}
use Rattle.luks_store.specs.declared.header_copies.commit.CommitError.{CommitError}
use Rattle.luks_store.specs.declared.header_copies.commit.CommitError.TheVariants as errors
use Rattle.luks_store.specs.declared.header_copies.commit.Stage.TheVariants.{Begun}
use Rattle.luks_meta.specs.declared.meta.Parts.{Parts}
use Rattle.luks_rules.specs.Shapes.{progress_of}
use Rattle.luks_rules.specs.declared.shape.Progress.{Progress}
use Rattle.luks_store.specs.Commits.{committed, text_for, IsNext, IsNextStored}
use Rattle.luks_store.specs.declared.commit.Prepared.{Prepared}
use Rattle.luks_store.specs.declared.loaded.Stored.{Stored}
use Rattle.reenc_meta.specs.Layouts.{progress_at}
use Rattle.reenc_meta.specs.Moves.{IsGoneTo, MayMove, MayOpen, moved, opened}
use Rattle.sector_disk.specs.Devices.{Device}

-- a commit under way is of the same copies, on disks of the same sizes
pub record IsSame (first now : Prepared) : Type 0 where
  pub primary : primary_of now.copies ≡ primary_of first.copies
  pub secondary : secondary_of now.copies ≡ secondary_of first.copies
  pub copies : committed now ≡ committed first
  pub sizes : (device : Device) → HasSizes first.sizes device → HasSizes now.sizes device

-- The header that follows one that was loaded: its commit, and what is loaded behind it.
pub record Follows (before : Stored) (next : NextHeader) : Type 0 where
  pub commit : IsNext before next.loaded.valid.meta next.commit
  pub loaded : IsNextStored next.commit next.loaded
  pub begun : stage_in next.commit.copies ≡ Begun

-- so once its commit may be under way
pub record FollowsBy (before : Stored) (next : NextHeader) : Type 0 where
  pub first : Prepared
  pub commit : IsNext before next.loaded.valid.meta first
  pub loaded : IsNextStored first next.loaded
  pub same : IsSame first next.commit

-- ---- the headers of a zone of so many blocks: with it open, and with the boundary moved over it
pub record AreOf (before : Stored) (blocks : ℕ) (middle : Prepared) (next : NextHeader) : Type 0 where
  pub now : Progress
  pub known : progress_of before.valid.meta before.valid.sizes ≡ Some now
  pub between : Stored
  pub opens : IsGoneTo before.valid.meta before.valid.sizes now
      (opened now.conversion.direction blocks now.plan) between.valid.meta
  pub first : Prepared
  pub commit : IsNext before between.valid.meta first
  pub loaded : IsNextStored first between
  pub same : IsSame first middle
  pub moves : IsGoneTo between.valid.meta before.valid.sizes
      (progress_at (opened now.conversion.direction blocks now.plan) now)
      (moved now.conversion.direction blocks (opened now.conversion.direction blocks now.plan))
      next.loaded.valid.meta
  pub follows : FollowsBy between next

-- ---- a header before it is made
-- a zone of so many blocks may be opened, or the boundary moved over it
abbrev pub MayOpenFrom : Stored → ℕ → Type 0
MayOpenFrom before blocks =
    IsSomeAnd (progress_of before.valid.meta before.valid.sizes)
    (λ now. MayOpen before.valid.sizes.atom now blocks)

abbrev pub MayTurn : Stored → ℕ → Type 0
MayTurn middle blocks =
    IsSomeAnd (progress_of middle.valid.meta middle.valid.sizes)
    (λ now. MayMove middle.valid.sizes.atom now blocks)

-- the header that comes then
abbrev pub Opens : Stored → ℕ → NextHeader → Type 0
Opens before blocks next =
    (now : Progress) → progress_of before.valid.meta before.valid.sizes ≡ Some now
    → IsGoneTo before.valid.meta before.valid.sizes now
    (opened now.conversion.direction blocks now.plan) next.loaded.valid.meta

abbrev pub Turns : Stored → ℕ → NextHeader → Type 0
Turns middle blocks next =
    (now : Progress) → progress_of middle.valid.meta middle.valid.sizes ≡ Some now
    → IsGoneTo middle.valid.meta middle.valid.sizes now
    (moved now.conversion.direction blocks now.plan) next.loaded.valid.meta

-- both headers, of which nothing is written
pub record AreMade (before : Stored) (blocks : ℕ) (headers : Headers) : Type 0 where
  pub are : AreOf before blocks headers.opened headers.moved
  pub open_begun : stage_in headers.opened.copies ≡ Begun
  pub moved_begun : stage_in headers.moved.commit.copies ≡ Begun

-- ---- the metadata of a header to come: with the zone open; with the boundary moved over it
abbrev pub IsOpening : Stored → ℕ → Parts → Type 0
IsOpening before blocks meta =
    (now : Progress) × (progress_of before.valid.meta before.valid.sizes ≡ Some now)
    × IsGoneTo before.valid.meta before.valid.sizes now
    (opened now.conversion.direction blocks now.plan) meta

abbrev pub IsTurning : Stored → ℕ → Parts → Type 0
IsTurning middle blocks meta =
    (now : Progress) × (progress_of middle.valid.meta middle.valid.sizes ≡ Some now)
    × IsGoneTo middle.valid.meta middle.valid.sizes now
    (moved now.conversion.direction blocks now.plan) meta

abbrev pub IsToCome : Stored → ℕ → Parts → Type 0
IsToCome before blocks meta =
    IsOpening before blocks meta
    ⊎ ((middle : Stored) × IsOpening before blocks middle.valid.meta
    × (middle.valid.sizes ≡ before.valid.sizes) × IsTurning middle blocks meta)

-- ---- why a header isn't made, of so many commits to come: fewer numbers are left; or there are
-- enough, and the text of one has no room; or memory was wanted, of which nothing is said
abbrev pub IsUnmade : Stored → ℕ → (Parts → Type 0) → ZoneFault → Type 0
IsUnmade before commits Comes faults.Device = ⊥
IsUnmade before commits Comes (faults.DigestClash block digest) = ⊥
IsUnmade before commits Comes (faults.SeqEnd left wanted) =
    (before.copies.used.header.seqid + left ≡ last_seqid) × (wanted ≡ commits) × (left < wanted)
IsUnmade before commits Comes (faults.JsonFull len limit) =
    (meta : Parts) × Comes meta × (len ≡ length (text_for meta))
    × (limit ≡ longest_text before.copies.used.header) × (limit < len)
    × (before.copies.used.header.seqid + commits ≤ last_seqid)
IsUnmade before commits Comes faults.Memory = Unit {0}

-- of a single commit
abbrev pub fault_of : CommitError → ZoneFault
fault_of errors.Memory = faults.Memory
fault_of errors.SeqEnd = faults.SeqEnd 0 1
fault_of (errors.JsonFull len limit) = faults.JsonFull len limit
