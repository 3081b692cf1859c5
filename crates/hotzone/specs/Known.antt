-- What is known of a zone between its steps: what the disk shows of it, and which of its old atoms
-- are in the buffer.
use Rattle.std.specs.Prelude.{ℕ, ◌≡◌, ◌≢◌, ◌+◌, ◌<◌, false, List, take, Option, Some}
use Rattle.crash_laws.specs.HeaderAreas.Commits.{failed_stage}
use Rattle.crash_laws.specs.HeaderAreas.Headers.{Header, Layout}
use Rattle.sector_disk.specs.DiskViews.Parts.{block_at, AreBlocks}
use Rattle.sector_disk.specs.DiskViews.Views.{View}
use Rattle.crash_laws.specs.HotZones.Zones.{Hotzone, Texts, Phase, IsApart, ShowsZone, moving}
use Rattle.crash_laws.specs.HotZones.Zones.{opening, saving, writing}
use Rattle.hotzone.specs.Sites.{bytes_at, count_of, kind_of, part_at, saved_at, saved_count}
use Rattle.hotzone.specs.Steps.{resealed}
use Rattle.hotzone.specs.declared.site.Guard.{Guard}
use Rattle.hotzone.specs.declared.site.Guard.TheVariants as guards
use Rattle.hotzone.specs.declared.site.Site.{Site}
use Rattle.hotzone.specs.declared.worker.NextCall.{NextCall}
use Rattle.hotzone.specs.declared.worker.NextCall.TheVariants.{Begin, ReadFirst, SaveFirst, Read}
use Rattle.hotzone.specs.declared.worker.NextCall.TheVariants.{Save, Keep, Open, ReadAgain, Write}
use Rattle.hotzone.specs.declared.worker.NextCall.TheVariants.{Settle, Move, Finish, End, Wipe, Rest}
use Rattle.hotzone.specs.declared.worker.NextCall.TheVariants.{Over}
use Rattle.hotzone.specs.declared.worker.Halt.{Halt}
use Rattle.hotzone.specs.declared.worker.Halt.TheVariants.{InCommit}
use Rattle.hotzone.specs.declared.worker.Headers.{Headers}
use Rattle.hotzone.specs.declared.worker.Worker.{Worker}
use Rattle.luks_store.specs.Copying.Held.{primary_of, secondary_of, stage_in}
use Rattle.luks_store.specs.Copying.Meanings.{header_of, meaning_of}
use Rattle.luks_store.specs.Copying.Seen.{stage_of}
use Rattle.luks_store.specs.declared.commit.Prepared.{Prepared}
use Rattle.sha2.specs.Sha256.{sha256}
use Rattle.volume_machine.specs.Saved.{saved_of}
use Rattle.volume_machine.specs.Seals.{Seals}

-- ---- the zone as the laws of zones name it
-- the header that a commit leads to
abbrev pub header_by : Prepared → Header (List ℕ)
header_by commit = header_of (primary_of commit.copies) (secondary_of commit.copies)

-- a zone, by what guards it
abbrev pub zone_by : Site → Header (List ℕ) → Header (List ℕ) → Header (List ℕ) → Hotzone (List ℕ)
zone_by site before opened moved = record {
  resilience = kind_of site.guard;
  own = record { start = site.own; count = count_of site };
  target = record { start = 0; count = 0 };
  store = record { start = site.store; count = saved_count site };
  before = before;
  opened = opened;
  moved = moved;
}

-- the headers of a zone, from the moment on that they are made
abbrev pub AreNamed : Headers → Header (List ℕ) → Header (List ℕ) → Type 0
AreNamed headers opened moved =
    (opened ≡ header_by headers.opened) × (moved ≡ header_by headers.moved.commit)

abbrev pub NamesHeaders : NextCall → Header (List ℕ) → Header (List ℕ) → Type 0
NamesHeaders (Read done headers) opened moved = AreNamed headers opened moved
NamesHeaders (Save done headers) opened moved = AreNamed headers opened moved
NamesHeaders (Keep headers) opened moved = AreNamed headers opened moved
NamesHeaders (Open headers) opened moved = AreNamed headers opened moved
NamesHeaders (ReadAgain done headers) opened moved = AreNamed headers opened moved
NamesHeaders (Write done headers) opened moved = AreNamed headers opened moved
NamesHeaders (Settle headers) opened moved = AreNamed headers opened moved
NamesHeaders (Move headers) opened moved = AreNamed headers opened moved
NamesHeaders _ opened moved = Unit {0}

-- how far it is by its next call
abbrev pub phase_in : Site → NextCall → Phase
phase_in site (Read done headers) = saving (saved_at site done)
phase_in site (Save done headers) = saving (saved_at site done)
phase_in site (Keep headers) = saving (saved_count site)
phase_in site (Open headers) = opening (stage_of (stage_in headers.opened.copies))
phase_in site (ReadAgain done headers) = writing done
phase_in site (Write done headers) = writing done
phase_in site (Settle headers) = writing (count_of site)
phase_in site (Move headers) = moving (stage_of (stage_in headers.moved.commit.copies))
phase_in site _ = saving 0

-- so once it may be halted: a call of a commit that failed may leave what it leaves when it is done
abbrev pub halted_in : Site → NextCall → Option Halt → Phase
halted_in site (Open headers) (Some (InCommit stage)) = opening (failed_stage (stage_of stage))
halted_in site (Move headers) (Some (InCommit stage)) = moving (failed_stage (stage_of stage))
halted_in site next halted = phase_in site next

abbrev pub phase_of : {C : Type 0} → Worker C → Phase
phase_of worker = halted_in worker.site worker.next worker.halted

-- a zone is at hand: its first sync is made
abbrev pub IsAtHand : NextCall → Type 0
IsAtHand Begin = ⊥
IsAtHand Finish = ⊥
IsAtHand (End ending) = ⊥
IsAtHand (Wipe done ending) = ⊥
IsAtHand (Rest ending) = ⊥
IsAtHand (Over ending) = ⊥
IsAtHand _ = Unit {0}

-- ---- its atoms
-- new ones are the old ones sealed anew, and of the old ones is saved what the zone's guard says
pub record AreTexts (seals : Seals) (site : Site) (texts : Texts) : Type 0 where
  pub new : (i : ℕ) → i < count_of site
      → texts.new i ≡ resealed seals (site.blocks.start + i) (texts.old i)
  pub saved : (i : ℕ) → texts.saved i
      ≡ saved_of (kind_of site.guard) site.atom (count_of site) texts.old i

-- By checksum the digests of the old atoms of so many blocks are others than those of the new ones:
-- of those that are saved.
abbrev pub TellBy : Guard → ℕ → Texts → Type 0
TellBy guards.Journal count texts = Unit {0}
TellBy guards.Checksum count texts =
    (i : ℕ) → i < count → sha256 (texts.old i) ≢ sha256 (texts.new i)

abbrev pub told_count : Site → NextCall → ℕ
told_count site ReadFirst = 0
told_count site SaveFirst = 0
told_count site (Read done headers) = done
told_count site (Save done headers) = done
told_count site _ = count_of site

abbrev pub AreTold : Site → Texts → NextCall → Type 0
AreTold site texts next = TellBy site.guard (told_count site next) texts

-- the part behind so many old atoms is at the front of the buffer
abbrev pub part_of : Site → List ℕ → ℕ → List ℕ
part_of site buffer done = take (bytes_at site done) buffer

pub record HoldsPart (site : Site) (buffer : List ℕ) (texts : Texts) (done : ℕ) : Type 0 where
  pub blocks : AreBlocks site.atom (part_at site done) (part_of site buffer done)
  pub each : (k : ℕ) → k < part_at site done
      → block_at site.atom (part_of site buffer done) k ≡ texts.old (done + k)

-- the zone has one part; it has several
abbrev pub IsOnePart : Site → Type 0
IsOnePart site = part_at site 0 ≡ count_of site

abbrev pub HoldsFor : Site → List ℕ → Texts → NextCall → Type 0
HoldsFor site buffer texts SaveFirst = HoldsPart site buffer texts 0
HoldsFor site buffer texts (Read done headers) = IsOnePart site → ⊥
HoldsFor site buffer texts (Save done headers) =
    HoldsPart site buffer texts done × (IsOnePart site → ⊥)
HoldsFor site buffer texts (Keep headers) = IsOnePart site → HoldsPart site buffer texts 0
HoldsFor site buffer texts (Open headers) = IsOnePart site → HoldsPart site buffer texts 0
HoldsFor site buffer texts (Write done headers) = HoldsPart site buffer texts done
HoldsFor site buffer texts _ = Unit {0}

-- ---- what is known
pub record IsKnown {C : Type 0} (seals : Seals) (layout : Layout) (before opened moved : Header (List ℕ))
    (texts : Texts) (worker : Worker C) (view : View) : Type 0 where
  pub means : before.means ≡ meaning_of worker.loaded.copies.used.bytes
  pub headers : NamesHeaders worker.next opened moved
  pub apart : IsApart layout (zone_by worker.site before opened moved)
  pub texts_are : AreTexts seals worker.site texts
  pub told : AreTold worker.site texts worker.next
  pub part : HoldsFor worker.site worker.buffer texts worker.next
  pub shows : ShowsZone worker.site.atom layout (zone_by worker.site before opened moved) texts
      (phase_of worker) false view
