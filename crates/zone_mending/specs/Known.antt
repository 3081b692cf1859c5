-- What is known of a zone that is written again, between its steps.
use Rattle.std.specs.Prelude.{ℕ, ◌≡◌, ◌+◌, ◌<◌, ◌⊎◌, false, List}
use Rattle.crash_laws.specs.HeaderAreas.Commits.{failed_stage}
use Rattle.crash_laws.specs.HeaderAreas.Areas.{Area, IsWhole}
use Rattle.crash_laws.specs.HeaderAreas.Headers.{Header, IsHeader, Layout}
use Rattle.sector_disk.specs.DiskViews.Parts.{AreBlocks, block_at}
use Rattle.sector_disk.specs.DiskViews.Views.{View}
use Rattle.crash_laws.specs.HotZones.Calls.{IsSettled, ShowsMoved}
use Rattle.crash_laws.specs.HotZones.Standing.{IsKept}
use Rattle.crash_laws.specs.HotZones.Zones.{Hotzone, Is, Texts, Phase, IsApart, ShowsZone, found_by}
use Rattle.crash_laws.specs.HotZones.Zones.{mending, moving}
use Rattle.hotzone.specs.Known.{HoldsPart, header_by, part_of, zone_by}
use Rattle.hotzone.specs.Sites.{count_of, kind_of, part_at, saved_count}
use Rattle.hotzone.specs.Steps.{resealed}
use Rattle.hotzone.specs.declared.site.Guard.{Guard}
use Rattle.hotzone.specs.declared.site.Guard.TheVariants as guards
use Rattle.hotzone.specs.declared.site.Site.{Site}
use Rattle.luks_store.specs.Copying.Meanings.{header_reader, meaning_of}
use Rattle.luks_store.specs.Copying.Seen.{stage_of}
use Rattle.luks_store.specs.declared.header_copies.commit.Stage.{Stage}
use Rattle.sha2.specs.Sha256.{sha256}
use Rattle.volume_machine.specs.Saved.{saved_hash}
use Rattle.volume_machine.specs.Seals.{Seals}
use Rattle.zone_mending.specs.Elsewhere.{StaysElsewhere}
use Rattle.zone_mending.specs.Menders.{stage_of_move}
use Rattle.zone_mending.specs.Steps.{digests_of}
use Rattle.zone_mending.specs.declared.mender.MendCall.{MendCall}
use Rattle.zone_mending.specs.declared.mender.MendCall.TheVariants.{ReadSaved, ReadOwn, Write}
use Rattle.zone_mending.specs.declared.mender.MendCall.TheVariants.{Settle, Move}
use Rattle.zone_mending.specs.declared.mender.Mender.{Mender}

-- the zone as the laws of zones name it: the header by which it is open is certain, and what was
-- before is none of its business
abbrev pub mended_zone : Site → Header (List ℕ) → Header (List ℕ) → Hotzone (List ℕ)
mended_zone site opened moved = zone_by site opened opened moved

abbrev pub zone_in : {C : Type 0} → Mender C → Header (List ℕ) → Hotzone (List ℕ)
zone_in mender opened = mended_zone mender.site opened (header_by mender.moved.commit)

-- ---- its atoms
-- The new ones are the old ones sealed anew. What is saved is what the zone's guard needs: by journal
-- the old atoms; by checksum digests of them, in whole atoms, that tell them from the new ones.
pub record HasTexts (seals : Seals) (site : Site) (zone : Hotzone (List ℕ)) (texts : Texts) : Type 0
  where
    pub new : (i : ℕ) → i < count_of site
        → texts.new i ≡ resealed seals (site.blocks.start + i) (texts.old i)
    pub kept : IsKept (kind_of site.guard) saved_hash zone texts
    pub whole : site.guard ≡ guards.Checksum
        → IsWhole site.atom (saved_count site) texts.saved

-- Bytes have what is saved of them, and by checksum each atom in the zone is the old one or the new
-- one.
pub record HoldsZone (site : Site) (bytes : List ℕ) (texts : Texts) : Type 0 where
  pub own : (i : ℕ) → i < count_of site
      → Is (found_by (kind_of site.guard)) texts i (block_at site.atom bytes (site.own + i))
  pub saved : (j : ℕ) → j < saved_count site
      → block_at site.atom bytes (site.store + j) ≡ texts.saved j

-- how far it is
abbrev pub phase_by : ℕ → Stage → MendCall → Phase
phase_by count stage (ReadSaved done) = mending done
phase_by count stage (ReadOwn done) = mending done
phase_by count stage (Write done) = mending done
phase_by count stage Settle = mending count
phase_by count stage Move = moving (stage_of stage)
phase_by count stage _ = mending 0

abbrev pub phase_in : {C : Type 0} → Mender C → Phase
phase_in mender = phase_by (count_of mender.site) (stage_of_move mender) mender.next

-- what a device call that failed leaves: of the commit what it may leave when it is done
abbrev pub failed_by : ℕ → Stage → MendCall → Phase
failed_by count stage Move = moving (failed_stage (stage_of stage))
failed_by count stage next = phase_by count stage next

abbrev pub failed_in : {C : Type 0} → Mender C → Phase
failed_in mender = failed_by (count_of mender.site) (stage_of_move mender) mender.next

-- The part that is to be written is at the front of the buffer: by journal its old atoms; by checksum
-- each is the old one or the new one, and the digests of the old ones are at hand.
pub record HoldsDigests (site : Site) (digests : List ℕ) (texts : Texts) (done : ℕ) : Type 0 where
  pub each : (k : ℕ) → k < part_at site done
      → block_at 32 (digests_of site digests done) k ≡ sha256 (texts.old (done + k))

pub record HoldsFound (site : Site) (buffer digests : List ℕ) (texts : Texts) (done : ℕ) : Type 0
  where
    pub blocks : AreBlocks site.atom (part_at site done) (part_of site buffer done)
    pub each : (k : ℕ) → k < part_at site done
        → (block_at site.atom (part_of site buffer done) k ≡ texts.old (done + k))
        ⊎ (block_at site.atom (part_of site buffer done) k ≡ texts.new (done + k))
    pub told : HoldsDigests site digests texts done

abbrev pub HoldsBy : Guard → Site → List ℕ → List ℕ → Texts → ℕ → Type 0
HoldsBy guards.Journal site buffer digests texts done = HoldsPart site buffer texts done
HoldsBy guards.Checksum site buffer digests texts done =
    HoldsFound site buffer digests texts done

abbrev pub HoldsFor : Site → List ℕ → List ℕ → Texts → MendCall → Type 0
HoldsFor site buffer digests texts (ReadOwn done) = HoldsDigests site digests texts done
HoldsFor site buffer digests texts (Write done) =
    HoldsBy site.guard site buffer digests texts done
HoldsFor site buffer digests texts _ = Unit {0}

-- ---- what is known: `opened` is the header by which the zone is open
pub record IsKnown {C : Type 0} (seals : Seals) (layout : Layout) (opened : Header (List ℕ))
    (texts : Texts) (mender : Mender C) (view : View) : Type 0 where
  pub means : opened.means ≡ meaning_of mender.loaded.copies.used.bytes
  pub is_header : IsHeader header_reader opened
  pub next_header : IsHeader header_reader (zone_in mender opened).moved
  pub apart : IsApart layout (zone_in mender opened)
  pub texts_are : HasTexts seals mender.site (zone_in mender opened) texts
  pub part : HoldsFor mender.site mender.buffer mender.digests texts mender.next
  pub shows : ShowsZone mender.site.atom layout (zone_in mender opened) texts (phase_in mender)
      false view

-- ---- what the last step leaves: the new atoms, and the header with the boundary moved, for certain;
-- no atom of the disk is in doubt, and what was elsewhere is there still
pub record IsThrough {C : Type 0} (layout : Layout) (opened : Header (List ℕ)) (texts : Texts)
    (before after : Mender C) (was is : View) : Type 0 where
  pub shows : ShowsMoved before.site.atom layout (zone_in before opened) texts
      (zone_in before opened).own is
  pub means : (zone_in before opened).moved.means ≡ meaning_of after.moved.loaded.copies.used.bytes
  pub is_header : IsHeader header_reader (zone_in before opened).moved
  pub settled : (area : Area) → IsSettled is area
  pub elsewhere : StaysElsewhere layout (zone_in before opened) false was is
