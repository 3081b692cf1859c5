-- What is promised of the steps by which a zone is written again, on a disk that tells its tables.
use Rattle.std.specs.Prelude.{ℕ, ◌≡◌, true, false, List, Some, Ok}
use Rattle.crash_laws.specs.HeaderAreas.Headers.{Header, IsHeader, IsLaidOut, Layout}
use Rattle.sector_disk.specs.DiskViews.Views.{View, view_of_cells}
use Rattle.crash_laws.specs.HotZones.Calls.{CallBeside}
use Rattle.crash_laws.specs.HotZones.Promises.{IsFound}
use Rattle.crash_laws.specs.HotZones.Zones.{Texts, ShowsZone}
use Rattle.hotzone.specs.Promises.{Leads, TellsAlike}
use Rattle.sector_disk.specs.JoinedDisks.Counts.{HasSizes}
use Rattle.luks_store.specs.Copying.Meanings.{header_reader, meaning_of}
use Rattle.luks_store.specs.Commits.{AreGood}
use Rattle.luks_store.specs.Devices.{IsCertain, front_of}
use Rattle.luks_store.specs.Loads.{stored_in}
use Rattle.luks_store.specs.declared.loaded.Stored.{Stored}
use Rattle.sector_disk.specs.Devices.{Device}
use Rattle.sector_disk.specs.Steps.{Told}
use Rattle.volume_machine.specs.Seals.{Seals, seals_of}
use Rattle.zone_mending.specs.Elsewhere.{StaysElsewhere}
use Rattle.zone_mending.specs.Known.{HasTexts, HoldsZone, IsKnown, IsThrough, failed_in}
use Rattle.zone_mending.specs.Known.{zone_in}
use Rattle.zone_mending.specs.Menders.{IsMending}
use Rattle.zone_mending.specs.Steps.{Fails, Goes}
use Rattle.zone_mending.specs.declared.mender.MendCall.TheVariants.{ReadSaved}
use Rattle.zone_mending.specs.declared.mender.Mender.{Mender}

-- a zone that is written again on a disk where its header's copies lie
pub record IsOver {C : Type 0} (sector : C → ℕ) (layout : Layout) (mender : Mender C)
    (device : Device) : Type 0 where
  pub mends : IsMending sector mender
  pub sizes : HasSizes mender.loaded.valid.sizes device
  pub laid : IsLaidOut device.size device.atoms mender.loaded.copies.used.header.hdr_size layout
  pub tells : TellsAlike device

-- the seals of its keys
abbrev pub seals_in : {C : Type 0} → (C → ℕ → List ℕ → List ℕ) → (C → ℕ → List ℕ → List ℕ)
    → Mender C → Seals
seals_in seal unseal mender = seals_of seal unseal mender.site.atom mender.keys

-- ---- It begins on a disk on which neither the zone's atoms nor what is saved of them is in doubt, and
-- both copies are the header by which the zone is open. By journal the old atoms are those that are
-- saved, whatever stands in the zone; by checksum each atom there is the old one or the new one, and
-- digests tell which.
abbrev pub MendResumes : {C : Type 0} → (C → ℕ) → (C → ℕ → List ℕ → List ℕ)
    → (C → ℕ → List ℕ → List ℕ) → Type 0
MendResumes {C} sector seal unseal =
    (layout : Layout) (opened : Header (List ℕ)) (texts : Texts) (mender : Mender C)
    (device : Device) (now : Told) → IsOver sector layout mender device
    → mender.next ≡ ReadSaved 0 → opened.means ≡ meaning_of mender.loaded.copies.used.bytes
    → IsHeader header_reader opened → device.told ≡ Some now
    → HasTexts (seals_in seal unseal mender) mender.site (zone_in mender opened) texts
    → IsFound mender.site.atom layout (zone_in mender opened) texts (view_of_cells now.now)
    → IsKnown (seals_in seal unseal mender) layout opened texts mender (view_of_cells now.now)

-- So it begins where a disk holds its bytes for certain, and in them what is saved, and both copies of
-- a header that says what the one says by which the zone is open: as an opening leaves it, once a
-- copy that lacked or was older is written anew.
abbrev pub MendStarts : {C : Type 0} → (C → ℕ) → (C → ℕ → List ℕ → List ℕ)
    → (C → ℕ → List ℕ → List ℕ) → Type 0
MendStarts {C} sector seal unseal =
    (layout : Layout) (mender : Mender C) (device : Device) (now : Told) (bytes : List ℕ)
    (stored : Stored) (texts : Texts) → IsOver sector layout mender device
    → mender.next ≡ ReadSaved 0
    → device.told ≡ Some now → IsCertain mender.loaded.valid.sizes bytes now.now
    → stored_in mender.loaded.valid.sizes (front_of mender.loaded.valid.sizes bytes) ≡ Ok stored
    → AreGood stored.copies
    → meaning_of stored.copies.used.bytes ≡ meaning_of mender.loaded.copies.used.bytes
    → IsLaidOut mender.loaded.valid.sizes.atom mender.loaded.valid.sizes.header_atoms
    stored.copies.used.header.hdr_size layout
    → HoldsZone mender.site bytes texts
    → ((opened : Header (List ℕ))
    → HasTexts (seals_in seal unseal mender) mender.site (zone_in mender opened) texts)
    → (opened : Header (List ℕ))
    × IsKnown (seals_in seal unseal mender) layout opened texts mender (view_of_cells now.now)

-- Each step but the last leads from what is known to what is known, and changes nothing but the
-- zone's own atoms and the header's copies.
abbrev pub MendGoes : {C : Type 0} → (C → ℕ) → (C → ℕ → List ℕ → List ℕ)
    → (C → ℕ → List ℕ → List ℕ) → Type 0
MendGoes {C} sector seal unseal =
    (layout : Layout) (opened : Header (List ℕ)) (texts : Texts) (before after : Mender C)
    (old new : Device) (now : Told) → IsOver sector layout before old
    → Goes (seals_in seal unseal before) old new before after false → new.told ≡ Some now
    → Leads old now (λ was is.
    IsKnown (seals_in seal unseal before) layout opened texts before was
    → IsKnown (seals_in seal unseal before) layout opened texts after is
    × StaysElsewhere layout (zone_in before opened) false was is)

-- The last one leaves the new atoms, and the header with the boundary moved, for certain, and no
-- atom in doubt.
abbrev pub MendEnds : {C : Type 0} → (C → ℕ) → (C → ℕ → List ℕ → List ℕ)
    → (C → ℕ → List ℕ → List ℕ) → Type 0
MendEnds {C} sector seal unseal =
    (layout : Layout) (opened : Header (List ℕ)) (texts : Texts) (before after : Mender C)
    (old new : Device) (now : Told) → IsOver sector layout before old
    → Goes (seals_in seal unseal before) old new before after true → new.told ≡ Some now
    → Leads old now (λ was is.
    IsKnown (seals_in seal unseal before) layout opened texts before was
    → IsThrough layout opened texts before after was is)

-- One that failed leaves what a stop may leave, and elsewhere no more than before.
abbrev pub MendFails : {C : Type 0} → (C → ℕ) → (C → ℕ → List ℕ → List ℕ)
    → (C → ℕ → List ℕ → List ℕ) → Type 0
MendFails {C} sector seal unseal =
    (layout : Layout) (opened : Header (List ℕ)) (texts : Texts) (before after : Mender C)
    (old new : Device) (now : Told) → IsOver sector layout before old
    → Fails (seals_in seal unseal before) old new before after → new.told ≡ Some now
    → Leads old now (λ was is.
    IsKnown (seals_in seal unseal before) layout opened texts before was
    → ShowsZone before.site.atom layout (zone_in before opened) texts (failed_in before) true is
    × StaysElsewhere layout (zone_in before opened) true was is)

-- ---- What others do beside the zone leaves what is known of it.
abbrev pub MendStays : (C : Type 0) → Type 0
MendStays C =
    (seals : Seals) (layout : Layout) (opened : Header (List ℕ)) (texts : Texts) (mender : Mender C)
    (old new : View) → CallBeside layout (zone_in mender opened) old new false
    → IsKnown seals layout opened texts mender old → IsKnown seals layout opened texts mender new
