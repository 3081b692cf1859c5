-- What the calls of a zone that is written again touch lies on its disk.
use Rattle.std.proofs.Common.{◌≡◌, ◌∙◌, ℕ, ◌+◌, ◌*◌, ◌/◌, ◌<◌, ◌≤◌, ◌==◌, cond, Bool, true, false}
use Rattle.std.proofs.Common.{List, length, refl, sym, ap, subst, arith}
use Rattle.std.proofs.Math.Nat.{mul-le-mul_right}
use Rattle.std.proofs.lemmas.Bool.{eqb-true}
use Rattle.std.proofs.lemmas.List.{length-take-le}
use Rattle.crash_laws.specs.HotZones.Zones.{mending}
use Rattle.hotzone.proofs.GuardLemmas.{ceil-fewer, saved-within, saved_part}
use Rattle.hotzone.proofs.KnownLemmas.{part-fits, part-some}
use Rattle.hotzone.proofs.LawLemmas.{most-atoms, some-atom}
use Rattle.hotzone.proofs.SiteLemmas.{own-within, site-count, site-within}
use Rattle.hotzone.specs.Known.{part_of}
use Rattle.hotzone.specs.Sites.{IsPartStart, bytes_at, count_of, guard_of, kind_of, part_at}
use Rattle.hotzone.specs.Sites.{saved_at}
use Rattle.hotzone.specs.declared.site.Guard.{Guard}
use Rattle.hotzone.specs.declared.site.Guard.TheVariants as guards
use Rattle.hotzone.specs.declared.site.Site.{Site}
use Rattle.sector_disk.specs.JoinedDisks.Counts.{HasSizes}
use Rattle.luks_store.specs.declared.header_copies.commit.Stage.{Stage}
use Rattle.luks_store.specs.declared.loaded.Stored.{Stored}
use Rattle.reenc_meta.specs.Placements.{all_atoms}
use Rattle.resil_checksum.specs.Digests.{saved_len}
use Rattle.sector_disk.specs.Devices.{Device}
use Rattle.sector_disk.specs.Geometry.{IsAtom}
use Rattle.segment_map.specs.declared.map.Map.{Map}
use Rattle.volume_machine.proofs.KeyLemmas.{fewer-blocks}
use Rattle.volume_machine.specs.Saved.{saved_atoms}
use Rattle.volume_machine.specs.Seals.{KeysFit}
use Rattle.zone_mending.specs.Known.{phase_by}
use Rattle.zone_mending.specs.Menders.{FitsDisk, HasRoomBy, IsMending, after_write}
use Rattle.zone_mending.specs.OpenZones.{IsOpenZone}
use Rattle.zone_mending.specs.declared.mender.MendCall.TheVariants.{ReadSaved, Settle}
use Rattle.zone_mending.specs.Steps.{digests_of}
use Rattle.zone_mending.specs.declared.mender.Mender.{Mender}

-- ---- the open zone
-- it has the blocks that its header says
pub zone-count : (header : Stored) (map : Map) (site : Site) → IsOpenZone header map site
    → count_of site ≡ map.zone
zone-count header map site is =
    let left = map.zone_left in
    ap (λ (s : Site). count_of s) is.site_is
    ∙ (let count = site-count map map.zone (is.now.conversion.area.offset / header.valid.sizes.atom)
    (guard_of is.now.conversion.resilience) in
    omega (arith, count, left))

pub zone-within : (header : Stored) (map : Map) (site : Site) → IsOpenZone header map site
    → site.blocks.start + count_of site ≤ map.blocks
zone-within header map site is =
    subst (λ (s : Site). s.blocks.start + count_of s ≤ map.blocks) (sym is.site_is)
    (let within = site-within map map.zone in
    let count = site-count map map.zone (is.now.conversion.area.offset / header.valid.sizes.atom)
    (guard_of is.now.conversion.resilience) in
    omega (arith, within, count))

pub zone-own : (header : Stored) (map : Map) (site : Site) (atoms : ℕ) → IsOpenZone header map site
    → map.old_place + map.blocks ≤ atoms → site.own + count_of site ≤ atoms
zone-own header map site atoms is fits =
    subst (λ (s : Site). s.own + count_of s ≤ atoms) (sym is.site_is)
    (own-within map map.zone (is.now.conversion.area.offset / header.valid.sizes.atom)
    (guard_of is.now.conversion.resilience) atoms fits)

-- ---- its calls
pub fits-disk : {C : Type 0} (sector : C → ℕ) (m : Mender C) (device : Device) → IsMending sector m
    → HasSizes m.loaded.valid.sizes device → FitsDisk sector m device
fits-disk sector m device is sizes =
    let atom : m.site.atom ≡ m.loaded.valid.sizes.atom =
    ap (λ (s : Site). s.atom) is.zone.site_is ∙ is.zone.map_is.atom in
    let all = sizes.all in
    let own = zone-own m.loaded is.map m.site (all_atoms m.loaded.valid.sizes) is.zone
    is.fits.old_places in
    let store = is.store in
    record {
      known = subst IsAtom (sym atom) is.disk.known;
      size = atom ∙ sizes.atom;
      own = omega (arith, own, all);
      store = omega (arith, store, all);
      room = is.room;
      digest_room = is.digest_room;
      keys =
          subst (λ a. KeysFit sector m.keys a (m.site.blocks.start + count_of m.site))
          (is.zone.map_is.atom ∙ sym atom)
          (fewer-blocks sector m.keys is.map.atom is.map.blocks _
          (zone-within m.loaded is.map m.site is.zone) is.keys);
    }

-- ---- its parts
pub all-saved : (g : Guard) (atom n : ℕ) → g ≡ guards.Journal
    → saved_atoms (kind_of g) atom n ≡ n
all-saved guards.Journal atom n by = refl
all-saved guards.Checksum atom n by = absurd cc

room-at : (g : Guard) (site : Site) (digests : List ℕ) → g ≡ guards.Checksum
    → HasRoomBy g site digests → saved_len (part_at site 0) site.atom ≤ length digests
room-at guards.Journal site digests by room = absurd cc
room-at guards.Checksum site digests by room = room

module _ {C : Type 0} (sector : C → ℕ) (m : Mender C) (old : Device)
    (fits : FitsDisk sector m old) where
  pub some-here : 0 < old.size
  some-here = subst (λ n. 0 < n) fits.size (some-atom m.site.atom fits.known)

  pub part-long : (buffer : List ℕ) (done : ℕ) → bytes_at m.site 0 ≤ length buffer
      → length (part_of m.site buffer done) ≡ part_at m.site done * old.size
  part-long buffer done room =
      let less : part_at m.site done ≤ part_at m.site 0 = omega arith in
      let fewer = mul-le-mul_right m.site.atom less in
      length-take-le (bytes_at m.site done) buffer (omega (arith, fewer, room))
      ∙ ap (λ a. part_at m.site done * a) fits.size

  pub own-fits : (done : ℕ) → done ≤ count_of m.site
      → m.site.own + done + part_at m.site done ≤ old.atoms
  own-fits done within =
      let part = part-fits m.site done within in
      let own = fits.own in omega (arith, part, own)

  -- by journal each old atom is saved in its place
  pub atoms-fit : (done : ℕ) → m.site.guard ≡ guards.Journal → done ≤ count_of m.site
      → m.site.store + done + part_at m.site done ≤ old.atoms
  atoms-fit done by within =
      let all = all-saved m.site.guard m.site.atom (count_of m.site) by in
      let part = part-fits m.site done within in
      let store = fits.store in omega (arith, part, store, all)

  -- what is saved of one lies on the disk
  pub store-fits : (done : ℕ) → done ≤ count_of m.site → IsPartStart m.site done
      → m.site.store + saved_at m.site done + saved_part m.site done ≤ old.atoms
  store-fits done within start =
      let part = saved-within m.site done fits.known start within in
      let store = fits.store in omega (arith, part, store)

  -- by checksum its digests have room
  pub digests-long : (digests : List ℕ) (done : ℕ) → m.site.guard ≡ guards.Checksum
      → length digests ≡ length m.digests
      → length (digests_of m.site digests done) ≡ saved_part m.site done * old.size
  digests-long digests done by same =
      let less : part_at m.site done ≤ part_at m.site 0 = omega arith in
      let fewer = mul-le-mul_right m.site.atom
      (ceil-fewer m.site.atom (part_at m.site done) (part_at m.site 0) fits.known less) in
      let room = room-at m.site.guard m.site m.digests by fits.digest_room in
      length-take-le (saved_len (part_at m.site done) m.site.atom) digests
      (omega (arith, fewer, room, same))
      ∙ ap (λ g. saved_atoms (kind_of g) m.site.atom (part_at m.site done) * m.site.atom) (sym by)
      ∙ ap (λ a. saved_part m.site done * a) fits.size

  pub some-part : (done : ℕ) → done < count_of m.site → 0 < part_at m.site done
  some-part done below = part-some m.site done (most-atoms m.site.atom fits.known) below

-- how far it is behind a part
pub phase-written : (site : Site) (stage : Stage) (done : ℕ)
    → phase_by (count_of site) stage (after_write site done)
    ≡ mending (done + part_at site done)
phase-written site stage done = go (done + part_at site done == count_of site) refl
  where
    go : (b : Bool) → (done + part_at site done == count_of site) ≡ b
        → phase_by (count_of site) stage (cond b Settle (ReadSaved (done + part_at site done)))
        ≡ mending (done + part_at site done)
    go true is = ap mending (sym (eqb-true _ _ is))
    go false is = refl
