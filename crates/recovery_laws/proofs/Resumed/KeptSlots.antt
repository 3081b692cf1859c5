-- What keyslots are read from is kept by the deeds of a volume that begins behind a header, while its
-- conversion goes on: so what an image stands for at a stop it stands for under the passphrase.
use Rattle.std.proofs.Common.{◌≡◌, ◌⊎◌, ◌∙◌, ◌+◌, ◌*◌, ◌/◌, ◌%◌, ◌<◌, ◌≤◌, inl, inr, ℕ, Bool, true, false, List}
use Rattle.std.proofs.Common.{[], length, replicate, None, Some, Ok, ap, arith, drop, refl, subst, sym}
use Rattle.std.proofs.Common.{if◌then◌else◌}
use Rattle.std.proofs.lemmas.Bool.{cases_lt}
use Rattle.std.proofs.lemmas.List.{get_or_past}
use Rattle.std.proofs.lemmas.Nat.{div-add-mod'}
use Rattle.base_terms.specs.Blocks.{joined, lengths}
use Rattle.crash_laws.specs.HeaderAreas.Commits.{MayBe}
use Rattle.crash_laws.specs.HeaderAreas.Headers.{Copy, Gives, IsLaidOut, place_of, primary, secondary}
use Rattle.base_terms.specs.declared.disk_sizes.Sizes.{Sizes}
use Rattle.sector_disk.proofs.DiskViews.Entries.{image_in, length-image}
use Rattle.sector_disk.specs.DiskViews.Parts.{block_at, cell_in, value_in}
use Rattle.crash_laws.specs.HotZones.Zones.{from_of, stage_of, to_of}
use Rattle.luks_store.specs.Copying.Meanings.{header_reader, size_in}
use Rattle.luks_meta.specs.declared.meta.Parts.{Parts}
use Rattle.luks_rules.specs.Areas.{areas_begin, areas_end}
use Rattle.luks_rules.specs.Rules.{first_fault}
use Rattle.luks_rules.specs.States.{IsPlaced, IsSound}
use Rattle.luks_rules.specs.declared.extents.Extent.{Extent}
use Rattle.luks_rules.specs.declared.valid.Checked.{Checked}
use Rattle.luks_store.proofs.CopyLemmas.{Spelt}
use Rattle.luks_store.proofs.GivenLemmas.{copy-whole, sized-by}
use Rattle.luks_store.proofs.LoadLemmas.{copies-stored, stands-used}
use Rattle.luks_store.specs.Devices.{IsCertain, front_of}
use Rattle.luks_store.specs.Promises.{AreasBeginBehind, GivenIsUsed}
use Rattle.luks_store.specs.declared.loaded.Stored.{Stored}
use Rattle.reenc_meta.specs.Placements.{place_of as place_by}
use Rattle.reenc_recovery.specs.Keys.{key_for}
use Rattle.recovery_laws.proofs.Resumed.GivenLemmas.{held-parts}
use Rattle.recovery_laws.proofs.Resumed.PassLemmas.{stands-for}
use Rattle.recovery_laws.proofs.Resumed.ShowLemmas.{current-in}
use Rattle.recovery_laws.proofs.Resumed.StopLemmas.{atom-at}
use Rattle.recovery_laws.specs.Resumed.Chaining.{StandsAgain}
use Rattle.recovery_laws.specs.Resumed.Passphrases.{StandsAgainFor}
use Rattle.recovery_laws.specs.Resumed.Starts.{BeginsBehind, layout_on}
use Rattle.sector_disk.specs.Cells.{Cell, IsImage, currents}
use Rattle.sector_disk.specs.Geometry.{IsAtom}
use Rattle.sector_disk.specs.Steps.{Told}
use Rattle.segment_map.specs.Maps.{place_on}
use Rattle.segment_map.specs.declared.Side.{Side}
use Rattle.segment_map.specs.declared.Side.TheVariants.{New, Old, Zone}
use Rattle.image_laws.specs.Sides.Keys.{SidesGiveTheirKeys}
use Rattle.image_laws.proofs.Started.HeaderLemmas.{known-of}
use Rattle.volume_laws.specs.Rest.{KeepsCell}
use Rattle.volume_machine.specs.Pieces.{place_in, side_in}
use Rattle.volume_machine.specs.States.{State}
use Rattle.volume_machine.specs.Works.{Work, converting, resting}
use Rattle.volume_machine.specs.declared.keys.Keys.{Keys}
use Rattle.volume_laws.specs.WorkerRuns.Leaving.{IsDropped, IsElsewhere, KeepsAtom, LeavesRest, SaysAs, SaysItEnds}
use Rattle.hotzone.proofs.ZoneEvents.GroundLemmas.{converting as under-way}
use Rattle.hotzone.specs.ZoneEvents.Heads.{header_on}
use Rattle.hotzone.specs.ZoneEvents.Readings.{parts_in, reading_of}
use Rattle.hotzone.specs.ZoneEvents.Sides.{SidesAreTold}

-- ---- an atom beside the blocks
-- a place that was certain, and is kept, has what it held
pub kept-there : (sizes : Sizes) (bytes : List ℕ) (before now : List Cell) (image : List (List ℕ))
    (place : ℕ) → IsCertain sizes bytes before
    → KeepsCell (cell_in before place) (cell_in now place) → IsImage now image
    → value_in image place ≡ (cell_in before place).current
kept-there sizes bytes before now image place certain keeps is = elim (cases_lt place (length now)) [
  | inl within ↦ elim (keeps.candidates _ (image_in now image place is within)) [
    | inl held ↦ certain.only place (value_in image place) held
    | inr same ↦ same
  ]
  | inr past ↦ get_or_past image place [] (omega (arith, length-image now image is, past))
      ∙ sym (ap (λ (cell : Cell). cell.current) (get_or_past now place _ past)) ∙ keeps.current
]

-- ---- where blocks lie
-- a segment begins behind the keyslots' areas, on its own disk or behind the header's
behind-areas : (detached : Bool) (header end offset atom b : ℕ) → offset % atom ≡ 0
    → (detached ≡ false → end ≤ offset) → (detached ≡ true → end ≤ header * atom)
    → end ≤ ((if detached then header else 0) + offset / atom + b) * atom
behind-areas true header end offset atom b whole attached apart =
    let sum : (header + offset / atom + b) * atom
    ≡ header * atom + offset / atom * atom + b * atom = omega arith in
    let fits = apart refl in omega (arith, sum, fits)
behind-areas false header end offset atom b whole attached apart =
    let sum : (0 + offset / atom + b) * atom ≡ offset / atom * atom + b * atom = omega arith in
    let cut = div-add-mod' offset atom in
    let fits = attached refl in omega (arith, sum, cut, whole, fits)

some-atom : {atom : ℕ} → IsAtom atom → 0 < atom
some-atom (inl is) = rw is (omega arith)
some-atom (inr is) = rw is (omega arith)

module _ {C : Type 0} {sector : C → ℕ} {sealed opened : C → ℕ → List ℕ → List ℕ} (sizes : Sizes)
    (header : Stored) (lanes : ℕ) (old_key new_key bytes : List ℕ) (volume : State (Keys C))
    (b : BeginsBehind sector sealed opened sizes header lanes old_key new_key bytes volume)
    (at-rest : volume.work
    ≡ Some (resting (layout_on sizes header) (header_on header) converting))
    (spelt : Spelt) (areas : AreasBeginBehind) where
  known-atom : IsAtom sizes.atom
  known-atom = subst (λ (n : ℕ). IsAtom n) b.map.atom b.order.sound.fits.known

  abbrev stored : Stored
  stored = b.holds.holds.stored

  meta-is : stored.valid.meta ≡ header.valid.meta
  meta-is = ap (λ (v : Checked). v.meta) b.holds.holds.same

  pub sound : IsSound header.valid.meta sizes
  sound =
      subst (λ (m : Parts). IsSound m sizes) meta-is
      (known-of sizes (front_of sizes bytes) stored (some-atom known-atom) b.holds.holds.held).sound

  pub first-parts : parts_in (header_on header).means ≡ Ok header.valid.meta
  first-parts =
      ap parts_in (sym b.holds.holds.means)
      ∙ (held-parts spelt sizes (front_of sizes bytes) stored b.holds.holds.held).read
      ∙ ap (λ (v : Checked). Ok v.meta) b.holds.holds.same

  pub first-valid : first_fault header.valid.meta sizes ≡ None
  first-valid =
      subst (λ (v : Checked). first_fault v.meta sizes ≡ None) b.holds.holds.same
      (held-parts spelt sizes (front_of sizes bytes) stored b.holds.holds.held).rules

  -- ---- where the copies lie
  pub size-is : size_in (header_on header).means ≡ stored.copies.used.header.hdr_size
  size-is =
      let used = copies-stored sizes (front_of sizes bytes) stored b.holds.holds.held in
      let (place, at) = stands-used spelt (front_of sizes bytes) stored.copies used in
      ap size_in (sym b.holds.holds.means)
      ∙ sized-by place stored.copies.used
      (copy-whole spelt place (drop place (front_of sizes bytes)) stored.copies.used at)

  pub begin : areas_begin header.valid.meta.config ≡ 2 * stored.copies.used.header.hdr_size
  begin =
      sym (ap (λ (m : Parts). areas_begin m.config) meta-is)
      ∙ areas sizes (front_of sizes bytes) stored b.holds.holds.held

  laid : IsLaidOut sizes.atom volume.disk.atoms (size_in (header_on header).means)
      (layout_on sizes header)
  laid =
      subst (λ (a : ℕ). IsLaidOut a volume.disk.atoms (size_in (header_on header).means)
      (layout_on sizes header)) b.map.atom
      (b.order.courses (resting (layout_on sizes header) (header_on header) converting) at-rest).laid

  copies : (copy : Copy) → ((place_of (layout_on sizes header) copy).start
      + (place_of (layout_on sizes header) copy).count) * sizes.atom
      ≤ areas_begin header.valid.meta.config
  copies primary =
      let all = begin in
      let one = laid.long in
      let same = size-is in
      let from = laid.first in
      omega (arith, all, one, same, from)
  copies secondary =
      let all = begin in
      let one = laid.long in
      let same = size-is in
      let n = header.copies.used.header.hdr_size / sizes.atom in
      let sum : (n + n) * sizes.atom ≡ n * sizes.atom + n * sizes.atom = omega arith in
      omega (arith, all, one, same, sum)

  -- ---- where the blocks lie
  segment-behind : (e : Extent) (k : ℕ) → IsPlaced header.valid.meta sizes e
      → areas_end header.valid.meta.config ≤ (place_by sizes e + k) * sizes.atom
  segment-behind e k placed =
      behind-areas sizes.detached sizes.header_atoms (areas_end header.valid.meta.config) e.offset
      sizes.atom k placed.whole placed.behind sound.within.detached

  on-side : (k : ℕ) (side : Side)
      → areas_end header.valid.meta.config ≤ place_on volume.map k side * sizes.atom
  on-side k Old =
      subst (λ (n : ℕ). areas_end header.valid.meta.config ≤ (n + k) * sizes.atom)
      (sym b.map.old_place)
      (segment-behind b.now.old k (under-way header.valid.meta sizes b.now sound b.known).1.old)
  on-side k Zone =
      subst (λ (n : ℕ). areas_end header.valid.meta.config ≤ (n + k) * sizes.atom)
      (sym b.map.old_place)
      (segment-behind b.now.old k (under-way header.valid.meta sizes b.now sound b.known).1.old)
  on-side k New =
      subst (λ (n : ℕ). areas_end header.valid.meta.config ≤ (n + k) * sizes.atom)
      (sym b.map.new_place)
      (segment-behind b.now.new k (under-way header.valid.meta sizes b.now sound b.known).1.new)

  blocks : (k : ℕ) → k < volume.map.blocks
      → areas_end header.valid.meta.config ≤ place_in volume.map k * sizes.atom
  blocks k below = on-side k (side_in volume.map k)

  long : length bytes ≡ volume.disk.atoms * volume.map.atom
  long = b.whole.bytes bytes b.holds.holds.values

  -- ---- behind deeds
  module _ (here : State (Keys C))
      (rest : LeavesRest (reading_of sizes) (layout_on sizes header) (header_on header).means volume
      here) where
    abbrev Kept : List ℕ → Type 0
    Kept image = (place : ℕ)
        → IsElsewhere (reading_of sizes) (layout_on sizes header) (header_on header).means volume place
        → (block_at sizes.atom image place ≡ block_at sizes.atom bytes place)
        ⊎ IsDropped (reading_of sizes) (header_on header).means here place

    -- an image of the table
    kept-image : (told : Told) → here.disk.told ≡ Some told → (image : List (List ℕ)) (atoms : ℕ)
        → IsImage told.now image → lengths image ≡ replicate atoms sizes.atom
        → Kept (joined image)
    kept-image told told_is image atoms is even place beside = elim (rest.rest place beside) [
      | inl keeps ↦ inl (same keeps)
      | inr dropped ↦ inr dropped
    ]
      where
        same : KeepsAtom volume here place
            → block_at sizes.atom (joined image) place ≡ block_at sizes.atom bytes place
        same keeps =
            let (before, was, cell) = keeps.cells told told_is in
            let certain = b.holds.holds.certain before was in
            atom-at sizes.atom atoms image place even
            ∙ kept-there sizes bytes before.now told.now image place certain cell is
            ∙ sym (current-in before.now place)
            ∙ sym (atom-at sizes.atom (length before.now) (currents before.now) place certain.even)
            ∙ ap (λ all. block_at sizes.atom all place) certain.holds

    -- what its disk holds
    pub kept-bytes : here.broken ≡ false → (now : List ℕ) → here.disk.values ≡ Some now → Kept now
    kept-bytes unbroken now values place beside = elim (rest.rest place beside) [
      | inl keeps ↦ inl (same keeps)
      | inr dropped ↦ inr dropped
    ]
      where
        same : KeepsAtom volume here place
            → block_at sizes.atom now place ≡ block_at sizes.atom bytes place
        same keeps =
            let (held, is, size, at) = keeps.bytes unbroken bytes b.holds.holds.values long in
            let one : held ≡ now =
            (let e : Some held ≡ Some now = sym is ∙ values in cc) in
            subst (λ (a : ℕ). block_at a now place ≡ block_at a bytes place) b.map.atom
            (subst (λ all. block_at volume.map.atom all place ≡ block_at volume.map.atom bytes place)
            one at)

    -- ---- what bytes stand for that are kept so
    module _ (told : SidesAreTold) (given : SidesGiveTheirKeys) (used : GivenIsUsed)
        (pass : List ℕ)
        (old_given : key_for header.valid.meta bytes pass b.now.old ≡ Some old_key)
        (new_given : key_for header.valid.meta bytes pass b.now.new ≡ Some new_key) (by : List ℕ)
        (may : (work : Work) → here.work ≡ Some work
        → MayBe (stage_of work.phase) (from_of work.zone work.phase).means
        (to_of work.zone work.phase).means by)
        (says : SaysAs (reading_of sizes) (header_on header).means by
        ⊎ SaysItEnds (reading_of sizes) (header_on header).means by) (content : List (List ℕ)) where
      pub bytes-for : (image : List ℕ) → Kept image
          → Gives header_reader (front_of sizes image) by
          → StandsAgain sizes old_key new_key image content
          → StandsAgainFor sizes pass image content
      bytes-for image kept gives =
          stands-for sizes known-atom told given (layout_on sizes header) (header_on header).means
          header.valid.meta first-parts first-valid sound b.now b.known volume here copies blocks bytes
          image pass kept spelt used by gives may old_key new_key old_given new_given says content

      pub image-for : (now : Told) → here.disk.told ≡ Some now → (image : List (List ℕ)) (atoms : ℕ)
          → IsImage now.now image → lengths image ≡ replicate atoms sizes.atom
          → Gives header_reader (front_of sizes (joined image)) by
          → StandsAgain sizes old_key new_key (joined image) content
          → StandsAgainFor sizes pass (joined image) content
      image-for now now_is image atoms is even gives =
          bytes-for (joined image) (kept-image now now_is image atoms is even) gives
