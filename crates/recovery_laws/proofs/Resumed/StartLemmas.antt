-- Runs start from a volume whose conversion is taken up again, as from the plain disk that holds for
-- certain the content that its bytes stand for.
use Rattle.std.proofs.Common.{◌≡◌, ◌∙◌, ◌%◌, ◌<◌, inl, inr, ℕ, suc, zero, true, false, List, length}
use Rattle.std.proofs.Common.{Option, Some, None, ap, ap₂, arith, refl, replicate, subst, sym}
use Rattle.std.specs.Option.{IfSome}
use Rattle.std.specs.Prelude.{Contains}
use Rattle.crash_laws.specs.HeaderAreas.Commits.{ShowsCommit, begun}
use Rattle.crash_laws.specs.HeaderAreas.Headers.{IsLaidOut}
use Rattle.base_terms.specs.declared.disk_sizes.Sizes.{Sizes}
use Rattle.sector_disk.specs.DiskViews.Parts.{AreBlocks, block_at, cell_in, value_in}
use Rattle.sector_disk.specs.DiskViews.Views.{view_of_bytes, view_of_cells}
use Rattle.luks_store.specs.Copying.Meanings.{header_reader}
use Rattle.luks_meta.specs.declared.segment.Encryption.{Encryption}
use Rattle.luks_rules.specs.Shapes.{progress_of}
use Rattle.luks_rules.specs.States.{IsConverting, IsSound as IsRuled}
use Rattle.luks_rules.specs.declared.extents.Extent.{Extent}
use Rattle.luks_rules.specs.declared.shape.Progress.{Progress}
use Rattle.luks_rules.specs.declared.valid.Checked.{Checked}
use Rattle.luks_store.specs.Devices.{IsCertain, front_of}
use Rattle.luks_store.specs.declared.loaded.Stored.{Stored}
use Rattle.image_laws.proofs.Opened.OneLemmas.{same-place, same-side}
use Rattle.image_laws.specs.Opened.Images.{seals_at}
use Rattle.plain_disk.proofs.BlockLemmas.{sure_of_settled}
use Rattle.plain_disk.specs.Plain.{Block, settled_blocks, values_of}
use Rattle.reenc_meta.specs.ConversionMaps.{IsMapAt}
use Rattle.reenc_recovery.proofs.PlacingLemmas.{is_idle}
use Rattle.reenc_recovery.specs.Images.{StandsUnder}
use Rattle.reenc_recovery.specs.Keys.{sector_by, seals_by}
use Rattle.recovery_laws.proofs.Resumed.HeldBlocks.{length-settled, settled-in}
use Rattle.recovery_laws.proofs.Resumed.ShowLemmas.{current-of, told-both}
use Rattle.recovery_laws.specs.Resumed.Starts.{BeginsBehind, BegunConversionsStart, layout_on, volume_seals}
use Rattle.sector_disk.specs.Geometry.{IsAtom}
use Rattle.sector_disk.specs.Steps.{Told}
use Rattle.segment_map.specs.Maps.{place_on}
use Rattle.segment_map.specs.declared.Side.{Side}
use Rattle.segment_map.specs.declared.Side.TheVariants.{New, Old, Zone}
use Rattle.segment_map.specs.declared.map.Map.{Map}
use Rattle.image_laws.proofs.Started.BlockLemmas.{progress-busy}
use Rattle.image_laws.proofs.Started.GapLemmas.{one-header}
use Rattle.image_laws.proofs.Started.HeaderLemmas.{known-of}
use Rattle.volume_laws.specs.Contents.{AreBlocksOf, Covers, IsSealed, StandsFor, block_in}
use Rattle.volume_laws.specs.Converting.{StartsCertain, StartsUnder}
use Rattle.volume_machine.specs.Pieces.{place_in, side_in}
use Rattle.volume_machine.specs.Seals.{AreLawful, Seals, seals_of}
use Rattle.volume_machine.specs.States.{State, open_at}
use Rattle.volume_machine.specs.Works.{converting, resting}
use Rattle.volume_machine.specs.declared.keys.Keys.{Keys}
use Rattle.hotzone.proofs.ZoneEvents.GroundLemmas.{busy-of, one-progress}
use Rattle.hotzone.specs.ZoneEvents.Heads.{header_on}
use Rattle.hotzone.specs.ZoneEvents.Readings.{reading_of}
use Rattle.hotzone.specs.ZoneEvents.Works.{layout_for}
use Rattle.image_laws.proofs.Led.KeyLemmas.{same-sealed}

-- ---- lanes with nothing under way
idle-lane : (lanes lane : ℕ) → open_at (replicate lanes None) lane ≡ None
idle-lane zero lane = refl
idle-lane (suc lanes) zero = refl
idle-lane (suc lanes) (suc lane) = idle-lane lanes lane

-- ---- the keys of segments whose sectors divide an atom
sectors-fit : (e : Option Encryption) (atom n : ℕ) → n ≡ sector_by e → IsAtom atom
    → IfSome e (λ c. (0 < c.sector_size) × (atom % c.sector_size ≡ 0)) → atom % n ≡ 0
sectors-fit None atom n is (inl known) sectors = rw (is, known) refl
sectors-fit None atom n is (inr known) sectors = rw (is, known) refl
sectors-fit (Some c) atom n is known sectors = rw is sectors.1

some-atom : (atom : ℕ) → IsAtom atom → 0 < atom
some-atom atom (inl is) = rw is (omega arith)
some-atom atom (inr is) = rw is (omega arith)

-- ---- a volume that begins behind a header
module _ {C : Type 0} {sector : C → ℕ} {sealed opened : C → ℕ → List ℕ → List ℕ}
    (lawfully : (keys : Keys C) (atom : ℕ) → IsAtom atom → atom % sector keys.old ≡ 0
    → atom % sector keys.new ≡ 0 → AreLawful atom (seals_of sealed opened atom keys))
    (sizes : Sizes) (header : Stored) (lanes : ℕ) (old_key new_key bytes : List ℕ)
    (volume : State (Keys C)) (content : List (List ℕ))
    (b : BeginsBehind sector sealed opened sizes header lanes old_key new_key bytes volume)
    (stands : StandsUnder sizes old_key new_key bytes content) where
  abbrev seals : Seals
  seals = volume_seals sealed opened volume

  known-atom : IsAtom volume.map.atom
  known-atom = b.order.sound.fits.known

  atom-known : IsAtom sizes.atom
  atom-known = subst (λ (n : ℕ). IsAtom n) b.map.atom known-atom

  -- its header breaks no rule
  pub ruled : IsRuled header.valid.meta sizes
  ruled =
      subst (λ (v : Checked). IsRuled v.meta sizes) b.holds.holds.same
      (known-of sizes (front_of sizes bytes) b.holds.holds.stored (some-atom sizes.atom atom-known)
      b.holds.holds.held).sound

  conv : (live : List Extent) × IsConverting header.valid.meta sizes b.now live
  conv =
      let here = (ruled.busy (busy-of header.valid.meta sizes b.now b.known)).1 in (
        here.2.0,
        subst (λ q. IsConverting header.valid.meta sizes q here.2.0)
            (one-progress header.valid.meta sizes here.0 b.now here.1 b.known) here.2.1,
      )

  lawful : AreLawful volume.map.atom seals
  lawful =
      let at : (n : ℕ) → sizes.atom % n ≡ 0 → volume.map.atom % n ≡ 0 =
      λ n is. subst (λ (a : ℕ). a % n ≡ 0) (sym b.map.atom) is in
      lawfully volume.keys volume.map.atom known-atom
      (at (sector volume.keys.old) (sectors-fit b.now.old.encryption sizes.atom
      (sector volume.keys.old) b.keys.old_cipher.sectors atom-known conv.1.old.sectors))
      (at (sector volume.keys.new) (sectors-fit b.now.new.encryption sizes.atom
      (sector volume.keys.new) b.keys.new_cipher.sectors atom-known conv.1.new.sectors))

  -- ---- the content
  -- how the header of the bytes places it
  pub record IsPlaced : Type 0 where
    pub map : IsMapAt sizes b.now stands.placement.map
    pub old : stands.placement.old ≡ b.now.old
    pub new : stands.placement.new ≡ b.now.new

  known-here : progress_of stands.stored.valid.meta sizes ≡ Some b.now
  known-here =
      subst (λ (v : Checked). progress_of v.meta sizes ≡ Some b.now)
      (sym (ap (λ (s : Stored). s.valid)
      (one-header sizes bytes stands.stored b.holds.holds.stored stands.header b.holds.holds.held)
      ∙ b.holds.holds.same)) b.known

  pub placed : IsPlaced
  placed = elim stands.placed [
    | inl idle ↦ absurd (let e : false ≡ true =
        sym (is_idle stands.stored.valid.meta sizes stands.placement idle)
        ∙ progress-busy stands.stored.valid.meta sizes b.now known-here in cc)
    | inr (c, is, here) ↦
        (let same = one-progress stands.stored.valid.meta sizes c b.now is known-here in
        record {
          map = subst (λ (p : Progress). IsMapAt sizes p stands.placement.map) same here.map;
          old = here.old ∙ ap (λ (p : Progress). p.old) same;
          new = here.new ∙ ap (λ (p : Progress). p.new) same;
        })
  ]

  abbrev map : Map
  map = stands.placement.map

  same-blocks : map.blocks ≡ volume.map.blocks
  same-blocks = placed.map.blocks ∙ sym b.map.blocks

  -- a block as the volume has it
  held-block : (k : ℕ) → k < volume.map.blocks → IsSealed volume.map seals k (value_in content k)
      (block_at volume.map.atom bytes (place_in volume.map k))
  held-block k below =
      let is = placed in
      let block = stands.holds.blocks k (subst (λ n. k < n) (sym same-blocks) below) in
      let side = same-side sizes b.now map volume.map is.map b.map k in
      let place = same-place sizes b.now map volume.map is.map b.map k in
      let atoms : map.atom ≡ volume.map.atom = is.map.atom ∙ sym b.map.atom in
      let text : block_at volume.map.atom bytes (place_in volume.map k)
      ≡ block_at sizes.atom bytes (place_in map k) =
      ap (λ a. block_at a bytes (place_in volume.map k)) b.map.atom
      ∙ ap (λ n. block_at sizes.atom bytes n) (sym place) in (
        subst (λ (a : ℕ). AreBlocks a 1 (value_in content k)) atoms block.sealed.0,
        text ∙ block.sealed.1
            ∙ ap₂ (λ o n. (seals_by sizes.atom o n old_key new_key).sealed (side_in map k) k
            (value_in content k)) is.old is.new
            ∙ ap (λ s. (seals_at sizes.atom b.now old_key new_key).sealed s k (value_in content k)) side
            ∙ sym (same-sealed sector sealed opened b.now old_key new_key volume.keys b.keys sizes.atom
            (side_in volume.map k) k (value_in content k))
            ∙ ap (λ a. (seals_of sealed opened a volume.keys).sealed (side_in volume.map k) k
            (value_in content k)) (sym b.map.atom),
      )

  newest : (k : ℕ) → (block_in (settled_blocks content) k).newest ≡ value_in content k
  newest k = ap (λ (block : Block). block.newest) (settled-in content k)

  stands-for : StandsFor volume.map seals (settled_blocks content) bytes
  stands-for k below =
      subst (λ v. IsSealed volume.map seals k v
      (block_at volume.map.atom bytes (place_in volume.map k))) (sym (newest k)) (held-block k below)

  are : AreBlocksOf volume.map (settled_blocks content)
  are = record {
    count = length-settled content ∙ stands.holds.count ∙ same-blocks;
    newest = λ k below. subst (λ v. AreBlocks volume.map.atom 1 v) (sym (newest k))
        (held-block k below).0;
  }

  -- ---- the start
  at-rest : volume.work ≡ Some (resting (layout_on sizes header) (header_on header) converting)
  at-rest =
      ap (λ (v : State (Keys C)). v.work) b.armed
      ∙ ap (λ (s : Sizes). Some (resting
      (layout_for s.atom header.copies.used.header.hdr_size) (header_on header) converting))
      b.sizes_are

  pub starts-under : StartsUnder (reading_of sizes) (layout_on sizes header) (header_on header)
      converting volume (volume_seals sealed opened volume) (settled_blocks content) bytes
  starts-under = record {
    sound = b.order.sound;
    lanes = λ lane. ap (λ (v : State (Keys C)). open_at v.lanes lane) b.armed ∙ idle-lane lanes lane;
    unbroken = ap (λ (v : State (Keys C)). v.broken) b.armed;
    at_rest = at-rest;
    works = b.order.works;
    courses = b.order.courses;
    apart = b.order.apart;
    lawful = lawful;
    are = are;
    sure = sure_of_settled content;
    values = b.holds.holds.values;
    stands = stands-for;
    whole = b.whole;
    copies = subst (λ (a : ℕ). ShowsCommit a (layout_on sizes header) (header_on header)
        (header_on header) begun false (view_of_bytes a bytes)) (sym b.map.atom) b.holds.copies;
  }

  -- ---- each image of it
  place-on : (side : Side) (k : ℕ) → k < volume.map.blocks
      → place_on volume.map k side < volume.disk.atoms
  place-on Old k below =
      let fits = b.order.sound.fits.old_places in omega (arith, below, fits)
  place-on Zone k below =
      let fits = b.order.sound.fits.old_places in omega (arith, below, fits)
  place-on New k below =
      let fits = b.order.sound.fits.new_places in omega (arith, below, fits)

  module _ (told : Told) (told_is : volume.disk.told ≡ Some told) where
    certain : IsCertain sizes bytes told.now
    certain = b.holds.holds.certain told told_is

    many : length told.now ≡ volume.disk.atoms
    many = b.whole.cells told told_is

    current : (k : ℕ) → k < volume.map.blocks
        → (cell_in told.now (place_in volume.map k)).current
        ≡ block_at volume.map.atom bytes (place_in volume.map k)
    current k below =
        let here = place-on (side_in volume.map k) k below in
        let all = many in
        current-of sizes bytes told.now certain (place_in volume.map k) (omega (arith, here, all))
        ∙ ap (λ a. block_at a bytes (place_in volume.map k)) (sym b.map.atom)

    covers : Covers volume.map seals (settled_blocks content) told.now
    covers = record {
      current = λ k below. subst (λ text. IsSealed volume.map seals k
          (block_in (settled_blocks content) k).newest text) (sym (current k below))
          (stands-for k below);
      candidates = λ k below text has. (
        (block_in (settled_blocks content) k).newest,
        has-newest k,
        subst (λ t. IsSealed volume.map seals k (block_in (settled_blocks content) k).newest t)
            (sym (certain.only (place_in volume.map k) text has ∙ current k below))
            (stands-for k below),
      );
    }
      where
        has-newest : (k : ℕ) → Contains (values_of (block_in (settled_blocks content) k))
            (block_in (settled_blocks content) k).newest
        has-newest k =
            subst (λ (block : Block). Contains (values_of block) block.newest)
            (sym (settled-in content k)) (0, omega arith, refl)

    told-copies : ShowsCommit volume.map.atom (layout_on sizes header) (header_on header)
        (header_on header) begun false (view_of_cells told.now)
    told-copies =
        let size = header_reader.size (header_on header).means in
        let laid : IsLaidOut volume.map.atom volume.disk.atoms size (layout_on sizes header) =
        (b.order.courses (resting (layout_on sizes header) (header_on header) converting) at-rest).laid
        in
        subst (λ (a : ℕ). ShowsCommit a (layout_on sizes header) (header_on header)
        (header_on header) begun false (view_of_cells told.now)) (sym b.map.atom)
        (told-both sizes bytes told.now certain volume.disk.atoms size (layout_on sizes header)
        (let all = many in omega (arith, all))
        (subst (λ (a : ℕ). IsLaidOut a volume.disk.atoms size (layout_on sizes header)) b.map.atom laid)
        (header_on header) b.holds.copies)

  pub starts-certain : StartsCertain (layout_on sizes header) (header_on header) volume
      (volume_seals sealed opened volume) (settled_blocks content)
  starts-certain = record {
    covered = λ told told_is. covers told told_is;
    copies = λ told told_is. told-copies told told_is;
  }

pub begun-start : {C : Type 0} (sector : C → ℕ) (sealed opened : C → ℕ → List ℕ → List ℕ)
    → ((keys : Keys C) (atom : ℕ) → IsAtom atom → atom % sector keys.old ≡ 0
    → atom % sector keys.new ≡ 0 → AreLawful atom (seals_of sealed opened atom keys))
    → BegunConversionsStart sector sealed opened
begun-start sector sealed opened lawfully sizes header lanes old_key new_key bytes volume content b
    stands = (
      starts-under lawfully sizes header lanes old_key new_key bytes volume content b stands,
      starts-certain lawfully sizes header lanes old_key new_key bytes volume content b stands,
    )
