-- Wherever a run stops of a volume that a passphrase opened, each image stands by itself.
use Rattle.std.proofs.Common.{◌≡◌, ◌≢◌, ◌∙◌, ℕ, suc, ◌+◌, ◌*◌, ◌<◌, ◌≤◌, List, ◌++◌, take}
use Rattle.std.proofs.Common.{ap, sym, subst, arith, inl, inr, mul-le-mul_right, Option, Some, None}
use Rattle.std.proofs.Common.{Ok}
use Rattle.std.specs.Prelude.{IsSomeAnd}
use Rattle.base_terms.specs.Blocks.{joined}
use Rattle.sector_disk.proofs.DiskViews.Blockwise.{block_end}
use Rattle.base_terms.specs.declared.disk_sizes.Sizes.{Sizes}
use Rattle.sector_disk.specs.DiskViews.Parts.{cell_in, value_in}
use Rattle.header_report.specs.Examinations.{sizes_alone}
use Rattle.luks_meta.specs.declared.digest.Digest.{Digest}
use Rattle.luks_meta.specs.declared.meta.Parts.{Parts}
use Rattle.luks_rules.specs.Areas.{areas_end}
use Rattle.luks_rules.specs.Idles.{idle_of}
use Rattle.luks_rules.specs.Segments.{in_progress}
use Rattle.luks_rules.specs.States.{IsSound as HasRules}
use Rattle.luks_rules.specs.declared.extents.Extent.{Extent}
use Rattle.luks_rules.specs.declared.idle.Idle.{Idle}
use Rattle.luks_rules.specs.declared.valid.Checked.{Checked}
use Rattle.luks_slots.specs.Laws.{KeysAreInAreas}
use Rattle.luks_slots.specs.Unlocks.{key_of}
use Rattle.luks_store.specs.Devices.{front_of}
use Rattle.luks_store.specs.Loads.{stored_in}
use Rattle.luks_store.specs.Promises.{AreasBeginBehind, FrontsAreLoaded}
use Rattle.luks_store.specs.declared.copies.CopyState.TheVariants.{Good, Lacking}
use Rattle.luks_store.specs.declared.loaded.Stored.{Stored}
use Rattle.plain_disk.specs.Plain.{Block}
use Rattle.reenc_meta.specs.Placements.{IsPlacementOf, PlacedBy}
use Rattle.reenc_recovery.specs.Images.{StandsFor}
use Rattle.reenc_recovery.specs.Keys.{key_for, used_by}
use Rattle.reenc_recovery.specs.Placings.{RestsIn}
use Rattle.reenc_recovery.proofs.PlacingLemmas.{rests_by}
use Rattle.reenc_recovery.specs.Volumes.{IsVolumeOf}
use Rattle.sector_disk.specs.Cells.{IsImage, content}
use Rattle.sector_disk.specs.Devices.{Device}
use Rattle.sector_disk.specs.Geometry.{IsAtom}
use Rattle.sector_disk.specs.Steps.{Told}
use Rattle.segment_map.specs.declared.map.Map.{Map}
use Rattle.volume_laws.proofs.Executions.{run-front}
use Rattle.volume_laws.specs.Contents.{IsAllowedAt, IsSealed, StopsAllowed}
use Rattle.volume_laws.specs.Promises.{GoesByEvents}
use Rattle.volume_laws.specs.Rest.{KeepsRest}
use Rattle.volume_machine.proofs.NextPieces.{on_disk}
use Rattle.volume_machine.specs.Beginnings.{IsFresh}
use Rattle.volume_machine.specs.Edges.{InPlain}
use Rattle.volume_machine.specs.Pieces.{place_in, side_in}
use Rattle.volume_machine.specs.Runs.{Happening, IsRun, last_of}
use Rattle.volume_machine.specs.Seals.{Seals, seals_of}
use Rattle.volume_machine.specs.Sound.{IsSound}
use Rattle.volume_machine.specs.States.{IsGoverned, State}
use Rattle.volume_machine.specs.Working.{KeepsApart}
use Rattle.volume_machine.specs.declared.keys.Keys.{Keys}
use Rattle.volume_machine.specs.Works.{Work}
use Rattle.volume_opening.proofs.KeyLemmas.{its_idle, one_idle}
use Rattle.volume_opening.proofs.OpenedLemmas.{same_stored, unlocked}
use Rattle.volume_opening.proofs.StopLemmas.{key_same, loads, stands, stopped, value_is}
use Rattle.volume_opening.specs.Openings.{IsKeyFound, IsOpenedBy}
use Rattle.volume_opening.specs.Stops.{StandsAlong}

-- where no zone is at hand no block is governed, and each is live
none_governed : {K : Type 0} (state : State K) (b : ℕ) → state.work ≡ None → IsGoverned state b → ⊥
none_governed state b none governed =
    let is : IsSomeAnd None (λ (work : Work). (work.range.start ≤ b) × (b < work.range.end)) =
    subst (λ (w : Option Work). IsSomeAnd w
    (λ (work : Work). (work.range.start ≤ b) × (b < work.range.end))) none governed in
    absurd is

some_atom : (atom : ℕ) → IsAtom atom → 0 < atom
some_atom atom (inl is) = omega (arith, is)
some_atom atom (inr is) = omega (arith, is)

module _ {C : Type 0} (sector : C → ℕ) (sealed opened : C → ℕ → List ℕ → List ℕ) (device : Device)
    (pass first : List ℕ) (lanes : ℕ) (volume : State (Keys C))
    (by : IsOpenedBy sector sealed opened device pass lanes volume)
    (told : device.values ≡ Some first) where
  abbrev sizes : Sizes
  sizes = sizes_alone device

  pub is : IsVolumeOf sector sealed opened sizes by.key by.stored first volume
  is = by.held first told

  abbrev seals : Seals
  seals = seals_of sealed opened volume.map.atom volume.keys

  abbrev then : Parts
  then = by.stored.valid.meta

  meta_same : is.still.stored.valid.meta ≡ then
  meta_same =
      ap (λ (s : Stored). s.valid.meta)
      (same_stored (stored_in sizes (front_of sizes is.now)) is.still.stored is.stands.holds.stored
      is.still.header is.stands.holds.held)
      ∙ ap (λ (c : Checked). c.meta) is.stands.holds.same

  -- an image that has its header rests
  rests_with : (image : List ℕ) → stored_in sizes (front_of sizes image) ≡ Ok is.still.stored
      → RestsIn sizes image
  rests_with image header =
      let found = by.under.key_found in
      rests_by sizes image is.still.stored header
      (ap (λ (m : Parts). in_progress m.config) meta_same
      ∙ one_idle then by.stored.valid.sizes found.sound found.idle found.is)

  -- the volume has a block, and what lies in front of it is on the disk
  has_block : 0 < volume.map.blocks
  has_block =
      let found = by.under.key_found in
      let idle = its_idle then by.stored.valid.sizes found.sound found.idle found.is in
      let placed : PlacedBy sizes (Some found.idle) is.still.placement =
      subst (λ (v : Option Idle). PlacedBy sizes v is.still.placement)
      (ap (λ (m : Parts). idle_of m sizes) meta_same
      ∙ ap (λ (s : Sizes). idle_of then s) (sym by.under.found.sizes) ∙ found.is)
      is.still.opening.placed in
      let count : volume.map.blocks ≡ found.idle.blocks =
      ap (λ (m : Map). m.blocks) is.still.map ∙ placed.blocks in
      let some = idle.some in omega (arith, count, some)

  behind : (b : ℕ) → b < volume.map.blocks
      → areas_end is.still.stored.valid.meta.config ≤ place_in volume.map b * volume.map.atom
  behind b below =
      subst (λ (m : Map). areas_end is.still.stored.valid.meta.config ≤ place_in m b * m.atom)
      (sym is.still.map)
      (is.still.opening.right.behind b (subst (λ (m : Map). b < m.blocks) is.still.map below))

  within : (b : ℕ) → b < volume.map.blocks → place_in volume.map b < volume.disk.atoms
  within b below =
      (let end = on_disk volume.map volume.disk.atoms b 1 (side_in volume.map b) by.sound.fits
      (omega (arith, below)) in omega (arith, end))

  ends : areas_end is.still.stored.valid.meta.config ≤ volume.disk.atoms * volume.map.atom
  ends =
      let front = behind 0 has_block in
      let inside = within 0 has_block in
      let more : suc (place_in volume.map 0) * volume.map.atom
      ≤ volume.disk.atoms * volume.map.atom =
      mul-le-mul_right volume.map.atom inside in
      omega (arith, front, more, block_end volume.map.atom (place_in volume.map 0))

  room : areas_end is.still.stored.valid.meta.config ≤ device.atoms * device.size
  room =
      let p = is.still.placement in
      let below : 0 < p.map.blocks = subst (λ (m : Map). 0 < m.blocks) is.still.map has_block in
      let front = is.still.opening.right.behind 0 below in
      let all : 0 + device.atoms ≡ device.atoms = omega arith in
      let inside = on_disk p.map (0 + device.atoms) 0 1 (side_in p.map 0)
      is.still.opening.right.fits (omega (arith, below)) in
      let more : suc (place_in p.map 0) * p.map.atom ≤ device.atoms * p.map.atom =
      mul-le-mul_right p.map.atom (omega (arith, inside, all)) in
      subst (λ (a : ℕ). areas_end is.still.stored.valid.meta.config ≤ device.atoms * a)
      is.still.opening.right.atom
      (omega (arith, front, more, block_end p.map.atom (place_in p.map 0)))

  -- what the keyslots gave to the passphrase they give still
  key_now : KeysAreInAreas → (e : Extent) → (k : List ℕ) → key_for then first pass e ≡ Some k
      → key_for is.still.stored.valid.meta is.now pass e ≡ Some k
  key_now areas e k was =
      let found = by.under.key_found in
      let same : (d : Digest) → key_of then d is.now pass ≡ key_of then d first pass =
      λ d. areas then by.stored.valid.sizes d is.now first pass found.sound
      (subst (λ (s : Sizes). IsAtom s.atom) (sym by.under.found.sizes)
      (subst IsAtom is.still.opening.right.atom is.still.opening.right.fits.known))
      (ap (λ xs. take then.config.keyslots_size xs) is.stands.holds.behind) in
      ap (λ (m : Parts). key_for m is.now pass e) meta_same
      ∙ key_same then is.now first pass same e.encryption e.digest ∙ was

  keys_are : KeysAreInAreas → (key_for is.still.stored.valid.meta is.now pass is.still.placement.old
      ≡ Some (used_by is.still.placement.old.encryption by.key))
      × (key_for is.still.stored.valid.meta is.now pass is.still.placement.new
      ≡ Some (used_by is.still.placement.new.encryption by.key))
  keys_are areas =
      let found = subst (λ (s : Sizes). IsKeyFound then s pass device.values by.key)
      by.under.found.sizes by.under.key_found in
      let p = is.still.placement in
      let was = unlocked sizes then first pass device.values by.key found told p
      (subst (λ (m : Parts). IsPlacementOf m sizes p) meta_same is.still.opening.placed) in
      (key_now areas p.old _ was.0, key_now areas p.new _ was.1)

  module _ (rest : (run : List (Happening (Keys C))) (now : Told) → IsSound volume → KeepsApart volume
      → IsRun volume run → (last_of volume run).disk.told ≡ Some now → KeepsRest volume now)
      (goes : (earlier later : List (Happening (Keys C))) → IsFresh volume
      → IsRun volume (earlier ++ later) → GoesByEvents volume earlier)
      (areas : KeysAreInAreas) (fronts : FrontsAreLoaded) (begins : AreasBeginBehind) where
    -- one stop, and one image of it
    module _ (earlier later : List (Happening (Keys C))) (run : IsRun volume (earlier ++ later))
        (now : Told) (told_now : (last_of volume earlier).disk.told ≡ Some now)
        (plain : ℕ → InPlain) (blocks : List Block)
        (allowed : StopsAllowed (last_of volume earlier) seals plain blocks now.now)
        (image : List (List ℕ)) (is_image : IsImage now.now image) where
      abbrev last : State (Keys C)
      last = last_of volume earlier

      along : GoesByEvents volume earlier
      along = goes earlier later by.fresh run

      kept : KeepsRest volume now
      kept = rest earlier now by.sound
          (λ work at. absurd (let e : None ≡ Some work = sym by.fresh.rests ∙ at in cc))
          (run-front volume earlier later run) told_now

      at_block : (b : ℕ) → b < volume.map.blocks → (value : List ℕ)
          × IsAllowedAt last plain blocks b value
          × IsSealed volume.map seals b value (value_in image (place_in volume.map b))
      at_block b below =
          let (value, may, held) = allowed image is_image b (record {
            inside = subst (λ (m : Map). b < m.blocks) (sym along.map) below;
            free = none_governed last b (along.work ∙ by.fresh.rests);
          }) in (
            value,
            may,
            subst (λ (m : Map). IsSealed m seals b value (value_in image (place_in m b))) along.map
                held,
          )

      pub allowed_image : (content : List (List ℕ)) × StandsFor sizes pass (joined image) content
          × RestsIn sizes (joined image)
          × ((b : ℕ) → b < last.map.blocks → IsAllowedAt last plain blocks b (value_in content b))
      unfolding content
      allowed_image =
          let (settled, holds, even) = is.settled kept.before kept.was in
          let n = volume.disk.atoms in
          let lawful = is.starts.starts.lawful in
          let some = some_atom volume.map.atom by.sound.fits.known in
          let held : (b : ℕ) → b < volume.map.blocks → (value : List ℕ)
          × IsSealed volume.map seals b value (value_in image (place_in volume.map b)) =
          λ b below. (let (value, may, sealed_is) = at_block b below in (value, sealed_is)) in
          let beside : (place : ℕ)
          → ((b : ℕ) → b < volume.map.blocks → place_in volume.map b ≢ place)
          → value_in image place ≡ (cell_in kept.before.now place).current =
          λ place none.
          kept.images settled image is_image place (λ b live. none b live.inside) in
          let keys = keys_are areas in
          let begin = begins sizes (front_of sizes is.now) is.still.stored is.still.header in
          let good : is.still.stored.copies.primary.state ≢ Lacking =
          λ lacks. let e : Good ≡ Lacking = sym is.good.primary ∙ lacks in cc in
          let sound = subst (λ (m : Parts). HasRules m sizes) (sym meta_same)
          (subst (λ (s : Sizes). HasRules then s) by.under.found.sizes
          by.under.key_found.sound) in (
            stopped sector sealed opened sizes by.key is.now volume is.still n kept.before.now
                image lawful some even held beside within ends,
            stands sector sealed opened sizes by.key is.now volume is.still n kept.before.now image
                lawful some even held beside within ends pass (sym holds) begin room good sound
                (subst IsAtom is.still.opening.right.atom is.still.opening.right.fits.known)
                keys.0 keys.1 fronts areas,
            rests_with (joined image) (loads sector sealed opened sizes by.key is.now volume is.still n
                kept.before.now image lawful some even held beside within ends (sym holds) begin
                room good fronts),
            λ b below.
                (let fits : b < volume.map.blocks =
                subst (λ (m : Map). b < m.blocks) along.map below in
                let (value, may, sealed_is) = at_block b fits in
                subst (λ v. IsAllowedAt last plain blocks b v)
                (sym (value_is sector sealed opened sizes by.key is.now volume is.still n
                kept.before.now image lawful some even held beside within ends b fits value
                sealed_is)) may),
          )

    pub stands_along : (run : List (Happening (Keys C))) → IsRun volume run
        → StandsAlong sizes pass volume seals run
    stands_along run is_run earlier later parts now told_now plain blocks allowed image is_image =
        allowed_image earlier later (subst (λ r. IsRun volume r) parts is_run) now told_now plain
        blocks allowed image is_image
