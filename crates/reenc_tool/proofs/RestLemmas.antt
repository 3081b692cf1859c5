-- A volume that a passphrase opened, at rest: behind a run of clients' events by which nothing is broken and no
-- operation is under way, the bytes of its disk stand, under the passphrase, for the newest values.
use Rattle.std.proofs.Common.{◌≡◌, ◌≢◌, ◌∙◌, ◌+◌, ◌*◌, ◌<◌, ◌≤◌, inl, inr, ℕ, zero, suc, false, List, []}
use Rattle.std.proofs.Common.{length, replicate, take, None, Option, Some, ap, arith, refl, subst, sym}
use Rattle.std.proofs.Common.{length-drop, mul-le-mul_right}
use Rattle.std.proofs.lemmas.List.{ext_get_or, get_or-map, length-map}
use Rattle.base_terms.proofs.BlockLemmas.{joined-blocks_of, lengths-blocks_of}
use Rattle.base_terms.specs.Blocks.{blocks_of, joined, lengths}
use Rattle.base_terms.specs.declared.disk_sizes.Sizes.{Sizes}
use Rattle.sector_disk.proofs.DiskViews.Blockwise.{block_end, place_of_whole}
use Rattle.sector_disk.specs.DiskViews.Parts.{block_at, cell_in, value_in}
use Rattle.header_report.proofs.ExamineLemmas.{all_used}
use Rattle.header_report.specs.Examinations.{sizes_alone}
use Rattle.sector_disk.specs.JoinedDisks.Joined.{joined_disk, used_atoms}
use Rattle.luks_store.specs.declared.header_copies.repair.Repair.{Repair}
use Rattle.luks_meta.specs.declared.digest.Digest.{Digest}
use Rattle.luks_meta.specs.declared.meta.Parts.{Parts}
use Rattle.luks_rules.specs.Areas.{areas_begin, areas_end}
use Rattle.luks_rules.specs.Idles.{idle_of}
use Rattle.luks_rules.specs.Segments.{in_progress}
use Rattle.luks_rules.specs.States.{IsSound as HasRules}
use Rattle.luks_rules.specs.declared.extents.Extent.{Extent}
use Rattle.luks_rules.specs.declared.idle.Idle.{Idle}
use Rattle.luks_rules.specs.declared.valid.Checked.{Checked}
use Rattle.luks_slots.specs.Laws.{KeysAreInAreas}
use Rattle.luks_slots.specs.Unlocks.{key_of}
use Rattle.luks_store.specs.Devices.{front_of}
use Rattle.luks_store.specs.Loads.{stored_in}
use Rattle.luks_store.specs.Promises.{AreasBeginBehind, FrontsAreLoaded}
use Rattle.luks_store.specs.declared.copies.CopyState.TheVariants.{Good, Lacking}
use Rattle.luks_store.specs.declared.loaded.Stored.{Stored}
use Rattle.plain_disk.specs.Plain.{Exchange, settled, settled_blocks}
use Rattle.reenc_meta.specs.Placements.{IsPlacementOf, PlacedBy}
use Rattle.reenc_recovery.proofs.PlacingLemmas.{rests_by}
use Rattle.reenc_recovery.specs.Calls.{RepairRun}
use Rattle.reenc_recovery.specs.Images.{StandsFor}
use Rattle.reenc_recovery.specs.Keys.{key_for, used_by}
use Rattle.reenc_recovery.specs.Placings.{RestsIn}
use Rattle.reenc_recovery.specs.Volumes.{IsVolumeOf}
use Rattle.recovery_laws.proofs.Served.CountLemmas.{legal-count}
use Rattle.reenc_tool.proofs.RestAtoms.{IsNoBlock, LeavesAtoms, newest-at, run-leaves}
use Rattle.recovery_laws.proofs.Resumed.ShowLemmas.{current-in}
use Rattle.recovery_laws.proofs.Resumed.StopLemmas.{atom-at}
use Rattle.sector_disk.proofs.CellLemmas.{currents_sures}
use Rattle.sector_disk.specs.Cells.{Cell, currents, sures}
use Rattle.sector_disk.specs.Devices.{Device, succeeded}
use Rattle.sector_disk.specs.Geometry.{IsAtom, IsDisk}
use Rattle.segment_map.specs.declared.map.Map.{Map}
use Rattle.recovery_laws.specs.Served.Ends.{StandsForNewest, newest_values}
use Rattle.volume_laws.specs.Contents.{IsSealed, block_in}
use Rattle.volume_laws.specs.Promises.{GoesByEvents, IsServed}
use Rattle.volume_machine.proofs.NextPieces.{on_disk}
use Rattle.volume_machine.specs.Pieces.{place_in, side_in}
use Rattle.volume_machine.specs.Runs.{Happening, IsRun, last_of}
use Rattle.volume_machine.specs.Seals.{Seals, seals_of}
use Rattle.volume_machine.specs.States.{State, open_at}
use Rattle.volume_machine.specs.declared.keys.Keys.{Keys}
use Rattle.volume_opening.proofs.KeyLemmas.{its_idle, one_idle}
use Rattle.volume_opening.proofs.OpenedLemmas.{same_stored, unlocked}
use Rattle.volume_opening.proofs.StopLemmas.{key_same, loads, stands, stopped, value_is, values_from}
use Rattle.volume_opening.specs.Openings.{IsKeyFound, IsOpenedBy, StartsFor}

some-atom : (atom : ℕ) → IsAtom atom → 0 < atom
some-atom atom (inl is) = omega (arith, is)
some-atom atom (inr is) = omega (arith, is)

-- a repair leaves as many atoms
repaired-atoms : (repair : Option Repair) (old new : Device) → RepairRun repair old new succeeded
    → new.atoms ≡ old.atoms
repaired-atoms None old new run = ap (λ (d : Device). d.atoms) run
repaired-atoms (Some repair) old new run = run.sync.atoms ∙ run.write.atoms

-- so many values has a content
length-from : (value : ℕ → List ℕ) (first n : ℕ) → length (values_from value first n) ≡ n
unfolding values_from
length-from value first zero = refl
length-from value first (suc n) = ap (λ k. suc k) (length-from value (suc first) n)

-- the laws that this stands on
pub record RestLaws : Type 0 where
  pub areas : KeysAreInAreas
  pub fronts : FrontsAreLoaded
  pub begins : AreasBeginBehind

module _ {C : Type 0} (sector : C → ℕ) (sealed opened : C → ℕ → List ℕ → List ℕ) (device : Device)
    (pass first : List ℕ) (lanes : ℕ) (volume : State (Keys C))
    (by : IsOpenedBy sector sealed opened device pass lanes volume)
    (told : device.values ≡ Some first) (disk : IsDisk device.size device.atoms)
    (long : length first ≡ device.atoms * device.size) (laws : RestLaws) where
  abbrev sizes : Sizes
  sizes = sizes_alone device

  is : IsVolumeOf sector sealed opened sizes by.key by.stored first volume
  is = by.held first told

  abbrev from : StartsFor sealed opened sizes pass first volume
  from = by.starts first told

  abbrev seals : Seals
  seals = seals_of sealed opened volume.map.atom volume.keys

  abbrev n : ℕ
  n = volume.disk.atoms

  abbrev at-first : Parts
  at-first = by.stored.valid.meta

  abbrev meta : Parts
  meta = is.still.stored.valid.meta

  meta-same : meta ≡ at-first
  meta-same =
      ap (λ (s : Stored). s.valid.meta)
      (same_stored (stored_in sizes (front_of sizes is.now)) is.still.stored is.stands.holds.stored
      is.still.header is.stands.holds.held)
      ∙ ap (λ (c : Checked). c.meta) is.stands.holds.same

  sound-first : HasRules at-first sizes
  sound-first =
      subst (λ (s : Sizes). HasRules at-first s) by.under.found.sizes by.under.key_found.sound

  idle-first : idle_of at-first sizes ≡ Some by.under.key_found.idle
  idle-first =
      ap (λ (s : Sizes). idle_of at-first s) (sym by.under.found.sizes) ∙ by.under.key_found.is

  -- ---- its places
  has-block : 0 < volume.map.blocks
  has-block =
      let idle = its_idle at-first sizes sound-first by.under.key_found.idle idle-first in
      let placed : PlacedBy sizes (Some by.under.key_found.idle) is.still.placement =
      subst (λ (v : Option Idle). PlacedBy sizes v is.still.placement)
      (ap (λ (m : Parts). idle_of m sizes) meta-same ∙ idle-first) is.still.opening.placed in
      let count : volume.map.blocks ≡ by.under.key_found.idle.blocks =
      ap (λ (m : Map). m.blocks) is.still.map ∙ placed.blocks in
      let some = idle.some in omega (arith, count, some)

  behind : (b : ℕ) → b < volume.map.blocks
      → areas_end meta.config ≤ place_in volume.map b * volume.map.atom
  behind b below =
      subst (λ (m : Map). areas_end meta.config ≤ place_in m b * m.atom) (sym is.still.map)
      (is.still.opening.right.behind b (subst (λ (m : Map). b < m.blocks) is.still.map below))

  within : (b : ℕ) → b < volume.map.blocks → place_in volume.map b < n
  within b below =
      (let end = on_disk volume.map n b 1 (side_in volume.map b) by.sound.fits (omega (arith, below)) in
      omega (arith, end))

  some : 0 < volume.map.atom
  some = some-atom volume.map.atom by.sound.fits.known

  ends : areas_end meta.config ≤ n * volume.map.atom
  ends =
      let front = behind 0 has-block in
      let more : suc (place_in volume.map 0) * volume.map.atom ≤ n * volume.map.atom =
      mul-le-mul_right volume.map.atom (within 0 has-block) in
      omega (arith, front, more, block_end volume.map.atom (place_in volume.map 0))

  -- ---- how many bytes it has
  atoms-are : n ≡ device.atoms
  atoms-are =
      let run = by.calls.calls in
      let kept = by.unwritten in
      repaired-atoms by.calls.repair (joined_disk run.read) volume.disk run.run
      ∙ run.first.unwritten.atoms ∙ run.first.sync.atoms
      ∙ (let e : 0 + used_atoms by.read.size 0 by.read.atoms ≡ used_atoms by.read.size 0 by.read.atoms =
      omega arith in e)
      ∙ all_used by.read.size by.read.atoms
      (subst (λ (k : ℕ). IsDisk by.read.size k) (sym kept.atoms)
      (subst (λ (k : ℕ). IsDisk k device.atoms) (sym kept.size) disk))
      ∙ kept.atoms

  atom-is : volume.map.atom ≡ device.size
  atom-is = ap (λ (m : Map). m.atom) is.still.map ∙ is.still.opening.right.atom

  all-bytes : n * volume.map.atom ≡ device.atoms * device.size
  all-bytes = ap (λ (k : ℕ). k * volume.map.atom) atoms-are ∙ ap (λ (a : ℕ). device.atoms * a) atom-is

  whole-now : length is.now ≡ n * volume.map.atom
  whole-now =
      let place = place_in volume.map 0 in
      let held = is.starts.starts.stands 0 has-block in
      let one = (is.starts.starts.lawful.keeps_sealed (side_in volume.map 0) 0
      (block_in is.starts.blocks 0).newest held.0).size in
      let atom : length (block_at volume.map.atom is.now place) ≡ volume.map.atom =
      ap length held.1 ∙ one ∙ omega arith in
      let last = place_of_whole volume.map.atom is.now place some atom in
      let front = behind 0 has-block in
      let left = length-drop (areas_begin at-first.config) is.now in
      let was = length-drop (areas_begin at-first.config) first in
      let same = ap length is.stands.holds.behind in
      let begin : areas_begin meta.config ≡ areas_begin at-first.config =
      ap (λ (m : Parts). areas_begin m.config) meta-same in
      let all = all-bytes in
      let more = some in
      omega (arith, last, front, left, was, same, begin, long, all, more, block_end volume.map.atom place)

  -- ---- its keys
  key-now : (e : Extent) → (k : List ℕ) → key_for at-first first pass e ≡ Some k
      → key_for meta is.now pass e ≡ Some k
  key-now e k was =
      let same : (d : Digest) → key_of at-first d is.now pass ≡ key_of at-first d first pass =
      λ d. laws.areas at-first sizes d is.now first pass sound-first disk.known
      (ap (λ xs. take at-first.config.keyslots_size xs) is.stands.holds.behind) in
      ap (λ (m : Parts). key_for m is.now pass e) meta-same
      ∙ key_same at-first is.now first pass same e.encryption e.digest ∙ was

  keys-are : (key_for meta is.now pass is.still.placement.old
      ≡ Some (used_by is.still.placement.old.encryption by.key))
      × (key_for meta is.now pass is.still.placement.new
      ≡ Some (used_by is.still.placement.new.encryption by.key))
  keys-are =
      let found = subst (λ (s : Sizes). IsKeyFound at-first s pass device.values by.key)
      by.under.found.sizes by.under.key_found in
      let p = is.still.placement in
      let was = unlocked sizes at-first first pass device.values by.key found told p
      (subst (λ (m : Parts). IsPlacementOf m sizes p) meta-same is.still.opening.placed) in
      (key-now p.old _ was.0, key-now p.new _ was.1)

  -- ---- behind a run
  module _ (run : List (Happening (Keys C))) (is_run : IsRun volume run) (exchanges : List Exchange)
      (s : IsServed volume seals (settled_blocks from.content) run exchanges)
      (along : GoesByEvents volume run) (whole : (last_of volume run).broken ≡ false)
      (free : (lane : ℕ) → open_at (last_of volume run).lanes lane ≡ None) where
    abbrev last : State (Keys C)
    last = last_of volume run

    kept : LeavesAtoms volume.map is.now last.disk
    kept = run-leaves volume run is.now by.sound is_run whole is.values whole-now

    one-now : s.now ≡ kept.now
    one-now = (let e : Some s.now ≡ Some kept.now = sym s.values ∙ kept.values in cc)

    -- each block's atom is what its newest value is sealed to
    held : (b : ℕ) → b < volume.map.blocks
        → IsSealed volume.map seals b (block_in s.left b).newest
        (block_at volume.map.atom kept.now (place_in volume.map b))
    held b below =
        subst (λ (bytes : List ℕ). IsSealed volume.map seals b (block_in s.left b).newest
        (block_at volume.map.atom bytes (place_in volume.map b))) one-now
        (newest-at volume seals (settled_blocks from.content) run exchanges s along by.fresh.rests whole free
        b below)

    -- ---- its bytes as an image
    long-last : length kept.now ≡ n * volume.map.atom
    long-last = kept.size ∙ whole-now

    abbrev image : List (List ℕ)
    image = blocks_of volume.map.atom n kept.now

    joins : joined image ≡ kept.now
    joins = joined-blocks_of volume.map.atom n kept.now long-last

    text-is : (place : ℕ) → value_in image place ≡ block_at volume.map.atom kept.now place
    text-is place =
        sym (atom-at volume.map.atom n image place (lengths-blocks_of volume.map.atom n kept.now long-last))
        ∙ ap (λ all. block_at volume.map.atom all place) joins

    -- and those that it began with, as a table
    abbrev values : List (List ℕ)
    values = blocks_of volume.map.atom n is.now

    abbrev before : List Cell
    before = sures values

    even : lengths (currents before) ≡ replicate n volume.map.atom
    even = ap lengths (currents_sures values) ∙ lengths-blocks_of volume.map.atom n is.now whole-now

    holds : joined (currents before) ≡ is.now
    holds = ap joined (currents_sures values) ∙ joined-blocks_of volume.map.atom n is.now whole-now

    began : (place : ℕ) → (cell_in before place).current ≡ block_at volume.map.atom is.now place
    began place =
        sym (current-in before place)
        ∙ sym (atom-at volume.map.atom n (currents before) place even)
        ∙ ap (λ all. block_at volume.map.atom all place) holds

    beside : (place : ℕ) → IsNoBlock volume.map place
        → value_in image place ≡ (cell_in before place).current
    beside place none = text-is place ∙ kept.atoms place none ∙ sym (began place)

    held-in : (b : ℕ) → b < volume.map.blocks → (value : List ℕ)
        × IsSealed volume.map seals b value (value_in image (place_in volume.map b))
    held-in b below = (
      (block_in s.left b).newest,
      subst (λ atom. IsSealed volume.map seals b (block_in s.left b).newest atom)
          (sym (text-is (place_in volume.map b))) (held b below),
    )

    -- ---- it stands
    begin : areas_begin meta.config ≡ 2 * is.still.stored.copies.used.header.hdr_size
    begin = laws.begins sizes (front_of sizes is.now) is.still.stored is.still.header

    good : is.still.stored.copies.primary.state ≢ Lacking
    good lacks = (let e : Good ≡ Lacking = sym is.good.primary ∙ lacks in cc)

    room : areas_end meta.config ≤ device.atoms * device.size
    room = (let e = ends in let all = all-bytes in omega (arith, e, all))

    abbrev stood : List (List ℕ)
    stood = stopped sector sealed opened sizes by.key is.now volume is.still n before image
        is.starts.starts.lawful some even held-in beside within ends

    stands-stood : StandsFor sizes pass (joined image) stood
    stands-stood =
        stands sector sealed opened sizes by.key is.now volume is.still n before image
        is.starts.starts.lawful some even held-in beside within ends pass holds begin room good
        (subst (λ (m : Parts). HasRules m sizes) (sym meta-same) sound-first) disk.known
        keys-are.0 keys-are.1 laws.fronts laws.areas

    rests : RestsIn sizes (joined image)
    rests =
        rests_by sizes (joined image) is.still.stored
        (loads sector sealed opened sizes by.key is.now volume is.still n before image
        is.starts.starts.lawful some even held-in beside within ends holds begin room good laws.fronts)
        (ap (λ (m : Parts). in_progress m.config) meta-same
        ∙ one_idle at-first sizes sound-first by.under.key_found.idle idle-first)

    -- ---- for the newest values
    count-left : length s.left ≡ volume.map.blocks
    count-left =
        legal-count volume.map.atom (settled_blocks from.content) s.left exchanges s.legal
        ∙ from.starts.are.count

    count-stood : length stood ≡ volume.map.blocks
    count-stood = length-from _ 0 volume.map.blocks

    newest-is : (b : ℕ) → b < length stood → value_in stood b ≡ value_in (newest_values s.left) b
    unfolding held-in
    newest-is b below =
        let inside : b < volume.map.blocks = (let c = count-stood in omega (arith, c, below)) in
        let its = held-in b inside in
        value_is sector sealed opened sizes by.key is.now volume is.still n before image
        is.starts.starts.lawful some even held-in beside within ends b inside its.0 its.1
        ∙ sym (get_or-map (λ block. block.newest) s.left b (settled []) []
        (let c = count-left in omega (arith, c, inside)))

    are-newest : stood ≡ newest_values s.left
    are-newest =
        ext_get_or [] stood (newest_values s.left)
        (count-stood ∙ sym count-left ∙ sym (length-map s.left (λ block. block.newest))) newest-is

    pub stands-at-rest : StandsForNewest sizes pass volume.map.atom from.content exchanges last.disk
    stands-at-rest = record {
      left = s.left;
      legal = s.legal;
      now = kept.now;
      told = kept.values;
      stands = subst (λ (all : List ℕ). StandsFor sizes pass all (newest_values s.left)) joins
          (subst (λ (content : List (List ℕ)). StandsFor sizes pass (joined image) content) are-newest
          stands-stood);
      rests = subst (λ (all : List ℕ). RestsIn sizes all) joins rests;
    }
