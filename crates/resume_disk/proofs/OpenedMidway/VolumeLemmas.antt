-- The volume of a conversion of whose blocks something is saved fits its disk, and its keys fit its
-- blocks.
use Rattle.std.proofs.Common.{◌≡◌, ℕ, ◌+◌, ◌-◌, ◌*◌, ◌/◌, ◌%◌, ◌^◌, ◌<◌, ◌≤◌, inl, inr, zero, suc}
use Rattle.std.proofs.Common.{Bool, true, false, List, Option, Some, None, nat_lt, if◌then◌else◌}
use Rattle.std.proofs.Common.{refl, sym, ap, subst, arith}
use Rattle.std.proofs.Math.Nat.{div-mul-le_self, le_of_mul-le-mul_right}
use Rattle.std.proofs.lemmas.Bool.{and_parts, eqb-true}
use Rattle.std.proofs.lemmas.Nat.{div-add-mod'}
use Rattle.std.specs.Option.{IfSome}
use Rattle.resume_disk.specs.OpenedMidway.Runs.{FitsVolume}
use Rattle.resume_disk.specs.OpenedMidway.Sides.{AreSides}
use Rattle.base_terms.specs.declared.disk_sizes.Sizes.{Sizes}
use Rattle.hotzone.specs.Sites.{IsSaved}
use Rattle.hotzone.specs.Workers.{HasKeys, MapsFit}
use Rattle.luks_meta.specs.declared.reencrypt.Direction.{Direction}
use Rattle.luks_meta.specs.declared.reencrypt.Direction.TheVariants.{Forward, Backward}
use Rattle.luks_meta.specs.declared.segment.Encryption.{Encryption}
use Rattle.luks_meta.specs.declared.segment.SegmentSize.{SegmentSize}
use Rattle.luks_meta.specs.declared.segment.SegmentSize.TheVariants.{Dynamic, Sized}
use Rattle.luks_rules.specs.Areas.{main_bytes}
use Rattle.luks_rules.specs.Plans.{blocks_in, whole_at}
use Rattle.luks_rules.specs.Segments.{bytes_by}
use Rattle.luks_rules.specs.Shapes.{is_next_size, is_whole_size, may_open, progress_of}
use Rattle.luks_rules.specs.Shapes.{stays_dynamic}
use Rattle.luks_rules.specs.States.{IsSound}
use Rattle.luks_rules.specs.declared.shape.Progress.{Progress}
use Rattle.luks_store.specs.Loads.{IsStored}
use Rattle.luks_store.specs.declared.loaded.Stored.{Stored}
use Rattle.reenc_meta.proofs.GoLemmas.{IsUnderWay, under-way}
use Rattle.reenc_meta.proofs.StepLemmas.{main-few}
use Rattle.reenc_meta.specs.ConversionMaps.{IsMapAt}
use Rattle.reenc_meta.specs.Placements.{all_atoms, base_of, place_of}
use Rattle.reenc_recovery.specs.Keys.{sector_by, tweak_by}
use Rattle.reenc_recovery.specs.declared.keys.SideKeys.{SideKeys}
use Rattle.sector_disk.specs.Geometry.{IsAtom, IsDisk}
use Rattle.segment_map.specs.declared.map.Map.{Map}
use Rattle.volume_machine.specs.Seals.{KeysFit}
use Rattle.volume_machine.specs.Sound.{MapFits}
use Rattle.volume_machine.specs.declared.keys.Keys.{Keys}
use Rattle.hotzone.proofs.ZoneEvents.GroundLemmas.{one-progress, same-place}

-- ---- a run of blocks on a disk
-- the last one of some blocks ends below this byte, so they all do
end_of_last : (offset blocks atom end : ℕ) → 0 < blocks
    → offset + (blocks - 1) * atom + atom ≤ end → offset + blocks * atom ≤ end
end_of_last offset zero atom end some last = absurd (omega (arith, some))
end_of_last offset (suc n) atom end some last =
    let same : suc n - 1 ≡ n = omega arith in
    let there : offset + n * atom + atom ≤ end = subst (λ k. offset + k * atom + atom ≤ end) same last
    in
    let long : suc n * atom ≡ n * atom + atom = grind arith in
    omega (arith, there, long)

-- so they lie in so many atoms
in_atoms : (offset blocks main atom : ℕ) → 0 < atom → offset + blocks * atom ≤ main * atom
    → offset / atom + blocks ≤ main
in_atoms offset blocks main atom some within =
    let start = div-mul-le_self offset atom in
    let sum : (offset / atom + blocks) * atom ≡ offset / atom * atom + blocks * atom =
    omega arith in
    le_of_mul-le-mul_right (omega (arith, start, sum, within)) some

-- ---- what a whole segment has
-- the bytes of the volume, whatever its size says
whole_bytes : (size : SegmentSize) (bytes main offset : ℕ) → is_whole_size bytes size ≡ true
    → offset + bytes ≤ main → bytes ≤ bytes_by main offset size
whole_bytes Dynamic bytes main offset is on = omega (arith, on)
whole_bytes (Sized n) bytes main offset is on =
    (let same = eqb-true n bytes is in omega (arith, same))

next_bytes : (dynamic : Bool) (size : SegmentSize) (bytes main offset : ℕ)
    → is_next_size bytes dynamic size ≡ true → offset + bytes ≤ main
    → bytes ≤ bytes_by main offset size
next_bytes true Dynamic bytes main offset is on = omega (arith, on)
next_bytes false Dynamic bytes main offset is on = omega (arith, on)
next_bytes true (Sized n) bytes main offset is on = absurd (let e : false ≡ true = is in cc)
next_bytes false (Sized n) bytes main offset is on =
    (let same = eqb-true n bytes is in omega (arith, same))

-- its sectors divide the atom, and the numbers of all its units fit 64 bits
sectors_fit : (e : Option Encryption) (atom n : ℕ) → n ≡ sector_by e → IsAtom atom
    → IfSome e (λ c. (0 < c.sector_size) × (atom % c.sector_size ≡ 0)) → atom % n ≡ 0
sectors_fit None atom n is (inl known) sectors = rw (is, known) refl
sectors_fit None atom n is (inr known) sectors = rw (is, known) refl
sectors_fit (Some c) atom n is known sectors = rw is sectors.1

units_by : (blocks atom : ℕ) → IsAtom atom → blocks * (atom / 512) ≡ blocks * atom / 512
units_by blocks atom (inl is) = rw is (omega arith)
units_by blocks atom (inr is) = rw is (omega arith)

numbers_fit : (e : Option Encryption) (atom blocks bytes : ℕ) → IsAtom atom
    → blocks * atom < 2 ^ 63 → blocks * atom ≤ bytes
    → IfSome e (λ c. c.iv_tweak + bytes / 512 ≤ 2 ^ 64 - 1)
    → tweak_by e + blocks * (atom / 512) < 2 ^ 64
numbers_fit None atom blocks bytes known small fewer numbers =
    let units = units_by blocks atom known in
    omega (arith, units, small)
numbers_fit (Some c) atom blocks bytes known small fewer numbers =
    let units = units_by blocks atom known in
    omega (arith, units, fewer, numbers)

-- ---- by a header
-- whole atoms at one place begin at one byte
same_byte : (base a b atom : ℕ) → a % atom ≡ 0 → b % atom ≡ 0 → base + a / atom ≡ base + b / atom
    → a ≡ b
same_byte base a b atom whole even same =
    let one = div-add-mod' a atom in
    let other = div-add-mod' b atom in
    let count : a / atom ≡ b / atom = omega (arith, same) in
    let bytes = ap (λ n. n * atom) count in
    omega (arith, one, other, whole, even, bytes)

module _ (header : Stored) (stored : IsStored header)
    (sound : IsSound header.valid.meta header.valid.sizes) (p : Progress)
    (known : progress_of header.valid.meta header.valid.sizes ≡ Some p)
    (guarded : IsSaved p.conversion.resilience)
    (disk : IsDisk header.valid.sizes.atom (all_atoms header.valid.sizes)) where
  abbrev sizes : Sizes
  sizes = header.valid.sizes

  way : IsUnderWay header.valid.meta header.valid.sizes p
  way = under-way header.valid.meta header.valid.sizes p sound known
      (main-few header.valid.sizes disk.fits)

  same_offset : p.new.offset ≡ p.old.offset
  same_offset =
      let conv = way.converting in
      same_byte (base_of sizes) p.new.offset p.old.offset sizes.atom conv.new.whole conv.old.whole
      (same-place header stored sound p known guarded)

  -- wherever a block is, its segment begins at the same byte
  offset_at : (d : Direction) (b : ℕ) → (whole_at d p.old p.new p.plan b).offset ≡ p.old.offset
  offset_at Forward b = by_side (nat_lt b p.plan.first)
    where
      by_side : (new : Bool) → (if new then p.new else p.old).offset ≡ p.old.offset
      by_side true = same_offset
      by_side false = refl
  offset_at Backward b = by_side (nat_lt b (p.plan.first + p.plan.zone))
    where
      by_side : (old : Bool) → (if old then p.old else p.new).offset ≡ p.old.offset
      by_side true = refl
      by_side false = same_offset

  reaches : p.old.offset + blocks_in p.plan * sizes.atom ≤ main_bytes sizes
  reaches =
      let some = way.some in
      let last = way.converting.places (blocks_in p.plan - 1) (omega (arith, some)) in
      let at = offset_at p.conversion.direction (blocks_in p.plan - 1) in
      end_of_last p.old.offset (blocks_in p.plan) sizes.atom (main_bytes sizes) some
      (subst (λ n. n + (blocks_in p.plan - 1) * sizes.atom + sizes.atom ≤ main_bytes sizes) at last)

  takes : place_of sizes p.old + blocks_in p.plan ≤ all_atoms sizes
  takes =
      let main = in_atoms p.old.offset (blocks_in p.plan) sizes.main_atoms sizes.atom sound.atom
      reaches in
      omega (arith, main)

  fits_at : (map : Map) → IsMapAt sizes p map → MapFits map (all_atoms sizes)
  fits_at map is =
      let small = way.bytes in
      let same = same-place header stored sound p known guarded in
      record {
        known = rw is.atom disk.known;
        small = rw (is.atom, is.blocks) small;
        old_places = rw (is.old_place, is.blocks) takes;
        new_places = rw (is.new_place, is.blocks)
            (subst (λ n. n + blocks_in p.plan ≤ all_atoms sizes) (sym same) takes);
      }

  maps_fit : MapsFit header
  maps_fit map (q, also, is) =
      fits_at map (subst (λ (x : Progress). IsMapAt sizes x map)
      (one-progress header.valid.meta sizes q p also known) is)

  module _ {C : Type 0} (sector : C → ℕ) (sealed opened : C → ℕ → List ℕ → List ℕ)
      (handed : SideKeys) (keys : Keys C)
      (are : AreSides sector sealed opened header.valid.meta p handed keys) where
    old_bytes : blocks_in p.plan * sizes.atom
        ≤ bytes_by (main_bytes sizes) p.old.offset p.old.size
    old_bytes =
        let one = and_parts _ (may_open p.conversion.resilience p.plan.zone)
        way.converting.state.parts in
        let two = and_parts _ (is_next_size (blocks_in p.plan * sizes.atom)
        (stays_dynamic p.conversion.resilience p.old.size) p.new.size) one.0 in
        let three = and_parts _ (is_whole_size (blocks_in p.plan * sizes.atom) p.old.size) two.0 in
        whole_bytes p.old.size (blocks_in p.plan * sizes.atom) (main_bytes sizes) p.old.offset three.1
        reaches

    new_bytes : blocks_in p.plan * sizes.atom
        ≤ bytes_by (main_bytes sizes) p.new.offset p.new.size
    new_bytes =
        let one = and_parts _ (may_open p.conversion.resilience p.plan.zone)
        way.converting.state.parts in
        let two = and_parts _ (is_next_size (blocks_in p.plan * sizes.atom)
        (stays_dynamic p.conversion.resilience p.old.size) p.new.size) one.0 in
        next_bytes (stays_dynamic p.conversion.resilience p.old.size) p.new.size
        (blocks_in p.plan * sizes.atom) (main_bytes sizes) p.new.offset two.1
        (subst (λ n. n + blocks_in p.plan * sizes.atom ≤ main_bytes sizes) (sym same_offset) reaches)

    keys_at : KeysFit sector keys sizes.atom (blocks_in p.plan)
    keys_at =
        let conv = way.converting in
        record {
          old_sector = sectors_fit p.old.encryption sizes.atom (sector keys.old) are.ciphers.old_cipher.sectors
              disk.known conv.old.sectors;
          new_sector = sectors_fit p.new.encryption sizes.atom (sector keys.new) are.ciphers.new_cipher.sectors
              disk.known conv.new.sectors;
          old_numbers = rw are.ciphers.old_tweak (numbers_fit p.old.encryption sizes.atom (blocks_in p.plan)
              (bytes_by (main_bytes sizes) p.old.offset p.old.size) disk.known way.bytes old_bytes
              conv.old.numbers);
          new_numbers = rw are.ciphers.new_tweak (numbers_fit p.new.encryption sizes.atom (blocks_in p.plan)
              (bytes_by (main_bytes sizes) p.new.offset p.new.size) disk.known way.bytes new_bytes
              conv.new.numbers);
        }

    has_keys : HasKeys sector header keys
    has_keys map (q, also, is) =
        let there = subst (λ (x : Progress). IsMapAt sizes x map)
        (one-progress header.valid.meta sizes q p also known) is in
        rw (there.atom, there.blocks) keys_at

    pub fits_volume : FitsVolume sector header keys
    fits_volume = record { maps = maps_fit; keys_are = has_keys }
