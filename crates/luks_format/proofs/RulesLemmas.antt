-- The metadata of a new volume break no rule.
use Rattle.std.proofs.Common.{◌≡◌, inl, inr, ℕ, ◌+◌, ◌-◌, ◌*◌, ◌/◌, ◌%◌, ◌^◌, ◌<◌, ◌≤◌}
use Rattle.std.proofs.Common.{◌∙◌, Bool, true, false, None, refl, sym, ap₂, arith, subst}
use Rattle.std.proofs.lemmas.Bool.{eq-eqb, le-ltb, ne_eqb}
use Rattle.std.specs.List.{list_any}
use Rattle.std.specs.Prelude.{◌||◌, if◌then◌else◌}
use Rattle.base_terms.specs.declared.disk_sizes.Sizes.{Sizes}
use Rattle.luks_bin.proofs.FieldLemmas.{size-least}
use Rattle.luks_format.proofs.SizeLemmas.{area-page, area-some, block-left, copies-page}
use Rattle.luks_format.proofs.SizeLemmas.{data-behind, pages-whole, sector-some}
use Rattle.luks_format.specs.Drawings.{Draw}
use Rattle.luks_format.specs.Metadata.{config_for, digest_for, keyslot_for, parts_for}
use Rattle.luks_format.specs.Metadata.{parts_with, segment_for}
use Rattle.luks_format.specs.Wishes.{FitsDisk, IsWish, areas_end_for, detached_end, keyslots_end}
use Rattle.luks_format.specs.Wishes.{keyslots_size_for, most_keyslots}
use Rattle.luks_format.specs.declared.wish.Wish.{Wish}
use Rattle.luks_meta.specs.Configs.{mandatory}
use Rattle.luks_rules.specs.Areas.{areas_of, breaks_bounds, header_bytes, is_outside, passes_limit}
use Rattle.luks_rules.specs.Conversions.{conversion_of, conversions_of}
use Rattle.luks_rules.specs.Foreign.{first_foreign}
use Rattle.luks_rules.specs.Multiples.{breaks_multiples, breaks_sectors, breaks_tweaks}
use Rattle.luks_rules.specs.Overlaps.{overlap}
use Rattle.luks_rules.specs.References.{breaks_references, times_listed}
use Rattle.luks_rules.specs.Rules.{first_fault}
use Rattle.luks_rules.specs.Segments.{breaks_segments, holds_none, in_progress}
use Rattle.luks_rules.specs.Shapes.{breaks_shape, progress_of}
use Rattle.luks_slots.specs.Functions.{named_cipher}
use Rattle.luks_slots.specs.NewSlots.{area_len, slot_for}
use Rattle.sector_cipher.specs.Names.{IsKeyLength}
use Rattle.sector_cipher.specs.declared.spec.Spec.{Spec}
use Rattle.sector_cipher.specs.declared.spec.Spec.TheVariants.{AesXtsPlain64, AesCbcEssivSha256}

-- a key has 16 to 64 bytes
pub key-bounds : (s : Spec) (n : ℕ) → IsKeyLength s n → (1 ≤ n) × (n ≤ 64)
key-bounds AesXtsPlain64 n (inl e) = (omega (arith, e), omega (arith, e))
key-bounds AesXtsPlain64 n (inr e) = (omega (arith, e), omega (arith, e))
key-bounds AesCbcEssivSha256 n (inl e) = (omega (arith, e), omega (arith, e))
key-bounds AesCbcEssivSha256 n (inr e) = (omega (arith, e), omega (arith, e))

module _ (w : Wish) (d : Draw) (sizes : Sizes) where
  own : first_foreign (mandatory (parts_for w d).config.requirements) ≡ None
  unfolding parts_with config_for
  own = refl

  apart : overlap (areas_of (parts_for w d).keyslots) ≡ false
  unfolding overlap areas_of parts_with
  apart = refl

  referred : breaks_references (parts_for w d) ≡ false
  unfolding breaks_references times_listed parts_with digest_for segment_for
  referred = refl

  shaped : breaks_shape (parts_for w d) (progress_of (parts_for w d) sizes) ≡ false
  unfolding breaks_shape conversions_of conversion_of in_progress parts_with config_for
  shaped = refl

  unconverted : progress_of (parts_for w d) sizes ≡ None
  unfolding progress_of in_progress parts_with config_for
  unconverted = refl

-- the keyslots area ends where it may
pub areas-end : (w : Wish) → IsWish w → area_len w.key_size ≤ keyslots_size_for w
    → areas_end_for w ≤ keyslots_end w
unfolding keyslots_size_for
areas-end w wish room =
    data-behind (keyslots_end w) (2 * w.metadata_size) most_keyslots (area_len w.key_size)
    (area-some w.key_size (key-bounds (named_cipher w.cipher) w.key_size wish.key).0) room

-- in front of the data that is on the same disk
pub before-offset : (w : Wish) → IsWish w → area_len w.key_size ≤ keyslots_size_for w
    → w.detached ≡ false → areas_end_for w ≤ w.data_offset
before-offset w wish room alone =
    subst (λ b. areas_end_for w ≤ (if b then detached_end else w.data_offset)) alone
    (areas-end w wish room)

-- what is asked of the sizes
module _ (w : Wish) (d : Draw) (sizes : Sizes) (wish : IsWish w) (disk : FitsDisk w sizes)
    (room : area_len w.key_size ≤ keyslots_size_for w)
    (front : w.detached ≡ true → areas_end_for w ≤ header_bytes sizes)
    (block : w.data_offset / sizes.atom < sizes.main_atoms) where
  copies : ℕ
  copies = 2 * w.metadata_size

  disk_end : ℕ
  disk_end = sizes.main_atoms * sizes.atom

  begin : 2 * (w.metadata_size - 4096 + 4096) ≡ 2 * w.metadata_size
  begin = let least = size-least w.metadata_size wish.size in omega (arith, least)

  even : w.data_offset % sizes.atom ≡ 0
  even = pages-whole w.data_offset sizes.atom disk.atom wish.page

  left : w.data_offset + sizes.atom ≤ sizes.main_atoms * sizes.atom
  left = block-left sizes.atom sizes.main_atoms w.data_offset disk.atom even block

  inside : list_any (is_outside (parts_for w d).config) (areas_of (parts_for w d).keyslots)
      ≡ false
  unfolding areas_of parts_with keyslot_for slot_for config_for
  inside =
      rw (
        begin,
        le-ltb (2 * w.metadata_size) (2 * w.metadata_size) (omega arith),
        le-ltb (areas_end_for w) (2 * w.metadata_size + area_len w.key_size)
            (omega (arith, room)),
      )
      refl

  limited : (detached : Bool) → sizes.detached ≡ detached
      → passes_limit (parts_for w d) sizes ≡ false
  unfolding parts_with segment_for config_for
  limited true is =
      rw (
        is,
        begin,
        le-ltb (header_bytes sizes) (areas_end_for w) (front (sym disk.detached ∙ is)),
      )
      refl
  limited false is =
      rw (
        is,
        begin,
        le-ltb w.data_offset (areas_end_for w)
            (before-offset w wish room (sym disk.detached ∙ is)),
      )
      refl

  bounded : breaks_bounds (parts_for w d) sizes ≡ false
  unfolding breaks_bounds
  bounded = ap₂ (λ a b. a || b) inside (limited sizes.detached refl)

  segments : breaks_segments (parts_for w d) sizes ≡ false
  unfolding holds_none in_progress parts_with segment_for config_for
  segments =
      let end : ℕ = sizes.main_atoms * sizes.atom in
      let fits = left in
      rw (
        le-ltb end (w.data_offset + (end - w.data_offset)) (omega (arith, fits)),
        le-ltb (0 + (end - w.data_offset)) sizes.atom (omega (arith, fits)),
      )
      refl

  sectors : breaks_sectors (parts_for w d) sizes ≡ false
  unfolding breaks_sectors parts_with segment_for
  sectors =
      let some = sector-some w.sector_size wish.sector in
      rw (
        ne_eqb w.sector_size 0 (λ e. omega (arith, some, e)),
        eq-eqb (sizes.atom % w.sector_size) 0 disk.sector,
      )
      refl

  multiples : breaks_multiples (parts_for w d) sizes ≡ false
  unfolding breaks_multiples areas_of parts_with keyslot_for slot_for segment_for config_for
  multiples =
      rw (
        eq-eqb (w.data_offset % sizes.atom) 0 even,
        eq-eqb (2 * w.metadata_size % sizes.atom) 0
            (pages-whole (2 * w.metadata_size) sizes.atom disk.atom
            (copies-page w.metadata_size wish.size)),
        eq-eqb (area_len w.key_size % sizes.atom) 0
            (pages-whole (area_len w.key_size) sizes.atom disk.atom (area-page w.key_size)),
      )
      refl

  tweaks : breaks_tweaks (parts_for w d) sizes ≡ false
  unfolding breaks_tweaks parts_with segment_for
  tweaks =
      let end : ℕ = sizes.main_atoms * sizes.atom in
      let within = disk.main in
      rw (le-ltb (2 ^ 64 - 1) (0 + (end - w.data_offset) / 512) (omega (arith, within))) refl

  pub no-fault : first_fault (parts_for w d) sizes ≡ None
  unfolding first_fault
  no-fault =
      rw (
        own w d sizes,
        bounded,
        apart w d sizes,
        referred w d sizes,
        segments,
        sectors,
        multiples,
        tweaks,
        shaped w d sizes,
        unconverted w d sizes,
      )
      refl
