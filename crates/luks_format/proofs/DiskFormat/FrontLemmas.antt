-- Where lies what is written of a new volume.
use Rattle.std.proofs.Common.{◌≡◌, ℕ, ◌+◌, ◌*◌, ◌/◌, ◌≤◌, List, length, take, refl, ◌∙◌, ap}
use Rattle.std.proofs.Common.{Bool, true, false, arith, subst, sym}
use Rattle.std.proofs.Math.Nat.{div-mul-le_self, mul-le-mul_right}
use Rattle.std.specs.Prelude.{if◌then◌else◌}
use Rattle.base_terms.specs.declared.disk_sizes.Sizes.{Sizes}
use Rattle.luks_format.proofs.DiskFormat.FitLemmas.{all-fits}
use Rattle.luks_format.specs.DiskFormat.Calls.{FitsNew}
use Rattle.luks_format.specs.DiskFormat.Fitting.{draw_of, text_len}
use Rattle.luks_format.specs.DiskFormat.Rests.{end_of_front, front_room}
use Rattle.luks_format.specs.DiskFormat.Volumes.{IsNewVolume}
use Rattle.luks_format.specs.declared.format_disk.volume.NewVolume.{NewVolume}
use Rattle.sector_disk.specs.JoinedDisks.Counts.{HasSizes}
use Rattle.luks_bin.proofs.FieldLemmas.{size-least}
use Rattle.luks_bin.specs.declared.header.BinHeader.{BinHeader}
use Rattle.luks_store.specs.Copying.Held.{primary_of, secondary_of}
use Rattle.luks_format.proofs.RulesLemmas.{before-offset}
use Rattle.luks_format.proofs.SizeLemmas.{block-left, pages-whole}
use Rattle.luks_format.specs.Drawings.{Draw, salt_len}
use Rattle.luks_format.specs.Metadata.{config_for, keyslot_for, parts_with}
use Rattle.luks_format.specs.Wishes.{FitsDisk, IsWish, areas_end_for}
use Rattle.luks_format.specs.declared.wish.Wish.{Wish}
use Rattle.luks_meta.specs.declared.keyslot.Luks2.{Luks2}
use Rattle.luks_rules.specs.Areas.{header_bytes, main_bytes}
use Rattle.luks_slots.specs.NewSlots.{area_len, slot_for}
use Rattle.sector_disk.specs.Devices.{Device}
use Rattle.sector_disk.specs.Geometry.{IsInDisk}

-- two copies of so many bytes, and the area behind both
pub record IsFront (v : NewVolume) (size : ℕ) : Type 0 where
  pub first : length (primary_of v.slot.commit.copies) ≡ size
  pub second : length (secondary_of v.slot.commit.copies) ≡ size
  pub header : v.slot.commit.header.hdr_size ≡ size
  pub place : v.slot.area_offset ≡ 2 * size

pub is-front : (w : Wish) (sizes : Sizes) (pass seed : List ℕ) (v : NewVolume) → IsWish w
    → IsNewVolume w sizes pass seed v → IsFront v w.metadata_size
unfolding parts_with config_for
is-front w sizes pass seed v wish is =
    let least = size-least w.metadata_size wish.size in
    let size : v.slot.commit.header.hdr_size ≡ w.metadata_size =
    ap (λ (h : BinHeader). h.hdr_size) is.first.header ∙ omega (arith, least) in
    record {
      first = is.first.prepared.first.whole.whole ∙ size;
      second = is.first.prepared.second.whole.whole ∙ size;
      header = size;
      place = is.place;
    }

-- ---- the keyslot
pub slot-offset : (w : Wish) (d : Draw) → (keyslot_for w d).area.offset ≡ 2 * w.metadata_size
unfolding keyslot_for slot_for
slot-offset w d = refl

slot-size : (w : Wish) (d : Draw) → (keyslot_for w d).area.size ≡ area_len w.key_size
unfolding keyslot_for slot_for
slot-size w d = refl

pub slot-is : (w : Wish) (sizes : Sizes) (pass seed : List ℕ) (v : NewVolume)
    → (is : IsNewVolume w sizes pass seed v) → is.slot.0 ≡ keyslot_for w (draw_of w seed)
unfolding keyslot_for
slot-is w sizes pass seed v is =
    is.slot.1.slot
    ∙ ap (λ n. slot_for n (length (draw_of w seed).key) w.iterations
    (take salt_len (draw_of w seed).slot)) is.place
    ∙ ap (λ n. slot_for (2 * w.metadata_size) n w.iterations
    (take salt_len (draw_of w seed).slot)) is.drawn.key

-- its area ends within the keyslots area
in-areas : (w : Wish) (sizes : Sizes) (pass seed : List ℕ) (v : NewVolume)
    → IsNewVolume w sizes pass seed v → end_of_front v ≤ areas_end_for w
in-areas w sizes pass seed v is =
    let within = is.slot.1.within in
    let size = ap (λ (k : Luks2). k.area.size) (slot-is w sizes pass seed v is)
    ∙ slot-size w (draw_of w seed) in
    let room = (all-fits w sizes pass (text_len w seed) is.fits).area in
    let place = is.place in
    omega (arith, within, size, room, place)

-- which ends on the header's disk, or in front of the data
pub in-front : (w : Wish) (sizes : Sizes) (pass seed : List ℕ) (v : NewVolume) → IsWish w
    → IsNewVolume w sizes pass seed v → end_of_front v ≤ front_room w sizes
in-front w sizes pass seed v wish is = by-form w.detached refl
  where
    by-form : (detached : Bool) → w.detached ≡ detached
        → end_of_front v ≤ (if detached then header_bytes sizes else w.data_offset)
    by-form true own =
        let fit = all-fits w sizes pass (text_len w seed) is.fits in
        let end = in-areas w sizes pass seed v is in
        let room = fit.front own in
        omega (arith, end, room)
    by-form false one =
        let fit = all-fits w sizes pass (text_len w seed) is.fits in
        let end = in-areas w sizes pass seed v is in
        let room = before-offset w wish fit.area one in
        omega (arith, end, room)

-- the disk of the data has it where its offset says
pub data-begins : (w : Wish) (sizes : Sizes) (pass seed : List ℕ) (v : NewVolume) → IsWish w
    → FitsDisk w sizes → IsNewVolume w sizes pass seed v → w.data_offset ≤ main_bytes sizes
data-begins w sizes pass seed v wish disk is =
    let block = (all-fits w sizes pass (text_len w seed) is.fits).block in
    let even = pages-whole w.data_offset sizes.atom disk.atom wish.page in
    let left = block-left sizes.atom sizes.main_atoms w.data_offset disk.atom even block in
    omega (arith, left)

-- the room in front of the data lies on a disk of these sizes
room-on : (w : Wish) (sizes : Sizes) (device : Device) → HasSizes sizes device
    → w.data_offset ≤ main_bytes sizes → front_room w sizes ≤ device.atoms * sizes.atom
room-on w sizes device has begins = by-form w.detached
  where
    by-form : (detached : Bool)
        → (if detached then header_bytes sizes else w.data_offset) ≤ device.atoms * sizes.atom
    by-form true = mul-le-mul_right sizes.atom has.header
    by-form false = let main = mul-le-mul_right sizes.atom has.main in omega (arith, begins, main)

-- all of it lies on a disk of the sizes that it is made for
pub fits-new : (w : Wish) (sizes : Sizes) (pass seed : List ℕ) (v : NewVolume) (device : Device)
    → IsWish w → FitsDisk w sizes → IsNewVolume w sizes pass seed v → HasSizes sizes device
    → FitsNew v device
fits-new w sizes pass seed v device wish disk is has =
    let end = in-front w sizes pass seed v wish is in
    let room = room-on w sizes device has (data-begins w sizes pass seed v wish disk is) in
    let place = div-mul-le_self v.slot.area_offset sizes.atom in
    let within : v.slot.area_offset / sizes.atom * sizes.atom + length v.slot.area
    ≤ device.atoms * sizes.atom =
    omega (arith, end, room, place) in
    record {
      begun = is.first.begun;
      sizes = subst (λ (s : Sizes). HasSizes s device) (sym is.first.sizes_are) has;
      area = subst (λ n. IsInDisk n device.atoms (v.slot.area_offset / n) (length v.slot.area)) has.atom
          (record { whole = is.slot.1.whole; within = within });
    }
