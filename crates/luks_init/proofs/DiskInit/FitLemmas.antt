-- What is made lies on the disk that its header was loaded from.
use Rattle.std.proofs.Common.{◌≡◌, ◌∙◌, ℕ, ◌+◌, ◌*◌, ◌/◌, ◌%◌, ◌≤◌, Bool, true, false, List, length}
use Rattle.std.proofs.Common.{Option, Some, None, refl, sym, ap, subst, arith}
use Rattle.std.proofs.Common.{if◌then◌else◌}
use Rattle.std.proofs.Math.Nat.{div-mul-le_self, mul-le-mul_right}
use Rattle.base_terms.specs.declared.disk_sizes.Sizes.{Sizes}
use Rattle.luks_init.proofs.DiskInit.BegunLemmas.{area_within, free, idle, volume}
use Rattle.luks_init.specs.DiskInit.Makings.{IsMade, draw_of}
use Rattle.sector_disk.specs.JoinedDisks.Counts.{HasSizes}
use Rattle.luks_init.specs.Begins.{IsBegun}
use Rattle.luks_init.specs.declared.wish.Wish.{Wish}
use Rattle.luks_meta.specs.declared.meta.Parts.{Parts}
use Rattle.luks_rules.specs.Areas.{areas_end, main_bytes}
use Rattle.luks_rules.specs.Idles.{idle_from, idle_of}
use Rattle.luks_rules.specs.Segments.{in_progress}
use Rattle.luks_rules.specs.States.{IsIdle, IsSound}
use Rattle.luks_rules.specs.declared.idle.Idle.{Idle}
use Rattle.luks_store.specs.declared.loaded.Stored.{Stored}
use Rattle.sector_disk.specs.Devices.{Device}
use Rattle.luks_store.specs.SlotCommits.Calls.{FitsSlot}
use Rattle.luks_store.specs.declared.slot_commit.writing.SlotCommit.{SlotCommit}

-- ---- the keyslots area ends on the disk
idle_busy : (busy : Bool) (o : Option Idle) (v : Idle) → (if busy then None else o) ≡ Some v
    → busy ≡ false
idle_busy true o v is = cc
idle_busy false o v is = refl

not_busy : (m : Parts) (sizes : Sizes) (v : Idle) → idle_of m sizes ≡ Some v
    → in_progress m.config ≡ false
unfolding idle_of
not_busy m sizes v is =
    idle_busy (in_progress m.config) (idle_from sizes m.digests m.segments) v is

before_main : (m : Parts) (sizes : Sizes) (v : Idle) → IsIdle m sizes v → sizes.detached ≡ false
    → areas_end m.config ≤ main_bytes sizes
before_main m sizes v is alone =
    let first = is.places 0 is.some in
    let behind = is.placed.behind alone in
    omega (arith, first, behind)

end_within : (m : Parts) (sizes : Sizes) (v : Idle) (device : Device) → IsSound m sizes
    → idle_of m sizes ≡ Some v → HasSizes sizes device → (detached : Bool)
    → sizes.detached ≡ detached → areas_end m.config ≤ device.atoms * sizes.atom
end_within m sizes v device sound is has false alone =
    let main = before_main m sizes (sound.idle (not_busy m sizes v is)).1.0
    (sound.idle (not_busy m sizes v is)).1.2 alone in
    let more = mul-le-mul_right sizes.atom has.main in
    omega (arith, main, more)
end_within m sizes v device sound is has true own =
    let header = sound.within.detached own in
    let more = mul-le-mul_right sizes.atom has.header in
    omega (arith, header, more)

module _ (header : Stored) (sizes : Sizes) (w : Wish) (pass seed : List ℕ) (slot : SlotCommit)
    (made : IsMade header w pass seed slot) (sizes_are : header.valid.sizes ≡ sizes)
    (sound : IsSound header.valid.meta sizes) where
  abbrev m : Parts
  m = header.valid.meta

  begins_here : IsBegun m sizes w pass (draw_of w seed) made.begun
  begins_here = subst (λ (z : Sizes). IsBegun m z w pass (draw_of w seed) made.begun) sizes_are made.begins

  within : (device : Device) → HasSizes sizes device
      → slot.area_offset / device.size * device.size + length slot.area
      ≤ device.atoms * device.size
  within device has =
      let d = draw_of w seed in
      let down = div-mul-le_self slot.area_offset device.size in
      let at = made.is.offset in
      let long = ap length made.is.area in
      let most = area_within m sizes w pass d made.begun begins_here made.drawn in
      let before = (free m sizes w pass d made.begun begins_here made.drawn).before in
      let end : areas_end m.config ≤ device.atoms * device.size =
      subst (λ (n : ℕ). areas_end m.config ≤ device.atoms * n) has.atom
      (end_within m sizes (volume m sizes w pass d made.begun begins_here) device sound
      (idle m sizes w pass d made.begun begins_here) has sizes.detached refl) in
      omega (arith, down, at, long, most, before, end)

  pub fits_slot : (device : Device) → HasSizes sizes device → FitsSlot slot device
  fits_slot device has = record {
    begun = made.is.unwritten;
    sizes = subst (λ (z : Sizes). HasSizes z device)
        (sym (made.is.next.sizes ∙ sizes_are)) has;
    area = record {
      whole = subst (λ (n : ℕ). length slot.area % n ≡ 0) has.atom
          (subst (λ (bytes : List ℕ). length bytes % sizes.atom ≡ 0) (sym made.is.area)
          begins_here.slot.whole);
      within = within device has;
    };
  }
