-- The one segment of a volume of which nothing is being converted, and its blocks.
use Rattle.std.proofs.Common.{◌≡◌, ◌∙◌, ℕ, suc, zero, ◌+◌, ◌-◌, ◌*◌, ◌/◌, ◌^◌, ◌<◌, ◌≤◌, cond, List}
use Rattle.std.proofs.Common.{[], ◌∷◌, length, map, Option, Some, None, true, false, refl, sym, ap}
use Rattle.std.proofs.Common.{subst, arith}
use Rattle.std.proofs.Math.Nat.{div-mul-le_self, mul-le-mul_right}
use Rattle.std.proofs.lemmas.Nat.{le-div}
use Rattle.std.specs.List.{AllByRecursion, sum_by}
use Rattle.std.specs.Option.{IfSome}
use Rattle.base_terms.specs.declared.disk_sizes.Sizes.{Sizes}
use Rattle.luks_meta.specs.declared.meta.Parts.{Parts}
use Rattle.luks_meta.specs.declared.segment.Encryption.{Encryption}
use Rattle.luks_meta.specs.declared.segment.Segment.{Segment}
use Rattle.luks_rules.specs.Areas.{main_bytes}
use Rattle.luks_rules.specs.Conversions.{conversions_of}
use Rattle.luks_rules.specs.Extents.{extent_of}
use Rattle.luks_rules.specs.Idles.{idle_from, idle_of}
use Rattle.luks_rules.specs.Plain.{HoldVolume}
use Rattle.luks_rules.specs.Segments.{bytes_by, bytes_of, in_progress, live_bytes, whole_blocks}
use Rattle.luks_rules.specs.States.{IsIdle, IsPlaced}
use Rattle.luks_rules.specs.declared.idle.Idle.{Idle}

one_segment : {X : Type 0} (xs : List X) → length xs ≡ 1 → (x : X) × (xs ≡ x ∷ [])
one_segment [] h = absurd (omega (arith, h))
one_segment (x ∷ []) h = (x, refl)
one_segment (x ∷ y ∷ ys) h = absurd (omega (arith, h))

-- ---- blocks of so many bytes
block_on : (offset bytes main atom b : ℕ) → offset + bytes ≤ main → b < bytes / atom
    → offset + b * atom + atom ≤ main
block_on offset bytes main atom b on h =
    let all = div-mul-le_self bytes atom in
    let next : (b + 1) * atom ≤ bytes / atom * atom =
    mul-le-mul_right atom (let low : b + 1 ≤ bytes / atom = omega (arith, h) in low) in
    omega (arith, on, all, next)

fewer_units : (o : Option Encryption) (some all : ℕ) → some ≤ all
    → IfSome o (λ c. c.iv_tweak + all / 512 ≤ 2 ^ 64 - 1)
    → IfSome o (λ c. c.iv_tweak + some / 512 ≤ 2 ^ 64 - 1)
fewer_units None some all h n = tt
fewer_units (Some c) some all h n = omega (arith, h, n)

-- ---- the volume
a_block : (m : Parts) (sizes : Sizes) (s : ℕ × Segment) → 0 < sizes.atom → m.segments ≡ s ∷ []
    → HoldVolume false m sizes → 0 < bytes_of sizes s.1 / sizes.atom
a_block m sizes s some e hold =
    let all = subst (λ ss. sizes.atom ≤ sum_by (λ s. live_bytes false sizes s.1) ss) e hold.block in
    le-div 1 (bytes_of sizes s.1) sizes.atom some (omega (arith, all))

pub idle_is : (m : Parts) (sizes : Sizes) → 0 < sizes.atom
    → AllByRecursion (IsPlaced m sizes) (map (extent_of m.digests) m.segments)
    → conversions_of m.keyslots ≡ []
    → HoldVolume (in_progress m.config) m sizes → in_progress m.config ≡ false
    → (v : Idle) × (idle_of m sizes ≡ Some v) × IsIdle m sizes v
unfolding idle_of
idle_is m sizes some placed none holds idle =
    let hold : HoldVolume false m sizes = subst (λ b. HoldVolume b m sizes) idle holds in
    let one = one_segment m.segments (hold.one refl) in
    let s = one.0 in
    let e = ap (map (extent_of m.digests)) one.1 in
    let here : IsPlaced m sizes (extent_of m.digests s) =
    (subst (AllByRecursion (IsPlaced m sizes)) e placed).0 in
    let bytes = bytes_of sizes s.1 in (
      record { segment = extent_of m.digests s; blocks = whole_blocks sizes s.1.offset s.1.size },
      ap (λ b. cond b None (idle_from sizes m.digests m.segments)) idle
          ∙ ap (idle_from sizes m.digests) one.1,
      record {
        keyslots = none;
        segments = e;
        placed = here;
        blocks = refl;
        some = a_block m sizes s some one.1 hold;
        places = λ b h. block_on s.1.offset bytes (main_bytes sizes) sizes.atom b here.on_disk h;
        units = fewer_units s.1.encryption (bytes / sizes.atom * sizes.atom) bytes
            (div-mul-le_self bytes sizes.atom) here.numbers;
      },
    )
