-- Keyslots of a header that breaks no rule lie on its disk, in whole atoms.
use Rattle.std.proofs.Common.{◌≡◌, ℕ, ◌+◌, ◌*◌, ◌%◌, ◌<◌, ◌≤◌, Bool, true, false, List, [], ◌∷◌}
use Rattle.std.proofs.Common.{Option, Some, None, All, sum_by, refl, subst, arith}
use Rattle.std.specs.List.{AllByRecursion, cons_option, filter_map}
use Rattle.std.proofs.lemmas.List.Elements.{All-head, All-tail}
use Rattle.std.proofs.Math.Nat.{mul-le-mul_right}
use Rattle.base_terms.specs.declared.disk_sizes.Sizes.{Sizes}
use Rattle.sector_disk.specs.JoinedDisks.Counts.{HasSizes}
use Rattle.luks_meta.specs.Configs.{origin_of}
use Rattle.luks_meta.specs.Keyslots.{IsDerivation, IsKeyslot}
use Rattle.luks_meta.specs.Metas.{IsMeta}
use Rattle.luks_meta.specs.declared.config.Config.{Config}
use Rattle.luks_meta.specs.declared.keyslot.Derivation.{Derivation}
use Rattle.luks_meta.specs.declared.keyslot.Derivation.TheVariants as derivations
use Rattle.luks_meta.specs.declared.keyslot.Keyslot.{Keyslot}
use Rattle.luks_meta.specs.declared.keyslot.Keyslot.TheVariants as keyslots
use Rattle.luks_meta.specs.declared.keyslot.Origin.{Origin}
use Rattle.luks_meta.specs.declared.meta.Parts.{Parts}
use Rattle.luks_meta.specs.declared.segment.Segment.{Segment}
use Rattle.luks_rules.specs.Areas.{area_of, areas_end, areas_of, header_bytes, main_bytes}
use Rattle.luks_rules.specs.Plain.{IsWithin}
use Rattle.luks_rules.specs.Segments.{bytes_of, in_progress, live_bytes}
use Rattle.luks_rules.specs.States.{IsSound}
use Rattle.luks_rules.specs.declared.areas.Area.{Area}
use Rattle.luks_slots.specs.Slots.{HasRounds, IsReady}
use Rattle.sector_disk.specs.Devices.{Device as disk_type}

rounds-of : (d : Derivation) → IsDerivation d → HasRounds d
rounds-of (derivations.Pbkdf2 kdf) is = is.iterations
rounds-of (derivations.Unknown kind) is = tt

pub skipped : {X : Type 0} (P : X → Type 0) (o : Option X) (xs : List X) → All P (cons_option o xs)
    → All P xs
skipped P None xs all = all
skipped P (Some x) xs all = All-tail P x xs all

-- an area is whole atoms
abbrev pub IsWhole : ℕ → Area → Type 0
IsWhole size a = (a.offset % size ≡ 0) × (a.size % size ≡ 0)

abbrev pub found : List (ℕ × Keyslot) → List Area
found slots = filter_map (λ slot. area_of slot.1) slots

ready-each : (origin : Origin) (c : Config) (size atoms : ℕ) (slots : List (ℕ × Keyslot))
    → areas_end c ≤ atoms * size
    → AllByRecursion (λ e. IsKeyslot origin e.1) slots → All (IsWithin c) (found slots)
    → All (IsWhole size) (found slots)
    → AllByRecursion (λ slot. IsReady size atoms slot.1) slots
ready-each origin c size atoms [] fits rights within whole = tt
ready-each origin c size atoms ((n, keyslots.Luks2 s) ∷ slots) fits rights within whole =
    let a : Area = record { offset = s.area.offset; size = s.area.size } in
    let lies = All-head (IsWithin c) a (found slots) within in
    let even = All-head (IsWhole size) a (found slots) whole in
    let last = lies.1 in (
      record {
        offset = even.0;
        whole = even.1;
        within = omega (arith, last, fits);
        rounds =
            rounds-of s.kdf.derivation rights.0.kdf.derivation;
      },
      ready-each origin c size atoms slots fits rights.1
          (All-tail (IsWithin c) a (found slots) within)
          (All-tail (IsWhole size) a (found slots) whole),
    )
ready-each origin c size atoms ((n, keyslots.Reencrypt s) ∷ slots) fits rights within whole = (
  tt,
  ready-each origin c size atoms slots fits rights.1
      (skipped (IsWithin c) (area_of (keyslots.Reencrypt s)) (found slots) within)
      (skipped (IsWhole size) (area_of (keyslots.Reencrypt s)) (found slots) whole),
)
ready-each origin c size atoms ((n, keyslots.Unknown s) ∷ slots) fits rights within whole = (
  tt,
  ready-each origin c size atoms slots fits rights.1
      (skipped (IsWithin c) (area_of (keyslots.Unknown s)) (found slots) within)
      (skipped (IsWhole size) (area_of (keyslots.Unknown s)) (found slots) whole),
)

-- a volume has a segment, before which the keyslots area ends
in-front : (f bytes : ℕ × Segment → ℕ) (segments : List (ℕ × Segment)) (atom end main : ℕ)
    → 0 < atom → atom ≤ sum_by f segments
    → All (λ s. end ≤ s.1.offset) segments → All (λ s. s.1.offset + bytes s ≤ main) segments
    → end ≤ main
in-front f bytes [] atom end main some block behind on_disk =
    let none : sum_by f [] ≡ 0 = refl in absurd (omega (arith, some, block, none))
in-front f bytes (s ∷ segments) atom end main some block behind on_disk =
    let first = All-head (λ (t : ℕ × Segment). end ≤ t.1.offset) s segments behind in
    let last = All-head (λ (t : ℕ × Segment). t.1.offset + bytes t ≤ main) s segments on_disk in
    omega (arith, first, last)

fitting-by : (m : Parts) (sizes : Sizes) (detached : Bool) → sizes.detached ≡ detached
    → IsSound m sizes
    → (header : ℕ) → header_bytes sizes ≤ header → main_bytes sizes ≤ header
    → areas_end m.config ≤ header
fitting-by m sizes true is sound header front back =
    let end = sound.within.detached is in omega (arith, end, front)
fitting-by m sizes false is sound header front back =
    let end =
    in-front (λ s. live_bytes (in_progress m.config) sizes s.1) (λ s. bytes_of sizes s.1) m.segments
    sizes.atom
    (areas_end m.config) (main_bytes sizes) sound.atom sound.segments.block
    (sound.within.attached is) sound.segments.on_disk in
    omega (arith, end, back)

pub ready : (m : Parts) (sizes : Sizes) (device : disk_type) → IsSound m sizes → IsMeta m
    → HasSizes sizes device
    → AllByRecursion (λ slot. IsReady device.size device.atoms slot.1) m.keyslots
unfolding areas_of
ready m sizes device sound meta holds =
    let front : header_bytes sizes ≤ device.atoms * sizes.atom =
    mul-le-mul_right sizes.atom holds.header in
    let back : main_bytes sizes ≤ device.atoms * sizes.atom =
    mul-le-mul_right sizes.atom holds.main in
    ready-each (origin_of m.config) m.config device.size device.atoms m.keyslots
    (subst (λ n. areas_end m.config ≤ device.atoms * n) holds.atom
    (fitting-by m sizes sizes.detached refl sound (device.atoms * sizes.atom) front back))
    meta.keyslots.each sound.within.areas
    (subst (λ n. All (IsWhole n) (areas_of m.keyslots)) holds.atom sound.atoms.areas)
