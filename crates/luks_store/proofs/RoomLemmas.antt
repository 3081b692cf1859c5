-- Lemmas on the room for both copies: metadata that break no rule leave it.
use Rattle.std.proofs.Common.{◌≡◌, ℕ, ◌+◌, ◌*◌, ◌<◌, ◌≤◌, List, [], ◌∷◌, Bool, true, false}
use Rattle.std.proofs.Common.{refl, arith, if◌then◌else◌}
use Rattle.std.specs.List.{All, sum_by}
use Rattle.std.proofs.lemmas.List.Elements.{All-head}
use Rattle.base_terms.specs.declared.disk_sizes.Sizes.{Sizes}
use Rattle.luks_meta.specs.declared.config.Config.{Config}
use Rattle.luks_meta.specs.declared.meta.Parts.{Parts}
use Rattle.luks_meta.specs.declared.segment.Segment.{Segment}
use Rattle.luks_rules.specs.Areas.{areas_end, main_bytes}
use Rattle.luks_rules.specs.Segments.{bytes_of, in_progress, live_bytes}
use Rattle.luks_rules.specs.States.{IsSound}
use Rattle.luks_store.specs.Devices.{header_room}

-- in front of a segment
before : (c : Config) (sizes : Sizes) (progress : Bool) (segments : List (ℕ × Segment))
    → 0 < sizes.atom
    → All (λ (s : ℕ × Segment). areas_end c ≤ s.1.offset) segments
    → All (λ (s : ℕ × Segment). s.1.offset + bytes_of sizes s.1 ≤ main_bytes sizes) segments
    → sizes.atom ≤ sum_by (λ (s : ℕ × Segment). live_bytes progress sizes s.1) segments
    → areas_end c ≤ main_bytes sizes
before c sizes progress [] some behind on_disk block = absurd (omega (arith, some, block))
before c sizes progress (s ∷ ss) some behind on_disk block =
    let here = All-head (λ (s : ℕ × Segment). areas_end c ≤ s.1.offset) s ss behind in
    let there =
    All-head (λ (s : ℕ × Segment). s.1.offset + bytes_of sizes s.1 ≤ main_bytes sizes) s ss
    on_disk in
    omega (arith, here, there)

room-by : (m : Parts) (sizes : Sizes) (size : ℕ) (b : Bool) → sizes.detached ≡ b → IsSound m sizes
    → m.config.json_size + 4096 ≡ size
    → 2 * size ≤ header_room sizes
room-by m sizes size true detached sound is = let end =
    sound.within.detached detached in rw detached (omega (arith, end, is))
room-by m sizes size false attached sound is =
    let end =
    before m.config sizes (in_progress m.config) m.segments sound.atom
    (sound.within.attached attached)
    sound.segments.on_disk sound.segments.block in
    rw attached (omega (arith, end, is))

pub room-of : (m : Parts) (sizes : Sizes) (size : ℕ) → IsSound m sizes
    → m.config.json_size + 4096 ≡ size
    → 2 * size ≤ header_room sizes
room-of m sizes size sound is = room-by m sizes size sizes.detached refl sound is

-- where both disks are one the header's is the main one
pub room-there : (atom base used : ℕ) (detached : Bool)
    → header_room (record {
      atom = atom;
      header_atoms = if detached then base else used;
      main_atoms = used;
      detached = detached;
    })
    ≤ (if detached then base else used) * atom
room-there atom base used true = omega arith
room-there atom base used false = omega arith
