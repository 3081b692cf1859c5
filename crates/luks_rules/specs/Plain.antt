-- The rules in plain words.
use Rattle.std.specs.Prelude.{◌≡◌, ℕ, ◌+◌, ◌-◌, ◌/◌, ◌%◌, ◌^◌, ◌<◌, ◌≤◌, Bool, true, false, length}
use Rattle.std.specs.Prelude.{IfSome, IsSome}
use Rattle.std.specs.List.{All, sum_by}
use Rattle.base_terms.specs.declared.disk_sizes.Sizes.{Sizes}
use Rattle.luks_meta.specs.declared.config.Config.{Config}
use Rattle.luks_meta.specs.declared.meta.Parts.{Parts}
use Rattle.luks_meta.specs.declared.segment.SegmentSize.{SegmentSize}
use Rattle.luks_meta.specs.declared.segment.SegmentSize.TheVariants.{Dynamic, Sized}
use Rattle.luks_rules.specs.Areas.{areas_begin, areas_end, areas_of, end_of, header_bytes}
use Rattle.luks_rules.specs.Areas.{main_bytes}
use Rattle.luks_rules.specs.References.{is_there, times_listed}
use Rattle.luks_rules.specs.Segments.{bytes_of, is_backup, is_dynamic, live_bytes}
use Rattle.luks_rules.specs.declared.areas.Area.{Area}

-- ---- areas
abbrev pub IsWithin : Config → Area → Type 0
IsWithin c a = (areas_begin c ≤ a.offset) × (end_of a ≤ areas_end c)

-- Each area lies behind the two copies of the header and within the keyslots area, which ends
-- before each segment begins or, where the header is detached, on its disk.
pub record LieWithin (m : Parts) (sizes : Sizes) : Type 0 where
  pub areas : All (IsWithin m.config) (areas_of m.keyslots)
  pub attached : sizes.detached ≡ false → All (λ s. areas_end m.config ≤ s.1.offset) m.segments
  pub detached : sizes.detached ≡ true → areas_end m.config ≤ header_bytes sizes

-- ---- digests
-- They list keyslots and segments that are there, and each crypt segment is in exactly one.
pub record AreReferred (m : Parts) : Type 0 where
  pub keyslots : All (λ d. All (λ k. is_there m.keyslots k ≡ true) d.1.keyslots) m.digests
  pub segments : All (λ d. All (λ s. is_there m.segments s ≡ true) d.1.segments) m.digests
  pub once : All (λ s. IsSome s.1.encryption → times_listed m.digests s.0 ≡ 1) m.segments

-- ---- segments
-- One segment, or in a conversion live ones that have a size; each lies on the disk; and the live
-- ones have a block.
pub record HoldVolume (progress : Bool) (m : Parts) (sizes : Sizes) : Type 0 where
  pub one : progress ≡ false → length m.segments ≡ 1
  pub sized : progress ≡ true
      → All (λ s. is_backup s.1 ≡ false → is_dynamic s.1.size ≡ false) m.segments
  pub on_disk : All (λ s. s.1.offset + bytes_of sizes s.1 ≤ main_bytes sizes) m.segments
  pub block : sizes.atom ≤ sum_by (λ s. live_bytes progress sizes s.1) m.segments

-- ---- whole sectors and atoms
abbrev pub IsWholeSize : ℕ → SegmentSize → Type 0
IsWholeSize atom Dynamic = Unit {0}
IsWholeSize atom (Sized n) = n % atom ≡ 0

-- Sectors divide the atom; places and sizes are whole atoms; and the number behind a segment's
-- last sector has 64 bits.
abbrev pub HaveWholeSectors : Parts → Sizes → Type 0
HaveWholeSectors m sizes =
    All (λ s. IfSome s.1.encryption (λ e. (0 < e.sector_size) × (sizes.atom % e.sector_size ≡ 0)))
    m.segments

pub record HaveWholeAtoms (m : Parts) (sizes : Sizes) : Type 0 where
  pub segments : All (λ s. (s.1.offset % sizes.atom ≡ 0) × IsWholeSize sizes.atom s.1.size)
      m.segments
  pub areas : All (λ a. (a.offset % sizes.atom ≡ 0) × (a.size % sizes.atom ≡ 0))
      (areas_of m.keyslots)

abbrev pub HaveNumbers : Parts → Sizes → Type 0
HaveNumbers m sizes =
    All (λ s. IfSome s.1.encryption (λ e. e.iv_tweak + bytes_of sizes s.1 / 512 ≤ 2 ^ 64 - 1))
    m.segments
