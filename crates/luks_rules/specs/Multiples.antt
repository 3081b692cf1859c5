-- Sizes and places in whole sectors and atoms, and numbers of sectors.
use Rattle.std.specs.Prelude.{ℕ, ◌+◌, ◌-◌, ◌/◌, ◌%◌, ◌^◌, ◌==◌, ◌||◌, nat_lt, not, Bool, false}
use Rattle.std.specs.Prelude.{Option, Some, None}
use Rattle.std.specs.List.{list_any}
use Rattle.luks_meta.specs.declared.meta.Parts.{Parts}
use Rattle.luks_meta.specs.declared.segment.Encryption.{Encryption}
use Rattle.luks_meta.specs.declared.segment.Segment.{Segment}
use Rattle.luks_meta.specs.declared.segment.SegmentSize.{SegmentSize}
use Rattle.luks_meta.specs.declared.segment.SegmentSize.TheVariants.{Dynamic, Sized}
use Rattle.luks_rules.specs.Areas.{areas_of}
use Rattle.luks_rules.specs.Segments.{bytes_of}
use Rattle.luks_rules.specs.declared.areas.Area.{Area}
use Rattle.base_terms.specs.declared.disk_sizes.Sizes.{Sizes}

-- ---- a sector that doesn't divide the atom
abbrev pub cuts_atom : ℕ → Option Encryption → Bool
cuts_atom atom None = false
cuts_atom atom (Some e) = e.sector_size == 0 || not (atom % e.sector_size == 0)

unfoldable pub breaks_sectors : Parts → Sizes → Bool
breaks_sectors m sizes = list_any (λ s. cuts_atom sizes.atom s.1.encryption) m.segments

-- ---- a place or size that isn't a multiple of the atom
abbrev pub is_uneven : ℕ → ℕ → Bool
is_uneven atom n = not (n % atom == 0)

abbrev pub is_uneven_size : ℕ → SegmentSize → Bool
is_uneven_size atom Dynamic = false
is_uneven_size atom (Sized n) = is_uneven atom n

abbrev pub is_uneven_segment : ℕ → Segment → Bool
is_uneven_segment atom s = is_uneven atom s.offset || is_uneven_size atom s.size

abbrev pub is_uneven_area : ℕ → Area → Bool
is_uneven_area atom a = is_uneven atom a.offset || is_uneven atom a.size

unfoldable pub breaks_multiples : Parts → Sizes → Bool
breaks_multiples m sizes =
    list_any (λ s. is_uneven_segment sizes.atom s.1) m.segments
    || list_any (is_uneven_area sizes.atom) (areas_of m.keyslots)

-- ---- a last sector whose number has more than 64 bits
abbrev pub passes_numbers : ℕ → Option Encryption → Bool
passes_numbers bytes None = false
passes_numbers bytes (Some e) = nat_lt (2 ^ 64 - 1) (e.iv_tweak + bytes / 512)

unfoldable pub breaks_tweaks : Parts → Sizes → Bool
breaks_tweaks m sizes =
    list_any (λ s. passes_numbers (bytes_of sizes s.1) s.1.encryption) m.segments
