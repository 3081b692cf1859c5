-- Segments: how long they are, which of them hold the volume, and how far they reach.
use Rattle.std.specs.Prelude.{ℕ, ◌+◌, ◌-◌, ◌/◌, ◌==◌, ◌&&◌, ◌||◌, nat_le, nat_lt, not, Bool, true}
use Rattle.std.specs.Prelude.{false, List, codes, length, Option, Some, None, if◌then◌else◌}
use Rattle.std.specs.List.{list_any, sum_by}
use Rattle.std.specs.Str.{bytes_eq}
use Rattle.luks_meta.specs.Configs.{profile, mandatory}
use Rattle.luks_meta.specs.declared.config.Config.{Config}
use Rattle.luks_meta.specs.declared.meta.Parts.{Parts}
use Rattle.luks_meta.specs.declared.segment.Segment.{Segment}
use Rattle.luks_meta.specs.declared.segment.SegmentSize.{SegmentSize}
use Rattle.luks_meta.specs.declared.segment.SegmentSize.TheVariants.{Dynamic, Sized}
use Rattle.luks_rules.specs.Areas.{main_bytes}
use Rattle.base_terms.specs.declared.disk_sizes.Sizes.{Sizes}

-- whether a conversion is under way: the profile's string is mandatory
unfoldable pub in_progress : Config → Bool
in_progress c = list_any (λ text. bytes_eq text profile) (mandatory c.requirements)

abbrev pub flag_in : List ℕ → Option (List (List ℕ)) → Bool
flag_in flag None = false
flag_in flag (Some flags) = list_any (λ text. bytes_eq text flag) flags

-- one of the two whole segments that a conversion keeps beside the live ones
abbrev pub is_backup : Segment → Bool
is_backup s = flag_in (codes "backup-previous") s.flags || flag_in (codes "backup-final") s.flags

abbrev pub is_dynamic : SegmentSize → Bool
is_dynamic Dynamic = true
is_dynamic (Sized n) = false

-- Whether a volume goes to the main disk's end: a segment has no size of its own. Bytes that lie
-- there behind the last whole atom may then be sectors of it too.
abbrev pub goes_to_end : List (ℕ × Segment) → Bool
goes_to_end segments = list_any (λ s. is_dynamic s.1.size) segments

-- the bytes of the smallest sector of LUKS2 (On-Disk Format 1.1, section 3): fewer hold no sector
-- of any volume
abbrev pub smallest_sector : ℕ
smallest_sector = 512

-- Whether bytes that may be sectors of a volume lie behind the last whole atom of a main disk that
-- has so many there. The volume goes to the disk's end, and they could hold a sector of it, under
-- the segment that it has or under another one.
abbrev pub has_tail : List (ℕ × Segment) → ℕ → Bool
has_tail segments tail = goes_to_end segments && nat_le smallest_sector tail

-- the bytes of a segment: a dynamic one goes to the last whole atom of the disk
abbrev pub bytes_by : ℕ → ℕ → SegmentSize → ℕ
bytes_by last offset Dynamic = last - offset
bytes_by last offset (Sized n) = n

abbrev pub bytes_of : Sizes → Segment → ℕ
bytes_of sizes s = bytes_by (main_bytes sizes) s.offset s.size

-- the whole atoms of a segment at a place
abbrev pub whole_blocks : Sizes → ℕ → SegmentSize → ℕ
whole_blocks sizes offset size = bytes_by (main_bytes sizes) offset size / sizes.atom

abbrev pub passes_end : Sizes → Segment → Bool
passes_end sizes s = nat_lt (main_bytes sizes) (s.offset + bytes_of sizes s)

-- ---- no whole volume: segments that are too many or too few, open-ended, too far, or without a
-- block
abbrev pub is_live : Bool → Segment → Bool
is_live progress s = not (progress && is_backup s)

abbrev pub live_bytes : Bool → Sizes → Segment → ℕ
live_bytes progress sizes s = if is_live progress s then bytes_of sizes s else 0

abbrev pub breaks_count : Bool → List (ℕ × Segment) → Bool
breaks_count progress segments =
    if progress then list_any (λ s. not (is_backup s.1) && is_dynamic s.1.size) segments
    else not (length segments == 1)

unfoldable pub holds_none : Bool → Sizes → List (ℕ × Segment) → Bool
holds_none progress sizes segments =
    breaks_count progress segments
    || list_any (λ s. passes_end sizes s.1) segments
    || nat_lt (sum_by (λ s. live_bytes progress sizes s.1) segments) sizes.atom

abbrev pub breaks_segments : Parts → Sizes → Bool
breaks_segments m sizes = holds_none (in_progress m.config) sizes m.segments
