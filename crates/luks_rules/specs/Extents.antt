-- Segments by their place, encryption, flags and digest.
use Rattle.std.specs.Prelude.{ℕ, ◌/◌, List, [], ◌∷◌, codes, Option, Some, None, option_map}
use Rattle.std.specs.Prelude.{if◌then◌else◌}
use Rattle.std.specs.List.{find}
use Rattle.std.specs.Str.{bytes_eq}
use Rattle.luks_meta.specs.declared.digest.Digest.{Digest}
use Rattle.luks_meta.specs.declared.segment.Segment.{Segment}
use Rattle.luks_meta.specs.declared.segment.SegmentSize.{SegmentSize}
use Rattle.luks_meta.specs.declared.segment.SegmentSize.TheVariants.{Dynamic, Sized}
use Rattle.luks_rules.specs.References.{lists}
use Rattle.luks_rules.specs.declared.extents.Extent.{Extent}
use Rattle.luks_rules.specs.declared.extents.Mark.{Mark}
use Rattle.luks_rules.specs.declared.extents.Mark.TheVariants as marks

-- what flags say: none, one that is known, or others
abbrev pub mark_named : List ℕ → Mark
mark_named flag =
    if bytes_eq flag (codes "in-reencryption") then marks.Zone
    else (if bytes_eq flag (codes "backup-previous") then marks.Previous else
    (if bytes_eq flag (codes "backup-final") then marks.Final else marks.Other))

abbrev pub mark_by : List (List ℕ) → Mark
mark_by [] = marks.Plain
mark_by (flag ∷ []) = mark_named flag
mark_by (flag ∷ another ∷ flags) = marks.Other

abbrev pub mark_of : Option (List (List ℕ)) → Mark
mark_of None = marks.Plain
mark_of (Some flags) = mark_by flags

-- the first digest that lists a segment
unfoldable pub digest_of : List (ℕ × Digest) → ℕ → Option ℕ
digest_of digests n = option_map (λ d. d.0) (find (λ d. lists d.1.segments n) digests)

abbrev pub extent_of : List (ℕ × Digest) → ℕ × Segment → Extent
extent_of digests s =
    record {
      number = s.0;
      offset = s.1.offset;
      size = s.1.size;
      encryption = s.1.encryption;
      mark =
          mark_of s.1.flags;
      digest = digest_of digests s.0;
    }

-- the blocks of a size in bytes; none where it is open-ended
abbrev pub blocks_of : ℕ → SegmentSize → ℕ
blocks_of atom Dynamic = 0
blocks_of atom (Sized n) = n / atom
