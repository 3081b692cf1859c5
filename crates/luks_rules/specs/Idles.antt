-- Volumes of which nothing is being converted.
use Rattle.std.specs.Prelude.{ℕ, List, [], ◌∷◌, Option, Some, None, if◌then◌else◌}
use Rattle.base_terms.specs.declared.disk_sizes.Sizes.{Sizes}
use Rattle.luks_meta.specs.declared.digest.Digest.{Digest}
use Rattle.luks_meta.specs.declared.meta.Parts.{Parts}
use Rattle.luks_meta.specs.declared.segment.Segment.{Segment}
use Rattle.luks_rules.specs.Extents.{extent_of}
use Rattle.luks_rules.specs.Segments.{in_progress, whole_blocks}
use Rattle.luks_rules.specs.declared.idle.Idle.{Idle}

-- the one segment, and its blocks
abbrev pub idle_from : Sizes → List (ℕ × Digest) → List (ℕ × Segment) → Option Idle
idle_from sizes digests [] = None
idle_from sizes digests (s ∷ []) =
    Some (record { segment = extent_of digests s; blocks = whole_blocks sizes s.1.offset s.1.size })
idle_from sizes digests (s ∷ another ∷ more) = None

-- the volume, if nothing of it is being converted
unfoldable pub idle_of : Parts → Sizes → Option Idle
idle_of m sizes =
    if in_progress m.config then None else idle_from sizes m.digests m.segments
