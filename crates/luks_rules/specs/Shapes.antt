-- Metadata of a conversion: which segments, digests and keyslot belong together.
use Rattle.std.specs.Prelude.{ℕ, ◌+◌, ◌*◌, ◌==◌, ◌&&◌, not, Bool, true, false, List, [], ◌∷◌}
use Rattle.std.specs.Prelude.{length, Option, Some, None, is_some, option_map, option_and_then}
use Rattle.std.specs.Prelude.{if◌then◌else◌}
use Rattle.std.specs.List.{list_any, find}
use Rattle.luks_meta.specs.declared.digest.Digest.{Digest}
use Rattle.luks_meta.specs.declared.meta.Parts.{Parts}
use Rattle.luks_meta.specs.declared.reencrypt.Mode.{Mode}
use Rattle.luks_meta.specs.declared.reencrypt.Mode.TheVariants.{Reencrypt, Encrypt, Decrypt}
use Rattle.luks_meta.specs.declared.reencrypt.Resilience.{Resilience}
use Rattle.luks_meta.specs.declared.reencrypt.Resilience.TheVariants.{Journal, Checksum, Datashift}
use Rattle.luks_meta.specs.declared.segment.Encryption.{Encryption}
use Rattle.luks_meta.specs.declared.segment.Segment.{Segment}
use Rattle.luks_meta.specs.declared.segment.SegmentSize.{SegmentSize}
use Rattle.luks_meta.specs.declared.segment.SegmentSize.TheVariants.{Dynamic, Sized}
use Rattle.base_terms.specs.declared.disk_sizes.Sizes.{Sizes}
use Rattle.luks_rules.specs.Conversions.{conversions_of, only}
use Rattle.luks_rules.specs.Extents.{blocks_of, extent_of}
use Rattle.luks_rules.specs.Plans.{blocks_in, is_sized, laid_out, parts_of}
use Rattle.luks_rules.specs.References.{lists}
use Rattle.luks_rules.specs.Segments.{in_progress, is_dynamic}
use Rattle.luks_rules.specs.declared.conversions.Conversion.{Conversion}
use Rattle.luks_rules.specs.declared.extents.Extent.{Extent}
use Rattle.luks_rules.specs.declared.extents.Mark.{Mark}
use Rattle.luks_rules.specs.declared.extents.Mark.TheVariants as marks
use Rattle.luks_rules.specs.declared.plan.Plan.{Plan}
use Rattle.luks_rules.specs.declared.shape.Progress.{Progress}

-- ---- the two whole segments, whatever part is converted
abbrev pub is_previous : Mark → Bool
is_previous marks.Previous = true
is_previous marks.Plain = false
is_previous marks.Zone = false
is_previous marks.Final = false
is_previous marks.Other = false

abbrev pub is_final : Mark → Bool
is_final marks.Final = true
is_final marks.Plain = false
is_final marks.Zone = false
is_final marks.Previous = false
is_final marks.Other = false

-- whether the old and the new segment are crypt
abbrev pub fits_mode : Mode → Bool → Bool → Bool
fits_mode Reencrypt old new = old && new
fits_mode Encrypt old new = not old && new
fits_mode Decrypt old new = old && not new

abbrev pub starts_at_0 : Option Encryption → Bool
starts_at_0 None = true
starts_at_0 (Some e) = e.iv_tweak == 0

-- Without a shift the new segment begins where the old one does; checksums are those of atoms.
abbrev pub fits_place : ℕ → Resilience → ℕ → ℕ → Bool
fits_place atom Journal old new = new == old
fits_place atom (Checksum n) old new = n == atom && new == old
fits_place atom (Datashift n) old new = true

-- a crypt one is under a digest, a linear one under none
abbrev pub has_own_digest : Option Encryption → Option ℕ → Bool
has_own_digest None None = true
has_own_digest None (Some d) = false
has_own_digest (Some e) None = false
has_own_digest (Some e) (Some d) = true

abbrev pub have_two_digests : Option ℕ → Option ℕ → Bool
have_two_digests None new = true
have_two_digests (Some d) None = true
have_two_digests (Some d) (Some e) = not (d == e)

abbrev pub are_wholes : ℕ → Conversion → Extent → Extent → Bool
are_wholes atom c old new =
    is_previous old.mark
    && is_final new.mark
    && fits_mode c.mode (is_some old.encryption) (is_some new.encryption)
    && starts_at_0 new.encryption
    && fits_place atom c.resilience old.offset new.offset
    && has_own_digest old.encryption old.digest
    && has_own_digest new.encryption new.digest
    && have_two_digests old.digest new.digest

-- ---- sizes of the whole segments, by the bytes of the volume
abbrev pub is_whole_size : ℕ → SegmentSize → Bool
is_whole_size bytes Dynamic = true
is_whole_size bytes (Sized n) = n == bytes

-- the new segment will be open-ended where the old one is, but not behind a shift
abbrev pub stays_dynamic : Resilience → SegmentSize → Bool
stays_dynamic Journal old = is_dynamic old
stays_dynamic (Checksum n) old = is_dynamic old
stays_dynamic (Datashift n) old = false

abbrev pub is_next_size : ℕ → Bool → SegmentSize → Bool
is_next_size bytes true new = is_dynamic new
is_next_size bytes false new = is_sized bytes new

-- a shift opens no zone
abbrev pub may_open : Resilience → ℕ → Bool
may_open Journal zone = true
may_open (Checksum n) zone = true
may_open (Datashift n) zone = zone == 0

-- ---- the choice of boundary and zone
-- a choice that makes the segments those of the conversion
abbrev pub fits : ℕ → Conversion → Extent → Extent → List Extent → Plan → Bool
fits atom c old new live plan =
    laid_out atom (parts_of c.direction old new plan) live
    && is_whole_size (blocks_in plan * atom) old.size
    && is_next_size (blocks_in plan * atom) (stays_dynamic c.resilience old.size) new.size
    && may_open c.resilience plan.zone

abbrev pub plan_by : ℕ → ℕ → ℕ → Plan
plan_by first zone last = record { first = first; zone = zone; last = last }

-- All choices that the live segments leave: each part has the blocks of one of them, or none.
abbrev pub choices : ℕ → List Extent → List Plan
choices atom [] = []
choices atom (a ∷ []) =
    plan_by (blocks_of atom a.size) 0 0 ∷ plan_by 0 (blocks_of atom a.size) 0
    ∷ plan_by 0 0 (blocks_of atom a.size) ∷ []
choices atom (a ∷ b ∷ []) =
    plan_by (blocks_of atom a.size) (blocks_of atom b.size) 0
    ∷ plan_by (blocks_of atom a.size) 0 (blocks_of atom b.size)
    ∷ plan_by 0 (blocks_of atom a.size) (blocks_of atom b.size) ∷ []
choices atom (a ∷ b ∷ c ∷ []) =
    plan_by (blocks_of atom a.size) (blocks_of atom b.size) (blocks_of atom c.size) ∷ []
choices atom (a ∷ b ∷ c ∷ d ∷ es) = []

unfoldable pub plan_of : ℕ → Conversion → Extent → Extent → List Extent → Option Plan
plan_of atom c old new live = find (fits atom c old new live) (choices atom live)

-- ---- the live segments are numbered from 0, and the two whole ones follow
unfoldable pub numbered : ℕ → List Extent → Bool
numbered n [] = true
numbered n (e ∷ es) = e.number == n && numbered (n + 1) es

abbrev pub are_numbered : List Extent → Extent → Extent → Bool
are_numbered live old new =
    numbered 0 live && old.number == length live && new.number == length live + 1

abbrev pub progress_with : Conversion → Extent → Extent → Plan → Progress
progress_with c old new plan = record { conversion = c; old = old; new = new; plan = plan }

unfoldable pub progress_by : ℕ → Conversion → List Extent → Extent → Extent → Option Progress
progress_by atom c live old new =
    if are_numbered live old new && are_wholes atom c old new
    then option_map (progress_with c old new) (plan_of atom c old new live) else None

-- one to three live segments, the whole old one, and the whole new one
unfoldable pub progress_from : ℕ → Conversion → List (ℕ × Digest) → List (ℕ × Segment)
    → Option Progress
progress_from atom c ds (a ∷ old ∷ new ∷ []) =
    progress_by atom c (extent_of ds a ∷ []) (extent_of ds old) (extent_of ds new)
progress_from atom c ds (a ∷ b ∷ old ∷ new ∷ []) =
    progress_by atom c (extent_of ds a ∷ extent_of ds b ∷ []) (extent_of ds old) (extent_of ds new)
progress_from atom c ds (a ∷ b ∷ d ∷ old ∷ new ∷ []) =
    progress_by atom c (extent_of ds a ∷ extent_of ds b ∷ extent_of ds d ∷ []) (extent_of ds old)
    (extent_of ds new)
progress_from atom c ds segments = None

-- the conversion's keyslot is in no digest
abbrev pub progress_under : ℕ → Parts → Conversion → Option Progress
progress_under atom m c =
    if list_any (λ d. lists d.1.keyslots c.keyslot) m.digests then None else progress_from atom c
    m.digests m.segments

-- how far the conversion is, if metadata are those of one
unfoldable pub progress_of : Parts → Sizes → Option Progress
progress_of m sizes =
    if in_progress m.config then option_and_then (progress_under sizes.atom m)
    (only (conversions_of m.keyslots)) else None

abbrev pub is_any : List Conversion → Bool
is_any [] = false
is_any (c ∷ cs) = true

-- ---- the rule: a conversion under way has a state, and where none is there is no keyslot of one
unfoldable pub breaks_shape : Parts → Option Progress → Bool
breaks_shape m progress =
    if in_progress m.config then not (is_some progress) else is_any (conversions_of m.keyslots)
