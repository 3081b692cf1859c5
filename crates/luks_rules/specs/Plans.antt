-- How a conversion lays its volume out: the parts of the old and of the new segment.
use Rattle.std.specs.Prelude.{ℕ, ◌+◌, ◌*◌, ◌/◌, ◌==◌, ◌&&◌, not, nat_lt, Bool, true, false, List}
use Rattle.std.specs.Prelude.{[], ◌∷◌, Option, Some, None, if◌then◌else◌}
use Rattle.luks_meta.specs.declared.names.Cipher.{Cipher}
use Rattle.luks_meta.specs.declared.names.Cipher.TheVariants.{AesXtsPlain64, AesCbcEssivSha256}
use Rattle.luks_meta.specs.declared.reencrypt.Direction.{Direction}
use Rattle.luks_meta.specs.declared.reencrypt.Direction.TheVariants.{Forward, Backward}
use Rattle.luks_meta.specs.declared.segment.Encryption.{Encryption}
use Rattle.luks_meta.specs.declared.segment.SegmentSize.{SegmentSize}
use Rattle.luks_meta.specs.declared.segment.SegmentSize.TheVariants.{Dynamic, Sized}
use Rattle.luks_rules.specs.declared.extents.Extent.{Extent}
use Rattle.luks_rules.specs.declared.extents.Mark.{Mark}
use Rattle.luks_rules.specs.declared.extents.Mark.TheVariants as marks
use Rattle.luks_rules.specs.declared.plan.Part.{Part}
use Rattle.luks_rules.specs.declared.plan.Plan.{Plan}

-- all blocks of the volume
abbrev pub blocks_in : Plan → ℕ
blocks_in plan = plan.first + plan.zone + plan.last

-- The parts in logical order. Forward the new part comes first, backward the old one; between
-- them is the open zone, which is where the old segment has it.
abbrev pub parts_of : Direction → Extent → Extent → Plan → List Part
parts_of Forward old new plan =
    record { whole = new; zone = false; from = 0; blocks = plan.first }
    ∷ record { whole = old; zone = true; from = plan.first; blocks = plan.zone }
    ∷ record { whole = old; zone = false; from = plan.first + plan.zone; blocks = plan.last } ∷ []
parts_of Backward old new plan =
    record { whole = old; zone = false; from = 0; blocks = plan.first }
    ∷ record { whole = old; zone = true; from = plan.first; blocks = plan.zone }
    ∷ record { whole = new; zone = false; from = plan.first + plan.zone; blocks = plan.last } ∷ []

-- ---- a block of the volume
-- the whole segment that it is in: the open zone is the old one's
abbrev pub whole_at : Direction → Extent → Extent → Plan → ℕ → Extent
whole_at Forward old new plan b = if nat_lt b plan.first then new else old
whole_at Backward old new plan b = if nat_lt b (plan.first + plan.zone) then old else new

-- where it lies, in bytes
abbrev pub place_at : ℕ → Direction → Extent → Extent → Plan → ℕ → ℕ
place_at atom direction old new plan b = (whole_at direction old new plan b).offset + b * atom

-- ---- a part of a segment
-- no flag, or the zone's
abbrev pub is_marked : Bool → Mark → Bool
is_marked zone marks.Plain = not zone
is_marked zone marks.Zone = zone
is_marked zone marks.Previous = false
is_marked zone marks.Final = false
is_marked zone marks.Other = false

abbrev pub is_sized : ℕ → SegmentSize → Bool
is_sized bytes Dynamic = false
is_sized bytes (Sized n) = n == bytes

abbrev pub same_cipher : Cipher → Cipher → Bool
same_cipher AesXtsPlain64 AesXtsPlain64 = true
same_cipher AesXtsPlain64 AesCbcEssivSha256 = false
same_cipher AesCbcEssivSha256 AesXtsPlain64 = false
same_cipher AesCbcEssivSha256 AesCbcEssivSha256 = true

-- encrypted as the whole is, so many units of 512 bytes behind its begin
abbrev pub is_encrypted : ℕ → Option Encryption → Option Encryption → Bool
is_encrypted units None None = true
is_encrypted units None (Some e) = false
is_encrypted units (Some w) None = false
is_encrypted units (Some w) (Some e) =
    same_cipher w.cipher e.cipher && e.sector_size == w.sector_size
    && e.iv_tweak == w.iv_tweak + units

abbrev pub same_digest : Option ℕ → Option ℕ → Bool
same_digest None None = true
same_digest None (Some e) = false
same_digest (Some d) None = false
same_digest (Some d) (Some e) = d == e

-- So many blocks of a segment, from one of them on: at its place, under its key.
abbrev pub is_part : ℕ → Part → Extent → Bool
is_part atom part e =
    is_marked part.zone e.mark
    && e.offset == part.whole.offset + part.from * atom
    && is_sized (part.blocks * atom) e.size
    && is_encrypted (part.from * atom / 512) part.whole.encryption e.encryption
    && same_digest part.whole.digest e.digest

-- ---- the live segments are these parts, one after another; a part without a block isn't there
abbrev pub begins : ℕ → Part → List Extent → Bool
begins atom part [] = false
begins atom part (e ∷ es) = is_part atom part e

abbrev pub rest_of : List Extent → List Extent
rest_of [] = []
rest_of (e ∷ es) = es

abbrev pub is_nothing : List Extent → Bool
is_nothing [] = true
is_nothing (e ∷ es) = false

unfoldable pub laid_out : ℕ → List Part → List Extent → Bool
laid_out atom [] live = is_nothing live
laid_out atom (part ∷ parts) live =
    if part.blocks == 0 then laid_out atom parts live
    else begins atom part live && laid_out atom parts (rest_of live)
