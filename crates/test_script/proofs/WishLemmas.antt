-- The objects of a wish are ones that a header may have, and a volume has room for its place.
use Rattle.std.proofs.Common.{◌≡◌, Some, true, subst, sym}
use Rattle.std.specs.Option.{IfSome, IsSomeAnd}
use Rattle.base_terms.specs.declared.disk_sizes.Sizes.{Sizes}
use Rattle.luks_meta.specs.Segments.{is_sector_size}
use Rattle.luks_meta.specs.declared.meta.Parts.{Parts}
use Rattle.luks_meta.specs.declared.reencrypt.Mode.{Mode}
use Rattle.luks_meta.specs.declared.reencrypt.Mode.TheVariants.{Reencrypt, Encrypt, Decrypt}
use Rattle.luks_rules.specs.Extents.{digest_of}
use Rattle.luks_rules.specs.Idles.{idle_of}
use Rattle.luks_rules.specs.Segments.{in_progress}
use Rattle.luks_rules.specs.declared.idle.Idle.{Idle}
use Rattle.reenc_meta.specs.Wishes.{HasOffset, IsWish, encryption_for, unencrypted}
use Rattle.reenc_meta.specs.declared.wish.Wish.{Wish}
use Rattle.test_script.specs.Wishes.{HasText}

sectors_by : (w : Wish) (mode : Mode) → is_sector_size w.sector_size ≡ true
    → IfSome (encryption_for w mode) (λ e. is_sector_size e.sector_size ≡ true)
sectors_by w Reencrypt known = known
sectors_by w Encrypt known = known
sectors_by w Decrypt known = tt

pub is_wished : (w : Wish) (v : Idle) → HasText w
    → HasOffset w.direction w.area.resilience v.segment.offset → IsWish w v
is_wished w v text offset = record {
  key = text.key;
  area = text.area;
  sectors = sectors_by w w.mode text.sectors;
  header = text.header;
  offset = offset;
}

-- of a header's volume
pub wish_of_header : (w : Wish) (m : Parts) (sizes : Sizes) (v : Idle) → idle_of m sizes ≡ Some v
    → HasText w → HasOffset w.direction w.area.resilience v.segment.offset
    → IsSomeAnd (idle_of m sizes) (IsWish w)
wish_of_header w m sizes v is text offset =
    subst (λ o. IsSomeAnd o (IsWish w)) (sym is) (is_wished w v text offset)

-- of a whole disk
pub wish_of_disk : (w : Wish) (sizes : Sizes) → HasText w
    → HasOffset w.direction w.area.resilience 0 → IsSomeAnd (idle_of (unencrypted w) sizes) (IsWish w)
unfolding unencrypted idle_of in_progress digest_of
wish_of_disk w sizes text offset = is_wished w _ text offset
