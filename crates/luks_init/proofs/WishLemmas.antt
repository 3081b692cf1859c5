-- What is wished of the metadata is a wish that they may have.
use Rattle.std.proofs.Common.{ℕ, ◌^◌, ◌<◌, refl, arith, Option, Some, None}
use Rattle.std.specs.Option.{IsSomeAnd}
use Rattle.luks_init.proofs.SizeLemmas.{guard-some}
use Rattle.luks_init.specs.Begins.{MayBegin}
use Rattle.luks_init.specs.Metadata.{wish_with}
use Rattle.luks_init.specs.Places.{AreLowest}
use Rattle.luks_init.specs.Wishes.{IsWish, guard_len, resilience_for}
use Rattle.luks_init.specs.declared.places.Places.{Places}
use Rattle.luks_init.specs.declared.wish.Guard.{Guard}
use Rattle.luks_init.specs.declared.wish.Guard.TheVariants.{Journal, Checksum}
use Rattle.luks_init.specs.declared.wish.Wish.{Wish}
use Rattle.luks_meta.specs.Digests.{IsDigest}
use Rattle.luks_meta.specs.Keyslots.{IsLuks2}
use Rattle.luks_meta.specs.Reencrypts.{IsArea}
use Rattle.luks_meta.specs.declared.digest.Digest.{Digest}
use Rattle.luks_meta.specs.declared.keyslot.Luks2.{Luks2}
use Rattle.luks_meta.specs.declared.meta.Parts.{Parts}
use Rattle.luks_meta.specs.declared.reencrypt.Direction.{Direction}
use Rattle.luks_rules.specs.declared.idle.Idle.{Idle}
use Rattle.reenc_meta.specs.Wishes.{HasOffset, IsWish as IsMetaWish}
use Rattle.sector_disk.specs.Geometry.{IsAtom}
use Rattle.serde_json.specs.Data.{no_members}

area-right : (g : Guard) (atom offset size : ℕ) → offset < 2 ^ 64 → size < 2 ^ 64
    → IsArea (record
    { resilience = resilience_for g atom; offset = offset; size = size; rest = no_members })
area-right Journal atom offset size at few = record {
  resilience = tt;
  offset = at;
  size = few;
  lacks = (refl, (refl, (refl, tt)));
  plain = record { whole = refl; flat = omega arith };
}
area-right Checksum atom offset size at few = record {
  resilience = tt;
  offset = at;
  size = few;
  lacks = (refl, (refl, (refl, (refl, (refl, tt)))));
  plain = record { whole = refl; flat = omega arith };
}

unshifted : (g : Guard) (direction : Direction) (atom offset : ℕ)
    → HasOffset direction (resilience_for g atom) offset
unshifted Journal direction atom offset = tt
unshifted Checksum direction atom offset = tt

module _ (m : Parts) (atom : ℕ) (w : Wish) (p : Places) (key : Luks2 × Digest) (known : IsAtom atom)
    (wish : IsWish w atom) (placed : AreLowest m atom w p) (slot : IsLuks2 key.0)
    (digest : IsDigest key.1) where
  wish-right : (v : Idle) → IsMetaWish (wish_with m.config atom w p key) v
  unfolding wish_with
  wish-right v =
      let some = guard-some w atom known wish in
      let begin = placed.guard.free.behind in
      let end = placed.guard.free.within in
      record {
        key = (slot, digest);
        area = area-right w.resilience atom p.guard (guard_len w atom) (omega (arith, some, end))
            (omega (arith, begin, end));
        sectors = wish.sector;
        header = omega arith;
        offset = unshifted w.resilience w.direction atom v.segment.offset;
      }

  pub wish-of : (o : Option Idle) → MayBegin o
      → IsSomeAnd o (IsMetaWish (wish_with m.config atom w p key))
  wish-of None may = may
  wish-of (Some v) may = wish-right v
