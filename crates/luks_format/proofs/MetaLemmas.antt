-- The metadata of a new volume have a text.
use Rattle.std.proofs.Common.{ℕ, refl, arith}
use Rattle.json_members.specs.Members.{IsPlain}
use Rattle.luks_bin.proofs.FieldLemmas.{size-most}
use Rattle.luks_format.specs.Metadata.{config_for, parts_with, segment_for}
use Rattle.luks_format.specs.Wishes.{IsWish, keyslots_size_for}
use Rattle.luks_format.specs.declared.wish.Wish.{Wish}
use Rattle.luks_meta.specs.Configs.{IsConfig}
use Rattle.luks_meta.specs.Digests.{IsDigest}
use Rattle.luks_meta.specs.Keyslots.{IsLuks2}
use Rattle.luks_meta.specs.Metas.{IsMeta}
use Rattle.luks_meta.specs.Segments.{IsSegment}
use Rattle.luks_meta.specs.declared.digest.Digest.{Digest}
use Rattle.luks_meta.specs.declared.keyslot.Luks2.{Luks2}
use Rattle.serde_json.specs.Data.{no_members}

none-plain : (deep : ℕ) → IsPlain deep no_members
none-plain deep = record { whole = refl; flat = omega arith }

segment-text : (w : Wish) → IsWish w → IsSegment (segment_for w)
unfolding segment_for
segment-text w wish = record {
  offset = wish.within;
  size = tt;
  encryption = record { iv_tweak = omega arith; sector_size = wish.sector };
  lacks = (refl, (refl, (refl, (refl, (refl, (refl, (refl, (refl, tt))))))));
  plain = none-plain 124;
}

config-text : (w : Wish) → IsWish w → IsConfig (config_for w)
unfolding config_for keyslots_size_for
config-text w wish =
    let most = size-most w.metadata_size wish.size in
    record {
      json_size = omega (arith, most);
      keyslots_size = omega arith;
      requirements = tt;
      lacks = (refl, (refl, (refl, tt)));
      plain = none-plain 125;
    }

pub meta-text : (w : Wish) (keyslot : Luks2) (digest : Digest) → IsWish w → IsLuks2 keyslot
    → IsDigest digest → IsMeta (parts_with w keyslot digest)
unfolding parts_with
meta-text w keyslot digest wish of_keyslot of_digest = record {
  keyslots = record { rising = (omega arith, tt, tt); each = (of_keyslot, tt) };
  tokens = record { rising = tt; each = tt };
  segments = record {
    rising = (omega arith, tt, tt);
    each = (segment-text w wish, tt);
  };
  digests = record { rising = (omega arith, tt, tt); each = (of_digest, tt) };
  config = config-text w wish;
  lacks = (refl, (refl, (refl, (refl, (refl, tt)))));
  plain = none-plain 126;
}
