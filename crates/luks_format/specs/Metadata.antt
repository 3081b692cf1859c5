-- The metadata of a new volume (LUKS2 On-Disk Format Specification 1.1, section 3).
use Rattle.std.specs.Prelude.{ℕ, ◌-◌, ◌*◌, List, [], ◌∷◌, take, Some, None}
use Rattle.luks_format.specs.Drawings.{Draw, salt_len}
use Rattle.luks_format.specs.Wishes.{keyslots_size_for}
use Rattle.luks_format.specs.declared.wish.Wish.{Wish}
use Rattle.luks_meta.specs.declared.config.Config.{Config}
use Rattle.luks_meta.specs.declared.digest.Digest.{Digest}
use Rattle.luks_meta.specs.declared.keyslot.Keyslot.TheVariants as keyslots
use Rattle.luks_meta.specs.declared.keyslot.Luks2.{Luks2}
use Rattle.luks_meta.specs.declared.meta.Parts.{Parts}
use Rattle.luks_meta.specs.declared.segment.Segment.{Segment}
use Rattle.luks_meta.specs.declared.segment.SegmentSize.TheVariants.{Dynamic}
use Rattle.luks_slots.specs.KeyMaking.Digests.{digest_for as new_digest}
use Rattle.luks_slots.specs.NewSlots.{slot_for}
use Rattle.serde_json.specs.Data.{no_members}

-- its data: up to the disk's end, whose sectors are numbered from 0
unfoldable pub segment_for : Wish → Segment
segment_for w = record {
  offset = w.data_offset;
  size = Dynamic;
  encryption = Some (record { iv_tweak = 0; cipher = w.cipher; sector_size = w.sector_size });
  flags = None;
  rest = no_members;
}

-- the digest of its key: of keyslot 0 and segment 0
unfoldable pub digest_for : List ℕ → List ℕ → Digest
unfolding new_digest
digest_for key salt = new_digest (0 ∷ []) (0 ∷ []) key salt

-- its keyslot, whose area is the first one behind the copies of the header
unfoldable pub keyslot_for : Wish → Draw → Luks2
keyslot_for w d = slot_for (2 * w.metadata_size) w.key_size w.iterations (take salt_len d.slot)

-- the sizes; nothing that a reader must know
unfoldable pub config_for : Wish → Config
config_for w = record {
  json_size = w.metadata_size - 4096;
  keyslots_size = keyslots_size_for w;
  requirements = None;
  rest = no_members;
}

-- one keyslot, one segment, one digest, and no token
unfoldable pub parts_with : Wish → Luks2 → Digest → Parts
parts_with w keyslot digest = record {
  keyslots = (0, keyslots.Luks2 keyslot) ∷ [];
  tokens = [];
  segments = (0, segment_for w) ∷ [];
  digests = (0, digest) ∷ [];
  config = config_for w;
  rest = no_members;
}

abbrev pub parts_for : Wish → Draw → Parts
parts_for w d = parts_with w (keyslot_for w d) (digest_for d.key d.digest_salt)
