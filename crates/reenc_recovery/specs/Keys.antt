-- The keys of a volume's segments, and how blocks are sealed under them.
use Rattle.std.specs.Prelude.{ℕ, ◌≡◌, ◌≢◌, ◌<◌, ◌⊎◌, List, [], length, Option, Some, None, true}
use Rattle.std.specs.Prelude.{option_and_then, unwrap_or}
use Rattle.luks_meta.specs.declared.digest.Digest.{Digest}
use Rattle.luks_meta.specs.declared.meta.Parts.{Parts}
use Rattle.luks_meta.specs.declared.segment.Encryption.{Encryption}
use Rattle.luks_rules.specs.References.{value_at}
use Rattle.luks_rules.specs.declared.extents.Extent.{Extent}
use Rattle.luks_slots.specs.Functions.{named_cipher}
use Rattle.luks_slots.specs.Unlocks.{digest_of, key_of, matches}
use Rattle.sector_cipher.specs.Context.{opened_under, sealed_under}
use Rattle.sector_cipher.specs.Names.{IsKeyLength}
use Rattle.sector_cipher.specs.declared.spec.Spec.{Spec}
use Rattle.volume_machine.specs.Seals.{Seals, seals_of}
use Rattle.volume_machine.specs.declared.keys.Keys.{Keys}

-- ---- sectors of a segment
-- what bytes become in a segment, where their first 512 have this IV number; a linear segment
-- changes nothing
abbrev pub sealed_by : Option Encryption → List ℕ → ℕ → List ℕ → List ℕ
sealed_by None key first bytes = bytes
sealed_by (Some e) key first bytes =
    sealed_under (named_cipher e.cipher) key e.sector_size first bytes

abbrev pub opened_by : Option Encryption → List ℕ → ℕ → List ℕ → List ℕ
opened_by None key first bytes = bytes
opened_by (Some e) key first bytes =
    opened_under (named_cipher e.cipher) key e.sector_size first bytes

-- the IV number of its first 512 bytes
abbrev pub tweak_by : Option Encryption → ℕ
tweak_by None = 0
tweak_by (Some e) = e.iv_tweak

-- ---- the two sides of a volume
-- a segment's encryption under a key
pub record SegmentKey : Type 0 where
  pub encryption : Option Encryption
  pub key : List ℕ

-- the old and the new segment under their keys
abbrev pub keys_by : Extent → Extent → List ℕ → List ℕ → Keys SegmentKey
keys_by old new old_key new_key = record {
  old = record { encryption = old.encryption; key = old_key };
  old_tweak = tweak_by old.encryption;
  new = record { encryption = new.encryption; key = new_key };
  new_tweak = tweak_by new.encryption;
}

-- how blocks of `atom` bytes are sealed in them
abbrev pub seals_by : ℕ → Extent → Extent → List ℕ → List ℕ → Seals
seals_by atom old new old_key new_key =
    seals_of (λ k first bytes. sealed_by k.encryption k.key first bytes)
    (λ k first bytes. opened_by k.encryption k.key first bytes) atom
    (keys_by old new old_key new_key)

-- ---- which keys they are
-- the key is one of a segment's digest; a linear segment has the empty one
abbrev pub IsKeyBy : Parts → Option Encryption → Option ℕ → List ℕ → Type 0
IsKeyBy m None digest key = key ≡ []
IsKeyBy m (Some e) None key = ⊥
IsKeyBy m (Some e) (Some n) key =
    (d : Digest) × (value_at m.digests n ≡ Some d) × (matches d key ≡ true)

abbrev pub IsKeyOf : Parts → Extent → List ℕ → Type 0
IsKeyOf m e key = IsKeyBy m e.encryption e.digest key

-- the key that an image's keyslots give to a passphrase for a segment's digest
abbrev pub key_by : Parts → List ℕ → List ℕ → Option Encryption → Option ℕ → Option (List ℕ)
key_by m image pass None digest = Some []
key_by m image pass (Some e) None = None
key_by m image pass (Some e) (Some n) =
    option_and_then (λ d. key_of m d image pass) (value_at m.digests n)

abbrev pub key_for : Parts → List ℕ → List ℕ → Extent → Option (List ℕ)
key_for m image pass e = key_by m image pass e.encryption e.digest

-- ---- a key that was handed in
-- the bytes of the key that a segment uses: a linear one uses none
abbrev pub used_by : Option Encryption → Option (List ℕ) → List ℕ
used_by None key = []
used_by (Some e) key = unwrap_or key []

-- the bytes of a sector, and of the least one where nothing is sealed
abbrev pub sector_by : Option Encryption → ℕ
sector_by None = 512
sector_by (Some e) = e.sector_size

-- a cipher of sectors is that of a segment under a key
pub record IsCipherOf {C : Type 0} (sector : C → ℕ) (sealed opened : C → ℕ → List ℕ → List ℕ)
    (e : Option Encryption) (key : List ℕ) (c : C) : Type 0 where
  pub sectors : sector c ≡ sector_by e
  pub seals : (first : ℕ) (bytes : List ℕ) → sealed c first bytes ≡ sealed_by e key first bytes
  pub opens : (first : ℕ) (bytes : List ℕ) → opened c first bytes ≡ opened_by e key first bytes

-- nothing is computed of a key that has no length of its cipher's keys, nor for a digest of a
-- length that no key's digest has
abbrev pub IsUntried : Digest → Spec → List ℕ → Type 0
IsUntried d spec key =
    (IsKeyLength spec (length key) → ⊥) ⊎ ((length d.digest < 20) ⊎ (64 < length d.digest))

-- what was computed of a key that isn't the digest's
abbrev pub IsComputed : Digest → Spec → Option (List ℕ) → List ℕ → Type 0
IsComputed d spec None computed = computed ≡ []
IsComputed d spec (Some key) computed =
    (IsUntried d spec key × (computed ≡ []))
    ⊎ ((computed ≡ digest_of d key (length d.digest)) × (computed ≢ d.digest))

-- the key that was handed in for a segment isn't its digest's
abbrev pub DiffersBy : Parts → Option Encryption → Option ℕ → Option (List ℕ) → List ℕ → List ℕ
    → Type 0
DiffersBy m (Some e) (Some n) key computed stored =
    (d : Digest) × (value_at m.digests n ≡ Some d) × (stored ≡ d.digest)
    × IsComputed d (named_cipher e.cipher) key computed
DiffersBy m _ _ key computed stored = ⊥

abbrev pub Differs : Parts → Extent → Option (List ℕ) → List ℕ → List ℕ → Type 0
Differs m e key computed stored = DiffersBy m e.encryption e.digest key computed stored
