-- A new keyslot: its object, and the bytes of its area (LUKS2 On-Disk Format 1.1, sections 3.2 and
-- 4).
use Rattle.std.specs.Prelude.{ℕ, ◌≡◌, ◌-◌, ◌+◌, ◌*◌, ◌%◌, ◌≤◌, List, ◌++◌, codes, length, take}
use Rattle.std.specs.Prelude.{drop}
use Rattle.std.specs.Prelude.{[], replicate, None, Some, true}
use Rattle.af_split.specs.Af.{split_of}
use Rattle.luks_meta.specs.Keyslots.{IsLuks2}
use Rattle.luks_meta.specs.declared.digest.Digest.{Digest}
use Rattle.luks_meta.specs.declared.keyslot.Derivation.TheVariants as derivations
use Rattle.luks_meta.specs.declared.keyslot.Luks2.{Luks2}
use Rattle.luks_meta.specs.declared.meta.Parts.{Parts}
use Rattle.luks_slots.specs.Gaps.{IsGapFault, IsLowest}
use Rattle.luks_slots.specs.Slots.{fits}
use Rattle.luks_slots.specs.Stripes.{rounded, split_len}
use Rattle.luks_slots.specs.Unlocks.{key_in}
use Rattle.luks_slots.specs.declared.fault.SlotFault.{SlotFault}
use Rattle.luks_slots.specs.declared.new_slot.NewSlot.{NewSlot}
use Rattle.pbkdf2_hmac.specs.Pbkdf2.{derived_key}
use Rattle.pbkdf2_hmac.specs.declared.Hash.TheVariants.{Sha256}
use Rattle.sector_cipher.specs.Context.{sealed_under}
use Rattle.sector_cipher.specs.declared.spec.Spec.TheVariants.{AesXtsPlain64}
use Rattle.serde_json.specs.Data.{no_members}

-- ---- random bytes: those of the salt, and then those of all stripes but the last
abbrev pub salt_len : ℕ
salt_len = 32

abbrev pub drawn_len : ℕ → ℕ
drawn_len key_size = salt_len + 3999 * key_size

-- ---- the object
-- the bytes of a keyslot's area, in whole pages
abbrev pub area_len : ℕ → ℕ
area_len key_size = rounded (split_len key_size) 4096

-- the keyslot of a key of so many bytes, whose area lies at a place
unfoldable pub slot_for : ℕ → ℕ → ℕ → List ℕ → Luks2
slot_for offset key_size rounds salt = record {
  key_size = key_size;
  area = record {
    encryption = codes "aes-xts-plain64";
    key_size = 64;
    offset = offset;
    size = area_len key_size;
    rest = no_members;
  };
  kdf = record {
    derivation = derivations.Pbkdf2
        (record { hash = codes "sha256"; iterations = rounds; salt = salt });
    rest = no_members;
  };
  af = record { stripes = 4000; hash = codes "sha256"; rest = no_members };
  priority = None;
  rest = no_members;
}

-- ---- the bytes of its area
-- bytes with zeros behind them, in whole units
abbrev pub padded : ℕ → List ℕ → List ℕ
padded unit bytes = bytes ++ replicate (rounded (length bytes) unit - length bytes) 0

-- the key of the area
unfoldable pub area_key_of : List ℕ → List ℕ → ℕ → List ℕ
area_key_of pass drawn rounds = derived_key Sha256 pass (take salt_len drawn) rounds 64

-- the split of the key in whole sectors, sealed, and zeros up to a whole atom
unfoldable pub area_bytes : ℕ → List ℕ → ℕ → List ℕ → List ℕ → List ℕ
area_bytes atom pass rounds key drawn =
    padded atom
    (sealed_under AesXtsPlain64 (area_key_of pass drawn rounds) 512 0
    (padded 512 (split_of Sha256 key 4000 (drop salt_len drawn))))

-- the bytes stand at their place
abbrev pub StandsIn : List ℕ → NewSlot → Type 0
StandsIn image new = take (length new.area) (drop new.keyslot.area.offset image) ≡ new.area

-- ---- answers
-- A keyslot that a passphrase opens to a key, whose area lies at an offset, and whose bytes end
-- within its area. Wherever they stand there the passphrase unseals the key from them, for each
-- digest of whose segments the key can be one.
pub record IsSlotAt (offset atom : ℕ) (pass : List ℕ) (rounds : ℕ) (key drawn : List ℕ)
    (new : NewSlot) : Type 0 where
  pub slot : new.keyslot ≡ slot_for offset (length key) rounds (take salt_len drawn)
  pub has_text : IsLuks2 new.keyslot
  pub bytes : new.area ≡ area_bytes atom pass rounds key drawn
  pub whole : length new.area % atom ≡ 0
  pub within : length new.area ≤ new.keyslot.area.size
  pub opens : (m : Parts) (d : Digest) (image : List ℕ) → fits m d (length key) ≡ true
      → StandsIn image new → key_in m d image pass new.keyslot ≡ Some key

-- The same, whose area takes the lowest place that has room, in whole atoms.
pub record IsAdded (m : Parts) (atom : ℕ) (pass : List ℕ) (rounds : ℕ) (key drawn : List ℕ)
    (new : NewSlot) : Type 0 where
  pub place : IsLowest m [] atom (area_len (length key)) new.keyslot.area.offset
  pub made : IsSlotAt new.keyslot.area.offset atom pass rounds key drawn new

-- why no keyslot is made
abbrev pub IsAddFault : Parts → ℕ → ℕ → SlotFault → Type 0
IsAddFault m atom key_size fault = IsGapFault m [] atom (area_len key_size) fault
