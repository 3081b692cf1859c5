-- The key of a passphrase (LUKS2 On-Disk Format 1.1, sections 3.2, 3.5 and 4).
use Rattle.std.specs.Prelude.{ℕ, ◌≡◌, ◌&&◌, ◌⊎◌, nat_le, Bool, List, [], ◌∷◌, length, Option, Some}
use Rattle.std.specs.Prelude.{None, unwrap_or, true, Result, Ok, Err, MatchResult, if◌then◌else◌}
use Rattle.std.specs.List.{filter_map}
use Rattle.std.specs.Result.{result_ok}
use Rattle.std.specs.Str.{bytes_eq}
use Rattle.base_terms.specs.Causes.{Rose}
use Rattle.luks_meta.specs.declared.digest.Digest.{Digest}
use Rattle.luks_meta.specs.declared.keyslot.Derivation.{Derivation}
use Rattle.luks_meta.specs.declared.keyslot.Derivation.TheVariants as derivations
use Rattle.luks_meta.specs.declared.keyslot.Keyslot.{Keyslot}
use Rattle.luks_meta.specs.declared.keyslot.Keyslot.TheVariants as keyslots
use Rattle.luks_meta.specs.declared.keyslot.Luks2.{Luks2}
use Rattle.luks_meta.specs.declared.keyslot.Priority.{Priority as Rank}
use Rattle.luks_meta.specs.declared.keyslot.Priority.TheVariants.{Normal, High}
use Rattle.luks_meta.specs.declared.meta.Parts.{Parts}
use Rattle.luks_rules.specs.References.{lists}
use Rattle.luks_slots.specs.Functions.{named_hash}
use Rattle.luks_slots.specs.Slots.{fits, functions_for, is_ranked, refusal_of}
use Rattle.luks_slots.specs.Stripes.{stored_key}
use Rattle.luks_slots.specs.declared.fault.Refusal.{Refusal}
use Rattle.luks_slots.specs.declared.fault.Refusal.TheVariants.{DigestDiffers}
use Rattle.luks_slots.specs.declared.fault.SlotFault.{SlotFault}
use Rattle.luks_slots.specs.declared.fault.SlotFault.TheVariants as faults
use Rattle.luks_slots.specs.declared.functions.Functions.{Functions}
use Rattle.pbkdf2_hmac.specs.Pbkdf2.{derived_key}
use Rattle.sector_disk.specs.Devices.{Device}

-- ---- the key in a keyslot
-- so many bytes of what PBKDF2 makes of a key to be compared with a digest
abbrev pub digest_of : Digest → List ℕ → ℕ → List ℕ
digest_of d key n = derived_key (named_hash d.hash) key d.salt d.iterations n

-- a digest has 20 to 64 bytes, and is what PBKDF2 makes of the key, in its whole length
unfoldable pub matches : Digest → List ℕ → Bool
matches d key =
    (nat_le 20 (length d.digest) && nat_le (length d.digest) 64)
    && bytes_eq (digest_of d key (length d.digest)) d.digest

abbrev pub stored_by : List ℕ → List ℕ → Luks2 → Derivation → Option Functions → Option (List ℕ)
stored_by image pass slot (derivations.Pbkdf2 kdf) (Some functions) =
    Some (stored_key image pass kdf functions slot)
stored_by image pass slot _ _ = None

-- what a keyslot that is supported for a digest gives to a passphrase, whether it's the key or not
unfoldable pub key_in : Parts → Digest → List ℕ → List ℕ → Luks2 → Option (List ℕ)
key_in m d image pass slot = stored_by image pass slot slot.kdf.derivation (functions_for m d slot)

abbrev pub if_matching : Digest → Option (List ℕ) → Option (List ℕ)
if_matching d None = None
if_matching d (Some key) = if matches d key then Some key else None

-- the key that the keyslot with this number gives to a passphrase
unfoldable pub key_of_slot : Parts → Digest → List ℕ → List ℕ → ℕ → Luks2 → Option (List ℕ)
key_of_slot m d image pass n slot =
    if lists d.keyslots n then if_matching d (key_in m d image pass slot) else None

-- ---- the key of a passphrase
abbrev pub key_at : Parts → Digest → List ℕ → List ℕ → Rank → ℕ × Keyslot → Option (List ℕ)
key_at m d image pass rank (n, keyslots.Luks2 slot) =
    if is_ranked rank slot.priority then key_of_slot m d image pass n slot else None
key_at m d image pass rank (n, keyslots.Reencrypt slot) = None
key_at m d image pass rank (n, keyslots.Unknown slot) = None

abbrev pub or_else : Option (List ℕ) → Option (List ℕ) → Option (List ℕ)
or_else None later = later
or_else (Some key) later = Some key

-- that of the first keyslot of a priority which gives one
unfoldable pub first_key : Parts → Digest → List ℕ → List ℕ → Rank → List (ℕ × Keyslot)
    → Option (List ℕ)
first_key m d image pass rank [] = None
first_key m d image pass rank (slot ∷ slots) =
    or_else (key_at m d image pass rank slot) (first_key m d image pass rank slots)

-- The key of a passphrase for a digest: keyslots of high priority come first, then those of normal
-- priority, each by rising number; those to be ignored never.
unfoldable pub key_of : Parts → Digest → List ℕ → List ℕ → Option (List ℕ)
key_of m d image pass =
    or_else (first_key m d image pass High m.keyslots) (first_key m d image pass Normal m.keyslots)

-- ---- where there is none
abbrev pub refused : Parts → Digest → ℕ × Keyslot → Option (ℕ × Refusal)
refused m d (n, keyslots.Luks2 slot) = Some (n, unwrap_or (refusal_of m d n slot) DigestDiffers)
refused m d (n, keyslots.Reencrypt slot) = None
refused m d (n, keyslots.Unknown slot) = None

-- why each keyslot that a passphrase might open gave none: what was tried has another digest
unfoldable pub refusals : Parts → Digest → List (ℕ × Refusal)
refusals m d = filter_map (λ slot. refused m d slot) m.keyslots

-- ---- answers
-- what is wanted to answer failed: memory, or a read
abbrev pub IsCutShort : Result (List ℕ) SlotFault → Type 0
IsCutShort (Ok key) = ⊥
IsCutShort (Err faults.Memory) = Unit {0}
IsCutShort (Err faults.Device) = Unit {0}
IsCutShort (Err (faults.NoKey list)) = ⊥
IsCutShort (Err (faults.NoRoom wanted gap)) = ⊥

-- why no key is answered; want of memory says nothing
abbrev pub IsCauseOf : Parts → Digest → Device → Device → SlotFault → Type 0
IsCauseOf m d old new faults.Memory = Unit {0}
IsCauseOf m d old new faults.Device = Rose old.faults new.faults
IsCauseOf m d old new (faults.NoKey list) = list ≡ refusals m d
IsCauseOf m d old new (faults.NoRoom wanted gap) = ⊥

-- the key is one of the digest, and of a length for each segment that it lists
pub record IsRight (m : Parts) (d : Digest) (key : List ℕ) : Type 0 where
  pub same : matches d key ≡ true
  pub fit : fits m d (length key) ≡ true

-- What is answered for a digest. Where the disk tells what it holds, a key is answered exactly
-- where these bytes give one to the passphrase, and it is that one; that there is none exactly
-- where they give none; unless memory was wanted or a read failed. Whatever the disk tells, the key
-- is one of the digest, and of a length for each of its segments.
pub record IsUnlocked (m : Parts) (d : Digest) (pass : List ℕ) (old new : Device)
    (result : Result (List ℕ) SlotFault) : Type 0 where
  pub exact : (image : List ℕ) → old.values ≡ Some image
      → IsCutShort result ⊎ (result_ok result ≡ key_of m d image pass)
  pub right : MatchResult result (λ key. IsRight m d key) (λ fault. IsCauseOf m d old new fault)
