-- Which keyslots a passphrase is tried on, and why it isn't on the others.
use Rattle.std.specs.Prelude.{ℕ, ◌≡◌, ◌+◌, ◌*◌, ◌%◌, ◌≤◌, ◌==◌, ◌&&◌, ◌||◌, not, nat_le, Bool, true}
use Rattle.std.specs.Prelude.{false, Option, Some, None, is_none, if◌then◌else◌}
use Rattle.std.specs.List.{list_all}
use Rattle.luks_meta.specs.declared.digest.Digest.{Digest}
use Rattle.luks_meta.specs.declared.keyslot.Derivation.{Derivation}
use Rattle.luks_meta.specs.declared.keyslot.Derivation.TheVariants as derivations
use Rattle.luks_meta.specs.declared.keyslot.Keyslot.{Keyslot}
use Rattle.luks_meta.specs.declared.keyslot.Keyslot.TheVariants as keyslots
use Rattle.luks_meta.specs.declared.keyslot.Luks2.{Luks2}
use Rattle.luks_meta.specs.declared.keyslot.Priority.{Priority as Rank}
use Rattle.luks_meta.specs.declared.keyslot.Priority.TheVariants.{Ignore, Normal, High}
use Rattle.luks_meta.specs.declared.meta.Parts.{Parts}
use Rattle.luks_meta.specs.declared.segment.Encryption.{Encryption}
use Rattle.luks_meta.specs.Names.{is_iterations}
use Rattle.luks_rules.specs.References.{lists}
use Rattle.luks_slots.specs.Functions.{functions_of, has_key_length, named_cipher}
use Rattle.luks_slots.specs.Kinds.{kind_by}
use Rattle.luks_slots.specs.Stripes.{split_len}
use Rattle.luks_slots.specs.declared.fault.Refusal.{Refusal}
use Rattle.luks_slots.specs.declared.fault.Refusal.TheVariants.{NotAssigned, Priority, Unsupported}
use Rattle.luks_slots.specs.declared.functions.Functions.{Functions}

-- ---- whether a keyslot can be opened here
-- a segment's cipher has keys of so many bytes; a linear one takes any
abbrev pub takes_key : ℕ → Option Encryption → Bool
takes_key n None = true
takes_key n (Some e) = has_key_length (named_cipher e.cipher) n

-- a key of so many bytes, 1 to 64, is one for each segment that a digest lists
unfoldable pub fits : Parts → Digest → ℕ → Bool
fits m d n =
    (nat_le 1 n && nat_le n 64)
    && list_all (λ s. not (lists d.segments s.0) || takes_key n s.1.encryption) m.segments

-- its area has room for the stripes
abbrev pub has_room : Luks2 → Bool
has_room slot = (slot.af.stripes == 4000) && nat_le (split_len slot.key_size) slot.area.size

-- the sizes of a keyslot whose area is under this cipher
abbrev pub has_sizes : Parts → Digest → Luks2 → Functions → Bool
has_sizes m d slot functions =
    (has_key_length functions.cipher slot.area.key_size && fits m d slot.key_size)
    && has_room slot

abbrev pub if_sized : Parts → Digest → Luks2 → Option Functions → Option Functions
if_sized m d slot None = None
if_sized m d slot (Some functions) = if has_sizes m d slot functions then Some functions else None

abbrev pub opened_by : Parts → Digest → Luks2 → Derivation → Option Functions
opened_by m d slot (derivations.Unknown kind) = None
opened_by m d slot (derivations.Pbkdf2 kdf) = if_sized m d slot (functions_of kdf slot)

-- by which functions a keyslot is opened; by none where it isn't supported for a digest
unfoldable pub functions_for : Parts → Digest → Luks2 → Option Functions
functions_for m d slot = opened_by m d slot slot.kdf.derivation

-- ---- why a keyslot isn't tried
abbrev pub is_ignored : Option Rank → Bool
is_ignored (Some Ignore) = true
is_ignored (Some Normal) = false
is_ignored (Some High) = false
is_ignored None = false

-- a keyslot is tried among those of this priority, which is normal where it has none
abbrev pub is_ranked : Rank → Option Rank → Bool
is_ranked High (Some High) = true
is_ranked Normal (Some Normal) = true
is_ranked Normal None = true
is_ranked _ _ = false

-- the first reason not to try the keyslot with this number
unfoldable pub refusal_of : Parts → Digest → ℕ → Luks2 → Option Refusal
refusal_of m d n slot =
    if not (lists d.keyslots n) then Some NotAssigned
    else (if is_ignored slot.priority then Some Priority
    else (if is_none (functions_for m d slot) then Some (Unsupported (kind_by slot.kdf.derivation))
    else None))

-- ---- what is known of a keyslot of a header that breaks no rule
-- its rounds are so many as PBKDF2 may have
abbrev pub HasRounds : Derivation → Type 0
HasRounds (derivations.Pbkdf2 kdf) = is_iterations kdf.iterations ≡ true
HasRounds (derivations.Unknown kind) = Unit {0}

-- its area lies on a disk of so many atoms of a size, in whole atoms
pub record LiesOn (size atoms : ℕ) (slot : Luks2) : Type 0 where
  pub offset : slot.area.offset % size ≡ 0
  pub whole : slot.area.size % size ≡ 0
  pub within : slot.area.offset + slot.area.size ≤ atoms * size
  pub rounds : HasRounds slot.kdf.derivation

abbrev pub IsReady : ℕ → ℕ → Keyslot → Type 0
IsReady size atoms (keyslots.Luks2 slot) = LiesOn size atoms slot
IsReady size atoms (keyslots.Reencrypt slot) = Unit {0}
IsReady size atoms (keyslots.Unknown slot) = Unit {0}

-- the sizes of a keyslot that is supported for a digest
pub record HasSizes (m : Parts) (d : Digest) (slot : Luks2) (functions : Functions) : Type 0 where
  pub key : has_key_length functions.cipher slot.area.key_size ≡ true
  pub fit : fits m d slot.key_size ≡ true
  pub some : 1 ≤ slot.key_size
  pub most : slot.key_size ≤ 64
  pub room : split_len slot.key_size ≤ slot.area.size
