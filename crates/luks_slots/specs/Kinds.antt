-- Of which kinds keyslots are, and which of them hold the key of a digest.
use Rattle.std.specs.Prelude.{ℕ, List, codes, Option, Some, None, if◌then◌else◌}
use Rattle.std.specs.List.{filter_map}
use Rattle.std.specs.Str.{bytes_eq}
use Rattle.luks_meta.specs.declared.digest.Digest.{Digest}
use Rattle.luks_meta.specs.declared.keyslot.Derivation.{Derivation}
use Rattle.luks_meta.specs.declared.keyslot.Derivation.TheVariants as derivations
use Rattle.luks_meta.specs.declared.keyslot.Keyslot.{Keyslot}
use Rattle.luks_meta.specs.declared.keyslot.Keyslot.TheVariants as keyslots
use Rattle.luks_meta.specs.declared.meta.Parts.{Parts}
use Rattle.luks_rules.specs.References.{lists}
use Rattle.luks_slots.specs.declared.kinds.SlotKind.{SlotKind}
use Rattle.luks_slots.specs.declared.kinds.SlotKind.TheVariants as kinds

-- by the name of the function that derives its key
abbrev pub kind_named : List ℕ → SlotKind
kind_named name = if bytes_eq name (codes "argon2i") then kinds.Argon2i
    else (if bytes_eq name (codes "argon2id") then kinds.Argon2id else kinds.OtherDerivation)

abbrev pub kind_by : Derivation → SlotKind
kind_by (derivations.Pbkdf2 kdf) = kinds.Pbkdf2
kind_by (derivations.Unknown name) = kind_named name

abbrev pub kind_of : Keyslot → SlotKind
kind_of (keyslots.Luks2 slot) = kind_by slot.kdf.derivation
kind_of (keyslots.Reencrypt conversion) = kinds.Reencrypt
kind_of (keyslots.Unknown slot) = kinds.Other

-- a keyslot that a digest lists
abbrev pub held_by : Digest → ℕ × Keyslot → Option (ℕ × SlotKind)
held_by d slot = if lists d.keyslots slot.0 then Some (slot.0, kind_of slot.1) else None

-- the keyslots that hold the key of a digest, by rising number
unfoldable pub holders : Parts → Digest → List (ℕ × SlotKind)
holders m d = filter_map (λ slot. held_by d slot) m.keyslots
