-- What follows for the key of a passphrase.
use Rattle.std.specs.Prelude.{ℕ, ◌≡◌, List, take, drop}
use Rattle.base_terms.specs.declared.disk_sizes.Sizes.{Sizes}
use Rattle.luks_meta.specs.declared.digest.Digest.{Digest}
use Rattle.luks_meta.specs.declared.meta.Parts.{Parts}
use Rattle.luks_rules.specs.Areas.{areas_begin}
use Rattle.luks_rules.specs.States.{IsSound}
use Rattle.luks_slots.specs.Unlocks.{key_of}
use Rattle.sector_disk.specs.Geometry.{IsAtom}

-- bytes that are the same behind the copies of the header give a passphrase the same key
abbrev pub KeysAreBehind : Type 0
KeysAreBehind =
    (m : Parts) (sizes : Sizes) (d : Digest) (image other pass : List ℕ) → IsSound m sizes
    → drop (areas_begin m.config) image ≡ drop (areas_begin m.config) other
    → key_of m d image pass ≡ key_of m d other pass

-- so do bytes that are the same in the keyslots area
abbrev pub KeysAreInAreas : Type 0
KeysAreInAreas =
    (m : Parts) (sizes : Sizes) (d : Digest) (image other pass : List ℕ) → IsSound m sizes
    → IsAtom sizes.atom
    → take m.config.keyslots_size (drop (areas_begin m.config) image)
    ≡ take m.config.keyslots_size (drop (areas_begin m.config) other)
    → key_of m d image pass ≡ key_of m d other pass
