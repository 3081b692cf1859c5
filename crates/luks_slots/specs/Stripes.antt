-- The key that the stripes in a keyslot's area hold (LUKS2 On-Disk Format 1.1, sections 3.2 and 4).
use Rattle.std.specs.Prelude.{ℕ, ◌*◌, List, take, drop}
use Rattle.std.specs.Int.{div_ceil}
use Rattle.af_split.specs.Af.{merged}
use Rattle.luks_meta.specs.declared.keyslot.Luks2.{Luks2}
use Rattle.luks_meta.specs.declared.keyslot.Pbkdf2.{Pbkdf2}
use Rattle.luks_slots.specs.declared.functions.Functions.{Functions}
use Rattle.pbkdf2_hmac.specs.Pbkdf2.{derived_key}
use Rattle.sector_cipher.specs.Context.{opened_under}

-- so many bytes in whole units
abbrev pub rounded : ℕ → ℕ → ℕ
rounded n unit = div_ceil n unit * unit

-- the bytes of the stripes of a key, and of the sectors of 512 bytes that hold them
abbrev pub split_len : ℕ → ℕ
split_len key_size = key_size * 4000

abbrev pub sectors_len : ℕ → ℕ
sectors_len key_size = rounded (split_len key_size) 512

-- the key of a keyslot's area
unfoldable pub area_key : List ℕ → Pbkdf2 → Functions → Luks2 → List ℕ
area_key pass kdf functions slot =
    derived_key functions.kdf pass kdf.salt kdf.iterations slot.area.key_size

-- the stripes: the area's sectors, numbered from 0, unsealed under that key
unfoldable pub stripes_in : List ℕ → List ℕ → Pbkdf2 → Functions → Luks2 → List ℕ
stripes_in image pass kdf functions slot =
    take (split_len slot.key_size)
    (opened_under functions.cipher (area_key pass kdf functions slot) 512 0
    (take (sectors_len slot.key_size) (drop slot.area.offset image)))

-- and the key that they are merged to
unfoldable pub stored_key : List ℕ → List ℕ → Pbkdf2 → Functions → Luks2 → List ℕ
stored_key image pass kdf functions slot =
    merged functions.af slot.key_size 4000 (stripes_in image pass kdf functions slot)
