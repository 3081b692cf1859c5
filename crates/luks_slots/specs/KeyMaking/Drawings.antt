-- The drawn bytes of a new key, in the order in which they are spent.
use Rattle.std.specs.Prelude.{ℕ, ◌≡◌, ◌+◌, List, ◌++◌, length, take, drop}
use Rattle.luks_slots.specs.declared.new_keys.drawn.Drawn.{Drawn}
use Rattle.luks_slots.specs.NewSlots.{drawn_len as slot_len}

-- what they are spent for
pub record Draw : Type 0 where
  pub key : List ℕ
  pub slot : List ℕ
  pub digest_salt : List ℕ

abbrev pub draw : Drawn → Draw
draw d = record { key = d.key.now; slot = d.slot.now; digest_salt = d.digest_salt.now }

abbrev pub salt_len : ℕ
salt_len = 32

-- the key, the keyslot's salt and stripes, the digest's salt
unfoldable pub drawn_len : ℕ → ℕ
drawn_len key_size = key_size + slot_len key_size + salt_len

-- so many bytes from one on
abbrev pub piece : ℕ → ℕ → List ℕ → List ℕ
piece from count bytes = take count (drop from bytes)

-- those of a key of so many bytes, from the front
unfoldable pub drawn_by : ℕ → List ℕ → Draw
drawn_by key_size bytes = record {
  key = take key_size bytes;
  slot = piece key_size (slot_len key_size) bytes;
  digest_salt = piece (key_size + slot_len key_size) salt_len bytes;
}

-- all of them, one after the other
abbrev pub spent : Draw → List ℕ
spent d = d.key ++ (d.slot ++ d.digest_salt)

-- they have the lengths that are asked for
pub record AreDrawn (key_size : ℕ) (d : Draw) : Type 0 where
  pub key : length d.key ≡ key_size
  pub slot : length d.slot ≡ slot_len key_size
  pub digest_salt : length d.digest_salt ≡ salt_len
