-- The drawn bytes of a new volume, in the order in which they are spent.
use Rattle.std.specs.Prelude.{ℕ, ◌≡◌, ◌+◌, List, ◌++◌, length, replicate, Option, Some, None}
use Rattle.luks_format.specs.declared.drawn.Drawn.{Drawn}
use Rattle.luks_format.specs.declared.wish.Wish.{Wish}
use Rattle.luks_slots.specs.KeyMaking.Drawings.{Draw as KeyDraw, drawn_by as drawn_by_key}
use Rattle.luks_slots.specs.KeyMaking.Drawings.{drawn_len as key_drawn_len, piece, spent as spent_by_key}
use Rattle.luks_slots.specs.NewSlots.{drawn_len as slot_len}
pub use Rattle.luks_slots.specs.KeyMaking.Drawings.{salt_len}
use Rattle.uuid.specs.Parts.{with_variant, with_version}
use Rattle.uuid.specs.Text.{hyphenated_text, lower}
use Rattle.uuid.specs.declared.Variant.TheVariants.{RFC4122}
use Rattle.uuid.specs.declared.Version.TheVariants.{Random}

-- what they are spent for
pub record Draw : Type 0 where
  pub key : List ℕ
  pub slot : List ℕ
  pub digest_salt : List ℕ
  pub identifier : List ℕ
  pub first_salt : List ℕ
  pub second_salt : List ℕ

abbrev pub draw : Drawn → Draw
draw d = record {
  key = d.key.now;
  slot = d.slot.now;
  digest_salt = d.digest_salt.now;
  identifier = d.identifier.now;
  first_salt = d.first_salt.now;
  second_salt = d.second_salt.now;
}

-- those of its key
abbrev pub of_key : Draw → KeyDraw
of_key d = record { key = d.key; slot = d.slot; digest_salt = d.digest_salt }

-- none are drawn for an identifier that is given
abbrev pub identifier_len : Option (List ℕ) → ℕ
identifier_len (Some identifier) = 0
identifier_len None = 16

abbrev pub copy_salt_len : ℕ
copy_salt_len = 64

-- those of the key, those of the identifier, both copies' salts
unfoldable pub drawn_len : Wish → ℕ
unfolding key_drawn_len
drawn_len w =
    key_drawn_len w.key_size + identifier_len w.identifier + (copy_salt_len + copy_salt_len)

unfoldable pub drawn_by : Wish → List ℕ → Draw
unfolding drawn_by_key key_drawn_len
drawn_by w bytes =
    let new_key = drawn_by_key w.key_size bytes in
    let identifier_at = key_drawn_len w.key_size in
    let first_at = identifier_at + identifier_len w.identifier in
    record {
      key = new_key.key;
      slot = new_key.slot;
      digest_salt = new_key.digest_salt;
      identifier = piece identifier_at (identifier_len w.identifier) bytes;
      first_salt = piece first_at copy_salt_len bytes;
      second_salt = piece (first_at + copy_salt_len) copy_salt_len bytes;
    }

-- all of them, one after the other
abbrev pub spent : Draw → List ℕ
spent d = spent_by_key (of_key d) ++ (d.identifier ++ (d.first_salt ++ d.second_salt))

-- they have the lengths that are asked for
pub record AreDrawn (w : Wish) (d : Draw) : Type 0 where
  pub key : length d.key ≡ w.key_size
  pub slot : length d.slot ≡ slot_len w.key_size
  pub digest_salt : length d.digest_salt ≡ salt_len
  pub identifier : length d.identifier ≡ identifier_len w.identifier
  pub first_salt : length d.first_salt ≡ copy_salt_len
  pub second_salt : length d.second_salt ≡ copy_salt_len

-- ---- the identifier
abbrev pub HasIdentifier : Wish → List ℕ → Type 0
HasIdentifier w drawn = length drawn ≡ identifier_len w.identifier

-- the one that is given, or the random one of these bytes (RFC 9562, version 4)
abbrev pub identifier_or : Option (List ℕ) → List ℕ → List ℕ
identifier_or (Some identifier) drawn = identifier
identifier_or None drawn = with_version (with_variant drawn RFC4122) Random

unfoldable pub identifier_for : Wish → List ℕ → List ℕ
identifier_for w drawn = identifier_or w.identifier drawn

-- the header's field of 40 bytes
abbrev pub field_of : List ℕ → List ℕ
field_of identifier = hyphenated_text lower identifier ++ replicate 4 0
