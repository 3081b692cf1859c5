-- The functions that a keyslot names, of those that are known here.
use Rattle.std.specs.Prelude.{ℕ, List, Bool, ◌==◌, ◌||◌, Option, Some, None, option_map}
use Rattle.luks_meta.specs.Names.{cipher_named, hash_named}
use Rattle.luks_meta.specs.declared.keyslot.Luks2.{Luks2}
use Rattle.luks_meta.specs.declared.keyslot.Pbkdf2.{Pbkdf2}
use Rattle.luks_meta.specs.declared.names.Cipher.{Cipher}
use Rattle.luks_meta.specs.declared.names.Cipher.TheVariants as ciphers
use Rattle.luks_meta.specs.declared.names.Hash.{Hash as NamedHash}
use Rattle.luks_meta.specs.declared.names.Hash.TheVariants as hashes
use Rattle.luks_slots.specs.declared.functions.Functions.{Functions}
use Rattle.pbkdf2_hmac.specs.declared.Hash.{Hash}
use Rattle.pbkdf2_hmac.specs.declared.Hash.TheVariants.{Sha256, Sha512}
use Rattle.sector_cipher.specs.declared.spec.Spec.{Spec}
use Rattle.sector_cipher.specs.declared.spec.Spec.TheVariants.{AesXtsPlain64, AesCbcEssivSha256}

-- ---- by name
abbrev pub named_hash : NamedHash → Hash
named_hash hashes.Sha256 = Sha256
named_hash hashes.Sha512 = Sha512

abbrev pub named_cipher : Cipher → Spec
named_cipher ciphers.AesXtsPlain64 = AesXtsPlain64
named_cipher ciphers.AesCbcEssivSha256 = AesCbcEssivSha256

abbrev pub hash_in : List ℕ → Option Hash
hash_in name = option_map named_hash (hash_named name)

abbrev pub cipher_in : List ℕ → Option Spec
cipher_in name = option_map named_cipher (cipher_named name)

-- ---- of a keyslot
abbrev pub functions_by : Option Hash → Option Spec → Option Hash → Option Functions
functions_by (Some kdf) (Some cipher) (Some af) =
    Some (record { kdf = kdf; cipher = cipher; af = af })
functions_by _ _ _ = None

-- those that a keyslot names, where each is known
unfoldable pub functions_of : Pbkdf2 → Luks2 → Option Functions
functions_of kdf slot =
    functions_by (hash_in kdf.hash) (cipher_in slot.area.encryption) (hash_in slot.af.hash)

-- whether a cipher has keys of so many bytes
abbrev pub has_key_length : Spec → ℕ → Bool
has_key_length AesXtsPlain64 n = (n == 32) || (n == 64)
has_key_length AesCbcEssivSha256 n = (n == 16) || (n == 32)
