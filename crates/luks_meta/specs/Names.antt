-- The names of ciphers and hashes.
use Rattle.std.specs.Prelude.{ℕ, nat_le, ◌&&◌, Bool, List, codes, Option, Some, None, if◌then◌else◌}
use Rattle.std.specs.Str.{bytes_eq}
use Rattle.luks_meta.specs.declared.names.Cipher.{Cipher}
use Rattle.luks_meta.specs.declared.names.Cipher.TheVariants.{AesXtsPlain64, AesCbcEssivSha256}
use Rattle.luks_meta.specs.declared.names.Hash.{Hash}
use Rattle.luks_meta.specs.declared.names.Hash.TheVariants.{Sha256, Sha512}

abbrev pub cipher_name : Cipher → List ℕ
cipher_name AesXtsPlain64 = codes "aes-xts-plain64"
cipher_name AesCbcEssivSha256 = codes "aes-cbc-essiv:sha256"

abbrev pub cipher_named : List ℕ → Option Cipher
cipher_named name =
    if bytes_eq name (codes "aes-xts-plain64") then Some AesXtsPlain64 else
    (if bytes_eq name (codes "aes-cbc-essiv:sha256") then Some AesCbcEssivSha256 else None)

abbrev pub hash_name : Hash → List ℕ
hash_name Sha256 = codes "sha256"
hash_name Sha512 = codes "sha512"

abbrev pub hash_named : List ℕ → Option Hash
hash_named name =
    if bytes_eq name (codes "sha256") then Some Sha256 else
    (if bytes_eq name (codes "sha512") then Some Sha512 else None)

-- how many iterations PBKDF2 may have
abbrev pub is_iterations : ℕ → Bool
is_iterations n = nat_le 1 n && nat_le n 268435456

abbrev pub iterations_of : ℕ → Option ℕ
iterations_of n = if is_iterations n then Some n else None
