-- The two hash functions of FIPS 180-4, by name.
use Rattle.std.specs.Prelude.{ℕ, List}
use Rattle.sha2.specs.Sha256.{sha256}
use Rattle.sha2.specs.Sha512.{sha512}
use Rattle.pbkdf2_hmac.specs.declared.Hash.{Hash}
use Rattle.pbkdf2_hmac.specs.declared.Hash.TheVariants.{Sha256, Sha512}

-- the digest of a message
abbrev pub digest_of : Hash → List ℕ → List ℕ
digest_of Sha256 m = sha256 m
digest_of Sha512 m = sha512 m

-- the bytes of a digest: `L` of RFC 2104, section 2, and `hLen` of RFC 8018, section 5.2
abbrev pub digest_len : Hash → ℕ
digest_len Sha256 = 32
digest_len Sha512 = 64

-- the bytes of a block, on which the function's compression works: `B` of RFC 2104, section 2
abbrev pub block_len : Hash → ℕ
block_len Sha256 = 64
block_len Sha512 = 128
