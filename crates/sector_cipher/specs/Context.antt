-- The ciphers of LUKS2 segments, down to AES (FIPS 197).
use Rattle.std.specs.Prelude.{ℕ, ◌/◌, List, length, take, drop}
use Rattle.sha2.specs.Sha256.{sha256}
use Rattle.aes_core.specs.Cipher.{aes, inverse_aes}
use Rattle.xts_mode.specs.Xts.{xts}
use Rattle.cbc_essiv.specs.Cbc.{cbc_essiv_sealed, cbc_essiv_opened}
use Rattle.cipher_laws.specs.Sectors.{by_sectors}
use Rattle.sector_cipher.specs.declared.spec.Spec.{Spec}
use Rattle.sector_cipher.specs.declared.spec.Spec.TheVariants.{AesXtsPlain64, AesCbcEssivSha256}

-- the two keys in a key of XTS: the first half is the data's, the second the tweak's (IEEE 1619,
-- 5.3.1)
abbrev pub data_half : List ℕ → List ℕ
data_half key = take (length key / 2) key

abbrev pub tweak_half : List ℕ → List ℕ
tweak_half key = drop (length key / 2) key

-- bytes in sectors of `size` bytes, sealed by this cipher under this key, where the first 512 bytes
-- have the IV number `first`
unfoldable pub sealed_under : Spec → List ℕ → ℕ → ℕ → List ℕ → List ℕ
sealed_under AesXtsPlain64 key size =
    by_sectors (xts (aes (data_half key)) (aes (tweak_half key))) size
sealed_under AesCbcEssivSha256 key size =
    by_sectors (cbc_essiv_sealed (aes key) (aes (sha256 key))) size

-- and unsealed
unfoldable pub opened_under : Spec → List ℕ → ℕ → ℕ → List ℕ → List ℕ
opened_under AesXtsPlain64 key size =
    by_sectors (xts (inverse_aes (data_half key)) (aes (tweak_half key))) size
opened_under AesCbcEssivSha256 key size =
    by_sectors (cbc_essiv_opened (inverse_aes key) (aes (sha256 key))) size
