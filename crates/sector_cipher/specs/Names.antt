-- The ciphers of LUKS2 segments that are known here: their names, and how long their keys are.
use Rattle.std.specs.Prelude.{◌≡◌, ℕ, List, codes, ◌⊎◌}
use Rattle.sector_cipher.specs.declared.spec.Spec.{Spec}
use Rattle.sector_cipher.specs.declared.spec.Spec.TheVariants.{AesXtsPlain64, AesCbcEssivSha256}

-- the name in the `encryption` of a segment (LUKS2 On-Disk Format, the segments object)
abbrev pub name : Spec → List ℕ
name AesXtsPlain64 = codes "aes-xts-plain64"
name AesCbcEssivSha256 = codes "aes-cbc-essiv:sha256"

-- the bytes of a key: XTS has two keys of AES in one
abbrev pub IsKeyLength : Spec → ℕ → Type 0
IsKeyLength AesXtsPlain64 n = (n ≡ 32) ⊎ (n ≡ 64)
IsKeyLength AesCbcEssivSha256 n = (n ≡ 16) ⊎ (n ≡ 32)
