-- What a cipher of sectors makes of bytes, over a block cipher whose values are a type B: `seals`
-- and `unseals` are what such a value makes of a block.
use Rattle.std.specs.Prelude.{ℕ, List}
use Rattle.xts_mode.specs.Xts.{xts}
use Rattle.cbc_essiv.specs.Cbc.{cbc_essiv_sealed, cbc_essiv_opened}
use Rattle.cipher_laws.specs.Sectors.{by_sectors}
use Rattle.sector_cipher.specs.declared.disk.Mode.{Mode}
use Rattle.sector_cipher.specs.declared.disk.Mode.TheVariants.{Linear, Xts, CbcEssiv}
use Rattle.sector_cipher.specs.declared.disk.DiskCipher.{DiskCipher}

-- what a mode makes of bytes in sectors of `size` bytes
unfoldable pub sealed_by : {B : Type 0} → (B → List ℕ → List ℕ) → Mode B → ℕ → ℕ → List ℕ → List ℕ
sealed_by seals Linear size = λ first bytes. bytes
sealed_by seals (Xts mode) size = by_sectors (xts (seals mode.body) (seals mode.tweak)) size
sealed_by seals (CbcEssiv mode) size =
    by_sectors (cbc_essiv_sealed (seals mode.body) (seals mode.iv)) size

unfoldable pub opened_by : {B : Type 0} → (B → List ℕ → List ℕ) → (B → List ℕ → List ℕ) → Mode B → ℕ
    → ℕ → List ℕ → List ℕ
opened_by seals unseals Linear size = λ first bytes. bytes
opened_by seals unseals (Xts mode) size =
    by_sectors (xts (unseals mode.body) (seals mode.tweak)) size
opened_by seals unseals (CbcEssiv mode) size =
    by_sectors (cbc_essiv_opened (unseals mode.body) (seals mode.iv)) size

-- what bytes become in a disk's cipher, under the IV number of their first 512
unfoldable pub sealed_in : {B : Type 0} → (B → List ℕ → List ℕ) → DiskCipher B → ℕ → List ℕ → List ℕ
sealed_in seals disk = sealed_by seals disk.mode disk.sector

unfoldable pub opened_in : {B : Type 0} → (B → List ℕ → List ℕ) → (B → List ℕ → List ℕ)
    → DiskCipher B → ℕ → List ℕ → List ℕ
opened_in seals unseals disk = opened_by seals unseals disk.mode disk.sector
