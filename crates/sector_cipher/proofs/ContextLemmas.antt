-- Modes under keys are the ciphers of LUKS2 segments.
use Rattle.std.proofs.Common.{◌≡◌, ℕ, List}
use Rattle.cbc_essiv.specs.Cbc.{cbc_essiv_sealed, cbc_essiv_opened}
use Rattle.cbc_essiv.specs.declared.mode.CbcEssiv.{CbcEssiv as CbcMode}
use Rattle.xts_mode.specs.Xts.{xts}
use Rattle.xts_mode.specs.declared.mode.Xts.{Xts as XtsMode}
use Rattle.cipher_laws.specs.Sectors.{by_sectors}
use Rattle.sector_cipher.specs.Keys.{IsXtsUnder, IsCbcEssivUnder}
use Rattle.sector_cipher.specs.Context.{sealed_under, opened_under}
use Rattle.sector_cipher.specs.declared.spec.Spec.TheVariants.{AesXtsPlain64, AesCbcEssivSha256}

pub xts_seals : {B : Type 0} {seals unseals : B → List ℕ → List ℕ} {key : List ℕ} {mode : XtsMode B}
    → IsXtsUnder seals unseals key mode → (size first : ℕ) (bytes : List ℕ) →
    by_sectors (xts (seals mode.body) (seals mode.tweak)) size first bytes
    ≡ sealed_under AesXtsPlain64 key size first bytes
unfolding sealed_under
xts_seals under size first bytes =
    λ i. by_sectors (xts (λ block. under.body_seals block i) (λ block. under.tweak_seals block i))
    size first bytes

pub xts_opens : {B : Type 0} {seals unseals : B → List ℕ → List ℕ} {key : List ℕ} {mode : XtsMode B}
    → IsXtsUnder seals unseals key mode → (size first : ℕ) (bytes : List ℕ) →
    by_sectors (xts (unseals mode.body) (seals mode.tweak)) size first bytes
    ≡ opened_under AesXtsPlain64 key size first bytes
unfolding opened_under
xts_opens under size first bytes =
    λ i. by_sectors (xts (λ block. under.body_opens block i) (λ block. under.tweak_seals block i))
    size first bytes

pub cbc_essiv_seals : {B : Type 0} {seals unseals : B → List ℕ → List ℕ} {key : List ℕ}
    {mode : CbcMode B} → IsCbcEssivUnder seals unseals key mode → (size first : ℕ) (bytes : List ℕ)
    →
    by_sectors (cbc_essiv_sealed (seals mode.body) (seals mode.iv)) size first bytes
    ≡ sealed_under AesCbcEssivSha256 key size first bytes
unfolding sealed_under
cbc_essiv_seals under size first bytes =
    λ i. by_sectors
    (cbc_essiv_sealed (λ block. under.body_seals block i) (λ block. under.iv_seals block i)) size
    first bytes

pub cbc_essiv_opens : {B : Type 0} {seals unseals : B → List ℕ → List ℕ} {key : List ℕ}
    {mode : CbcMode B} → IsCbcEssivUnder seals unseals key mode → (size first : ℕ) (bytes : List ℕ)
    →
    by_sectors (cbc_essiv_opened (unseals mode.body) (seals mode.iv)) size first bytes
    ≡ opened_under AesCbcEssivSha256 key size first bytes
unfolding opened_under
cbc_essiv_opens under size first bytes =
    λ i. by_sectors
    (cbc_essiv_opened (λ block. under.body_opens block i) (λ block. under.iv_seals block i)) size
    first bytes
