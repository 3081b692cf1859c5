-- Modes whose ciphers are AES under given keys: `seals` and `unseals` are what the code's value of
-- AES makes of a block.
use Rattle.std.specs.Prelude.{◌≡◌, ℕ, List}
use Rattle.sha2.specs.Sha256.{sha256}
use Rattle.aes_core.specs.Cipher.{aes, inverse_aes}
use Rattle.xts_mode.specs.declared.mode.Xts.{Xts as XtsMode}
use Rattle.cbc_essiv.specs.declared.mode.CbcEssiv.{CbcEssiv as CbcMode}
use Rattle.sector_cipher.specs.Context.{data_half, tweak_half}

-- the mode's ciphers are AES under the keys in this key
pub record IsXtsUnder {B : Type 0} (seals unseals : B → List ℕ → List ℕ) (key : List ℕ)
    (mode : XtsMode B) : Type 0 where
  pub body_seals : (block : List ℕ) → seals mode.body block ≡ aes (data_half key) block
  pub body_opens : (block : List ℕ) → unseals mode.body block ≡ inverse_aes (data_half key) block
  pub tweak_seals : (block : List ℕ) → seals mode.tweak block ≡ aes (tweak_half key) block

-- the mode's ciphers are AES under this key, and for the IV under its SHA-256
pub record IsCbcEssivUnder {B : Type 0} (seals unseals : B → List ℕ → List ℕ) (key : List ℕ)
    (mode : CbcMode B) : Type 0 where
  pub body_seals : (block : List ℕ) → seals mode.body block ≡ aes key block
  pub body_opens : (block : List ℕ) → unseals mode.body block ≡ inverse_aes key block
  pub iv_seals : (block : List ℕ) → seals mode.iv block ≡ aes (sha256 key) block
