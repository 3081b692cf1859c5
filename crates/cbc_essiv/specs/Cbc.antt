-- CBC (NIST SP 800-38A, 6.2) on sectors of whole blocks, with the IV of ESSIV: `seal` and `unseal`
-- are what the data cipher makes of a block, and `seal_iv` what the IV's cipher does.
use Rattle.std.specs.Prelude.{ℕ, zero, suc, ◌-◌, ◌/◌, List, length}
use Rattle.cipher_laws.specs.Eight.{block}
use Rattle.cipher_laws.specs.declared.eight_blocks.EightBlocks.{EightBlocks}
use Rattle.cipher_laws.specs.CipherBlocks.Blocks.{xored, number_block}
use Rattle.cipher_laws.specs.CipherBlocks.UnderWay.{IsUnderWay}
use Rattle.cipher_laws.specs.Pieces.{worked}

-- one block, sealed after the sealed block before it: the two are xored first
unfoldable pub seal_after : (List ℕ → List ℕ) → List ℕ → List ℕ → List ℕ
seal_after seal before block = seal (xored block before)

-- one sealed block, opened after the sealed block before it
unfoldable pub unseal_after : (List ℕ → List ℕ) → List ℕ → List ℕ → List ℕ
unseal_after unseal before block = xored (unseal block) before

-- the blocks of a sector in turn, each after the sealed one before it, and the first after the IV
unfoldable pub cbc_sealed : (List ℕ → List ℕ) → List ℕ → List ℕ → List ℕ
cbc_sealed seal iv sector =
    worked (seal_after seal) (λ _ _ sealed. sealed) 16 iv (length sector / 16) sector

unfoldable pub cbc_opened : (List ℕ → List ℕ) → List ℕ → List ℕ → List ℕ
cbc_opened unseal iv sector =
    worked (unseal_after unseal) (λ _ sealed _. sealed) 16 iv (length sector / 16) sector

-- the block before block k of eight in a row, where `first` stands before them
abbrev pub before : List ℕ → EightBlocks → ℕ → List ℕ
before first eight zero = first
before first eight (suc k) = block k eight

-- a sector whose first blocks are unsealed and lie before `at`, and whose blocks from there on are
-- still to be unsealed, the first of them after this sealed block, so that the whole becomes
-- `total`
abbrev pub IsUnsealedTo : (List ℕ → List ℕ) → ℕ → List ℕ → List ℕ → List ℕ → Type 0
IsUnsealedTo unseal at chain total sector =
    IsUnderWay (unseal_after unseal) (λ _ sealed _. sealed) 16 chain ((length sector - at) / 16) at
    total sector

-- the IV of the sector with this number
unfoldable pub essiv : (List ℕ → List ℕ) → ℕ → List ℕ
essiv seal_iv number = seal_iv (number_block number)

-- a sector under its number
unfoldable pub cbc_essiv_sealed : (List ℕ → List ℕ) → (List ℕ → List ℕ) → ℕ → List ℕ → List ℕ
cbc_essiv_sealed seal seal_iv number = cbc_sealed seal (essiv seal_iv number)

unfoldable pub cbc_essiv_opened : (List ℕ → List ℕ) → (List ℕ → List ℕ) → ℕ → List ℕ → List ℕ
cbc_essiv_opened unseal seal_iv number = cbc_opened unseal (essiv seal_iv number)
