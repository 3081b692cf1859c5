-- CBC keeps lengths, gives bytes, and each direction undoes the other.
use Rattle.std.proofs.Common.{◌≡◌, ℕ, ◌/◌, List, length, refl, ap, sym, ◌∙◌}
use Rattle.cipher_laws.specs.Bytes.{IsBlock, AreSectors}
use Rattle.cipher_laws.specs.Laws.{KeepsBlocks, UndoesBlocks, KeepsLengths, GivesBytes}
use Rattle.cipher_laws.specs.Laws.{UndoesSectors}
use Rattle.cipher_laws.specs.CipherBlocks.Blocks.{xored}
use Rattle.cipher_laws.specs.CipherBlocks.BlockLaws.{xored_twice, xored_is_block, number_block_is_block}
use Rattle.cipher_laws.specs.CipherBlocks.PieceLaws.{block_pieces, block_pieces_undone, whole_blocks}
use Rattle.cipher_laws.specs.CipherBlocks.PieceLaws.{KeepsPieces, length-worked, bytes-worked, worked_undone}
use Rattle.cbc_essiv.specs.Cbc.{seal_after, unseal_after, cbc_sealed, cbc_opened, essiv}
use Rattle.cbc_essiv.specs.Cbc.{cbc_essiv_sealed, cbc_essiv_opened}

-- what a block hands on to the next one: the block that was made of it, or the block itself
abbrev hand_made : List ℕ → List ℕ → List ℕ → List ℕ
hand_made _ _ made = made

abbrev hand_read : List ℕ → List ℕ → List ℕ → List ℕ
hand_read _ read _ = read

sealed_is_block : (seal : List ℕ → List ℕ) → KeepsBlocks seal → (before block : List ℕ)
    → IsBlock before → IsBlock block → IsBlock (seal_after seal before block)
unfolding seal_after
sealed_is_block seal keeps before block in_before in_block =
    keeps (xored block before) (xored_is_block block before in_block in_before)

opened_is_block : (unseal : List ℕ → List ℕ) → KeepsBlocks unseal → (before block : List ℕ)
    → IsBlock before → IsBlock block → IsBlock (unseal_after unseal before block)
unfolding unseal_after
opened_is_block unseal keeps before block in_before in_block =
    xored_is_block (unseal block) before (keeps block in_block) in_before

seal_keeps : (seal : List ℕ → List ℕ) → KeepsBlocks seal
    → KeepsPieces IsBlock 16 (seal_after seal) hand_made
seal_keeps seal keeps =
    block_pieces IsBlock (seal_after seal) hand_made (sealed_is_block seal keeps)
    (sealed_is_block seal keeps)

unseal_keeps : (unseal : List ℕ → List ℕ) → KeepsBlocks unseal
    → KeepsPieces IsBlock 16 (unseal_after unseal) hand_read
unseal_keeps unseal keeps =
    block_pieces IsBlock (unseal_after unseal) hand_read (opened_is_block unseal keeps)
    (λ _ _ _ in_block. in_block)

unsealed_block : (seal unseal : List ℕ → List ℕ) → UndoesBlocks unseal seal
    → (before block : List ℕ) → IsBlock before → IsBlock block
    → unseal_after unseal before (seal_after seal before block) ≡ block
unfolding seal_after unseal_after
unsealed_block seal unseal undoes before block in_before in_block =
    ap (λ (b : List ℕ). xored b before)
    (undoes (xored block before) (xored_is_block block before in_block in_before))
    ∙ xored_twice block before (in_block.length_is ∙ sym in_before.length_is)

sealed_again : (seal unseal : List ℕ → List ℕ) → KeepsBlocks unseal → UndoesBlocks seal unseal
    → (before block : List ℕ) → IsBlock before → IsBlock block
    → seal_after seal before (unseal_after unseal before block) ≡ block
unfolding seal_after unseal_after
sealed_again seal unseal keeps undoes before block in_before in_block =
    let opened : IsBlock (unseal block) = keeps block in_block in
    ap seal (xored_twice (unseal block) before (opened.length_is ∙ sym in_before.length_is))
    ∙ undoes block in_block

essiv_is_block : (seal_iv : List ℕ → List ℕ) → KeepsBlocks seal_iv → (number : ℕ)
    → IsBlock (essiv seal_iv number)
unfolding essiv
essiv_is_block seal_iv keeps number = keeps _ (number_block_is_block number)

length-cbc_sealed : (seal : List ℕ → List ℕ) → KeepsBlocks seal → (iv sector : List ℕ) → IsBlock iv
    → AreSectors 16 sector → length (cbc_sealed seal iv sector) ≡ length sector
unfolding cbc_sealed
length-cbc_sealed seal keeps iv sector in_iv are =
    length-worked (seal_keeps seal keeps) iv (length sector / 16) sector in_iv
    (whole_blocks sector are.whole) are.are_bytes

length-cbc_opened : (unseal : List ℕ → List ℕ) → KeepsBlocks unseal → (iv sector : List ℕ)
    → IsBlock iv → AreSectors 16 sector → length (cbc_opened unseal iv sector) ≡ length sector
unfolding cbc_opened
length-cbc_opened unseal keeps iv sector in_iv are =
    length-worked (unseal_keeps unseal keeps) iv (length sector / 16) sector in_iv
    (whole_blocks sector are.whole) are.are_bytes

pub sealed_keeps_lengths : (seal seal_iv : List ℕ → List ℕ) → KeepsBlocks seal → KeepsBlocks seal_iv
    → KeepsLengths 16 (cbc_essiv_sealed seal seal_iv)
unfolding cbc_essiv_sealed
sealed_keeps_lengths seal seal_iv keeps keeps_iv number sector are =
    length-cbc_sealed seal keeps (essiv seal_iv number) sector
    (essiv_is_block seal_iv keeps_iv number) are

pub opened_keeps_lengths : (unseal seal_iv : List ℕ → List ℕ) → KeepsBlocks unseal
    → KeepsBlocks seal_iv → KeepsLengths 16 (cbc_essiv_opened unseal seal_iv)
unfolding cbc_essiv_opened
opened_keeps_lengths unseal seal_iv keeps keeps_iv number sector are =
    length-cbc_opened unseal keeps (essiv seal_iv number) sector
    (essiv_is_block seal_iv keeps_iv number) are

pub sealed_gives_bytes : (seal seal_iv : List ℕ → List ℕ) → KeepsBlocks seal → KeepsBlocks seal_iv
    → GivesBytes 16 (cbc_essiv_sealed seal seal_iv)
unfolding cbc_essiv_sealed cbc_sealed
sealed_gives_bytes seal seal_iv keeps keeps_iv number sector are =
    bytes-worked (seal_keeps seal keeps) (essiv seal_iv number) (length sector / 16) sector
    (essiv_is_block seal_iv keeps_iv number) (whole_blocks sector are.whole) are.are_bytes

pub opened_gives_bytes : (unseal seal_iv : List ℕ → List ℕ) → KeepsBlocks unseal
    → KeepsBlocks seal_iv → GivesBytes 16 (cbc_essiv_opened unseal seal_iv)
unfolding cbc_essiv_opened cbc_opened
opened_gives_bytes unseal seal_iv keeps keeps_iv number sector are =
    bytes-worked (unseal_keeps unseal keeps) (essiv seal_iv number) (length sector / 16) sector
    (essiv_is_block seal_iv keeps_iv number) (whole_blocks sector are.whole) are.are_bytes

pub sealed_undone : (seal unseal seal_iv : List ℕ → List ℕ) → KeepsBlocks seal → KeepsBlocks seal_iv
    → UndoesBlocks unseal seal →
    UndoesSectors 16 (cbc_essiv_opened unseal seal_iv) (cbc_essiv_sealed seal seal_iv)
unfolding cbc_essiv_sealed cbc_essiv_opened cbc_sealed cbc_opened
sealed_undone seal unseal seal_iv keeps keeps_iv undoes number sector are =
    let iv : IsBlock (essiv seal_iv number) = essiv_is_block seal_iv keeps_iv number in
    let undone =
    block_pieces_undone IsBlock (seal_after seal) hand_made (unseal_after unseal) hand_read
    (unsealed_block seal unseal undoes) (λ _ _. refl) in
    rw (length-cbc_sealed seal keeps (essiv seal_iv number) sector iv are)
    (worked_undone (seal_keeps seal keeps) undone (essiv seal_iv number) (length sector / 16) sector
    iv (whole_blocks sector are.whole) are.are_bytes)

pub opened_undone : (seal unseal seal_iv : List ℕ → List ℕ) → KeepsBlocks unseal
    → KeepsBlocks seal_iv → UndoesBlocks seal unseal →
    UndoesSectors 16 (cbc_essiv_sealed seal seal_iv) (cbc_essiv_opened unseal seal_iv)
unfolding cbc_essiv_sealed cbc_essiv_opened cbc_sealed cbc_opened
opened_undone seal unseal seal_iv keeps keeps_iv undoes number sector are =
    let iv : IsBlock (essiv seal_iv number) = essiv_is_block seal_iv keeps_iv number in
    let undone =
    block_pieces_undone IsBlock (unseal_after unseal) hand_read (seal_after seal) hand_made
    (sealed_again seal unseal keeps undoes) (λ _ _. refl) in
    rw (length-cbc_opened unseal keeps (essiv seal_iv number) sector iv are)
    (worked_undone (unseal_keeps unseal keeps) undone (essiv seal_iv number) (length sector / 16)
    sector iv (whole_blocks sector are.whole) are.are_bytes)
