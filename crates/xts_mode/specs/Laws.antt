-- XTS keeps lengths, gives bytes, and is undone by XTS with the data cipher's inverse.
use Rattle.std.proofs.Common.{◌≡◌, ℕ, ◌/◌, List, length, refl, ap, sym, ◌∙◌}
use Rattle.cipher_laws.specs.Bytes.{IsBlock}
use Rattle.cipher_laws.specs.Laws.{KeepsBlocks, UndoesBlocks, KeepsLengths, GivesBytes}
use Rattle.cipher_laws.specs.Laws.{UndoesSectors}
use Rattle.cipher_laws.specs.CipherBlocks.Blocks.{xored, number_block}
use Rattle.cipher_laws.specs.CipherBlocks.BlockLaws.{xored_twice, xored_is_block, number_block_is_block}
use Rattle.cipher_laws.specs.CipherBlocks.PieceLaws.{block_pieces, block_pieces_undone, whole_blocks}
use Rattle.cipher_laws.specs.CipherBlocks.PieceLaws.{KeepsPieces, UndoesPieces, length-worked, bytes-worked}
use Rattle.cipher_laws.specs.CipherBlocks.PieceLaws.{worked_undone}
use Rattle.xts_mode.specs.Xts.{doubled, whitened, xts_from, xts}

abbrev Any : ℕ → Type 0
Any _ = Unit {0}

abbrev double_on : ℕ → List ℕ → List ℕ → ℕ
double_on tweak _ _ = doubled tweak

whitened_is_block : (change : List ℕ → List ℕ) → KeepsBlocks change → (tweak : ℕ) (block : List ℕ)
    → IsBlock block → IsBlock (whitened change tweak block)
unfolding whitened
whitened_is_block change keeps tweak block in_block =
    let mask : IsBlock (number_block tweak) = number_block_is_block tweak in
    xored_is_block (change (xored block (number_block tweak))) (number_block tweak)
    (keeps (xored block (number_block tweak))
    (xored_is_block block (number_block tweak) in_block mask)) mask

whitened_keeps : (change : List ℕ → List ℕ) → KeepsBlocks change
    → KeepsPieces Any 16 (whitened change) double_on
whitened_keeps change keeps =
    block_pieces Any (whitened change) double_on
    (λ tweak block _ in_block. whitened_is_block change keeps tweak block in_block) (λ _ _ _ _. tt)

whitened_twice : (back change : List ℕ → List ℕ) → KeepsBlocks change → UndoesBlocks back change
    → (tweak : ℕ) (block : List ℕ) → IsBlock block
    → whitened back tweak (whitened change tweak block) ≡ block
unfolding whitened
whitened_twice back change keeps undoes tweak block in_block =
    let mask : List ℕ = number_block tweak in
    let is_mask : IsBlock mask = number_block_is_block tweak in
    let masked : IsBlock (xored block mask) = xored_is_block block mask in_block is_mask in
    let changed : IsBlock (change (xored block mask)) = keeps (xored block mask) masked in
    ap (λ (b : List ℕ). xored (back b) mask)
    (xored_twice (change (xored block mask)) mask (changed.length_is ∙ sym is_mask.length_is))
    ∙ ap (λ (b : List ℕ). xored b mask) (undoes (xored block mask) masked)
    ∙ xored_twice block mask (in_block.length_is ∙ sym is_mask.length_is)

whitened_undone : (back change : List ℕ → List ℕ) → KeepsBlocks change → UndoesBlocks back change
    → UndoesPieces Any 16 (whitened change) double_on (whitened back) double_on
whitened_undone back change keeps undoes =
    block_pieces_undone Any (whitened change) double_on (whitened back) double_on
    (λ tweak block _ in_block. whitened_twice back change keeps undoes tweak block in_block)
    (λ _ _. refl)

pub xts_keeps_lengths : (change seal_tweak : List ℕ → List ℕ) → KeepsBlocks change
    → KeepsLengths 16 (xts change seal_tweak)
unfolding xts xts_from
xts_keeps_lengths change seal_tweak keeps number sector are =
    length-worked (whitened_keeps change keeps) _ (length sector / 16) sector tt
    (whole_blocks sector are.whole) are.are_bytes

pub xts_gives_bytes : (change seal_tweak : List ℕ → List ℕ) → KeepsBlocks change
    → GivesBytes 16 (xts change seal_tweak)
unfolding xts xts_from
xts_gives_bytes change seal_tweak keeps number sector are =
    bytes-worked (whitened_keeps change keeps) _ (length sector / 16) sector tt
    (whole_blocks sector are.whole) are.are_bytes

pub xts_undone : (back change seal_tweak : List ℕ → List ℕ) → KeepsBlocks change
    → UndoesBlocks back change →
    UndoesSectors 16 (xts back seal_tweak) (xts change seal_tweak)
unfolding xts xts_from
xts_undone back change seal_tweak keeps undoes number sector are =
    rw (xts_keeps_lengths change seal_tweak keeps number sector are)
    (worked_undone (whitened_keeps change keeps) (whitened_undone back change keeps undoes) _
    (length sector / 16) sector tt (whole_blocks sector are.whole) are.are_bytes)
