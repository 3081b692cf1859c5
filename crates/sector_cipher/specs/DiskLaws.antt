-- A disk's cipher keeps the laws of a cipher of sectors, where its block cipher keeps its own.
use Rattle.std.proofs.Common.{ℕ, List}
use Rattle.cipher_laws.specs.Laws.{KeepsBlocks, UndoesBlocks}
use Rattle.xts_mode.specs.Xts.{xts}
use Rattle.xts_mode.specs.Laws.{xts_keeps_lengths, xts_gives_bytes, xts_undone}
use Rattle.cbc_essiv.specs.Cbc.{cbc_essiv_sealed, cbc_essiv_opened}
use Rattle.cbc_essiv.specs.Laws.{sealed_keeps_lengths, opened_keeps_lengths, sealed_gives_bytes}
use Rattle.cbc_essiv.specs.Laws.{opened_gives_bytes, sealed_undone, opened_undone}
use Rattle.sector_cipher.specs.SectorLaws.{IsSectorSize, KeepsSectors, AreLawful, lawful_rows}
use Rattle.sector_cipher.specs.SectorLaws.{lawful_rest}
use Rattle.sector_cipher.specs.Disk.{sealed_by, opened_by, sealed_in, opened_in}
use Rattle.sector_cipher.specs.declared.disk.Mode.{Mode}
use Rattle.sector_cipher.specs.declared.disk.Mode.TheVariants.{Linear, Xts, CbcEssiv}
use Rattle.sector_cipher.specs.declared.disk.DiskCipher.{DiskCipher}

-- each value of a block cipher makes blocks of blocks, and each gives back what another makes
abbrev pub KeepEachBlock : {B : Type 0} → (B → List ℕ → List ℕ) → Type 0
KeepEachBlock {B} change = (cipher : B) → KeepsBlocks (change cipher)

abbrev pub UndoEachBlock : {B : Type 0} → (B → List ℕ → List ℕ) → (B → List ℕ → List ℕ) → Type 0
UndoEachBlock {B} back change = (cipher : B) → UndoesBlocks (back cipher) (change cipher)

xts_keeps : (change seal_tweak : List ℕ → List ℕ) → KeepsBlocks change
    → KeepsSectors (xts change seal_tweak)
xts_keeps change seal_tweak keeps = record {
  lengths = xts_keeps_lengths change seal_tweak keeps;
  bytes = xts_gives_bytes change seal_tweak keeps;
}

cbc_seal_keeps : (seal seal_iv : List ℕ → List ℕ) → KeepsBlocks seal → KeepsBlocks seal_iv
    → KeepsSectors (cbc_essiv_sealed seal seal_iv)
cbc_seal_keeps seal seal_iv keeps keeps_iv = record {
  lengths = sealed_keeps_lengths seal seal_iv keeps keeps_iv;
  bytes = sealed_gives_bytes seal seal_iv keeps keeps_iv;
}

cbc_open_keeps : (unseal seal_iv : List ℕ → List ℕ) → KeepsBlocks unseal → KeepsBlocks seal_iv
    → KeepsSectors (cbc_essiv_opened unseal seal_iv)
cbc_open_keeps unseal seal_iv keeps keeps_iv = record {
  lengths = opened_keeps_lengths unseal seal_iv keeps keeps_iv;
  bytes = opened_gives_bytes unseal seal_iv keeps keeps_iv;
}

mode_seals : {B : Type 0} (seals unseals : B → List ℕ → List ℕ) → KeepEachBlock seals
    → UndoEachBlock unseals seals →
    (mode : Mode B) (size : ℕ) → IsSectorSize size
    → AreLawful size (sealed_by seals mode size) (opened_by seals unseals mode size)
unfolding sealed_by opened_by
mode_seals seals unseals keep undo Linear size sized = lawful_rest size
mode_seals seals unseals keep undo (Xts mode) size sized =
    let body = seals mode.body in
    let tweak = seals mode.tweak in
    lawful_rows size (xts body tweak) (xts (unseals mode.body) tweak) sized
    (xts_keeps body tweak (keep mode.body))
    (xts_undone (unseals mode.body) body tweak (keep mode.body) (undo mode.body))
mode_seals seals unseals keep undo (CbcEssiv mode) size sized =
    let body = seals mode.body in
    let iv = seals mode.iv in
    lawful_rows size (cbc_essiv_sealed body iv) (cbc_essiv_opened (unseals mode.body) iv) sized
    (cbc_seal_keeps body iv (keep mode.body) (keep mode.iv))
    (sealed_undone body (unseals mode.body) iv (keep mode.body) (keep mode.iv) (undo mode.body))

mode_opens : {B : Type 0} (seals unseals : B → List ℕ → List ℕ) → KeepEachBlock seals
    → KeepEachBlock unseals → UndoEachBlock seals unseals →
    (mode : Mode B) (size : ℕ) → IsSectorSize size
    → AreLawful size (opened_by seals unseals mode size) (sealed_by seals mode size)
unfolding sealed_by opened_by
mode_opens seals unseals keep keep_open undo Linear size sized = lawful_rest size
mode_opens seals unseals keep keep_open undo (Xts mode) size sized =
    let body = unseals mode.body in
    let tweak = seals mode.tweak in
    lawful_rows size (xts body tweak) (xts (seals mode.body) tweak) sized
    (xts_keeps body tweak (keep_open mode.body))
    (xts_undone (seals mode.body) body tweak (keep_open mode.body) (undo mode.body))
mode_opens seals unseals keep keep_open undo (CbcEssiv mode) size sized =
    let body = unseals mode.body in
    let iv = seals mode.iv in
    lawful_rows size (cbc_essiv_opened body iv) (cbc_essiv_sealed (seals mode.body) iv) sized
    (cbc_open_keeps body iv (keep_open mode.body) (keep mode.iv))
    (opened_undone (seals mode.body) body iv (keep_open mode.body) (keep mode.iv) (undo mode.body))

pub disk_seals : {B : Type 0} (seals unseals : B → List ℕ → List ℕ) → KeepEachBlock seals
    → UndoEachBlock unseals seals →
    (disk : DiskCipher B)
    → AreLawful disk.sector (sealed_in seals disk) (opened_in seals unseals disk)
unfolding sealed_in opened_in
disk_seals seals unseals keep undo disk =
    mode_seals seals unseals keep undo disk.mode disk.sector
    (record { some = disk.some; units = disk.units })

pub disk_opens : {B : Type 0} (seals unseals : B → List ℕ → List ℕ) → KeepEachBlock seals
    → KeepEachBlock unseals → UndoEachBlock seals unseals →
    (disk : DiskCipher B)
    → AreLawful disk.sector (opened_in seals unseals disk) (sealed_in seals disk)
unfolding sealed_in opened_in
disk_opens seals unseals keep keep_open undo disk =
    mode_opens seals unseals keep keep_open undo disk.mode disk.sector
    (record { some = disk.some; units = disk.units })
