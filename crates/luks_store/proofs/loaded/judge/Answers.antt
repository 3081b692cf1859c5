use Rattle.std.proofs.Common.{◌≤◌, length, sym, subst}
use Rattle.luks_store.proofs.CopyLemmas.{long_enough}
use Rattle.luks_store.proofs.loaded.judge.Goals as goal

pub json_text-text-requires : goal.json_text-text-requires
json_text-text-requires c =
    subst (λ bytes. 4096 ≤ length bytes) (sym c.as_slice.ensures)
    (long_enough _ _ c.requires.copies.whole)
