use Rattle.std.proofs.Common.{ap, arith}
use Rattle.luks_bin.proofs.FieldLemmas.{size-most}
use Rattle.luks_meta.specs.declared.meta.Parts.{Parts}
use Rattle.luks_store.proofs.commit.Commit.first.Goals as goal

pub overflow_add-before : goal.overflow_add-before
overflow_add-before c =
    let most = size-most _ c.requires.size in
    let same = ap (λ (m : Parts). m.config.json_size) c.parts.ensures.same in
    omega (arith, most, same)
