use Rattle.std.proofs.Common.{◌≡◌, ◌++◌, drop}
use Rattle.std.specs.List.{filter}
use Rattle.luks_meta.specs.Configs.{is_foreign}
use Rattle.reenc_meta.proofs.finishing.keep_texts.Given as goal

abbrev pub invariant-loop-text : goal.invariant-loop-text
invariant-loop-text l =
    l.kept.items ++ filter is_foreign (drop l.text-index l.texts) ≡ filter is_foreign l.texts
