use Rattle.std.proofs.Common.{◌∙◌}
use Rattle.plain_disk.proofs.StepLemmas.{range_read}
use Rattle.plain_disk.proofs.plain_disk.PlainDisk.read.Goals as goal

pub returns : goal.returns
returns c = range_read _ c.bytes.result.now _ _ c.args.offset c.args.len c.bytes.ensures.blocks
    c.bytes.ensures.len
    (c.new.ensures ∙ c.in_ok-bytes.ensures.items_if_clones_equal (λ x y same. same))
