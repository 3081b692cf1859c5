use Rattle.std.proofs.Common.{length, arith}
use Rattle.plain_disk.proofs.RangeLemmas.{block_within}
use Rattle.plain_disk.proofs.StepLemmas.{block_read}
use Rattle.plain_disk.proofs.plain_disk.PlainDisk.newest.Goals as goal

pub overflow_mul-from : goal.overflow_mul-from
overflow_mul-from c =
    let within = block_within c.args.block (length c.args.self.now.newest) c.args.self.now.atom
    c.requires in
    rw c.atom-len.ensures.is
    (record {
      fits = omega
          (arith, within, c.bytes-bytes.ensures.len, c.bytes-bytes.ensures.fits);
    })

pub returns : goal.returns
returns c = block_read _ _ _ _ _ c.bytes-bytes.ensures.blocks c.atom-len.ensures.is c.requires
