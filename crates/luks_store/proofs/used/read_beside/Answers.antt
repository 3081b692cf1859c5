use Rattle.luks_store.proofs.DiskLemmas.{causes-judged}
use Rattle.luks_store.proofs.PageLemmas.{size-pages}
use Rattle.luks_store.specs.Devices.{device_of}
use Rattle.luks_store.proofs.used.read_beside.Goals as goal

pub read_at-requires : goal.read_at-requires
read_at-requires g c = size-pages _ c.requires.whole.one_of_nine

pub returns-in-Ok-Ok-clause-cause : goal.returns-in-Ok-Ok-clause-cause
returns-in-Ok-Ok-clause-cause g c =
    causes-judged (device_of c.args.disk.now) (device_of c.read_at.new.disk) c.newer.result
    c.newer.ensures.no_read
