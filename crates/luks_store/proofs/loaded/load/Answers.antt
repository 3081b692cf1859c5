use Rattle.luks_store.proofs.DiskLemmas.{causes-judged}
use Rattle.luks_store.specs.Devices.{device_of}
use Rattle.luks_store.proofs.loaded.load.Goals as goal

pub returns-in-Ok-clause-cause : goal.returns-in-Ok-clause-cause
returns-in-Ok-clause-cause g c =
    causes-judged (device_of c.args.disk.now) (device_of c.read_copies.new.disk) c.judge.result
    c.judge.ensures.no_read
