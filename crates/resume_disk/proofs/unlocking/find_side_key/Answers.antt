use Rattle.resume_disk.proofs.KeyLemmas.{crypt_side}
use Rattle.resume_disk.proofs.unlocking.find_side_key.Goals as goal

pub returns-in-Ok-clause-found : goal.returns-in-Ok-clause-found
returns-in-Ok-clause-found g c =
    crypt_side c.args.valid.now.meta c.args.pass.now c.args.segment.now c.in-Some.digest
    c.if-is_none.ensures c.in-Some.is (c.requires.digest c.if-is_none.ensures)
    (g.D.Disk.device c.args.disk.now) (g.D.Disk.device c.unlock.new.disk) c.in-Ok.key
    c.in-Ok.ensures.unlocked
