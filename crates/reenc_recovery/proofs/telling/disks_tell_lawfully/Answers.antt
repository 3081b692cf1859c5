use Rattle.reenc_recovery.proofs.telling.disks_tell_lawfully.Goals as goal

pub returns-clause-agrees : goal.returns-clause-agrees
returns-clause-agrees g c = λ told is. g.met.D.Disk.agrees c.args._disk.now told is

pub returns-clause-even : goal.returns-clause-even
returns-clause-even g c = λ told is. g.met.D.Disk.even c.args._disk.now told is

pub returns-clause-sized : goal.returns-clause-sized
returns-clause-sized g c = λ told is. g.met.D.Disk.sized c.args._disk.now told is

pub returns-clause-whole : goal.returns-clause-whole
returns-clause-whole g c = λ all is. g.met.D.Disk.whole c.args._disk.now all is

pub returns-clause-bytes : goal.returns-clause-bytes
returns-clause-bytes g c = λ all is. g.met.D.Disk.bytes c.args._disk.now all is
