use Rattle.luks_slots.proofs.DiskLemmas.{read-place}
use Rattle.luks_slots.proofs.stripes.read_area.Goals as goal

pub returns-clause-bytes : goal.returns-clause-bytes
returns-clause-bytes g c = λ image told.
    read-place c.atom-atom.result _ c.args.offset image c.args.area.now c.read.new.buf c.read.result
    c.atom-atom.ensures.known
    c.atom-atom.ensures.is c.requires.offset c.read.auto.buf
    (c.read.ensures.call.content image told)
