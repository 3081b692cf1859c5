use Rattle.std.proofs.Common.{◌+◌, sym, subst}
use Rattle.hotzone.proofs.PartLemmas.{part-front, part-inside}
use Rattle.sector_disk.specs.Geometry.{IsInDisk}
use Rattle.hotzone.proofs.worker.Worker.read_part.Goals as goal

pub read_into-requires-clause-front : goal.read_into-requires-clause-front
read_into-requires-clause-front g c =
    rw (c.bytes-len.ensures, c.replace-buffer.ensures.value)
    (part-front c.args.self.now.site c.args.done _ c.requires.fits.room)

pub read_into-requires-clause-inside : goal.read_into-requires-clause-inside
read_into-requires-clause-inside g c =
    subst (λ n. IsInDisk (g.D.Disk.device c.args.disk.now).size
    (g.D.Disk.device c.args.disk.now).atoms (c.args.self.now.site.own + c.args.done) n)
    (sym c.bytes-len.ensures)
    (part-inside c.args.self.now.site (g.D.Disk.device c.args.disk.now) c.args.self.now.site.own
    c.args.done c.requires.fits.size c.requires.fits.own c.requires.within)
