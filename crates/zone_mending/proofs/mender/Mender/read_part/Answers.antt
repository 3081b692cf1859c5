use Rattle.std.proofs.Common.{◌+◌, sym, subst, arith}
use Rattle.hotzone.proofs.PartLemmas.{part-inside}
use Rattle.hotzone.specs.Sites.{count_of}
use Rattle.sector_disk.specs.Geometry.{IsInDisk}
use Rattle.zone_mending.proofs.MenderLemmas.{all-saved}
use Rattle.zone_mending.proofs.mender.Mender.read_part.Goals as goal

pub read_front-requires-clause-inside : goal.read_front-requires-clause-inside
read_front-requires-clause-inside g c =
    let site = c.args.self.now.site in
    let device = g.D.Disk.device c.args.disk.now in
    let all = all-saved site.guard site.atom (count_of site) c.requires.guard in
    let store = c.requires.fits.store in
    let below = c.requires.within in
    subst (λ n. IsInDisk device.size device.atoms (site.store + c.args.done) n)
    (sym c.bytes-len.ensures)
    (part-inside site device site.store c.args.done c.requires.fits.size
    (omega (arith, all, store)) (omega (arith, below)))
