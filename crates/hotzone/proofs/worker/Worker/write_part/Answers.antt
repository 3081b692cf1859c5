use Rattle.std.proofs.Common.{◌∙◌, ◌+◌, ◌≤◌, List, ℕ, take, ap, sym, subst}
use Rattle.hotzone.proofs.PartLemmas.{front-inside, part-front}
use Rattle.hotzone.specs.Sites.{bytes_at}
use Rattle.hotzone.specs.Steps.{part_in}
use Rattle.sector_disk.specs.Devices.{WriteCall}
use Rattle.hotzone.proofs.worker.Worker.write_part.Goals as goal

pub front-requires : goal.front-requires
front-requires g c =
    rw (c.bytes-len.ensures, c.seal_part.ensures.long)
    (part-front c.args.self.now.site c.args.done _ c.requires.fits.room)

pub write-requires : goal.write-requires
write-requires g c =
    front-inside c.args.self.now.site (g.D.Disk.device c.args.disk.now) c.args.self.now.site.own
    c.args.done c.bytes-len.result c.seal_part.new.self.buffer
    c.front.result.now c.requires.fits.size c.requires.fits.own c.requires.within
    (subst (λ n. bytes_at c.args.self.now.site 0 ≤ n) (sym c.seal_part.ensures.long)
    c.requires.fits.room)
    c.bytes-len.ensures c.front.ensures

pub returns-clause-call : goal.returns-clause-call
returns-clause-call g c =
    subst (λ (text : List ℕ). WriteCall (g.D.Disk.device c.args.disk.now).size
    (c.args.self.now.site.own + c.args.done) text (g.D.Disk.device c.args.disk.now)
    (g.D.Disk.device c.write.new.self) c.write.result)
    (◌∙◌ {b = take c.bytes-len.result c.seal_part.new.self.buffer} c.front.ensures
    c.seal_part.ensures.sealed) c.write.ensures.call

pub returns-clause-sealed : goal.returns-clause-sealed
returns-clause-sealed g c =
    ap (λ w. part_in w c.args.done) c.seal_part.ensures.rest
    ∙ ap (λ n. take n c.seal_part.new.self.buffer) (sym c.bytes-len.ensures)
    ∙ c.seal_part.ensures.sealed
