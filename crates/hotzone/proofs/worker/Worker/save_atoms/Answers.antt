use Rattle.std.proofs.Common.{◌≤◌, ◌∙◌, ap, arith, length, sym, subst, take}
use Rattle.hotzone.proofs.CompareLemmas.{saved-atoms-all, saves-atoms}
use Rattle.hotzone.proofs.PartLemmas.{front-inside, part-front}
use Rattle.hotzone.proofs.worker.Worker.save_atoms.Goals as goal

pub front-requires : goal.front-requires
front-requires g c =
    subst (λ n. n ≤ length c.args.self.now.buffer) (sym c.bytes-len.ensures)
    (part-front c.args.self.now.site c.args.done _ c.requires.fits.room)

pub write-requires : goal.write-requires
write-requires g c =
    front-inside c.args.self.now.site (g.D.Disk.device c.args.disk.now) c.args.self.now.site.store
    c.args.done c.bytes-len.result c.args.self.now.buffer c.front.result.now c.requires.fits.size
    (let store = c.requires.fits.store in
    let all = saved-atoms-all c.args.self.now.site c.requires.guard in omega (arith, store, all))
    c.requires.within c.requires.fits.room c.bytes-len.ensures c.front.ensures

pub returns : goal.returns
returns g c =
    saves-atoms c.args.self.now c.args.done _ _ _ c.front.result.now c.requires.guard
    (c.front.ensures ∙ ap (λ n. take n c.args.self.now.buffer) c.bytes-len.ensures)
    c.write.ensures.call
