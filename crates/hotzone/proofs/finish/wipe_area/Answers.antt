use Rattle.std.proofs.Common.{◌/◌, List, ℕ, sym, subst}
use Rattle.std.proofs.lemmas.List.{length-take-le}
use Rattle.hotzone.proofs.WipeLemmas.{area-inside, zeros-enough, zeros-of}
use Rattle.hotzone.specs.Endings.{area_at}
use Rattle.sector_disk.specs.Devices.{WriteCall}
use Rattle.sector_disk.specs.Geometry.{IsInDisk}
use Rattle.hotzone.proofs.finish.wipe_area.Goals as goal

pub slice_bounds-zeros-end : goal.slice_bounds-zeros-end
slice_bounds-zeros-end g c =
    rw (c.as_slice.ensures, c.as_slice-2.ensures)
    (sym (length-take-le (area_at c.args.wipes.now c.args.done).size c.args.wipes.now.zeros
    (zeros-enough c.args.wipes.now (g.D.Disk.device c.args.disk.now) c.args.done c.requires.may
    c.requires.some)))

pub write-requires : goal.write-requires
write-requires g c =
    let device = g.D.Disk.device c.args.disk.now in
    let area = area_at c.args.wipes.now c.args.done in
    rw (c.as_slice.ensures, c.as_slice-2.ensures, c.atom-atom.ensures.is)
    (subst (λ n. IsInDisk device.size device.atoms (area.offset / device.size) n)
    (sym (length-take-le area.size c.args.wipes.now.zeros
    (zeros-enough c.args.wipes.now device c.args.done c.requires.may c.requires.some)))
    (area-inside c.args.wipes.now device c.args.done c.requires.may c.requires.some))

pub returns : goal.returns
returns g c =
    let device = g.D.Disk.device c.args.disk.now in
    subst (λ (text : List ℕ). WriteCall device.size
    ((area_at c.args.wipes.now c.args.done).offset / device.size) text device
    (g.D.Disk.device c.write.new.self) c.write.result)
    (zeros-of c.args.wipes.now device c.args.done c.requires.may c.requires.some)
    (rw (c.as_slice.ensures, c.as_slice-2.ensures, c.atom-atom.ensures.is) at c.write.ensures.call)
