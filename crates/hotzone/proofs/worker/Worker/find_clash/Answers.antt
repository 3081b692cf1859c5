use Rattle.std.proofs.Common.{◌+◌, sym, subst}
use Rattle.hotzone.proofs.SliceLemmas.{begun-nowhere}
use Rattle.hotzone.specs.Laid.{AreLaidBy}
use Rattle.hotzone.specs.Sites.{part_at}
use Rattle.hotzone.specs.Steps.{TellsBy, part_in, resealed}
use Rattle.hotzone.specs.Workers.{HasRoomBy}
use Rattle.volume_machine.specs.Seals.{seals_of}
use Rattle.hotzone.proofs.worker.Worker.find_clash.Goals as goal

pub compare-requires-clause-room : goal.compare-requires-clause-room
compare-requires-clause-room g c κs within =
    (subst (λ k. HasRoomBy k c.args.self.now.site c.args.scratch.now) c.in-Checksum.is
    c.requires.room).0

pub returns-in-Journal-clause-finds : goal.returns-in-Journal-clause-finds
returns-in-Journal-clause-finds g c =
    subst (λ k. TellsBy k c.args.self.now.site.atom (part_at c.args.self.now.site c.args.done)
    (part_in c.args.self.now c.args.done)
    (resealed (seals_of g.C.SectorCipher.sealed g.C.SectorCipher.opened c.args.self.now.site.atom
    c.args.self.now.keys) (c.args.self.now.site.blocks.start + c.args.done)
    (part_in c.args.self.now c.args.done))) (sym c.in-Journal.is) tt

pub compare-requires-clause-digests : goal.compare-requires-clause-digests
compare-requires-clause-digests g c κs within =
    (subst (λ k. HasRoomBy k c.args.self.now.site c.args.scratch.now) c.in-Checksum.is
    c.requires.room).1

pub returns-in-Journal-clause-laid : goal.returns-in-Journal-clause-laid
returns-in-Journal-clause-laid g c =
    subst (λ k. AreLaidBy k c.args.self.now.site.atom (part_at c.args.self.now.site c.args.done)
    (part_in c.args.self.now c.args.done) c.args.scratch.now.digests) (sym c.in-Journal.is) tt

pub returns-in-Checksum-clause-laid : goal.returns-in-Checksum-clause-laid
returns-in-Checksum-clause-laid g c =
    subst (λ k. AreLaidBy k c.args.self.now.site.atom (part_at c.args.self.now.site c.args.done)
    (part_in c.args.self.now c.args.done) c.compare.new.scratch.digests) (sym c.in-Checksum.is)
    c.compare.ensures.laid

pub returns-in-Checksum-clause-begun : goal.returns-in-Checksum-clause-begun
returns-in-Checksum-clause-begun g c =
    begun-nowhere _ c.args.self.now c.compare.new.scratch c.compare.ensures.begun
