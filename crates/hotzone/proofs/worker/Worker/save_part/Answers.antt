use Rattle.std.proofs.Common.{subst}
use Rattle.hotzone.specs.Laid.{AreLaidBy}
use Rattle.hotzone.specs.Sites.{part_at}
use Rattle.hotzone.specs.Steps.{part_in}
use Rattle.hotzone.specs.Workers.{HasRoomBy}
use Rattle.hotzone.proofs.worker.Worker.save_part.Goals as goal

pub save_digests-requires-clause-room : goal.save_digests-requires-clause-room
save_digests-requires-clause-room g c =
    (subst (λ k. HasRoomBy k c.args.self.now.site c.args.scratch.now) c.in-Checksum.is
    c.requires.room).1

pub save_digests-requires-clause-laid : goal.save_digests-requires-clause-laid
save_digests-requires-clause-laid g c =
    subst (λ k. AreLaidBy k c.args.self.now.site.atom (part_at c.args.self.now.site c.args.done)
    (part_in c.args.self.now c.args.done) c.args.scratch.now.digests) c.in-Checksum.is
    c.requires.laid
