use Rattle.std.proofs.Common.{arith}
use Rattle.hotzone.proofs.CompareLemmas.{digests-front}
use Rattle.hotzone.proofs.worker.Worker.save_digests.Goals as goal

pub front-requires : goal.front-requires
front-requires g c =
    let less = digests-front c.args.self.now.site c.args.done c.requires.fits.known in
    let room = c.requires.room in
    let size = c.digest_bytes-len.ensures in
    omega (arith, less, room, size)
