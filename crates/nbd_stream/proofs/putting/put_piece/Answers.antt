use Rattle.std.proofs.Common.{arith, refl}
use Rattle.nbd_stream.proofs.PutLemmas.{puts-failed}
use Rattle.nbd_stream.proofs.putting.put_piece.Goals as goal

pub returns-in-Err : goal.returns-in-Err
returns-in-Err g c =
    puts-failed _ _ _ _ c.in-Err.failed c.in-Err.ensures.told c.in-Err.ensures.cause.later
    (c.in-Err.ensures.cause.failed refl) (omega arith)
