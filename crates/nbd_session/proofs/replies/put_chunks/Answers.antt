use Rattle.std.proofs.Common.{[], Err, refl}
use Rattle.nbd_wire.specs.ReadReplying.Views.{part_by}
use Rattle.nbd_stream.proofs.PutLemmas.{puts-as, puts-less, puts-more, puts-nothing}
use Rattle.nbd_session.proofs.ChunkLemmas.{parts-next, parts-over, puts-let_out}
use Rattle.nbd_session.proofs.replies.put_chunks.Goals as goal

pub chunks-init : goal.chunks-init
chunks-init g c = record { put = ([], refl, puts-nothing _ _) }

pub chunks-preserved : goal.chunks-preserved
chunks-preserved g c =
    let old = c.chunks.invariant.put in
    record {
      put = (
        _,
        parts-next c.args.cookie old.0 _ (part_by c.in-Some.chunk) _ _ c.in-Some.ensures old.1,
        puts-more _ _ _ _ _ _ _ _ _ old.2 c.in-Ok.ensures,
      );
    }

pub returns-clause-puts : goal.returns-clause-puts
returns-clause-puts g c =
    let old = c.chunks.invariant.put in
    let over = rw c.in_default.is at c.next_chunk.ensures in
    puts-as _ _ _ _ _ _ _ (parts-over c.args.cookie old.0 _ _ over.0 old.1)
    (puts-let_out _ _ _ _ _ old.0 c.push_out.result old.2 c.push_out.ensures.told
    c.push_out.ensures.cause)

pub returns-in-Err-clause-puts : goal.returns-in-Err-clause-puts
returns-in-Err-clause-puts g c =
    let old = c.chunks.invariant.put in
    puts-as _ _ _ _ _ _ _
    (parts-next c.args.cookie old.0 _ (part_by c.in-Some.chunk) _ _ c.in-Some.ensures old.1)
    (puts-less _ _ _ _ _ _ c.in-Err.failed
    (puts-more _ _ _ _ _ _ _ _ (Err c.in-Err.failed) old.2 c.in-Err.ensures))
