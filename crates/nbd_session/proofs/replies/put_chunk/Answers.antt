use Rattle.std.proofs.Common.{◌++◌, ◌∙◌, ap, ap₂, sym}
use Rattle.std.proofs.lemmas.Bool.{eqb-true}
use Rattle.nbd_stream.proofs.PutLemmas.{puts-as, puts-less, puts-more}
use Rattle.nbd_session.proofs.ChunkLemmas.{front-bare}
use Rattle.nbd_session.proofs.replies.put_chunk.Goals as goal

pub returns-then-is_empty : goal.returns-then-is_empty
returns-then-is_empty g c =
    puts-as _ _ _ _ _ _ _
    (c.as_slice.ensures
    ∙ front-bare _ _ _ (eqb-true _ 0 (sym c.is_empty.ensures ∙ c.if-is_empty.true))
    (ap (λ b. c.front-front.result ++ b) c.bytes-bytes.ensures ∙ c.front-front.ensures))
    c.put_piece.ensures

pub returns-in-Ok : goal.returns-in-Ok
returns-in-Ok g c =
    puts-as _ _ _ _ _ _ _
    (ap₂ (λ f b. f ++ b) c.as_slice-2.ensures c.bytes-bytes.ensures ∙ c.front-front.ensures)
    (puts-more _ _ _ _ _ _ _ _ c.put_piece-in-Ok.result c.in-Ok.ensures
    c.put_piece-in-Ok.ensures)

pub returns-in-Err : goal.returns-in-Err
returns-in-Err g c =
    puts-as _ _ _ _ _ _ _
    (ap₂ (λ f b. f ++ b) c.as_slice-2.ensures c.bytes-bytes.ensures ∙ c.front-front.ensures)
    (puts-less _ _ _ _ _ _ c.in-Err.failed c.in-Err.ensures)
