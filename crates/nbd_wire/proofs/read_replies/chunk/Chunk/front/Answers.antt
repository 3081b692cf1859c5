use Rattle.std.proofs.Common.{[], ◌++◌, ◌∙◌, ap, append-nil, refl}
use Rattle.nbd_wire.specs.Chunks.{chunk_head_text}
use Rattle.nbd_wire.specs.Fields.{u64_text}
use Rattle.nbd_wire.specs.ReadReplying.Payloads.{held_by}
use Rattle.nbd_wire.specs.ReadReplying.Views.{part_by}
use Rattle.nbd_wire.proofs.ReadReplying.TextLemmas.{front-text}
use Rattle.nbd_wire.proofs.read_replies.chunk.Chunk.front.Goals as goal

pub returns-in-Nothing : goal.returns-in-Nothing
returns-in-Nothing c =
    front-text c.args.cookie (part_by c.args.self.now) _ c.write-head.result c.joined.result []
    (ap held_by c.in-Nothing.is) (c.write-head.ensures ∙ ap chunk_head_text c.head.ensures.is)
    c.joined.ensures refl

pub returns-in-Data : goal.returns-in-Data
unfolding u64_text
returns-in-Data c =
    front-text c.args.cookie (part_by c.args.self.now) _ c.write-head.result
    c.joined-in-Data.result c.to_be_bytes.result (ap held_by c.in-Data.is)
    (c.write-head.ensures ∙ ap chunk_head_text c.head.ensures.is) c.joined-in-Data.ensures
    (ap (λ offset. offset ++ c.in-Data.bytes.now) c.to_be_bytes.ensures)

pub returns-in-Error : goal.returns-in-Error
returns-in-Error c =
    front-text c.args.cookie (part_by c.args.self.now) _ c.write-head.result
    c.joined-in-Error.result c.error_data.result (ap held_by c.in-Error.is)
    (c.write-head.ensures ∙ ap chunk_head_text c.head.ensures.is) c.joined-in-Error.ensures
    (append-nil c.error_data.result ∙ c.error_data.ensures)

pub returns-in-ErrorAt : goal.returns-in-ErrorAt
returns-in-ErrorAt c =
    front-text c.args.cookie (part_by c.args.self.now) _ c.write-head.result
    c.joined-in-ErrorAt.result c.write.result (ap held_by c.in-ErrorAt.is)
    (c.write-head.ensures ∙ ap chunk_head_text c.head.ensures.is) c.joined-in-ErrorAt.ensures
    (append-nil c.write.result ∙ c.write.ensures)
