use Rattle.std.proofs.Common.{ap, ◌∙◌, sym, Ok, arith}
use Rattle.nbd_wire.specs.Chunks.{IsChunkHead, chunk_of}
use Rattle.nbd_wire.specs.Fields.{u16_text, u32_text}
use Rattle.nbd_wire.proofs.ChunkLemmas.{chunk-once, chunk-there, chunk-magic}
use Rattle.nbd_wire.proofs.chunks.ChunkHead.read.Goals as goal

pub returns-then-magic-ne-CHUNK_MAGIC-clause-only :
    goal.returns-then-magic-ne-CHUNK_MAGIC-clause-only
returns-then-magic-ne-CHUNK_MAGIC-clause-only c = λ head is e.
    absurd (c.if-magic-ne-CHUNK_MAGIC.true
    (chunk-magic c.args.bytes.now head _ c.u32_at-magic.type_inv e c.u32_at-magic.ensures))

pub returns-clause-taken : goal.returns-clause-taken
returns-clause-taken c =
    let chunk = c.from_number.ensures in
    let fields : IsChunkHead _ = record {
      flags = c.u16_at.type_inv;
      chunk = omega (arith, chunk.back, c.u16_at-2.type_inv);
      named = ap chunk_of chunk.back ∙ sym chunk.is;
      cookie = c.u64_at.type_inv;
      size = c.u32_at.type_inv;
    } in (
      fields,
      chunk-there c.args.bytes.now _ (omega arith)
          (ap u32_text (sym c.if-magic-ne-CHUNK_MAGIC.false) ∙ c.u32_at-magic.ensures)
          c.u16_at.ensures (ap u16_text chunk.back ∙ c.u16_at-2.ensures) c.u64_at.ensures
          c.u32_at.ensures,
    )

pub returns-clause-only : goal.returns-clause-only
returns-clause-only c = λ head is e.
    let taken = returns-clause-taken c in ap Ok (chunk-once _ head taken.0 is (taken.1 ∙ sym e))
