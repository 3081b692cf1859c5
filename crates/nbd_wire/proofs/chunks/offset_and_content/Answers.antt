use Rattle.std.proofs.Common.{◌∙◌, sym, arith}
use Rattle.nbd_wire.proofs.ChunkLemmas.{content-size, content-there}
use Rattle.nbd_wire.proofs.FieldLemmas.{u64-first}
use Rattle.nbd_wire.proofs.chunks.offset_and_content.Goals as goal

pub returns-then-bytes-lt8-clause-only : goal.returns-then-bytes-lt8-clause-only
returns-then-bytes-lt8-clause-only c = λ offset bytes fits e.
    absurd (omega (arith, content-size c.args.bytes.now bytes offset e, c.if-bytes-lt8.true))

pub returns-clause-taken : goal.returns-clause-taken
returns-clause-taken c = (
  c.u64_at.type_inv,
  content-there c.args.bytes.now c.u64_at.result (omega (arith, c.if-bytes-lt8.false))
      c.u64_at.ensures,
)

pub returns-clause-only : goal.returns-clause-only
returns-clause-only c = λ offset bytes fits e.
    let taken = returns-clause-taken c in
    u64-first _ offset _ bytes c.u64_at.type_inv fits (taken.1 ∙ sym e)
