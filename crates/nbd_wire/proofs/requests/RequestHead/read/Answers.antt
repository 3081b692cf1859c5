use Rattle.std.proofs.Common.{ap, ◌∙◌, sym, Ok, arith}
use Rattle.nbd_wire.specs.Fields.{u16_text, u32_text}
use Rattle.nbd_wire.specs.Requests.{IsRequestHead, command_of}
use Rattle.nbd_wire.proofs.RequestLemmas.{request-once, request-there, request-magic}
use Rattle.nbd_wire.proofs.requests.RequestHead.read.Goals as goal

pub returns-then-magic-ne-REQUEST_MAGIC-clause-only :
    goal.returns-then-magic-ne-REQUEST_MAGIC-clause-only
returns-then-magic-ne-REQUEST_MAGIC-clause-only c = λ head is e.
    absurd (c.if-magic-ne-REQUEST_MAGIC.true
    (request-magic c.args.bytes.now head c.u32_at-magic.result c.u32_at-magic.type_inv e
    c.u32_at-magic.ensures))

pub returns-clause-taken : goal.returns-clause-taken
returns-clause-taken c =
    let command = c.from_number.ensures in
    let fields : IsRequestHead _ = record {
      flags = c.u16_at.type_inv;
      command = omega (arith, command.back, c.u16_at-2.type_inv);
      named = ap command_of command.back ∙ sym command.is;
      cookie = c.u64_at.type_inv;
      offset = c.u64_at-2.type_inv;
      size = c.u32_at.type_inv;
    } in (
      fields,
      request-there c.args.bytes.now _ (omega arith)
          (ap u32_text (sym c.if-magic-ne-REQUEST_MAGIC.false) ∙ c.u32_at-magic.ensures)
          c.u16_at.ensures (ap u16_text command.back ∙ c.u16_at-2.ensures) c.u64_at.ensures
          c.u64_at-2.ensures c.u32_at.ensures,
    )

pub returns-clause-only : goal.returns-clause-only
returns-clause-only c = λ head is e.
    let taken = returns-clause-taken c in ap Ok (request-once _ head taken.0 is (taken.1 ∙ sym e))
