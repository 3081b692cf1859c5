use Rattle.std.proofs.Common.{arith}
use Rattle.nbd_wire.proofs.NameLemmas.{name-length, name-number, listed-taken, listed-only}
use Rattle.nbd_wire.proofs.list_replies.listed_name.Goals as goal

pub returns-then-bytes-lt4-clause-only : goal.returns-then-bytes-lt4-clause-only
returns-then-bytes-lt4-clause-only c = λ name short e.
    absurd (omega (arith, name-length c.args.bytes.now name e, c.if-bytes-lt4.true))

pub returns-then-bytes-length-clause-only : goal.returns-then-bytes-length-clause-only
returns-then-bytes-length-clause-only c = λ name short e.
    c.if-bytes-length.true
    (omega (
      arith,
      name-length c.args.bytes.now name e,
      name-number c.args.bytes.now name c.u32_at-length.result short c.u32_at-length.type_inv e
          c.u32_at-length.ensures,
    ))

pub returns-clause-taken : goal.returns-clause-taken
returns-clause-taken c =
    listed-taken c.args.bytes.now c.u32_at-length.result c.u32_at-length.type_inv
    c.if-bytes-length.false c.u32_at-length.ensures

pub returns-clause-only : goal.returns-clause-only
returns-clause-only c = λ name short e. listed-only c.args.bytes.now name e
