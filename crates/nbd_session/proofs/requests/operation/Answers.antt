use Rattle.std.proofs.Common.{ap, Some}
use Rattle.plain_disk.specs.declared.operation.Op.TheVariants as Ops
use Rattle.nbd_hand.proofs.NegotiationLemmas.{zeroes-left}
use Rattle.nbd_session.specs.Requests.{operation_of}
use Rattle.nbd_session.proofs.requests.operation.Goals as goal

-- the flag that the code reads is the bit of the definition
pub returns-in-Write : goal.returns-in-Write
unfolding operation_of
returns-in-Write c =
    rw (c.requires, c.in-Write.is)
    (ap (λ forced. Some (Ops.Write c.args.head.now.offset c.args.body forced))
    (zeroes-left _ _ c.has_fua.ensures))

pub returns-in-WriteZeroes : goal.returns-in-WriteZeroes
unfolding operation_of
returns-in-WriteZeroes c =
    rw (c.requires, c.in-WriteZeroes.is)
    (ap (λ forced. Some (Ops.Zeroes c.args.head.now.offset c.args.head.now.length forced))
    (zeroes-left _ _ c.has_fua-in-WriteZeroes.ensures))
