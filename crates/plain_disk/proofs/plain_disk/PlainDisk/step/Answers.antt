use Rattle.std.proofs.Common.{sym, subst}
use Rattle.plain_disk.specs.Machine.{Steps}
use Rattle.plain_disk.specs.declared.operation.Op.TheVariants.{Write, Zeroes, Flush}
use Rattle.plain_disk.specs.declared.operation.Reply.TheVariants.{Done}
use Rattle.plain_disk.proofs.StepLemmas.{known_refusal, refusal_reply, refusal_steps}
use Rattle.plain_disk.proofs.StepLemmas.{proper_reply_is, read_replies, read_result_steps}
use Rattle.plain_disk.proofs.StepLemmas.{written_steps, zeroed_steps, flush_steps}
use Rattle.plain_disk.proofs.plain_disk.PlainDisk.step.Goals as goal

pub returns-in-Some-clause-reply : goal.returns-in-Some-clause-reply
returns-in-Some-clause-reply c =
    refusal_reply c.args.self.now c.args.op.now _
    (known_refusal c.args.self.now c.args.op.now _ _ _ _
    c.atom.ensures.is c.bytes.ensures.len c.wrong.ensures c.in-Some.is)

pub returns-in-Some-clause-legal : goal.returns-in-Some-clause-legal
returns-in-Some-clause-legal c =
    refusal_steps c.args.self.now c.args.op.now _
    (known_refusal c.args.self.now c.args.op.now _ _ _ _
    c.atom.ensures.is c.bytes.ensures.len c.wrong.ensures c.in-Some.is)

pub returns-in-Read-clause-reply : goal.returns-in-Read-clause-reply
returns-in-Read-clause-reply c =
    read_replies c.args.self.now c.args.op.now _ _ _ c.in-Read.is
    (known_refusal c.args.self.now c.args.op.now _ _ _ _ c.atom.ensures.is c.bytes.ensures.len
    c.wrong.ensures
    c.in_default.is) c.read.ensures

pub returns-in-Read-clause-legal : goal.returns-in-Read-clause-legal
returns-in-Read-clause-legal c =
    read_result_steps c.args.self.now c.args.op.now _ _ _ c.in-Read.is
    (known_refusal c.args.self.now c.args.op.now _ _ _ _ c.atom.ensures.is c.bytes.ensures.len
    c.wrong.ensures
    c.in_default.is) c.read.ensures

pub returns-in-Write-clause-reply : goal.returns-in-Write-clause-reply
returns-in-Write-clause-reply c =
    proper_reply_is c.args.self.now c.args.op.now
    (Write c.in-Write.offset c.in-Write.body c.in-Write.fua)
    c.in-Write.is
    (known_refusal c.args.self.now c.args.op.now _ _ _ _ c.atom.ensures.is c.bytes.ensures.len
    c.wrong.ensures
    c.in_default.is)

pub returns-in-Write-clause-legal : goal.returns-in-Write-clause-legal
returns-in-Write-clause-legal c =
    written_steps c.args.self.now c.write.new.self c.args.op.now _ _ _ _ c.in-Write.is
    c.as_slice.ensures
    (known_refusal c.args.self.now c.args.op.now _ _ _ _ c.atom.ensures.is c.bytes.ensures.len
    c.wrong.ensures
    c.in_default.is) c.write.ensures.atom c.write.ensures.count c.write.ensures.newest

pub returns-in-Zeroes-clause-reply : goal.returns-in-Zeroes-clause-reply
returns-in-Zeroes-clause-reply c =
    proper_reply_is c.args.self.now c.args.op.now
    (Zeroes c.in-Zeroes.offset c.in-Zeroes.length c.in-Zeroes.fua)
    c.in-Zeroes.is
    (known_refusal c.args.self.now c.args.op.now _ _ _ _ c.atom.ensures.is c.bytes.ensures.len
    c.wrong.ensures
    c.in_default.is)

pub returns-in-Zeroes-clause-legal : goal.returns-in-Zeroes-clause-legal
returns-in-Zeroes-clause-legal c =
    zeroed_steps c.args.self.now c.zero.new.self c.args.op.now _ _ _ c.in-Zeroes.is
    (known_refusal c.args.self.now c.args.op.now _ _ _ _ c.atom.ensures.is c.bytes.ensures.len
    c.wrong.ensures
    c.in_default.is) c.zero.ensures.atom c.zero.ensures.count c.zero.ensures.newest

pub returns-in-Flush-clause-reply : goal.returns-in-Flush-clause-reply
returns-in-Flush-clause-reply c =
    proper_reply_is c.args.self.now c.args.op.now Flush c.in-Flush.is
    (known_refusal c.args.self.now c.args.op.now _ _ _ _ c.atom.ensures.is c.bytes.ensures.len
    c.wrong.ensures
    c.in_default.is)

pub returns-in-Flush-clause-legal : goal.returns-in-Flush-clause-legal
returns-in-Flush-clause-legal c =
    subst (λ op. Steps c.args.self.now c.args.self.now op Done) (sym c.in-Flush.is)
    (flush_steps c.args.self.now)
