use Rattle.nbd_wire.proofs.ReadReplying.ReplyLemmas.{chunks-held, chunks-spell, spell-once}
use Rattle.nbd_wire.proofs.read_replies.spelling.chunks_spell_the_reply.Goals as goal

pub returns-clause-laid_out : goal.returns-clause-laid_out
returns-clause-laid_out c = chunks-spell

pub returns-clause-fit : goal.returns-clause-fit
returns-clause-fit c = chunks-held

pub returns-clause-once : goal.returns-clause-once
returns-clause-once c = spell-once
