use Rattle.nbd_wire.proofs.ChunkLemmas.{chunk-once, chunk-size}
use Rattle.nbd_wire.proofs.HandshakeLemmas.{greeting-once, greeting-size}
use Rattle.nbd_wire.proofs.OptionLemmas.{option-once, option-size}
use Rattle.nbd_wire.proofs.OptionReplyLemmas.{option_reply-once, option_reply-size}
use Rattle.nbd_wire.proofs.RequestLemmas.{request-once, request-size}
use Rattle.nbd_wire.proofs.SimpleReplyLemmas.{simple_reply-once, simple_reply-size}
use Rattle.nbd_wire.proofs.spelling.texts_are_unique.Goals as goal

pub returns-clause-greetings : goal.returns-clause-greetings
returns-clause-greetings c = record { sized = greeting-size; once = greeting-once }

pub returns-clause-option_heads : goal.returns-clause-option_heads
returns-clause-option_heads c = record { sized = option-size; once = option-once }

pub returns-clause-option_reply_heads : goal.returns-clause-option_reply_heads
returns-clause-option_reply_heads c = record { sized = option_reply-size; once = option_reply-once }

pub returns-clause-request_heads : goal.returns-clause-request_heads
returns-clause-request_heads c = record { sized = request-size; once = request-once }

pub returns-clause-simple_reply_heads : goal.returns-clause-simple_reply_heads
returns-clause-simple_reply_heads c = record { sized = simple_reply-size; once = simple_reply-once }

pub returns-clause-chunk_heads : goal.returns-clause-chunk_heads
returns-clause-chunk_heads c = record { sized = chunk-size; once = chunk-once }
