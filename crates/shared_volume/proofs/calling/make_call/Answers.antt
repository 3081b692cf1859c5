use Rattle.std.proofs.Common.{refl}
use Rattle.shared_volume.proofs.calling.make_call.Goals as goal

pub admit-requires : goal.admit-requires
admit-requires g c = rw c.in-Admit.is at c.requires.meets

pub ask-requires : goal.ask-requires
ask-requires g c = rw c.in-Ask.is at c.requires.meets

pub piece_read-requires-clause-meets : goal.piece_read-requires-clause-meets
piece_read-requires-clause-meets g c = rw c.in-Read.is at c.requires.meets

pub piece_read-requires-clause-front : goal.piece_read-requires-clause-front
piece_read-requires-clause-front g c = rw c.in-Read.is at c.requires.front

pub returns-in-Got-clause-step : goal.returns-in-Got-clause-step
returns-in-Got-clause-step g c = rw c.in-Read.is c.in-Got.ensures.step

pub returns-in-Got-clause-answers : goal.returns-in-Got-clause-answers
returns-in-Got-clause-answers g c = rw c.in-Read.is (refl, c.in-Got.ensures.buffer)

pub piece_write-requires : goal.piece_write-requires
piece_write-requires g c = rw c.in-Write.is at c.requires.meets

pub settle-requires : goal.settle-requires
settle-requires g c = rw c.in-Settle.is at c.requires.meets

pub finish-requires : goal.finish-requires
finish-requires g c = rw c.in-Finish.is at c.requires.meets
