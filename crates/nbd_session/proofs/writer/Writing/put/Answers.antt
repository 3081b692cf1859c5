use Rattle.std.proofs.Common.{refl}
use Rattle.nbd_session.specs.Puts.{put_done, put_failed, put_refused}
use Rattle.nbd_session.proofs.writer.Writing.put.Goals as goal

pub returns-then-self : goal.returns-then-self
returns-then-self g c = put_refused c.if-self.true refl

pub returns-in-Ok : goal.returns-in-Ok
returns-in-Ok g c =
    put_done c.if-self.false c.if-self.false c.in-Ok.ensures.puts c.in-Ok.ensures.out

pub returns-in-Err : goal.returns-in-Err
returns-in-Err g c =
    let puts = c.in-Err.ensures.puts in
    put_failed c.if-self.false refl (puts.0, puts.1, c.in-Err.field-0, puts.2)
